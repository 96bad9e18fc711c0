use Rattle.std.proofs.Common.{◌≡◌, ◌∷◌, ◌++◌, [], List, None, take, ap, sym, ◌∙◌, arith}
use Rattle.std.proofs.lemmas.List.{take_all}
use Rattle.ps_world.specs.declared.domains.Param.{Param}
use Rattle.ps_world.specs.declared.names.Name.{Name}
use Rattle.ps_marks.specs.Candidates.{all_choices}
use Rattle.ps_marks.proofs.AtPlaces.{choices_more}
use Rattle.ps_marks.proofs.candidates.all_choices.Goals as goal

pub loop-i-preserved : goal.loop-i-preserved
loop-i-preserved c =
    let d = c.args.expert.now in
    let k = c.args.problem.now in
    let ps = c.args.params.now in
    let hs = c.args.holes.now in
    let i = c.loop-i.i in
    let none : Name = record { 0 = 0 } in
    let p : Param = record { name = none; kind = none } in
    c.in_ok-push.ensures.items
    ∙ ap (λ (l : List (List Name)). l ++ c.in_ok-choices.choices ∷ []) c.loop-i.invariant
    ∙ ap (λ (l : List Name). all_choices d k (take i ps) (take i hs) ++ l ∷ []) c.in_ok-choices.ensures
    ∙ sym (choices_more d k ps hs i p None c.requires c.loop-i-test.true)

pub returns : goal.returns
returns c =
    let ps = c.args.params.now in
    let hs = c.args.holes.now in
    let i = c.loop-i.i in
    let all : take i ps ≡ ps = take_all i ps (omega (arith, c.loop-i-test.false)) in
    let every : take i hs ≡ hs = take_all i hs (omega (arith, c.loop-i-test.false, c.requires)) in
    c.loop-i.invariant ∙ (λ j. all_choices c.args.expert.now c.args.problem.now (all j) (every j))

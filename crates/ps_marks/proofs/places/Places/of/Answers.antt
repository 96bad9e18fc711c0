use Rattle.std.proofs.Common.{◌≡◌, [], ◌∷◌, List, ◌++◌, take, ap, sym, ◌∙◌, subst, arith}
use Rattle.std.proofs.lemmas.List.{take_all, take_more}
use Rattle.ps_world.specs.declared.facts.Fact.{Fact}
use Rattle.ps_marks.specs.Landmarks.{each_once}
use Rattle.ps_marks.specs.Rules.{AllIn, with_fact}
use Rattle.ps_marks.proofs.Indexed.{all_once, each_more}
use Rattle.ps_marks.proofs.places.Places.of.Goals as goal

pub returns-clause-once : goal.returns-clause-once
returns-clause-once c = c.loop-fact.invariant.once ∙ ap (each_once []) (take_all c.loop-fact.fact-index c.args.list.now (omega (arith, c.loop-fact-test.false)))

pub returns-clause-all : goal.returns-clause-all
returns-clause-all c =
    let P : List Fact → Type 0 = λ fs. AllIn fs c.args.list.now in
    let same : c.loop-fact.facts.items ≡ each_once [] c.args.list.now = c.loop-fact.invariant.once ∙ ap (each_once []) (take_all c.loop-fact.fact-index c.args.list.now (omega (arith, c.loop-fact-test.false))) in
    subst P (sym same) (all_once c.args.list.now)

pub loop-fact-preserved : goal.loop-fact-preserved
loop-fact-preserved c =
    let list = c.args.list.now in
    let i = c.loop-fact.fact-index in
    let f = c.fact-item.result in
    record {
      indexed = c.in_ok-enter.ensures.indexed;
      once =
          c.in_ok-enter.ensures.facts
          ∙ ap (λ (fs : List Fact). with_fact fs f) c.loop-fact.invariant.once
          ∙ sym (each_more (take i list) f)
          ∙ ap (λ (y : Fact). each_once [] (take i list ++ y ∷ [])) c.fact-item.is
          ∙ ap (each_once []) (sym (take_more list i f c.loop-fact-test.true));
    }

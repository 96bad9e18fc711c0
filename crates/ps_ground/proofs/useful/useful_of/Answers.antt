use Rattle.std.proofs.Common.{◌≡◌, ◌+◌, ◌++◌, ◌∷◌, [], Option, drop, filter_map, flat_map, ap, sym, ◌∙◌, arith}
use Rattle.std.specs.Result.{result_ok}
use Rattle.std.proofs.lemmas.List.{append-nil, drop_all, drop_more}
use Rattle.ps_action.specs.Grounding.{ground_act}
use Rattle.ps_action.specs.declared.acts.Act.{Act}
use Rattle.ps_action.specs.declared.acts.GroundAction.{GroundAction}
use Rattle.ps_ground.specs.Fitting.{grounds_of}
use Rattle.ps_ground.specs.Moves.{moves}
use Rattle.ps_ground.specs.Atoms.{adds}
use Rattle.ps_ground.proofs.Gathering.{gathered, one_given}
use Rattle.ps_ground.proofs.useful.useful_of.Goals as goal

pub loop-act-preserved : goal.loop-act-preserved
loop-act-preserved c =
    let d = c.args.expert.now in
    let k = c.args.problem.now in
    let all = c.args.acts.now in
    let i = c.loop-act.act-index in
    let a = c.act-item.result in
    let ground : Act → Option GroundAction = λ a. result_ok (ground_act d k.instances a) in
    let split : drop i all ≡ a ∷ drop (i + 1) all = drop_more all i a (omega arith) ∙ ap (λ (x : Act). x ∷ drop (i + 1) all) (sym c.act-item.is) in
    record {
      moves = λ n.
          gathered d k n ground all i a (moves d k (grounds_of d k c.loop-act.useful.items) n) (moves d k (grounds_of d k c.push_useful.new.useful.items) n) split (c.in_ok-push_useful.ensures.moves n)
          ∙ c.loop-act.invariant.moves n;
      adds = λ f gone. c.in_ok-push_useful.ensures.adds f (c.loop-act.invariant.adds f gone) (one_given (adds d k) ground i all (drop (i + 1) all) a (flat_map (adds d k) (filter_map ground all)) split (λ g h. h) f gone);
      count = omega (arith, c.in_ok-push_useful.ensures.count, c.loop-act.invariant.count);
      fit = c.in_ok-push_useful.ensures.fit;
    }

pub returns-clause-moves : goal.returns-clause-moves
returns-clause-moves c =
    let all = c.args.acts.now in
    let i = c.loop-act.act-index in
    let d = c.args.expert.now in
    let k = c.args.problem.now in
    let found = grounds_of d k c.loop-act.useful.items in
    let gone : drop i all ≡ [] = drop_all i all (omega arith) in
    λ n.
    sym (append-nil (moves d k found n))
    ∙ (λ j. moves d k found n ++ moves d k (grounds_of d k (sym gone j)) n)
    ∙ c.loop-act.invariant.moves n

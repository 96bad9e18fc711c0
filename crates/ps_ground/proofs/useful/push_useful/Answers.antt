use Rattle.std.proofs.Common.{◌++◌, List, Option, flat_map, option_to_list, ap, sym, ◌∙◌, subst}
use Rattle.std.specs.List.{list_any}
use Rattle.std.specs.Result.{result_ok}
use Rattle.std.proofs.lemmas.List.{append-nil}
use Rattle.ps_world.specs.Knowledge.{same_fact}
use Rattle.ps_action.specs.Grounding.{ground_act}
use Rattle.ps_action.specs.declared.acts.Act.{Act}
use Rattle.ps_action.specs.declared.acts.GroundAction.{GroundAction}
use Rattle.ps_ground.specs.Fitting.{AreFit, grounds_of}
use Rattle.ps_ground.specs.Moves.{moves}
use Rattle.ps_ground.specs.Atoms.{adds}
use Rattle.ps_ground.proofs.Fitted.{fit_more}
use Rattle.ps_ground.proofs.Gathering.{more_added, one_more}
use Rattle.ps_ground.proofs.useful.push_useful.Goals as goal

pub returns-then-not-is_fit-clause-moves : goal.returns-then-not-is_fit-clause-moves
returns-then-not-is_fit-clause-moves c =
    let d = c.args.expert.now in
    let k = c.args.problem.now in
    λ n.
    let old = moves d k (grounds_of d k c.args.useful.now.items) n in
    sym (append-nil old)
    ∙ ap (λ (o : Option GroundAction). old ++ moves d k (option_to_list o) n) (sym (c.is_fit.ensures.unfit c.if-not-is_fit.true))

pub returns-clause-moves : goal.returns-clause-moves
returns-clause-moves c =
    let d = c.args.expert.now in
    let k = c.args.problem.now in
    let ground : Act → Option GroundAction = λ act. result_ok (ground_act d k.instances act) in
    λ n.
    ap (λ (acts : List Act). moves d k (grounds_of d k acts) n) c.in_ok-push.ensures.items ∙ one_more d k n ground c.args.useful.now.items c.args.act.now

pub returns-clause-adds : goal.returns-clause-adds
returns-clause-adds c =
    let d = c.args.expert.now in
    let k = c.args.problem.now in
    let ground : Act → Option GroundAction = λ act. result_ok (ground_act d k.instances act) in
    λ f old new.
    ap (λ (acts : List Act). list_any (same_fact f) (flat_map (adds d k) (grounds_of d k acts))) c.in_ok-push.ensures.items ∙ more_added (adds d k) ground f c.args.useful.now.items c.args.act.now old new

pub returns-clause-fit : goal.returns-clause-fit
returns-clause-fit c =
    let P : List Act → Type 0 = AreFit c.args.expert.now c.args.problem.now in
    subst P (sym c.in_ok-push.ensures.items) (fit_more c.args.expert.now c.args.problem.now c.args.useful.now.items c.args.act.now c.requires (c.is_fit.ensures.fit c.if-not-is_fit.false))

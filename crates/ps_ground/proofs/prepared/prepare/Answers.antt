use Rattle.std.proofs.Common.{◌≡◌, List, Option, Some, option_to_list, ap, sym, ◌∙◌}
use Rattle.ps_world.specs.Knowledge.{action_of}
use Rattle.ps_world.specs.declared.names.Name.{Name}
use Rattle.ps_action.specs.Grounding.{grounded}
use Rattle.ps_action.specs.declared.acts.GroundAction.{GroundAction}
use Rattle.ps_ground.specs.Fitting.{parts_with}
use Rattle.ps_ground.specs.Moves.{moves}
use Rattle.ps_ground.specs.States.{stepped}
use Rattle.ps_ground.proofs.Fitted.{fit_args, fit_grounds}
use Rattle.ps_ground.proofs.Gathering.{fit_atoms}
use Rattle.ps_ground.proofs.Preparing.{nowhere_by, successor_by}
use Rattle.ps_ground.proofs.PuttingIn.{fit_parts}
use Rattle.ps_ground.proofs.prepared.prepare.Goals as goal

pub returns-in-Whole-clause-same : goal.returns-in-Whole-clause-same
returns-in-Whole-clause-same c =
    let d = c.args.expert.now in
    let k = c.args.problem.now in
    let act = c.args.act.now in
    let a = c.in-Some.action.now in
    let is : action_of d act.action ≡ Some a = sym (rw c.in-Some.is at c.action.ensures) in
    let atoms = fit_atoms d k a act c.args.atoms.now c.as_slice-args.result.now (fit_grounds d k act a is c.requires.fit) c.as_slice-args.ensures c.requires.atoms in
    λ n over.
    successor_by d k c.args.atoms.now n c.fill.new.made (grounded a act) (c.fill.ensures.act ∙ c.bare-made.ensures.act)
    (c.in_ok-fill.ensures.same c.in-Whole.is d k atoms n.state over
    ∙ ap (λ (names : List Name). stepped d k n.state (parts_with names a.conditions a.effects)) c.as_slice-args.ensures
    ∙ fit_parts d k a act (fit_args d k act a is c.requires.fit) n.state)
    ∙ ap (λ (o : Option GroundAction). moves d k (option_to_list o) n) (sym (fit_grounds d k act a is c.requires.fit))

pub returns-in-Whole-clause-sound : goal.returns-in-Whole-clause-sound
returns-in-Whole-clause-sound c =
    let d = c.args.expert.now in
    let k = c.args.problem.now in
    let act = c.args.act.now in
    let a = c.in-Some.action.now in
    let is : action_of d act.action ≡ Some a = sym (rw c.in-Some.is at c.action.ensures) in
    c.in_ok-fill.ensures.sound c.in-Whole.is d k (fit_atoms d k a act c.args.atoms.now c.as_slice-args.result.now (fit_grounds d k act a is c.requires.fit) c.as_slice-args.ensures c.requires.atoms)

pub returns-in-NeverHolds-clause-same : goal.returns-in-NeverHolds-clause-same
returns-in-NeverHolds-clause-same c =
    let d = c.args.expert.now in
    let k = c.args.problem.now in
    let act = c.args.act.now in
    let a = c.in-Some.action.now in
    let is : action_of d act.action ≡ Some a = sym (rw c.in-Some.is at c.action.ensures) in
    let atoms = fit_atoms d k a act c.args.atoms.now c.as_slice-args.result.now (fit_grounds d k act a is c.requires.fit) c.as_slice-args.ensures c.requires.atoms in
    λ n over.
    nowhere_by d k c.args.atoms.now n (grounded a act)
    (sym (ap (λ (names : List Name). stepped d k n.state (parts_with names a.conditions a.effects)) c.as_slice-args.ensures
    ∙ fit_parts d k a act (fit_args d k act a is c.requires.fit) n.state)
    ∙ c.in_ok-fill.ensures.never c.in-NeverHolds.is d k atoms n.state over)
    ∙ ap (λ (o : Option GroundAction). moves d k (option_to_list o) n) (sym (fit_grounds d k act a is c.requires.fit))

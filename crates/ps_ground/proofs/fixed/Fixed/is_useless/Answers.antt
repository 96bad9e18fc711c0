use Rattle.std.proofs.Common.{◌≡◌, ◌<◌, ◌++◌, Some, None, List, length, refl, ap, sym, ◌∙◌, subst, arith, length-append}
use Rattle.ps_world.specs.Knowledge.{action_of}
use Rattle.ps_world.specs.declared.names.Name.{Name}
use Rattle.ps_action.specs.Grounding.{grounded}
use Rattle.ps_action.specs.declared.acts.Act.{Act}
use Rattle.ps_action.specs.declared.acts.GroundAction.{GroundAction}
use Rattle.ps_ground.specs.Atoms.{AreAtoms, adds}
use Rattle.ps_ground.specs.States.{stepped}
use Rattle.ps_ground.proofs.Fixedness.{grounded_of, many_grounded, none_grounded}
use Rattle.ps_ground.proofs.fixed.Fixed.is_useless.Goals as goal

pub returns-in-None-clause-useless : goal.returns-in-None-clause-useless
returns-in-None-clause-useless c =
    let d = c.args.expert.now in
    let none : action_of d c.args.name ≡ None = sym (rw c.in-None.is at c.action.ensures) in
    λ yes tail laid first same k g facts e fixed atoms s over.
    let act : Act = record { action = c.args.name; args = first ++ tail } in
    none_grounded d k.instances act g none e

pub returns-then-args-len-clause-useless : goal.returns-then-args-len-clause-useless
returns-then-args-len-clause-useless c =
    let d = c.args.expert.now in
    let a = c.in-Some.action.now in
    let is : action_of d c.args.name ≡ Some a = sym (rw c.in-Some.is at c.action.ensures) in
    λ yes tail laid first same k g facts e fixed atoms s over.
    let act : Act = record { action = c.args.name; args = first ++ tail } in
    let long : length a.params < length act.args = omega (arith, c.if-args-len.true, c.len.ensures, same, length-append first tail, length-append c.args.before.now tail, ap (λ (l : List Name). length l) laid) in
    many_grounded d k.instances act g a is long e

pub returns-then-is_asked-clause-useless : goal.returns-then-is_asked-clause-useless
returns-then-is_asked-clause-useless c =
    let d = c.args.expert.now in
    let a = c.in-Some.action.now in
    let is : action_of d c.args.name ≡ Some a = sym (rw c.in-Some.is at c.action.ensures) in
    λ yes tail laid first length-same k g facts e fixed atoms s over.
    let act : Act = record { action = c.args.name; args = first ++ tail } in
    let same : g ≡ grounded a act = grounded_of d k.instances act g a is e in
    let P : GroundAction → Type 0 = λ x. AreAtoms facts (adds d k x) in
    ap (λ (x : GroundAction). stepped d k s x) same ∙ c.bars.ensures yes tail laid act first length-same refl d k facts fixed (subst P same atoms) s over

use Rattle.std.proofs.Common.{◌≡◌, ℕ, None, List, All, length, ap, sym, ◌∙◌, subst}
use Rattle.std.proofs.lemmas.List.{length-map}
use Rattle.ps_world.specs.Knowledge.{is_known}
use Rattle.ps_action.specs.declared.acts.GroundAction.{GroundAction}
use Rattle.ps_closing.specs.declared.rule.Rule.{Rule}
use Rattle.ps_closing.specs.Closing.{FitsIn, is_ready}
use Rattle.ps_marks.specs.Marking.{CloseWithout}
use Rattle.ps_marks.specs.Rules.{AreRules}
use Rattle.ps_marks.proofs.MarksAre.{close_first, close_without}
use Rattle.ps_marks.proofs.Placed.{kept_fit, rules_fit}
use Rattle.ps_marks.proofs.marks.landmarks_after.Goals as goal

pub candidates-requires-clause-rules : goal.candidates-requires-clause-rules
candidates-requires-clause-rules c =
    let P : List Rule → Type 0 = λ rs. AreRules c.args.expert.now c.args.problem.now c.args.places.now c.args.actions.now rs in
    subst P (sym c.as_slice.ensures) c.requires.rules

pub candidates-requires-clause-flags : goal.candidates-requires-clause-flags
candidates-requires-clause-flags c =
    let d = c.args.expert.now in
    let k = c.args.problem.now in
    let atoms = c.args.places.now in
    let P : List GroundAction → Type 0 = λ gs. AreRules d k atoms gs c.args.rules in
    close_first d k atoms c.as_slice-facts.ensures.once c.args.rules (subst P c.requires.actions c.requires.rules) c.args.start.now c.args.flags.now c.requires.start c.requires.closed

pub used_of-requires : goal.used_of-requires
used_of-requires c =
    let d = c.args.expert.now in
    let k = c.args.problem.now in
    let atoms = c.args.places.now in
    let long : length c.args.flags.now ≡ length atoms = c.requires.closed.grows.wide ∙ ap length c.requires.start ∙ length-map atoms (is_known k) in
    let P : ℕ → Type 0 = λ n. All (FitsIn n) c.args.rules in
    subst P (sym long) (rules_fit d k atoms c.args.actions.now c.args.rules c.requires.rules)

pub landmarks_with-requires-clause-fits : goal.landmarks_with-requires-clause-fits
landmarks_with-requires-clause-fits c =
    let d = c.args.expert.now in
    let k = c.args.problem.now in
    let atoms = c.args.places.now in
    let long : length c.args.start.now ≡ length atoms = ap length c.requires.start ∙ length-map atoms (is_known k) in
    let P : List Rule → Type 0 = λ rs. All (FitsIn (length c.args.start.now)) rs in
    let Q : ℕ → Type 0 = λ n. All (FitsIn n) c.args.rules in
    subst P (sym c.in_ok-used.ensures) (kept_fit (length c.args.start.now) (is_ready None c.args.flags.now) c.args.rules (subst Q (sym long) (rules_fit d k atoms c.args.actions.now c.args.rules c.requires.rules)))

pub landmarks_with-requires-clause-rules : goal.landmarks_with-requires-clause-rules
landmarks_with-requires-clause-rules c =
    let d = c.args.expert.now in
    let k = c.args.problem.now in
    let atoms = c.args.places.now in
    let P : List GroundAction → Type 0 = λ gs. AreRules d k atoms gs c.args.rules in
    let Q : List Rule → Type 0 = λ rs. CloseWithout d k atoms c.args.start.now rs in
    subst Q (sym c.in_ok-used.ensures) (close_without d k atoms c.as_slice-facts.ensures.once c.args.rules (subst P c.requires.actions c.requires.rules) c.args.start.now c.args.flags.now c.requires.start c.requires.closed)

use Rattle.std.proofs.Common.{◌≡◌, ℕ, List, All, length, ap, sym, ◌∙◌, subst, arith}
use Rattle.std.proofs.lemmas.List.{length-map}
use Rattle.ps_world.specs.Knowledge.{is_known}
use Rattle.ps_closing.specs.declared.rule.Rule.{Rule}
use Rattle.ps_closing.specs.Closing.{FitsIn}
use Rattle.ps_marks.proofs.Placed.{rules_fit}
use Rattle.ps_marks.proofs.reach.unreached_by.Goals as goal

pub of-requires : goal.of-requires
of-requires c =
    let d = c.args.expert.now in
    let k = c.args.problem.now in
    let atoms = c.args.places.now in
    let start = c.in_ok-start.start in
    let wide : length start.items ≡ length atoms = ap length c.in_ok-start.ensures ∙ length-map atoms (is_known k) in
    let long : c.len.result ≡ length atoms = omega (arith, wide, c.len.ensures, start.ok) in
    let P : ℕ → Type 0 = λ n. All (FitsIn n) c.args.rules.items in
    subst P (sym long) (rules_fit d k atoms c.args.actions.now c.args.rules.items c.requires.rules)

pub close-requires : goal.close-requires
close-requires c =
    let d = c.args.expert.now in
    let k = c.args.problem.now in
    let atoms = c.args.places.now in
    let wide : length c.deref.result.now ≡ length atoms = ap length (c.deref.ensures.value ∙ c.in_ok-start.ensures) ∙ length-map atoms (is_known k) in
    let P : ℕ → Type 0 = λ n. All (FitsIn n) c.args.rules.items in
    let Q : List Rule → Type 0 = λ rs. All (FitsIn (length c.deref.result.now)) rs in
    subst Q (sym c.in_ok-rules.ensures) (subst P (sym wide) (rules_fit d k atoms c.args.actions.now c.args.rules.items c.requires.rules))

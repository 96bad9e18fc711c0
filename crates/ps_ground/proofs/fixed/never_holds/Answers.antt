use Rattle.std.proofs.Common.{◌≡◌, ◌++◌, length, false, true, List, ap, sym, ◌∙◌}
use Rattle.std.specs.List.{list_all, list_any}
use Rattle.ps_world.specs.Bound.{ground_in}
use Rattle.ps_world.specs.Knowledge.{same_fact}
use Rattle.ps_world.specs.Names.{same_name}
use Rattle.ps_world.specs.CondViews.{cond_tree}
use Rattle.ps_world.specs.declared.conditions.Cond.{Cond}
use Rattle.ps_world.specs.declared.facts.Fact.{Fact}
use Rattle.ps_world.specs.declared.names.Name.{Name}
use Rattle.ps_world.specs.declared.schemas.Lifted.{Lifted}
use Rattle.ps_world.specs.declared.schemas.Term.{Term}
use Rattle.ps_action.specs.Grounding.{put_cond}
use Rattle.ps_action.specs.Truth.{is_true}
use Rattle.ps_ground.specs.Fixed.{is_from}
use Rattle.ps_ground.specs.States.{at}
use Rattle.ps_ground.proofs.Fixedness.{not_so, same_ground}
use Rattle.ps_ground.proofs.fixed.never_holds.Goals as goal

pub returns-then-is_tied : goal.returns-then-is_tied
returns-then-is_tied c =
    let l = c.in-Holds.packed in
    let before = c.args.before.now in
    λ yes tail laid first same d k s are.
    let fact = c.ground_in.result in
    let later : list_all (is_from (length before)) l.terms ≡ true = ap (λ (ts : List Term). list_all (is_from (length before)) ts) (sym (c.as_slice.ensures ∙ ap (λ (f : Lifted). f.terms) c.get-lifted.ensures)) ∙ c.is_first.ensures c.if-not-is_first.false in
    let never : list_any (same_fact fact) s.facts ≡ false = are fact (ap (λ (f : Fact). list_any (same_name f.head) c.args.fixed.now.heads.keys) c.ground_in.ensures ∙ c.is_tied.ensures c.if-is_tied.true) (c.lacks.ensures yes) in
    let made : ground_in (first ++ tail) l ≡ fact = same_ground before first tail same l later ∙ ap (λ (env : List Name). ground_in env l) (sym laid) ∙ ap (ground_in c.args.args.now) (sym c.get-lifted.ensures) ∙ sym c.ground_in.ensures in
    ap (λ (x : Cond). is_true d (at k s) (put_cond (first ++ tail) (cond_tree x))) c.in-Holds.is
    ∙ not_so d k s (first ++ tail) l (ap (λ (f : Fact). list_any (same_fact f) s.facts) made ∙ never)

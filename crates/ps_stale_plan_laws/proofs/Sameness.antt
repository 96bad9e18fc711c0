-- Equality of what is known is decided.
use Rattle.std.proofs.Common.{◌≡◌, Bool, true, false, ◌&&◌, Option, Some, None, refl, ap, sym, ◌∙◌}
use Rattle.std.specs.Bool.{Decides}
use Rattle.std.specs.Cmp.{signed_Decides}
use Rattle.std.specs.Cmp.Lexicographic.{pointwise}
use Rattle.std.specs.Ordering.{int_eq}
use Rattle.std.proofs.lemmas.Bool.{true≢false, and_from, and_parts}
use Rattle.std.proofs.lemmas.Slice.Eq.{slice_eq-Decides}
use Rattle.ps_world.specs.Knowledge.{same_fact}
use Rattle.ps_world.specs.Names.{same_name}
use Rattle.ps_world.specs.declared.names.Name.{Name}
use Rattle.ps_world.specs.declared.numbers.Num.{Num}
use Rattle.ps_world.specs.declared.facts.Fact.{Fact}
use Rattle.ps_world.specs.declared.conditions.Cond.{Cond}
use Rattle.ps_world.specs.declared.edits.Edit.{Edit}
use Rattle.ps_world.specs.declared.edits.Edit.TheVariants as change
use Rattle.ps_world.proofs.SameTexts.{name_itself}
use Rattle.ps_action.specs.Search.{same_value}
use Rattle.ps_action.proofs.Contained.{fact_itself, fact_same}
use Rattle.ps_action.proofs.Facts.{same_name-is}
use Rattle.ps_rules.specs.Same.{same_edit}
use Rattle.ps_rules.proofs.SameThings.{same_edit-decides}
use Rattle.ps_stale_plan_laws.specs.Asked.{KnowledgeDecides}

-- what a test decides holds where it can't fail
by_decision : {P : Type 0} (b : Bool) → Decides b P → ((P → ⊥) → ⊥) → P
by_decision true d n = d.0 refl
by_decision false d n = absurd (n (λ p. true≢false (sym (d.1 p))))

-- ---- pairs

abbrev same_kind : Name × Name → Name × Name → Bool
same_kind p q = same_name p.0 q.0 && same_name p.1 q.1

kinds_decide : (p q : Name × Name) → Decides (same_kind p q) (p ≡ q)
kinds_decide p q = (
  λ h. let w = and_parts (same_name p.0 q.0) (same_name p.1 q.1) h in λ i. (same_name-is p.0 q.0 w.0 i, same_name-is p.1 q.1 w.1 i),
  λ e. ap (same_kind p) (sym e) ∙ and_from (same_name p.0 p.0) (same_name p.1 p.1) (name_itself p.0) (name_itself p.1),
)

facts_decide : (f g : Fact) → Decides (same_fact f g) (f ≡ g)
facts_decide f g = (fact_same f g, λ e. ap (same_fact f) (sym e) ∙ fact_itself f)

values_decide : (v w : Fact × Num) → Decides (same_value v w) (v ≡ w)
values_decide v w = (
  λ h. let u = and_parts (same_fact v.0 w.0) (int_eq v.1 w.1) h in
      let number : v.1 ≡ w.1 = (signed_Decides v.1 w.1).0 u.1 in
      λ i. (fact_same v.0 w.0 u.0 i, number i),
  λ e. ap (same_value v) (sym e) ∙ and_from (same_fact v.0 v.0) (int_eq v.1 v.1) (fact_itself v.0) ((signed_Decides v.1 v.1).1 refl),
)

-- ---- goals

-- the edit that makes this the goal
abbrev edit_to : Option Cond → Edit
edit_to None = change.RemoveGoal
edit_to (Some goal) = change.SetGoal goal

edit_to_one : (x y : Option Cond) → edit_to x ≡ edit_to y → x ≡ y
edit_to_one None None e = refl
edit_to_one (Some c) (Some d) e = cc
edit_to_one None (Some d) e = absurd (cc)
edit_to_one (Some c) None e = absurd (cc)

goals_stand : (x y : Option Cond) → ((x ≡ y → ⊥) → ⊥) → x ≡ y
goals_stand x y n =
    edit_to_one x y (by_decision (same_edit (edit_to x) (edit_to y)) (same_edit-decides (edit_to x) (edit_to y)) (λ h. n (λ e. h (ap edit_to e))))

-- ---- what is known

pub knowledge_decides : KnowledgeDecides
knowledge_decides k l n =
    let instances : k.instances ≡ l.instances =
    by_decision (pointwise same_kind k.instances l.instances) (slice_eq-Decides kinds_decide k.instances l.instances (pointwise same_kind k.instances l.instances) refl)
    (λ h. n (λ e. h (ap (λ k. k.instances) e))) in
    let facts : k.facts ≡ l.facts =
    by_decision (pointwise same_fact k.facts l.facts) (slice_eq-Decides facts_decide k.facts l.facts (pointwise same_fact k.facts l.facts) refl)
    (λ h. n (λ e. h (ap (λ k. k.facts) e))) in
    let values : k.values ≡ l.values =
    by_decision (pointwise same_value k.values l.values) (slice_eq-Decides values_decide k.values l.values (pointwise same_value k.values l.values) refl)
    (λ h. n (λ e. h (ap (λ k. k.values) e))) in
    let goals : k.goal ≡ l.goal = goals_stand k.goal l.goal (λ h. n (λ e. h (ap (λ k. k.goal) e))) in
    λ i. record { instances = instances i; facts = facts i; values = values i; goal = goals i }

-- An accepted edit changes what it says, and keeps the lists rising.
use Rattle.std.proofs.Common.{◌≡◌, ◌≢◌, ◌↔◌, ◌⊎◌, Bool, true, false, not, cond, List, Option, Some, None, filter, inl, inr, refl, ap, sym, ◌∙◌, subst}
use Rattle.std.specs.Map.{lookup}
use Rattle.std.specs.Ordering.{eq_by_cmp}
use Rattle.std.specs.BTreeMap.{insert_entry}
use Rattle.std.proofs.lemmas.Bool.{not_from_false, not-true}
use Rattle.std.proofs.lemmas.Cmp.{eq_by_cmp_equiv}
use Rattle.std.proofs.lemmas.List.Kept.{IsStrictlySortedBy-filter}
use Rattle.std.proofs.lemmas.Map.Entries.{lookup-filter-keys}
use Rattle.ps_world.specs.Names.{name_cmp, same_name}
use Rattle.ps_world.specs.Facts.{fact_cmp}
use Rattle.ps_world.specs.Knowledge.{kind_of, same_fact, is_among, without}
use Rattle.ps_world.specs.declared.names.Name.{Name}
use Rattle.ps_world.specs.declared.numbers.Num.{Num}
use Rattle.ps_world.specs.declared.facts.Fact.{Fact}
use Rattle.ps_world.specs.declared.domains.Domain.{Domain}
use Rattle.ps_world.specs.declared.known.Knowledge.{Knowledge}
use Rattle.ps_world.specs.declared.edits.Edit.{Edit}
use Rattle.ps_world.specs.declared.edits.Edit.TheVariants.{AddInstance, RemoveInstance, AddFact, RemoveFact, SetValue, RemoveValue, SetGoal, RemoveGoal}
use Rattle.ps_problem.specs.Changes.{Rises, IsChange, EditsChange}
use Rattle.ps_action.proofs.Facts.{names_total, facts_total, exact_facts, same_name-is, same_name-refl}
use Rattle.ps_action.proofs.Keys.{sorted-insert_key, keys-insert_entry, lookup-insert_entry}
use Rattle.ps_problem.proofs.Contained.{contains-insert_key}
use Rattle.ps_problem.proofs.Filters.{sorted-filter}
use Rattle.ps_problem.proofs.Removals.{tests_agree}
use Rattle.ps_problem.proofs.Accepted.{IsPlaced, Accepted, accepted}
use Rattle.ps_action.proofs.Contained.{fact_same, fact_in_filter}

-- ---- tests

unchanged : {A : Type 0} → A ↔ A
unchanged = (λ a. a, λ a. a)

-- another second part that says the same
with_second : {A B C D : Type 0} → A ↔ (B × C) → (C → D) → (D → C) → A ↔ (B × D)
with_second i to from = (λ a. let w = i.0 a in (w.0, to w.1), λ w. i.1 (w.0, from w.1))

fact_itself : (f g : Fact) → f ≡ g → same_fact f g ≡ true
fact_itself f g e = subst (λ x. same_fact f x ≡ true) e ((eq_by_cmp_equiv facts_total).refl f)

pub fact_apart : (f g : Fact) → not (same_fact f g) ≡ true → g ≢ f
fact_apart f g h e = let yes = fact_itself f g (sym e) in let no = not-true (same_fact f g) h in cc

differs : {A : Type 0} (b : Bool) → (b ≡ true → A) → (A → ⊥) → not b ≡ true
differs true h n = absurd (n (h refl))
differs false h n = refl

fact_differs : (f g : Fact) → g ≢ f → not (same_fact f g) ≡ true
fact_differs f g n = differs (same_fact f g) (λ e. sym (fact_same f g e)) n

name_apart : (m n : Name) → not (same_name m n) ≡ true → n ≢ m
name_apart m n h e = let yes = same_name-refl m n (sym e) in let no = not-true (same_name m n) h in cc

name_differs : (m n : Name) → n ≢ m → not (same_name m n) ≡ true
name_differs m n h = differs (same_name m n) (λ e. sym (same_name-is m n e)) h

-- ---- what stands in a list with some left out

kept_value : {X : Type 0} (b : Bool) (o : Option X) (x : X) → (cond b o None ≡ Some x) ↔ ((o ≡ Some x) × (b ≡ true))
kept_value true o x = (λ e. (e, refl), λ w. w.0)
kept_value false o x = (λ e. absurd (cc), λ w. absurd (cc))

pub value_in_filter : (p : Fact → Bool) (es : List (Fact × Num)) (f : Fact) (x : Num) → (lookup (same_fact f) (filter (λ v. p v.0) es) ≡ Some x) ↔ ((lookup (same_fact f) es ≡ Some x) × (p f ≡ true))
value_in_filter p es f x =
    rw (lookup-filter-keys (same_fact f) p (p f) (λ g e. sym (ap p (fact_same f g e))) es) (kept_value (p f) (lookup (same_fact f) es) x)

pub kind_in_filter : (p : Name → Bool) (es : List (Name × Name)) (n t : Name) → (lookup (same_name n) (filter (λ i. p i.0) es) ≡ Some t) ↔ ((lookup (same_name n) es ≡ Some t) × (p n ≡ true))
kind_in_filter p es n t =
    rw (lookup-filter-keys (same_name n) p (p n) (λ m e. sym (ap p (same_name-is n m e))) es) (kept_value (p n) (lookup (same_name n) es) t)

-- ---- what stands in a list with one more

agree : (n : Name) → same_name n ≡ eq_by_cmp name_cmp n
agree n = λ i m. tests_agree n m i

-- the type of a name after a new instance
pub kind_after : (es : List (Name × Name)) (at t n : Name) → lookup (same_name n) (insert_entry name_cmp es at t) ≡ cond (same_name n at) (Some t) (lookup (same_name n) es)
kind_after es at t n =
    ap (λ test. lookup test (insert_entry name_cmp es at t)) (agree n) ∙ lookup-insert_entry names_total n at t es
    ∙ ap (λ (test : Name → Bool). cond (test at) (Some t) (lookup test es)) (sym (agree n))

kinds_vacant : (k : Knowledge) (at kind n t : Name) (b : Bool) → same_name n at ≡ b → kind_of k at ≡ None → (cond b (Some kind) (kind_of k n) ≡ Some t) ↔ ((kind_of k n ≡ Some t) ⊎ ((n ≡ at) × (t ≡ kind)))
kinds_vacant k at kind n t true s f =
    let same : n ≡ at = same_name-is n at s in
    let none : kind_of k n ≡ None = subst (λ m. kind_of k m ≡ None) (sym same) f in
    (λ e. inr (same, cc), λ w. elim w [ inl h ↦ cc | inr h ↦ cc ])
kinds_vacant k at kind n t false s f =
    (λ e. inl e, λ w. elim w [ inl h ↦ h | inr h ↦ let yes : same_name n at ≡ true = same_name-refl n at h.0 in cc ])

kinds_there : (k : Knowledge) (at kind n t : Name) → kind_of k at ≡ Some kind → (kind_of k n ≡ Some t) ↔ ((kind_of k n ≡ Some t) ⊎ ((n ≡ at) × (t ≡ kind)))
kinds_there k at kind n t f =
    (λ e. inl e, λ w. elim w [ inl h ↦ h | inr h ↦ subst (λ m. kind_of k m ≡ Some t) (sym h.0) (f ∙ ap Some (sym h.1)) ])

value_set : (f g : Fact) (y x : Num) (o : Option Num) (b : Bool) → same_fact f g ≡ b → (cond b (Some y) o ≡ Some x) ↔ (((f ≡ g) × (x ≡ y)) ⊎ ((o ≡ Some x) × (f ≢ g)))
value_set f g y x o true s =
    let same = fact_same f g s in
    (λ e. inl (same, cc), λ w. elim w [ inl h ↦ cc | inr h ↦ absurd (h.1 same) ])
value_set f g y x o false s = (
  λ e. inr (e, λ q. let yes = fact_itself f g q in cc),
  λ w. elim w [ inl h ↦ let yes = fact_itself f g h.0 in cc | inr h ↦ h.0 ],
)

values_after : (es : List (Fact × Num)) (f g : Fact) (y x : Num) → (lookup (same_fact f) (insert_entry fact_cmp es g y) ≡ Some x) ↔ (((f ≡ g) × (x ≡ y)) ⊎ ((lookup (same_fact f) es ≡ Some x) × (f ≢ g)))
values_after es f g y x =
    rw (lookup-insert_entry facts_total f g y es) (value_set f g y x (lookup (same_fact f) es) (same_fact f g) refl)

-- ---- each edit

-- what it says is changed, and the lists rise as before
abbrev Changes : Knowledge → Edit → Knowledge → Type 0
Changes old edit new = IsChange old edit new × (Rises old → Rises new)

placed_changes : (old : Knowledge) (at kind : Name) (new : Knowledge) → IsPlaced old at kind new → Changes old (AddInstance at kind) new
placed_changes old at kind new (inl (f, e)) =
    subst (λ k. Changes old (AddInstance at kind) k) (sym e)
    (record { facts = λ g. unchanged; kinds = λ n t. kinds_there old at kind n t f; values = λ g x. unchanged; goal = refl }, λ s. s)
placed_changes old at kind new (inr (f, few, e)) =
    subst (λ k. Changes old (AddInstance at kind) k) (sym e) (
      record {
        facts = λ g. unchanged;
        kinds = λ n t. rw (kind_after old.instances at kind n) (kinds_vacant old at kind n t (same_name n at) refl f);
        values = λ g x. unchanged;
        goal = refl;
      },
      λ s. record { instances = rw (keys-insert_entry names_total at kind old.instances) (sorted-insert_key names_total at _ s.instances); facts = s.facts; values = s.values },
    )

left_out_changes : (old : Knowledge) (n : Name) → Changes old (RemoveInstance n) (without n old)
left_out_changes old n = (
  record {
    facts = λ f. with_second (fact_in_filter (λ g. not (is_among n g.args)) old.facts f) (not-true (is_among n f.args)) (not_from_false (is_among n f.args));
    kinds = λ m t. with_second (kind_in_filter (λ i. not (same_name n i)) old.instances m t) (name_apart n m) (name_differs n m);
    values = λ f x. with_second (value_in_filter (λ g. not (is_among n g.args)) old.values f x) (not-true (is_among n f.args)) (not_from_false (is_among n f.args));
    goal = refl;
  },
  λ s. record {
    instances = sorted-filter name_cmp (λ m. not (same_name n m)) old.instances s.instances;
    facts = IsStrictlySortedBy-filter fact_cmp (λ g. not (is_among n g.args)) old.facts s.facts;
    values = sorted-filter fact_cmp (λ g. not (is_among n g.args)) old.values s.values;
  },
)

changed : (d : Domain) (old : Knowledge) (edit : Edit) (new : Knowledge) → Accepted d old edit new → Changes old edit new
changed d old (AddInstance at kind) new a = placed_changes old at kind new a.1
changed d old (RemoveInstance n) new a = subst (λ k. Changes old (RemoveInstance n) k) (sym a.1) (left_out_changes old n)
changed d old (AddFact g) new a =
    subst (λ k. Changes old (AddFact g) k) (sym a.1) (
      record { facts = λ f. contains-insert_key facts_total exact_facts old.facts g f; kinds = λ n t. unchanged; values = λ f x. unchanged; goal = refl },
      λ s. record { instances = s.instances; facts = sorted-insert_key facts_total g _ s.facts; values = s.values },
    )
changed d old (RemoveFact g) new a =
    subst (λ k. Changes old (RemoveFact g) k) (sym a) (
      record {
        facts = λ f. with_second (fact_in_filter (λ h. not (same_fact g h)) old.facts f) (fact_apart g f) (fact_differs g f);
        kinds = λ n t. unchanged;
        values = λ f x. unchanged;
        goal = refl;
      },
      λ s. record { instances = s.instances; facts = IsStrictlySortedBy-filter fact_cmp (λ h. not (same_fact g h)) old.facts s.facts; values = s.values },
    )
changed d old (SetValue g y) new a =
    subst (λ k. Changes old (SetValue g y) k) (sym a.1) (
      record { facts = λ f. unchanged; kinds = λ n t. unchanged; values = λ f x. values_after old.values f g y x; goal = refl },
      λ s. record { instances = s.instances; facts = s.facts; values = rw (keys-insert_entry facts_total g y old.values) (sorted-insert_key facts_total g _ s.values) },
    )
changed d old (RemoveValue g) new a =
    subst (λ k. Changes old (RemoveValue g) k) (sym a) (
      record {
        facts = λ f. unchanged;
        kinds = λ n t. unchanged;
        values = λ f x. with_second (value_in_filter (λ h. not (same_fact g h)) old.values f x) (fact_apart g f) (fact_differs g f);
        goal = refl;
      },
      λ s. record { instances = s.instances; facts = s.facts; values = sorted-filter fact_cmp (λ h. not (same_fact g h)) old.values s.values },
    )
changed d old (SetGoal goal) new a =
    subst (λ k. Changes old (SetGoal goal) k) (sym a.1) (
      record { facts = λ f. unchanged; kinds = λ n t. unchanged; values = λ f x. unchanged; goal = refl },
      λ s. record { instances = s.instances; facts = s.facts; values = s.values },
    )
changed d old RemoveGoal new a =
    subst (λ k. Changes old RemoveGoal k) (sym a) (
      record { facts = λ f. unchanged; kinds = λ n t. unchanged; values = λ f x. unchanged; goal = refl },
      λ s. record { instances = s.instances; facts = s.facts; values = s.values },
    )

pub edits_change : EditsChange
edits_change d old edit new e = changed d old edit new (accepted d old edit new e)

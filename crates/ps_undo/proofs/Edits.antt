-- An accepted edit that changes what is known makes its change.
use Rattle.std.proofs.Common.{◌≡◌, ◌≢◌, Bool, true, false, not, cond, ◌||◌, ◌&&◌, List, [], ◌∷◌, Option, Some, None, Ok, unwrap_or, if◌then◌else◌, filter, inl, inr, refl, ap, sym, ◌∙◌, subst, arith}
use Rattle.std.specs.BTreeMap.{insert_entry}
use Rattle.std.specs.BTreeSet.{insert_key}
use Rattle.std.specs.List.{Contains, list_any}
use Rattle.std.specs.Map.{keys_of}
use Rattle.std.proofs.Math.Bool.{or-false}
use Rattle.std.proofs.lemmas.Bool.{or_right}
use Rattle.std.proofs.lemmas.Cmp.{eq_by_cmp_equiv}
use Rattle.std.proofs.lemmas.List.Elements.{filter_agree}
use Rattle.std.proofs.lemmas.Map.Views.{list_any-from_Contains}
use Rattle.ps_world.specs.CondViews.{cond_tree}
use Rattle.ps_world.specs.Facts.{fact_cmp}
use Rattle.ps_world.specs.Knowledge.{cond_names, edited, goal_without, is_among, same_fact}
use Rattle.ps_world.specs.Names.{name_cmp, same_name}
use Rattle.ps_world.specs.declared.conditions.Cond.{Cond}
use Rattle.ps_world.specs.declared.domains.Domain.{Domain}
use Rattle.ps_world.specs.declared.edits.Edit.{Edit}
use Rattle.ps_world.specs.declared.edits.Edit.TheVariants.{AddInstance, RemoveInstance, AddFact, RemoveFact, SetValue, RemoveValue, SetGoal, RemoveGoal}
use Rattle.ps_world.specs.declared.facts.Fact.{Fact}
use Rattle.ps_world.specs.declared.known.Knowledge.{Knowledge}
use Rattle.ps_world.specs.declared.names.Name.{Name}
use Rattle.ps_world.specs.declared.numbers.Num.{Num}
use Rattle.ps_action.proofs.Contained.{contains_cases, contains_first, contains_later, fact_itself}
use Rattle.ps_action.proofs.Facts.{facts_total, names_total}
use Rattle.ps_problem.specs.Changes.{Rises}
use Rattle.ps_problem.specs.Patches.{changed}
use Rattle.ps_problem.proofs.Accepted.{Accepted, IsPlaced, accepted}
use Rattle.ps_problem.proofs.Patches.{none_out}
use Rattle.ps_problem.proofs.PutFacts.{known, known-filter}
use Rattle.ps_problem.proofs.PutValues.{filter_none}
use Rattle.ps_problem.proofs.Removals.{tests_agree}
use Rattle.ps_undo.specs.Changes.{change_of, goal_left, leading_back}
use Rattle.ps_undo.proofs.Backs.{leads_back}

-- ---- filters

-- two tests that agree on what a list contains
agree_within : {X : Type 0} (p q : X → Bool) (xs : List X) → ((x : X) → Contains xs x → p x ≡ q x) → filter p xs ≡ filter q xs
agree_within p q [] h = refl
agree_within p q (x ∷ xs) h =
    let here : p x ≡ q x = h x (contains_first x x xs refl) in
    λ i. cond (here i) (x ∷ agree_within p q xs (λ y c. h y (contains_later x y xs c)) i) (agree_within p q xs (λ y c. h y (contains_later x y xs c)) i)

no_facts_out : (facts : List Fact) → filter (λ f. not (known f [])) facts ≡ facts
no_facts_out [] = refl
no_facts_out (f ∷ fs) = ap (λ l. f ∷ l) (no_facts_out fs)

fact_turned : (f g : Fact) → not (same_fact g f || false) ≡ not (same_fact f g)
fact_turned f g = ap not (or-false (same_fact g f) ∙ (eq_by_cmp_equiv facts_total).symm g f)

name_turned : (m n : Name) → not (same_name n m || false) ≡ not (same_name m n)
name_turned m n = ap not (or-false (same_name n m) ∙ tests_agree n m ∙ (eq_by_cmp_equiv names_total).symm n m ∙ sym (tests_agree m n))

-- ---- what goes with an instance

listed : (f : Fact) (facts : List Fact) → Contains facts f → known f facts ≡ true
listed f facts c = list_any-from_Contains (eq_by_cmp_equiv facts_total) f facts c

in_filter : (p : Fact → Bool) (facts : List Fact) (f : Fact) → known f facts ≡ true → not (known f (filter p facts)) ≡ not (p f)
in_filter p facts f e = ap not (known-filter f p facts ∙ ap (λ b. b && p f) e)

key_contained : (values : List (Fact × Num)) (v : Fact × Num) → Contains values v → known v.0 (keys_of values) ≡ true
key_contained [] v c = absurd (omega (arith, c.1))
key_contained (w ∷ ws) v c =
    elim (contains_cases w v ws c) [
      | inl e ↦
          let here : same_fact v.0 w.0 ≡ true = subst (λ (u : Fact × Num). same_fact v.0 u.0 ≡ true) (sym e) (fact_itself v.0) in rw here refl
      | inr later ↦ or_right (same_fact v.0 w.0) (known v.0 (keys_of ws)) (key_contained ws v later)
    ]

facts_gone : (n : Name) (facts : List Fact) → filter (λ f. not (known f (filter (λ g. is_among n g.args) facts))) facts ≡ filter (λ f. not (is_among n f.args)) facts
facts_gone n facts =
    agree_within (λ f. not (known f (filter (λ g. is_among n g.args) facts))) (λ f. not (is_among n f.args)) facts (λ f c.
    in_filter (λ g. is_among n g.args) facts f (listed f facts c))

values_gone : (n : Name) (values : List (Fact × Num)) → filter (λ v. not (known v.0 (filter (λ g. is_among n g.args) (keys_of values)))) values ≡ filter (λ v. not (is_among n v.0.args)) values
values_gone n values =
    agree_within (λ v. not (known v.0 (filter (λ g. is_among n g.args) (keys_of values)))) (λ v. not (is_among n v.0.args)) values (λ v c.
    in_filter (λ g. is_among n g.args) (keys_of values) v.0 (key_contained values v c))

goal_gone_at : (goal : Cond) (b : Bool) → unwrap_or (if b then Some None else None) (Some goal) ≡ (if b then None else Some goal)
goal_gone_at goal true = refl
goal_gone_at goal false = refl

goal_gone : (n : Name) (goal : Option Cond) → unwrap_or (goal_left n goal) goal ≡ goal_without n goal
goal_gone n None = refl
goal_gone n (Some goal) = goal_gone_at goal (cond_names n (cond_tree goal))

-- ---- each edit

placed : (k : Knowledge) (n t : Name) (new : Knowledge) → IsPlaced k n t new → new ≢ k → changed k (change_of k (AddInstance n t)) ≡ new
placed k n t new (inl w) h = absurd (h w.1)
placed k n t new (inr w) h = (λ i. record {
  instances = insert_entry name_cmp (none_out k.instances i) n t;
  facts = no_facts_out k.facts i;
  values = filter_none k.values i;
  goal = k.goal;
}) ∙ sym w.2

makes : (d : Domain) (k : Knowledge) (x : Edit) (new : Knowledge) → Accepted d k x new → new ≢ k → changed k (change_of k x) ≡ new
makes d k (AddInstance n t) new a h = placed k n t new a.1 h
makes d k (RemoveInstance n) new a h = (λ i. record {
  instances = filter_agree (λ e. not (list_any (same_name e.0) (n ∷ []))) (λ e. not (same_name n e.0)) (λ e. name_turned n e.0) k.instances i;
  facts = facts_gone n k.facts i;
  values = values_gone n k.values i;
  goal = goal_gone n k.goal i;
}) ∙ sym a.1
makes d k (AddFact f) new a h = (λ i. record {
  instances = none_out k.instances i;
  facts = insert_key fact_cmp (no_facts_out k.facts i) f;
  values = filter_none k.values i;
  goal = k.goal;
}) ∙ sym a.1
makes d k (RemoveFact f) new a h = (λ i. record {
  instances = none_out k.instances i;
  facts = filter_agree (λ g. not (known g (f ∷ []))) (λ g. not (same_fact f g)) (λ g. fact_turned f g) k.facts i;
  values = filter_none k.values i;
  goal = k.goal;
}) ∙ sym a
makes d k (SetValue f x) new a h = (λ i. record {
  instances = none_out k.instances i;
  facts = no_facts_out k.facts i;
  values = insert_entry fact_cmp (filter_none k.values i) f x;
  goal = k.goal;
}) ∙ sym a.1
makes d k (RemoveValue f) new a h = (λ i. record {
  instances = none_out k.instances i;
  facts = no_facts_out k.facts i;
  values = filter_agree (λ v. not (known v.0 (f ∷ []))) (λ v. not (same_fact f v.0)) (λ v. fact_turned f v.0) k.values i;
  goal = k.goal;
}) ∙ sym a
makes d k (SetGoal goal) new a h = (λ i. record {
  instances = none_out k.instances i;
  facts = no_facts_out k.facts i;
  values = filter_none k.values i;
  goal = Some goal;
}) ∙ sym a.1
makes d k RemoveGoal new a h = (λ i. record {
  instances = none_out k.instances i;
  facts = no_facts_out k.facts i;
  values = filter_none k.values i;
  goal = None;
}) ∙ sym a

-- the change that leads back from an accepted edit's does so
pub edit_back : (d : Domain) (k : Knowledge) (x : Edit) (new : Knowledge) → Rises k → edited d k x ≡ Ok new → new ≢ k → changed new (leading_back k (change_of k x)) ≡ k
edit_back d k x new s e h =
    ap (λ (m : Knowledge). changed m (leading_back k (change_of k x))) (sym (makes d k x new (accepted d k x new e) h)) ∙ leads_back k (change_of k x) s

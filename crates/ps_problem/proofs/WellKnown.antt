-- What is known suits the domain when a session opens, and after each edit.
use Rattle.std.proofs.Common.{◌≡◌, ◌⊎◌, ◌≤◌, Bool, true, false, not, cond, if◌then◌else◌, List, [], ◌∷◌, Option, Some, None, Ok, IfSome, find, inl, inr, refl, ap, sym, ◌∙◌, subst, length, arith}
use Rattle.std.specs.List.{Contains}
use Rattle.std.specs.List.Sorted.{IsStrictlySortedBy}
use Rattle.std.proofs.lemmas.List.Elements.{All-contains}
use Rattle.ps_world.specs.Names.{name_cmp, same_name}
use Rattle.ps_world.specs.CondViews.{cond_tree}
use Rattle.ps_world.specs.Knowledge.{kind_of, value_in, is_type, predicate_of, function_of, cond_names, goal_without, fault_of_cond, most_instances, edited, opening}
use Rattle.ps_world.specs.declared.names.Name.{Name}
use Rattle.ps_world.specs.declared.numbers.Num.{Num}
use Rattle.ps_world.specs.declared.conditions.Cond.{Cond}
use Rattle.ps_world.specs.declared.facts.Fact.{Fact}
use Rattle.ps_world.specs.declared.domains.Param.{Param}
use Rattle.ps_world.specs.declared.domains.Domain.{Domain}
use Rattle.ps_world.specs.declared.known.Knowledge.{Knowledge}
use Rattle.ps_world.specs.declared.edits.Edit.{Edit}
use Rattle.ps_world.specs.declared.edits.Edit.TheVariants.{AddInstance, RemoveInstance, AddFact, RemoveFact, SetValue, RemoveValue, SetGoal, RemoveGoal}
use Rattle.ps_world.specs.declared.edits.EditRefusal.TheVariants.{NoPredicate, NoFunction}
use Rattle.ps_world.proofs.Elements.{filter_few}
use Rattle.ps_problem.specs.Changes.{Rises, IsChange}
use Rattle.ps_problem.specs.WellKnown.{Suits, IsWellKnown, HasConstants, EditsKeepWellKnown}
use Rattle.ps_action.proofs.Facts.{same_name-refl}
use Rattle.ps_problem.proofs.Accepted.{IsPlaced, Accepted, accepted}
use Rattle.ps_problem.proofs.Changes.{edits_change}
use Rattle.ps_action.proofs.Contained.{contains_cases}
use Rattle.ps_problem.proofs.Opening.{kind_opened, constant_opened, length-insert_entry, few_opened, sorted_opened}
use Rattle.ps_problem.proofs.Suits.{Spared, suits_from, suits_stay, cond_stays}

-- ---- what a session opens with

opening_well_known : (d : Domain) → HasConstants d → IsWellKnown d (opening d)
unfolding IsStrictlySortedBy
opening_well_known d h = record {
  rises = record { instances = sorted_opened [] d.constants tt; facts = tt; values = tt };
  few = omega (arith, few_opened [] d.constants, h.few);
  types = λ n t e. elim (kind_opened [] d.constants n t e) [
    | inl none ↦ absurd (cc)
    | inr w ↦ subst (λ kind. is_type d kind ≡ true) w.3 (All-contains (λ (c : Param). is_type d c.kind ≡ true) d.constants w.0 h.kinds w.1)
  ];
  constants = λ c w. constant_opened d.constants c h.apart w;
  facts = λ f w. absurd (omega (arith, w.1));
  values = λ f x e. absurd (cc);
  goal = tt;
}

-- ---- what goes on to suit the domain

-- the goal could be set
abbrev pub CanBeGoal : Domain → Knowledge → Option Cond → Type 0
CanBeGoal d k goal = IfSome goal (λ goal. fault_of_cond d k [] (cond_tree goal) ≡ None)

module _ (d : Domain) (old new : Knowledge) (w : IsWellKnown d old) (keeps : (n t : Name) → kind_of old n ≡ Some t → kind_of new n ≡ Some t) where
  -- any name serves, since all stay
  kept : (m t : Name) → Spared (Unit {0}) (same_name (record { 0 = 0 }) m) → kind_of old m ≡ Some t → kind_of new m ≡ Some t
  kept m t s e = keeps m t e

  fact_kept : (f : Fact) → Contains old.facts f ⊎ Suits d old (predicate_of d f.head) f.args → Suits d new (predicate_of d f.head) f.args
  fact_kept f (inl c) = suits_stay d old new (record { 0 = 0 }) (Unit {0}) kept (predicate_of d f.head) f.args (inr tt) (w.facts f c)
  fact_kept f (inr s) = suits_stay d old new (record { 0 = 0 }) (Unit {0}) kept (predicate_of d f.head) f.args (inr tt) s

  value_kept : (f : Fact) (x : Num) → (value_in old f ≡ Some x) ⊎ Suits d old (function_of d f.head) f.args → Suits d new (function_of d f.head) f.args
  value_kept f x (inl e) = suits_stay d old new (record { 0 = 0 }) (Unit {0}) kept (function_of d f.head) f.args (inr tt) (w.values f x e)
  value_kept f x (inr s) = suits_stay d old new (record { 0 = 0 }) (Unit {0}) kept (function_of d f.head) f.args (inr tt) s

  goal_kept : (goal : Option Cond) → CanBeGoal d old goal → CanBeGoal d new goal
  goal_kept None h = tt
  goal_kept (Some goal) h = cond_stays d old new (record { 0 = 0 }) (Unit {0}) kept (cond_tree goal) (inr tt) h

  pub after_growth : Rises new → length new.instances ≤ most_instances → ((n t : Name) → kind_of new n ≡ Some t → is_type d t ≡ true) → ((f : Fact) → Contains new.facts f → Contains old.facts f ⊎ Suits d old (predicate_of d f.head) f.args) → ((f : Fact) (x : Num) → value_in new f ≡ Some x → (value_in old f ≡ Some x) ⊎ Suits d old (function_of d f.head) f.args) → CanBeGoal d old new.goal → IsWellKnown d new
  after_growth rises few types facts values goal = record {
    rises = rises;
    few = few;
    types = types;
    constants = λ c h. keeps c.name c.kind (w.constants c h);
    facts = λ f c. fact_kept f (facts f c);
    values = λ f x e. value_kept f x (values f x e);
    goal = goal_kept new.goal goal;
  }

-- ---- an instance that is added

placed_few : (old new : Knowledge) (n t : Name) → IsPlaced old n t new → length old.instances ≤ most_instances → length new.instances ≤ most_instances
placed_few old new n t (inl (f, e)) few = subst (λ (k : Knowledge). length k.instances ≤ most_instances) (sym e) few
placed_few old new n t (inr (f, room, e)) few =
    omega (arith, room, ap (λ (k : Knowledge). length k.instances) e, length-insert_entry name_cmp n t old.instances)

added : (d : Domain) (old new : Knowledge) (n t : Name) → Accepted d old (AddInstance n t) new → IsChange old (AddInstance n t) new → Rises new → IsWellKnown d old → IsWellKnown d new
added d old new n t a change rises w =
    after_growth d old new w (λ m s e. (change.kinds m s).1 (inl e)) rises (placed_few old new n t a.1 w.few)
    (λ m s e. elim ((change.kinds m s).0 e) [ inl was ↦ w.types m s was | inr said ↦ subst (λ kind. is_type d kind ≡ true) (sym said.1) a.0 ])
    (λ f c. inl ((change.facts f).0 c)) (λ f x e. inl ((change.values f x).0 e)) (subst (CanBeGoal d old) (sym change.goal) w.goal)

-- ---- an instance that is removed

passes_at : (p : Param → Bool) (x : Param) (cs : List Param) (c : Param) (b : Bool) → p x ≡ b → (find p cs ≡ None → Contains cs c → p c ≡ false) → cond b (Some x) (find p cs) ≡ None → (x ≡ c) ⊎ Contains cs c → p c ≡ false
passes_at p x cs c true s later e h = absurd (cc)
passes_at p x cs c false s later e (inl same) = ap p (sym same) ∙ s
passes_at p x cs c false s later e (inr h) = later e h

-- a test that finds nothing passes at nothing
none_passes : (p : Param → Bool) (cs : List Param) (c : Param) → find p cs ≡ None → Contains cs c → p c ≡ false
none_passes p [] c e h = absurd (omega (arith, h.1))
none_passes p (x ∷ cs) c e h = passes_at p x cs c (p x) refl (none_passes p cs c) e (contains_cases x c cs h)

module _ (d : Domain) (old new : Knowledge) (n : Name) (a : Accepted d old (RemoveInstance n) new) (change : IsChange old (RemoveInstance n) new) (w : IsWellKnown d old) where
  still : (m t : Name) → Spared ⊥ (same_name n m) → kind_of old m ≡ Some t → kind_of new m ≡ Some t
  still m t (inl s) e = (change.kinds m t).1 (e, λ same. let yes : same_name n m ≡ true = same_name-refl n m (sym same) in absurd (cc))
  still m t (inr none) e = absurd none

  goal_spared : (goal : Cond) (b : Bool) → cond_names n (cond_tree goal) ≡ b → fault_of_cond d old [] (cond_tree goal) ≡ None → CanBeGoal d new (if b then None else Some goal)
  goal_spared goal true s h = tt
  goal_spared goal false s h = cond_stays d old new n ⊥ still (cond_tree goal) (inl s) h

  goal_left : (goal : Option Cond) → CanBeGoal d old goal → CanBeGoal d new (goal_without n goal)
  goal_left None h = tt
  goal_left (Some goal) h = goal_spared goal (cond_names n (cond_tree goal)) refl h

  removed : Rises new → IsWellKnown d new
  removed rises = record {
    rises = rises;
    few = omega (arith, w.few, ap (λ (k : Knowledge). length k.instances) a.1, filter_few (λ (i : Name × Name). not (same_name n i.0)) old.instances);
    types = λ m t e. w.types m t ((change.kinds m t).0 e).0;
    constants = λ c h. still c.name c.kind (inl (none_passes (λ p. same_name n p.name) d.constants c a.0 h)) (w.constants c h);
    facts = λ f c. let was = (change.facts f).0 c in suits_stay d old new n ⊥ still (predicate_of d f.head) f.args (inl was.1) (w.facts f was.0);
    values = λ f x e. let was = (change.values f x).0 e in suits_stay d old new n ⊥ still (function_of d f.head) f.args (inl was.1) (w.values f x was.0);
    goal = subst (CanBeGoal d new) (sym change.goal) (goal_left old.goal w.goal);
  }

-- ---- each edit

kept_well : (d : Domain) (old : Knowledge) (edit : Edit) (new : Knowledge) → Accepted d old edit new → IsChange old edit new → Rises new → IsWellKnown d old → IsWellKnown d new
kept_well d old (AddInstance n t) new a change rises w = added d old new n t a change rises w
kept_well d old (RemoveInstance n) new a change rises w = removed d old new n a change w rises
kept_well d old (AddFact g) new a change rises w =
    after_growth d old new w (λ m s e. (change.kinds m s).1 e) rises (subst (λ (k : Knowledge). length k.instances ≤ most_instances) (sym a.1) w.few) (λ m s e. w.types m s ((change.kinds m s).0 e))
    (λ f c. elim ((change.facts f).0 c) [ inl was ↦ inl was | inr same ↦ inr (subst (λ h. Suits d old (predicate_of d h.head) h.args) (sym same) (suits_from NoPredicate d old (predicate_of d g.head) g.args a.0)) ])
    (λ f x e. inl ((change.values f x).0 e)) (subst (CanBeGoal d old) (sym change.goal) w.goal)
kept_well d old (RemoveFact g) new a change rises w =
    after_growth d old new w (λ m s e. (change.kinds m s).1 e) rises (subst (λ (k : Knowledge). length k.instances ≤ most_instances) (sym a) w.few) (λ m s e. w.types m s ((change.kinds m s).0 e))
    (λ f c. inl ((change.facts f).0 c).0) (λ f x e. inl ((change.values f x).0 e)) (subst (CanBeGoal d old) (sym change.goal) w.goal)
kept_well d old (SetValue g y) new a change rises w =
    after_growth d old new w (λ m s e. (change.kinds m s).1 e) rises (subst (λ (k : Knowledge). length k.instances ≤ most_instances) (sym a.1) w.few) (λ m s e. w.types m s ((change.kinds m s).0 e))
    (λ f c. inl ((change.facts f).0 c))
    (λ f x e. elim ((change.values f x).0 e) [ inl said ↦ inr (subst (λ h. Suits d old (function_of d h.head) h.args) (sym said.0) (suits_from NoFunction d old (function_of d g.head) g.args a.0)) | inr was ↦ inl was.0 ])
    (subst (CanBeGoal d old) (sym change.goal) w.goal)
kept_well d old (RemoveValue g) new a change rises w =
    after_growth d old new w (λ m s e. (change.kinds m s).1 e) rises (subst (λ (k : Knowledge). length k.instances ≤ most_instances) (sym a) w.few) (λ m s e. w.types m s ((change.kinds m s).0 e))
    (λ f c. inl ((change.facts f).0 c)) (λ f x e. inl ((change.values f x).0 e).0) (subst (CanBeGoal d old) (sym change.goal) w.goal)
kept_well d old (SetGoal goal) new a change rises w =
    after_growth d old new w (λ m s e. (change.kinds m s).1 e) rises (subst (λ (k : Knowledge). length k.instances ≤ most_instances) (sym a.1) w.few) (λ m s e. w.types m s ((change.kinds m s).0 e))
    (λ f c. inl ((change.facts f).0 c)) (λ f x e. inl ((change.values f x).0 e)) (subst (CanBeGoal d old) (sym change.goal) a.0)
kept_well d old RemoveGoal new a change rises w =
    after_growth d old new w (λ m s e. (change.kinds m s).1 e) rises (subst (λ (k : Knowledge). length k.instances ≤ most_instances) (sym a) w.few) (λ m s e. w.types m s ((change.kinds m s).0 e))
    (λ f c. inl ((change.facts f).0 c)) (λ f x e. inl ((change.values f x).0 e)) (subst (CanBeGoal d old) (sym change.goal) tt)

next : (d : Domain) (old : Knowledge) (edit : Edit) (new : Knowledge) → edited d old edit ≡ Ok new → IsWellKnown d old → IsWellKnown d new
next d old edit new e w =
    let change = edits_change d old edit new e in kept_well d old edit new (accepted d old edit new e) change.0 (change.1 w.rises) w

pub edits_keep_well_known : EditsKeepWellKnown
edits_keep_well_known = record { first = opening_well_known; next = next }

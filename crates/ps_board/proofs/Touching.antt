-- What an event doesn't touch is as it was.
use Rattle.std.proofs.Common.{◌≡◌, ◌↔◌, ◌≢◌, ◌⊎◌, ◌||◌, Bool, true, false, Option, Some, None, MatchOption, is_some, filter, not, if◌then◌else◌, option_to_list, Result, Ok, Err, List, [], ◌∷◌, flat_map, inl, inr, refl, ap, sym, subst, ◌∙◌}
use Rattle.std.specs.BTreeMap.{insert_entry}
use Rattle.std.specs.BTreeSet.{insert_key}
use Rattle.std.specs.List.{Contains, list_any}
use Rattle.std.specs.Map.{lookup}
use Rattle.std.specs.Option.{unwrap_or}
use Rattle.std.proofs.lemmas.Bool.{false_from_ne_true, or_from, or_parts, true≢false}
use Rattle.std.proofs.lemmas.Cmp.{eq_by_cmp_equiv}
use Rattle.std.proofs.lemmas.Map.Views.{list_any-from_Contains, Contains-from_any, tells_apart}
use Rattle.ps_world.specs.CondViews.{cond_tree}
use Rattle.ps_world.specs.Facts.{fact_cmp}
use Rattle.ps_world.specs.Names.{same_name}
use Rattle.ps_world.specs.Knowledge.{edited, fault_of_cond, fault_of_fact, fault_of_value, is_among, is_known, kind_of, same_fact, unless, value_in, without_fact, without_goal, without_value}
use Rattle.ps_world.specs.declared.names.Name.{Name}
use Rattle.ps_world.specs.declared.numbers.Num.{Num}
use Rattle.ps_world.specs.declared.conditions.Cond.{Cond}
use Rattle.ps_world.specs.declared.facts.Fact.{Fact as GroundFact}
use Rattle.ps_world.specs.declared.actions.Spread.{Spread}
use Rattle.ps_world.specs.declared.domains.Domain.{Domain}
use Rattle.ps_world.specs.declared.known.Knowledge.{Knowledge}
use Rattle.ps_world.specs.declared.edits.Edit.{Edit}
use Rattle.ps_world.specs.declared.edits.Edit.TheVariants.{AddInstance, RemoveInstance, AddFact, RemoveFact, SetValue, RemoveValue, SetGoal, RemoveGoal}
use Rattle.ps_world.specs.declared.edits.EditRefusal.{EditRefusal}
use Rattle.ps_world.specs.declared.edits.EditRefusal.TheVariants.{NoFact, NoValue}
use Rattle.ps_action.specs.Arcs.{meets}
use Rattle.ps_action.specs.Places.{closed, places_meet}
use Rattle.ps_action.specs.Things.{Thing, a_fact, a_value, holds_thing, is_met, touched}
use Rattle.ps_action.specs.declared.places.Place.{Place}
use Rattle.ps_action.proofs.Meeting.{one_met}
use Rattle.ps_action.specs.Effects.{effect}
use Rattle.ps_action.specs.Touching.{changed_by_spread}
use Rattle.ps_action.specs.declared.acts.Act.{Act}
use Rattle.ps_action.specs.declared.acts.GroundAction.{GroundAction}
use Rattle.ps_action.specs.declared.refusals.EffectRefusal.{EffectRefusal}
use Rattle.ps_action.specs.declared.touched.Touched.{Touched}
use Rattle.ps_action.specs.declared.touched.Touched.TheVariants.{Fact, Value, Instance, Facts, Values, Instances}
use Rattle.ps_action.proofs.Contained.{fact_itself}
use Rattle.ps_action.proofs.Facts.{exact_facts, facts_total, same_name-is, same_name-refl}
use Rattle.ps_eval.specs.Laws.{Agree}
use Rattle.ps_problem.specs.Changes.{FactAfter, IsChange, KindAfter, ValueAfter}
use Rattle.ps_problem.proofs.Changes.{edits_change}
use Rattle.ps_arcs.specs.Laws.{LeavesOthers}
use Rattle.ps_arcs.proofs.Acting.{agree_itself}
use Rattle.ps_arcs.proofs.Alike.{effects_leave}
use Rattle.ps_machine.specs.declared.journal.Event.{Event}
use Rattle.ps_machine.specs.declared.journal.Event.TheVariants as event
use Rattle.ps_rules.specs.Known.{grounds, kept, known_after, part}
use Rattle.ps_rules.specs.Runs.{says_plan}
use Rattle.ps_monitor.specs.Naming.{has, has_name, is_named, NamesChange}
use Rattle.ps_board.specs.Touching.{touched_by, touched_by_edit}

-- ---- the same before and after

agree-back : (one other : Knowledge) (t : Touched) → Agree one other t → Agree other one t
agree-back one other (Fact f) h = sym h
agree-back one other (Value f) h = sym h
agree-back one other (Instance n) h = sym h
agree-back one other (Facts p) h = λ f at. sym (h f at)
agree-back one other (Values p) h = λ f at. sym (h f at)
agree-back one other Instances h = sym h

-- what isn't named meets nothing in the list
unnamed-absent : (ts : List Touched) (t : Touched) → is_named ts t ≡ false → has ts t ≡ false
unnamed-absent ts (Fact f) e = (or_parts (has ts (Fact f)) _ e).0
unnamed-absent ts (Value f) e = (or_parts (has ts (Value f)) _ e).0
unnamed-absent ts (Instance n) e = e
unnamed-absent ts (Facts p) e = (or_parts (has ts (Facts p)) _ e).0
unnamed-absent ts (Values p) e = (or_parts (has ts (Values p)) _ e).0
unnamed-absent ts Instances e = e

-- ---- a place and what stands there

-- what holds a thing that a list meets meets the list
unmet : (ts : List Touched) (t : Touched) (x : Thing) → is_named ts t ≡ false → holds_thing x t ≡ true → is_met x ts ≡ false
unmet ts t x e at = false_from_ne_true (is_met x ts) (λ met. true≢false (sym (one_met x t ts at met) ∙ unnamed-absent ts t e))

thing_met : (x : Thing) (t : Touched) → holds_thing x t ≡ meets (touched x) t
thing_met (a_fact f) (Fact g) = refl
thing_met (a_fact f) (Value g) = refl
thing_met (a_fact f) (Instance n) = refl
thing_met (a_fact f) (Facts p) = refl
thing_met (a_fact f) (Values p) = refl
thing_met (a_fact f) Instances = refl
thing_met (a_value f) (Fact g) = refl
thing_met (a_value f) (Value g) = refl
thing_met (a_value f) (Instance n) = refl
thing_met (a_value f) (Facts p) = refl
thing_met (a_value f) (Values p) = refl
thing_met (a_value f) Instances = refl

-- a list with an instance in it meets all instances
instance-met : (n : Name) (t : Touched) → meets (Instance n) t ≡ true → meets Instances t ≡ true
instance-met n (Instance m) e = refl
instance-met n Instances e = refl
instance-met n t e = absurd (cc)

no-instance : (ts : List Touched) (n : Name) → has ts Instances ≡ false → has ts (Instance n) ≡ false
no-instance [] n e = refl
no-instance (t ∷ ts) n e =
    let parts = or_parts (meets Instances t) (has ts Instances) e in
    or_from (meets (Instance n) t) (has ts (Instance n)) (false_from_ne_true (meets (Instance n) t) (λ m. true≢false (sym (instance-met n t m) ∙ parts.0))) (no-instance ts n parts.1)

no-instances : (ts : List Touched) (ns : List Name) → has ts Instances ≡ false → has_name ts ns ≡ false
no-instances ts [] e = refl
no-instances ts (n ∷ ns) e = or_from (has ts (Instance n)) (has_name ts ns) (no-instance ts n e) (no-instances ts ns e)

met-as : (x : Thing) (ts : List Touched) → is_met x ts ≡ has ts (touched x)
met-as x ts = λ i. list_any (λ t. thing_met x t i) ts

-- what stands at a place that isn't named isn't named either
fact-below : (ts : List Touched) (p : Place) (f : GroundFact) → is_named ts (Facts p) ≡ false → places_meet p (closed f) ≡ true → is_named ts (Fact f) ≡ false
fact-below ts p f e at =
    or_from (has ts (Fact f)) (has_name ts f.args) (sym (met-as (a_fact f) ts) ∙ unmet ts (Facts p) (a_fact f) e at)
    (no-instances ts f.args (or_parts (has ts (Facts p)) (has ts Instances) e).1)

value-below : (ts : List Touched) (p : Place) (f : GroundFact) → is_named ts (Values p) ≡ false → places_meet p (closed f) ≡ true → is_named ts (Value f) ≡ false
value-below ts p f e at =
    or_from (has ts (Value f)) (has_name ts f.args) (sym (met-as (a_value f) ts) ∙ unmet ts (Values p) (a_value f) e at)
    (no-instances ts f.args (or_parts (has ts (Values p)) (has ts Instances) e).1)

-- ---- effects

effects-left : (k : Knowledge) (es : List Spread) (r : Result Knowledge EffectRefusal) → LeavesOthers k (flat_map changed_by_spread es) r → NamesChange (flat_map changed_by_spread es) k (kept k r)
effects-left k es (Err fault) h = λ t e. agree_itself k t
effects-left k es (Ok new) h = λ t e. agree-back new k t (left t e)
  where
    ts : List Touched
    ts = flat_map changed_by_spread es

    left : (t : Touched) → is_named ts t ≡ false → Agree new k t
    left (Fact f) e = h.0 (a_fact f) (unmet ts (Fact f) (a_fact f) e (fact_itself f))
    left (Value f) e = h.0 (a_value f) (unmet ts (Value f) (a_value f) e (fact_itself f))
    left (Instance n) e = ap (λ is. lookup (same_name n) is) h.1
    left (Facts p) e = λ f at. h.0 (a_fact f) (unmet ts (Facts p) (a_fact f) e at)
    left (Values p) e = λ f at. h.0 (a_value f) (unmet ts (Values p) (a_value f) e at)
    left Instances e = h.1

effects-named : (d : Domain) (k : Knowledge) (es : List Spread) → NamesChange (flat_map changed_by_spread es) k (kept k (effect d k es))
effects-named d k es = effects-left k es (effect d k es) (effects_leave d k es)

-- ---- edits

-- where two say the same of each value they are the same
same-option : {A : Type 0} (a b : Option A) → ((x : A) → (a ≡ Some x) ↔ (b ≡ Some x)) → a ≡ b
same-option None None h = refl
same-option None (Some y) h = (h y).1 refl
same-option (Some x) b h = sym ((h x).0 refl)

same-bool : (a b : Bool) → (a ≡ true → b ≡ true) → (b ≡ true → a ≡ true) → a ≡ b
same-bool true b to from = sym (to refl)
same-bool false b to from = sym (false_from_ne_true b (λ e. true≢false (sym (from e))))

both : {A B C : Type 0} → A ↔ B → C ↔ B → A ↔ C
both one other = (λ a. other.1 (one.0 a), λ c. one.1 (other.0 c))

fact-apart : (f g : GroundFact) → (same_fact f g || false) ≡ false → f ≢ g
fact-apart f g e q = true≢false (sym (subst (λ x. same_fact f x ≡ true) q (fact_itself f)) ∙ (or_parts (same_fact f g) false e).0)

name-apart : (m n : Name) → (same_name m n || false) ≡ false → m ≢ n
name-apart m n e q = true≢false (sym (same_name-refl m n q) ∙ (or_parts (same_name m n) false e).0)

unchanged : {A : Type 0} → A ↔ A
unchanged = (λ a. a, λ a. a)

one-more : {A B : Type 0} → (B → ⊥) → A ↔ (A ⊎ B)
one-more n = (λ a. inl a, λ w. elim w [ inl a ↦ a | inr b ↦ absurd (n b) ])

one-less : {A B : Type 0} → B → A ↔ (A × B)
one-less b = (λ a. (a, b), λ w. w.0)

-- a removed instance is no argument of what isn't named
no-argument : (n : Name) (ns : List Name) → list_any (λ m. same_name m n || false) ns ≡ false → is_among n ns ≡ false
no-argument n [] e = refl
no-argument n (m ∷ ns) e =
    let parts = or_parts (same_name m n || false) (list_any (λ x. same_name x n || false) ns) e in
    let away : same_name n m ≡ false = false_from_ne_true (same_name n m) (λ s. name-apart m n parts.0 (sym (same_name-is n m s))) in
    rw away (no-argument n ns parts.1)

fact-after : (k : Knowledge) (edit : Edit) (f : GroundFact) → is_named (touched_by_edit edit) (Fact f) ≡ false → Contains k.facts f ↔ FactAfter k edit f
fact-after k (AddFact g) f e = one-more (fact-apart f g (or_parts (has (Fact g ∷ []) (Fact f)) _ e).0)
fact-after k (RemoveFact g) f e = one-less (fact-apart f g (or_parts (has (Fact g ∷ []) (Fact f)) _ e).0)
fact-after k (RemoveInstance n) f e = one-less (no-argument n f.args e)
fact-after k edit f e = unchanged

value-after : (k : Knowledge) (edit : Edit) (f : GroundFact) (x : Num) → is_named (touched_by_edit edit) (Value f) ≡ false → (value_in k f ≡ Some x) ↔ ValueAfter k edit f x
value-after k (SetValue g y) f x e =
    let away = fact-apart f g (or_parts (has (Value g ∷ []) (Value f)) _ e).0 in
    (λ v. inr (v, away), λ w. elim w [ inl s ↦ absurd (away s.0) | inr v ↦ v.0 ])
value-after k (RemoveValue g) f x e = one-less (fact-apart f g (or_parts (has (Value g ∷ []) (Value f)) _ e).0)
value-after k (RemoveInstance n) f x e = one-less (no-argument n f.args e)
value-after k edit f x e = unchanged

kind-after : (k : Knowledge) (edit : Edit) (n t : Name) → is_named (touched_by_edit edit) (Instance n) ≡ false → (kind_of k n ≡ Some t) ↔ KindAfter k edit n t
kind-after k (AddInstance m s) n t e = one-more (λ w. name-apart n m e w.0)
kind-after k (RemoveInstance m) n t e = one-less (name-apart n m e)
kind-after k edit n t e = unchanged

known-same : (k new : Knowledge) (f : GroundFact) → Contains k.facts f ↔ Contains new.facts f → is_known k f ≡ is_known new f
known-same k new f h =
    let laws = eq_by_cmp_equiv facts_total in
    same-bool (is_known k f) (is_known new f)
    (λ e. list_any-from_Contains laws f new.facts (h.0 (Contains-from_any (tells_apart exact_facts) f k.facts e)))
    (λ e. list_any-from_Contains laws f k.facts (h.1 (Contains-from_any (tells_apart exact_facts) f new.facts e)))

-- ---- the instances

-- the instances are those from before, unless there is a refusal
abbrev Keeps : Knowledge → Result Knowledge EditRefusal → Type 0
Keeps k (Ok new) = k.instances ≡ new.instances
Keeps k (Err why) = Unit {0}

keeps-unless : (k : Knowledge) (o : Option EditRefusal) (r : Result Knowledge EditRefusal) → Keeps k r → Keeps k (unless o r)
keeps-unless k None r h = h
keeps-unless k (Some why) r h = tt

keeps-where : (k : Knowledge) (b : Bool) (r : Result Knowledge EditRefusal) (why : EditRefusal) → Keeps k r → Keeps k (if b then r else Err why)
keeps-where k true r why h = h
keeps-where k false r why h = tt

keeps-goal : (k : Knowledge) (o : Option Cond) → Keeps k (without_goal k o)
keeps-goal k None = tt
keeps-goal k (Some goal) = refl

edit-keeps : (d : Domain) (k : Knowledge) (edit : Edit) → is_named (touched_by_edit edit) Instances ≡ false → Keeps k (edited d k edit)
edit-keeps d k (AddInstance n t) e = absurd (cc)
edit-keeps d k (RemoveInstance n) e = absurd (cc)
edit-keeps d k (AddFact f) e = keeps-unless k (fault_of_fact d k f) (Ok (record k { facts = insert_key fact_cmp k.facts f })) refl
edit-keeps d k (RemoveFact f) e =
    keeps-unless k (fault_of_fact d k f) (without_fact k f) (keeps-where k (is_known k f) (Ok (record k { facts = filter (λ g. not (same_fact f g)) k.facts })) NoFact refl)
edit-keeps d k (SetValue f x) e = keeps-unless k (fault_of_value d k f) (Ok (record k { values = insert_entry fact_cmp k.values f x })) refl
edit-keeps d k (RemoveValue f) e =
    keeps-unless k (fault_of_value d k f) (without_value k f)
    (keeps-where k (is_some (value_in k f)) (Ok (record k { values = filter (λ v. not (same_fact f v.0)) k.values })) NoValue refl)
edit-keeps d k (SetGoal c) e = keeps-unless k (fault_of_cond d k [] (cond_tree c)) (Ok (record k { goal = Some c })) refl
edit-keeps d k RemoveGoal e = keeps-goal k k.goal

fact-left : (k : Knowledge) (edit : Edit) (new : Knowledge) → IsChange k edit new → (f : GroundFact) → is_named (touched_by_edit edit) (Fact f) ≡ false → is_known k f ≡ is_known new f
fact-left k edit new h f e = known-same k new f (both (fact-after k edit f e) (h.facts f))

value-left : (k : Knowledge) (edit : Edit) (new : Knowledge) → IsChange k edit new → (f : GroundFact) → is_named (touched_by_edit edit) (Value f) ≡ false → value_in k f ≡ value_in new f
value-left k edit new h f e = same-option (value_in k f) (value_in new f) (λ x. both (value-after k edit f x e) (h.values f x))

edit-left : (k : Knowledge) (edit : Edit) (new : Knowledge) → IsChange k edit new → (is_named (touched_by_edit edit) Instances ≡ false → k.instances ≡ new.instances) → NamesChange (touched_by_edit edit) k new
edit-left k edit new h same (Fact f) e = fact-left k edit new h f e
edit-left k edit new h same (Value f) e = value-left k edit new h f e
edit-left k edit new h same (Instance n) e = same-option (kind_of k n) (kind_of new n) (λ t. both (kind-after k edit n t e) (h.kinds n t))
edit-left k edit new h same (Facts p) e = λ f at. fact-left k edit new h f (fact-below (touched_by_edit edit) p f e at)
edit-left k edit new h same (Values p) e = λ f at. value-left k edit new h f (value-below (touched_by_edit edit) p f e at)
edit-left k edit new h same Instances e = same e

edit-named : (d : Domain) (k : Knowledge) (edit : Edit) → NamesChange (touched_by_edit edit) k (kept k (edited d k edit))
edit-named d k edit = made (edited d k edit) refl
  where
    made : (r : Result Knowledge EditRefusal) → edited d k edit ≡ r → NamesChange (touched_by_edit edit) k (kept k r)
    made (Err why) e = λ t absent. agree_itself k t
    made (Ok new) e = edit-left k edit new (edits_change d k edit new e).0 (λ named. subst (Keeps k) e (edit-keeps d k edit named))

-- what an edit touches, as a list
pub listed : {A : Type 0} (o : Option A) (xs : List A) → MatchOption o (xs ≡ []) (λ x. xs ≡ x ∷ []) → xs ≡ option_to_list o
listed None xs h = h
listed (Some x) xs h = h

-- ---- events

-- what an event touches names what it changes
pub change-named : (d : Domain) (acts : List Act) (k : Knowledge) (e : Event) (gs : List GroundAction) → gs ≡ grounds d (unwrap_or (says_plan e) acts)
    → NamesChange (touched_by gs e) k (known_after d acts k e)
change-named d acts k (event.Edit by edit) gs same = edit-named d k edit
change-named d acts k (event.Start act) gs same =
    subst (λ xs. NamesChange (touched_by xs (event.Start act)) k (known_after d acts k (event.Start act))) (sym same) (effects-named d k (part (λ g. g.effects.at_start) d acts act))
change-named d acts k (event.End act) gs same =
    subst (λ xs. NamesChange (touched_by xs (event.End act)) k (known_after d acts k (event.End act))) (sym same) (effects-named d k (part (λ g. g.effects.at_end) d acts act))
change-named d acts k e gs same = λ t absent. agree_itself k t

-- the ground actions that a plan has before an event that changes something are those that it has after it
pub touched-still : (gs new : List GroundAction) (e : Event) → (says_plan e ≡ None → new ≡ gs) → touched_by gs e ≡ touched_by new e
touched-still gs new (event.Start act) same = ap (λ xs. touched_by xs (event.Start act)) (sym (same refl))
touched-still gs new (event.End act) same = ap (λ xs. touched_by xs (event.End act)) (sym (same refl))
touched-still gs new e same = refl

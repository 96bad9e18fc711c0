-- Each value, condition and effect is taken where one is wanted.
use Rattle.std.proofs.Common.{◌≡◌, ℕ, suc, ◌+◌, ◌<◌, ◌≤◌, List, ◌∷◌, true, refl, ap, arith}
use Rattle.ps_grammar.specs.Shape.{deepest}
use Rattle.ps_grammar.specs.Symbols.{level}
use Rattle.ps_grammar.specs.declared.marks.Mark.TheVariants as mark
use Rattle.ps_grammar.specs.declared.symbols.Symbol.{Symbol}
use Rattle.ps_grammar.specs.declared.symbols.Symbol.TheVariants.{The, InAction, InCondition, InEffect, InValue}
use Rattle.ps_grammar.specs.declared.symbols.ActionPart.TheVariants.{Parameters}
use Rattle.ps_grammar.specs.declared.symbols.ConditionPart.TheVariants as condition
use Rattle.ps_grammar.specs.declared.symbols.EffectPart.TheVariants as effect
use Rattle.ps_grammar.specs.declared.symbols.Reach.{Reach}
use Rattle.ps_grammar.specs.declared.symbols.Reach.TheVariants.{Spread, Guarded, Plain}
use Rattle.ps_grammar.specs.declared.symbols.ValuePart.TheVariants as value
use Rattle.ps_lists.specs.Conditions.{is_relation}
use Rattle.ps_lists.specs.Conditions.AreArguments.{no_argument, one_argument}
use Rattle.ps_lists.specs.Conditions.AreConditionsOf.{no_condition, one_condition}
use Rattle.ps_lists.specs.Conditions.IsAtomOf.{atom}
use Rattle.ps_lists.specs.Conditions.IsConditionOf.{all_of, any_of, not_so, implication, some_choice, each_choice, a_fact, same, comparison}
use Rattle.ps_lists.specs.Conditions.IsValueOf.{a_number, an_argument, an_atom, negation, operation}
use Rattle.ps_lists.specs.Grammar.{AreTerms, IsAtom, IsValue, IsCondition, AreConditions, IsTimedCondition, IsPart, AreParts, IsConditionForm, IsEffectOf, IsOneEffect, AreEffectsOf, IsBody, IsTimedEffect, IsChange, AreChanges, IsEffectForm}
use Rattle.ps_lists.specs.Grammar.IsTimedCondition.{at_moment, over_all}
use Rattle.ps_lists.specs.Grammar.IsPart.{empty_part, all_parts, timed_part}
use Rattle.ps_lists.specs.Grammar.AreParts.{no_part, one_part}
use Rattle.ps_lists.specs.Grammar.IsConditionForm.{empty_condition, listed_condition, lone_condition}
use Rattle.ps_lists.specs.Grammar.IsEffectOf.{all_effects, single}
use Rattle.ps_lists.specs.Grammar.IsOneEffect.{addition, deletion, change, conditional, for_each}
use Rattle.ps_lists.specs.Grammar.AreEffectsOf.{no_effect, one_effect}
use Rattle.ps_lists.specs.Grammar.IsBody.{listed_body, lone_body}
use Rattle.ps_lists.specs.Grammar.IsTimedEffect.{effect_at}
use Rattle.ps_lists.specs.Grammar.IsChange.{empty_change, all_changes, timed_change}
use Rattle.ps_lists.specs.Grammar.AreChanges.{no_change, one_change}
use Rattle.ps_lists.specs.Grammar.IsEffectForm.{empty_effect, listed_effect, lone_effect}
use Rattle.ps_lists.specs.Nested.{Nested, Nesteds, word, group, none, more}
use Rattle.ps_lists.specs.declared.lexemes.Lexeme.{Lexeme}
use Rattle.ps_lists.proofs.OneWord as one
use Rattle.ps_lists.proofs.OneWord.{no_word}
use Rattle.ps_lists.proofs.Taking.{Takes, TakesAll}
use Rattle.ps_lists.proofs.VariableLists.{bound_taken}
use Rattle.ps_lists.specs.TypedLists.{IsTypedList, is_variable}

-- ---- terms and values

terms_taken : (ts : Nesteds) → AreTerms ts → (st : List Symbol) (After : List Symbol → Type 0) → After st → TakesAll ts After (InValue value.Terms ∷ st)
terms_taken _ no_argument st After k = k
terms_taken _ (one_argument l ts is later) st After k = one.term_fits st (TakesAll ts After) l.mark is (terms_taken ts later st After k)

atom_taken : (room : ℕ) (t : Nested) → IsAtom room t → (st : List Symbol) (After : List Symbol → Type 0) → room + level st ≡ deepest → After st → Takes t After (InValue value.Atom ∷ st)
atom_taken _ _ (atom room l ts name all few) st After e k =
    (omega arith, one.name_fits (InValue value.Terms ∷ st) (TakesAll ts After) l.mark name (terms_taken ts all st After k))

atom_taken_as_value : (room : ℕ) (t : Nested) → IsAtom room t → (st : List Symbol) (After : List Symbol → Type 0) → room + level st ≡ deepest → After st → Takes t After (InValue value.Value ∷ st)
atom_taken_as_value _ _ (atom room l ts name all few) st After e k =
    (omega arith, one.function_fits st (TakesAll ts After) l.mark name (terms_taken ts all st After k))

-- a value with a parenthesis after it is the last one
taken_last : (t : Nested) (st : List Symbol) (After : List Symbol → Type 0) → Takes t After (InValue value.Value ∷ The mark.Close ∷ st) → Takes t After (InValue value.ValueOrEnd ∷ st)
taken_last (word l) st After h = one.last_value_fits st After l.mark h
taken_last (group us) st After h = (omega (arith, h.0), h.1)

pub value_taken : (room : ℕ) (t : Nested) → IsValue room t → (st : List Symbol) (After : List Symbol → Type 0) → room + level st ≡ deepest → After st → Takes t After (InValue value.Value ∷ st)
value_taken _ _ (a_number room l is) st After e k = one.at_mark st After (InValue value.Value) l.mark mark.Number is k
value_taken _ _ (an_argument room l values is) st After e k = one.value_fits st After l.mark is k
value_taken _ _ (an_atom room t a) st After e k = atom_taken_as_value room t a st After e k
value_taken _ _ (negation room l x is v) st After e k =
    (omega arith, one.at_mark st (TakesAll (more x none) After) (InValue value.Head) l.mark mark.Minus is (value_taken room x v (InValue value.ValueOrEnd ∷ st) (TakesAll none After) (omega arith) k))
value_taken _ _ (operation room l x y is v w) st After e k =
    let last : Takes y (TakesAll none After) (InValue value.Value ∷ The mark.Close ∷ st) = value_taken room y w (The mark.Close ∷ st) (TakesAll none After) (omega arith) k in (
      omega arith,
      one.operator_fits st (TakesAll (more x (more y none)) After) l.mark is (value_taken room x v (InValue value.ValueOrEnd ∷ st) (TakesAll (more y none) After) (omega arith) (taken_last y st (TakesAll none After) last)) (value_taken room x v (InValue value.Value ∷ The mark.Close ∷ st) (TakesAll (more y none) After) (omega arith) last),
    )

-- ---- conditions

-- a condition is one of several
taken_among : (t : Nested) (st : List Symbol) (After : List Symbol → Type 0) → Takes t After (InCondition condition.Condition ∷ InCondition condition.Conditions ∷ st) → Takes t After (InCondition condition.Conditions ∷ st)
taken_among (word l) st After h = absurd (no_word (InCondition condition.Condition) refl (InCondition condition.Conditions ∷ st) After l.mark h)
taken_among (group ts) st After h = (omega (arith, h.0), h.1)

-- two values after a relation are taken as a comparison
comparison_taken : (room : ℕ) (l : Lexeme) (x y : Nested) → is_relation l.mark ≡ true → IsValue room x → IsValue room y → (st : List Symbol) (After : List Symbol → Type 0) → suc room + level st ≡ deepest → After st → Takes (group (more (word l) (more x (more y none)))) After (InCondition condition.Condition ∷ st)
comparison_taken room l x y is v w st After e k =
    (omega arith, one.relation_fits st (TakesAll (more x (more y none)) After) l.mark is (value_taken room x v (InValue value.Value ∷ The mark.Close ∷ st) (TakesAll (more y none) After) (omega arith) (value_taken room y w (The mark.Close ∷ st) (TakesAll none After) (omega arith) k)))

-- a condition opens a parenthesis at least
pub condition_opens : (room : ℕ) (t : Nested) → IsCondition room t → 1 ≤ room
condition_opens _ _ (all_of room l ts is all) = omega arith
condition_opens _ _ (any_of room l ts is all) = omega arith
condition_opens _ _ (not_so room l c is other) = omega arith
condition_opens _ _ (implication room l a b is first second) = omega arith
condition_opens _ _ (some_choice room l vs c is typed own) = omega arith
condition_opens _ _ (each_choice room l vs c is typed own) = omega arith
condition_opens _ _ (a_fact room l ts is all few) = omega arith
condition_opens _ _ (same room l m n is first second) = omega arith
condition_opens _ _ (comparison room l x y is v w) = omega arith

-- the variables of a quantifier and its condition are taken, where the condition is
quantified_taken : (room : ℕ) (vs : Nesteds) (c : Nested) → IsTypedList is_variable vs → 1 ≤ room → (st : List Symbol) (After : List Symbol → Type 0) → suc room + level st ≡ deepest → Takes c (TakesAll none After) (InCondition condition.Condition ∷ The mark.Close ∷ st)
    → TakesAll (more (group vs) (more c none)) After (InAction Parameters ∷ InCondition condition.Condition ∷ The mark.Close ∷ st)
quantified_taken room vs c typed some st After e own = bound_taken vs typed (InCondition condition.Condition ∷ The mark.Close ∷ st) (TakesAll (more c none) After) (omega (arith, some)) own

mutual
  condition_taken : (room : ℕ) (t : Nested) → IsCondition room t → (st : List Symbol) (After : List Symbol → Type 0) → room + level st ≡ deepest → After st → Takes t After (InCondition condition.Condition ∷ st)
  condition_taken _ _ (all_of room l ts is all) st After e k =
      (omega arith, one.at_mark st (TakesAll ts After) (InCondition condition.Head) l.mark mark.And is (conditions_taken room ts all st After e k))
  condition_taken _ _ (not_so room l c is other) st After e k =
      (omega arith, one.at_mark st (TakesAll (more c none) After) (InCondition condition.Head) l.mark mark.Not is (condition_taken room c other (The mark.Close ∷ st) (TakesAll none After) (omega arith) k))
  condition_taken _ _ (any_of room l ts is all) st After e k =
      (omega arith, one.at_mark st (TakesAll ts After) (InCondition condition.Head) l.mark mark.Or is (conditions_taken room ts all st After e k))
  condition_taken _ _ (implication room l a b is first second) st After e k =
      let last : Takes b (TakesAll none After) (InCondition condition.Condition ∷ The mark.Close ∷ st) = condition_taken room b second (The mark.Close ∷ st) (TakesAll none After) (omega arith) k in
      (omega arith, one.at_mark st (TakesAll (more a (more b none)) After) (InCondition condition.Head) l.mark mark.Imply is (condition_taken room a first (InCondition condition.Condition ∷ The mark.Close ∷ st) (TakesAll (more b none) After) (omega arith) last))
  condition_taken _ _ (some_choice room l vs c is typed own) st After e k =
      (omega arith, one.at_mark st (TakesAll (more (group vs) (more c none)) After) (InCondition condition.Head) l.mark mark.Exists is (quantified_taken room vs c typed (condition_opens room c own) st After e (condition_taken room c own (The mark.Close ∷ st) (TakesAll none After) (omega arith) k)))
  condition_taken _ _ (each_choice room l vs c is typed own) st After e k =
      (omega arith, one.at_mark st (TakesAll (more (group vs) (more c none)) After) (InCondition condition.Head) l.mark mark.Forall is (quantified_taken room vs c typed (condition_opens room c own) st After e (condition_taken room c own (The mark.Close ∷ st) (TakesAll none After) (omega arith) k)))
  condition_taken _ _ (a_fact room l ts is all few) st After e k =
      (omega arith, one.fact_fits st (TakesAll ts After) l.mark is (terms_taken ts all st After k))
  condition_taken _ _ (same room l m n is first second) st After e k =
      comparison_taken room l (word m) (word n) (ap is_relation is) (an_argument room m refl first) (an_argument room n refl second) st After e k
  condition_taken _ _ (comparison room l x y is v w) st After e k = comparison_taken room l x y is v w st After e k

  conditions_taken : (room : ℕ) (ts : Nesteds) → AreConditions room ts → (st : List Symbol) (After : List Symbol → Type 0) → suc room + level st ≡ deepest → After st → TakesAll ts After (InCondition condition.Conditions ∷ st)
  conditions_taken _ _ (no_condition room) st After e k = k
  conditions_taken _ _ (one_condition room c cs first later) st After e k =
      taken_among c st (TakesAll cs After) (condition_taken room c first (InCondition condition.Conditions ∷ st) (TakesAll cs After) (omega arith) (conditions_taken room cs later st After e k))

-- ---- timed conditions

timed_part_taken : (room : ℕ) (t : Nested) → IsTimedCondition room t → (st : List Symbol) (After : List Symbol → Type 0) → suc room + suc (level st) ≡ deepest → After (InCondition condition.TimedList ∷ st) → Takes t After (InCondition condition.TimedList ∷ st)
timed_part_taken _ _ (at_moment room l m c is moment own) st After e k =
    (omega arith, one.at_mark (InCondition condition.TimedList ∷ st) (TakesAll (more (word m) (more c none)) After) (InCondition condition.TimedHead) l.mark mark.At is (one.moment_fits (InCondition condition.Condition ∷ The mark.Close ∷ InCondition condition.TimedList ∷ st) (TakesAll (more c none) After) m.mark moment (condition_taken room c own (The mark.Close ∷ InCondition condition.TimedList ∷ st) (TakesAll none After) (omega arith) k)))
timed_part_taken _ _ (over_all room l m c is all own) st After e k =
    (omega arith, one.at_mark (InCondition condition.TimedList ∷ st) (TakesAll (more (word m) (more c none)) After) (InCondition condition.TimedHead) l.mark mark.Over is (one.at_mark (InCondition condition.Condition ∷ The mark.Close ∷ InCondition condition.TimedList ∷ st) (TakesAll (more c none) After) (The mark.All) m.mark mark.All all (condition_taken room c own (The mark.Close ∷ InCondition condition.TimedList ∷ st) (TakesAll none After) (omega arith) k)))

lone_condition_taken : (room : ℕ) (t : Nested) → IsTimedCondition room t → (st : List Symbol) (After : List Symbol → Type 0) → suc (suc room) + level st ≡ deepest → After st → Takes t After (InCondition condition.Form ∷ st)
lone_condition_taken _ _ (at_moment room l m c is moment own) st After e k =
    (omega arith, one.at_mark st (TakesAll (more (word m) (more c none)) After) (InCondition condition.FormHead) l.mark mark.At is (one.moment_fits (InCondition condition.Condition ∷ InEffect effect.FormEnd ∷ st) (TakesAll (more c none) After) m.mark moment (condition_taken room c own (InEffect effect.FormEnd ∷ st) (TakesAll none After) (omega arith) k)))
lone_condition_taken _ _ (over_all room l m c is all own) st After e k =
    (omega arith, one.at_mark st (TakesAll (more (word m) (more c none)) After) (InCondition condition.FormHead) l.mark mark.Over is (one.at_mark (InCondition condition.Condition ∷ InEffect effect.FormEnd ∷ st) (TakesAll (more c none) After) (The mark.All) m.mark mark.All all (condition_taken room c own (InEffect effect.FormEnd ∷ st) (TakesAll none After) (omega arith) k)))

mutual
  part_taken : (room : ℕ) (t : Nested) → IsPart room t → (st : List Symbol) (After : List Symbol → Type 0) → room + suc (level st) ≡ deepest → After (InCondition condition.TimedList ∷ st) → Takes t After (InCondition condition.TimedList ∷ st)
  part_taken _ _ (empty_part room) st After e k = (omega arith, k)
  part_taken _ _ (all_parts room l ts is all) st After e k =
      (omega arith, one.at_mark (InCondition condition.TimedList ∷ st) (TakesAll ts After) (InCondition condition.TimedHead) l.mark mark.And is (parts_taken room ts all (InCondition condition.TimedList ∷ st) After (omega arith) k))
  part_taken _ _ (timed_part room t own) st After e k = timed_part_taken room t own st After e k

  parts_taken : (room : ℕ) (ts : Nesteds) → AreParts room ts → (st : List Symbol) (After : List Symbol → Type 0) → room + suc (level st) ≡ deepest → After st → TakesAll ts After (InCondition condition.TimedList ∷ st)
  parts_taken _ _ (no_part room) st After e k = k
  parts_taken _ _ (one_part room t ts first later) st After e k =
      part_taken room t first st (TakesAll ts After) e (parts_taken room ts later st After e k)

pub condition_form_taken : (room : ℕ) (t : Nested) → IsConditionForm room t → (st : List Symbol) (After : List Symbol → Type 0) → room + level st ≡ deepest → After st → Takes t After (InCondition condition.Form ∷ st)
condition_form_taken _ _ (empty_condition room) st After e k = (omega arith, k)
condition_form_taken _ _ (listed_condition room l ts is all) st After e k =
    (omega arith, one.at_mark st (TakesAll ts After) (InCondition condition.FormHead) l.mark mark.And is (parts_taken room ts all st After (omega arith) k))
condition_form_taken _ _ (lone_condition room t own) st After e k = lone_condition_taken room t own st After e k

-- ---- effects

-- an effect is one of several
taken_among_effects : (reach : Reach) (t : Nested) (st : List Symbol) (After : List Symbol → Type 0) → Takes t After (InEffect (effect.Effect reach) ∷ InEffect (effect.Effects reach) ∷ st) → Takes t After (InEffect (effect.Effects reach) ∷ st)
taken_among_effects reach (word l) st After h = absurd (no_word (InEffect (effect.Effect reach)) refl (InEffect (effect.Effects reach) ∷ st) After l.mark h)
taken_among_effects reach (group ts) st After h = (omega (arith, h.0), h.1)

-- the symbol ends a list
abbrev Ends : Symbol → Type 1
Ends end = (st : List Symbol) (After : List Symbol → Type 0) → After st → TakesAll none After (end ∷ st)

-- the symbol takes terms to the end of their list
abbrev TakesTerms : Symbol → Type 1
TakesTerms terms = (ts : Nesteds) → AreTerms ts → (st : List Symbol) (After : List Symbol → Type 0) → After st → TakesAll ts After (terms ∷ st)

lone_terms_taken : TakesTerms (InEffect effect.LoneTerms)
lone_terms_taken _ no_argument st After k = k
lone_terms_taken _ (one_argument l ts is later) st After k = one.lone_term_fits st (TakesAll ts After) l.mark is (lone_terms_taken ts later st After k)

-- what stands in the parentheses of an effect but an `and` is taken after the first of them
abbrev IsInside : Reach → Symbol → Symbol → List Symbol → (List Symbol → Type 0) → Nested → Type 0
IsInside reach terms end st After (group (more (word l) ts)) = one.HasHead st (TakesAll ts After) reach terms end l.mark
IsInside reach terms end st After t = ⊥

taken_as_effect : (reach : Reach) (t : Nested) (st : List Symbol) (After : List Symbol → Type 0) → level st < deepest → IsInside reach (InValue value.Terms) (The mark.Close) st After t → Takes t After (InEffect (effect.Effect reach) ∷ st)
taken_as_effect reach (group (more (word l) ts)) st After below h = (omega (arith, below), one.head_fits st (TakesAll ts After) reach l.mark h)
taken_as_effect reach t st After below h = absurd h

taken_as_body : (reach : Reach) (t : Nested) (st : List Symbol) (After : List Symbol → Type 0) → suc (level st) < deepest → IsInside reach (InEffect effect.LoneTerms) (InEffect effect.FormEnd) st After t → Takes t After (InEffect (effect.Body reach) ∷ st)
taken_as_body reach (group (more (word l) ts)) st After below h = (omega (arith, below), one.body_head_fits st (TakesAll ts After) reach l.mark below h)
taken_as_body reach t st After below h = absurd h

-- an effect opens a parenthesis at least
one_effect_opens : (reach : Reach) (room : ℕ) (t : Nested) → IsOneEffect reach room t → 1 ≤ room
one_effect_opens _ _ _ (addition reach room l ts is all) = omega arith
one_effect_opens _ _ _ (deletion reach room l a is own) = omega arith
one_effect_opens _ _ _ (change reach room l a x is own v) = omega arith
one_effect_opens _ _ _ (conditional reach room l c t has is own body) = omega arith
one_effect_opens _ _ _ (for_each reach room l vs t has is typed body) = omega arith

body_opens : (reach : Reach) (room : ℕ) (t : Nested) → IsBody reach room t → 1 ≤ room
body_opens _ _ _ (listed_body reach room l ts is all) = omega arith
body_opens _ _ _ (lone_body reach room t own) = omega arith

mutual
  effect_taken : (reach : Reach) (room : ℕ) (t : Nested) → IsEffectOf reach room t → (st : List Symbol) (After : List Symbol → Type 0) → room + level st ≡ deepest → After st → Takes t After (InEffect (effect.Effect reach) ∷ st)
  effect_taken _ _ _ (all_effects reach room l ts is all) st After e k =
      (omega arith, one.at_mark st (TakesAll ts After) (InEffect (effect.Head reach)) l.mark mark.And is (effects_taken reach room ts all st After e k))
  effect_taken _ _ _ (single reach room t own) st After e k =
      taken_as_effect reach t st After (omega (arith, one_effect_opens reach room t own)) (one_effect_taken reach room t own (InValue value.Terms) (The mark.Close) terms_taken (λ _ _ h. h) st After (omega arith) k)

  -- an effect is taken with what is wanted for its terms and its end
  one_effect_taken : (reach : Reach) (room : ℕ) (t : Nested) → IsOneEffect reach room t → (terms end : Symbol) → TakesTerms terms → Ends end → (st : List Symbol) (After : List Symbol → Type 0) → room + level (end ∷ st) ≡ suc deepest → After st → IsInside reach terms end st After t
  one_effect_taken _ _ _ (addition reach room l ts is all) terms end listed ended st After e k =
      one.predicate_fits st (TakesAll ts After) reach terms end l.mark is (listed ts all st After k)
  one_effect_taken _ _ _ (deletion reach room l a is own) terms end listed ended st After e k =
      one.not_fits st (TakesAll (more a none) After) reach terms end l.mark is (atom_taken room a own (end ∷ st) (TakesAll none After) (omega arith) (ended st After k))
  one_effect_taken _ _ _ (change reach room l a x is own v) terms end listed ended st After e k =
      one.change_fits st (TakesAll (more a (more x none)) After) reach terms end l.mark is (atom_taken room a own (InValue value.Value ∷ end ∷ st) (TakesAll (more x none) After) (omega arith) (value_taken room x v (end ∷ st) (TakesAll none After) (omega arith) (ended st After k)))
  one_effect_taken _ _ _ (conditional reach room l c t has is own body) terms end listed ended st After e k =
      let last : Takes t (TakesAll none After) (InEffect (effect.Body Plain) ∷ end ∷ st) = body_taken Plain room t body (end ∷ st) (TakesAll none After) (omega arith) (ended st After k) in
      one.when_fits st (TakesAll (more c (more t none)) After) reach terms end l.mark has is (condition_taken room c own (InEffect (effect.Body Plain) ∷ end ∷ st) (TakesAll (more t none) After) (omega arith) last)
  one_effect_taken _ _ _ (for_each reach room l vs t has is typed body) terms end listed ended st After e k =
      let last : Takes t (TakesAll none After) (InEffect (effect.Body Guarded) ∷ end ∷ st) = body_taken Guarded room t body (end ∷ st) (TakesAll none After) (omega arith) (ended st After k) in
      one.forall_fits st (TakesAll (more (group vs) (more t none)) After) reach terms end l.mark has is (bound_taken vs typed (InEffect (effect.Body Guarded) ∷ end ∷ st) (TakesAll (more t none) After) (omega (arith, body_opens Guarded room t body)) last)

  effects_taken : (reach : Reach) (room : ℕ) (ts : Nesteds) → AreEffectsOf reach room ts → (st : List Symbol) (After : List Symbol → Type 0) → suc room + level st ≡ deepest → After st → TakesAll ts After (InEffect (effect.Effects reach) ∷ st)
  effects_taken _ _ _ (no_effect reach room) st After e k = k
  effects_taken _ _ _ (one_effect reach room t ts first later) st After e k =
      taken_among_effects reach t st (TakesAll ts After) (effect_taken reach room t first (InEffect (effect.Effects reach) ∷ st) (TakesAll ts After) (omega arith) (effects_taken reach room ts later st After e k))

  body_taken : (reach : Reach) (room : ℕ) (t : Nested) → IsBody reach room t → (st : List Symbol) (After : List Symbol → Type 0) → room + level st ≡ deepest → After st → Takes t After (InEffect (effect.Body reach) ∷ st)
  body_taken _ _ _ (listed_body reach room l ts is all) st After e k =
      (omega arith, one.at_mark st (TakesAll ts After) (InEffect (effect.BodyHead reach)) l.mark mark.And is (effects_taken reach room ts all st After e k))
  body_taken _ _ _ (lone_body reach room t own) st After e k =
      taken_as_body reach t st After (omega (arith, one_effect_opens reach room t own)) (one_effect_taken reach room t own (InEffect effect.LoneTerms) (InEffect effect.FormEnd) lone_terms_taken (λ _ _ h. h) st After (omega arith) k)

-- ---- timed effects

timed_change_taken : (room : ℕ) (t : Nested) → IsTimedEffect room t → (st : List Symbol) (After : List Symbol → Type 0) → suc room + suc (level st) ≡ deepest → After (InEffect effect.TimedList ∷ st) → Takes t After (InEffect effect.TimedList ∷ st)
timed_change_taken _ _ (effect_at room l m t is moment own) st After e k =
    (omega arith, one.at_mark (InEffect effect.TimedList ∷ st) (TakesAll (more (word m) (more t none)) After) (InEffect effect.TimedHead) l.mark mark.At is (one.moment_fits (InEffect (effect.Effect Spread) ∷ The mark.Close ∷ InEffect effect.TimedList ∷ st) (TakesAll (more t none) After) m.mark moment (effect_taken Spread room t own (The mark.Close ∷ InEffect effect.TimedList ∷ st) (TakesAll none After) (omega arith) k)))

lone_effect_taken : (room : ℕ) (t : Nested) → IsTimedEffect room t → (st : List Symbol) (After : List Symbol → Type 0) → suc (suc room) + level st ≡ deepest → After st → Takes t After (InEffect effect.Form ∷ st)
lone_effect_taken _ _ (effect_at room l m t is moment own) st After e k =
    (omega arith, one.at_mark st (TakesAll (more (word m) (more t none)) After) (InEffect effect.FormHead) l.mark mark.At is (one.moment_fits (InEffect (effect.Effect Spread) ∷ InEffect effect.FormEnd ∷ st) (TakesAll (more t none) After) m.mark moment (effect_taken Spread room t own (InEffect effect.FormEnd ∷ st) (TakesAll none After) (omega arith) k)))

mutual
  change_taken : (room : ℕ) (t : Nested) → IsChange room t → (st : List Symbol) (After : List Symbol → Type 0) → room + suc (level st) ≡ deepest → After (InEffect effect.TimedList ∷ st) → Takes t After (InEffect effect.TimedList ∷ st)
  change_taken _ _ (empty_change room) st After e k = (omega arith, k)
  change_taken _ _ (all_changes room l ts is all) st After e k =
      (omega arith, one.at_mark (InEffect effect.TimedList ∷ st) (TakesAll ts After) (InEffect effect.TimedHead) l.mark mark.And is (changes_taken room ts all (InEffect effect.TimedList ∷ st) After (omega arith) k))
  change_taken _ _ (timed_change room t own) st After e k = timed_change_taken room t own st After e k

  changes_taken : (room : ℕ) (ts : Nesteds) → AreChanges room ts → (st : List Symbol) (After : List Symbol → Type 0) → room + suc (level st) ≡ deepest → After st → TakesAll ts After (InEffect effect.TimedList ∷ st)
  changes_taken _ _ (no_change room) st After e k = k
  changes_taken _ _ (one_change room t ts first later) st After e k =
      change_taken room t first st (TakesAll ts After) e (changes_taken room ts later st After e k)

pub effect_form_taken : (room : ℕ) (t : Nested) → IsEffectForm room t → (st : List Symbol) (After : List Symbol → Type 0) → room + level st ≡ deepest → After st → Takes t After (InEffect effect.Form ∷ st)
effect_form_taken _ _ (empty_effect room) st After e k = (omega arith, k)
effect_form_taken _ _ (listed_effect room l ts is all) st After e k =
    (omega arith, one.at_mark st (TakesAll ts After) (InEffect effect.FormHead) l.mark mark.And is (changes_taken room ts all st After (omega arith) k))
effect_form_taken _ _ (lone_effect room t own) st After e k = lone_effect_taken room t own st After e k

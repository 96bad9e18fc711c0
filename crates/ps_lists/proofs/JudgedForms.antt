-- What is taken where a value, a condition or an effect is wanted is one.
use Rattle.std.proofs.Common.{◌≡◌, ℕ, zero, suc, ◌+◌, List, ◌∷◌, true, refl, sym, ap, subst, ◌⊎◌, inl, inr, arith}
use Rattle.ps_grammar.specs.Shape.{deepest}
use Rattle.ps_grammar.specs.Symbols.{level}
use Rattle.ps_grammar.specs.Marks.{is_name, is_change, is_fact_name}
use Rattle.ps_grammar.specs.declared.marks.Mark.TheVariants as mark
use Rattle.ps_grammar.specs.declared.symbols.Symbol.{Symbol}
use Rattle.ps_grammar.specs.declared.symbols.Symbol.TheVariants.{The, InCondition, InEffect, InValue}
use Rattle.ps_grammar.specs.declared.symbols.ConditionPart.TheVariants as condition
use Rattle.ps_grammar.specs.declared.symbols.EffectPart.TheVariants as effect
use Rattle.ps_grammar.specs.declared.symbols.Reach.{Reach}
use Rattle.ps_grammar.specs.declared.symbols.Reach.TheVariants.{Spread, Guarded, Plain}
use Rattle.ps_grammar.specs.declared.symbols.ValuePart.TheVariants as value
use Rattle.ps_lists.specs.Conditions.{is_operator, is_relation}
use Rattle.ps_lists.specs.Conditions.AreArguments.{no_argument, one_argument}
use Rattle.ps_lists.specs.Conditions.AreConditionsOf.{no_condition, one_condition}
use Rattle.ps_lists.specs.Conditions.IsAtomOf.{atom}
use Rattle.ps_lists.specs.Conditions.IsConditionOf.{all_of, any_of, not_so, implication, some_choice, each_choice, a_fact, comparison}
use Rattle.ps_lists.specs.Conditions.IsValueOf.{a_number, an_argument, an_atom, negation, operation}
use Rattle.ps_lists.specs.Grammar.{AreTerms, IsAtom, IsValue, IsCondition, AreConditions, IsTimedCondition, IsPart, AreParts, IsConditionForm, IsEffectOf, IsOneEffect, AreEffectsOf, IsBody, IsTimedEffect, IsChange, AreChanges, IsEffectForm}
use Rattle.ps_lists.specs.Grammar.IsTimedCondition.{at_moment, over_all}
use Rattle.ps_lists.specs.Grammar.IsPart.{empty_part, all_parts, timed_part}
use Rattle.ps_lists.specs.Grammar.AreParts.{no_part, one_part}
use Rattle.ps_lists.specs.Grammar.IsConditionForm.{empty_condition, listed_condition, lone_condition}
use Rattle.ps_lists.specs.Grammar.IsEffectOf.{all_effects, single}
use Rattle.ps_lists.specs.Grammar.IsOneEffect.{addition, deletion, change, conditional, for_each}
use Rattle.ps_lists.specs.Grammar.AreEffectsOf.{no_effect, one_effect}
use Rattle.ps_lists.specs.Grammar.IsBody.{listed_body, lone_body}
use Rattle.ps_lists.specs.Grammar.IsTimedEffect.{effect_at}
use Rattle.ps_lists.specs.Grammar.IsChange.{empty_change, all_changes, timed_change}
use Rattle.ps_lists.specs.Grammar.AreChanges.{no_change, one_change}
use Rattle.ps_lists.specs.Grammar.IsEffectForm.{empty_effect, listed_effect, lone_effect}
use Rattle.ps_lists.specs.Nested.{Nested, Nesteds, word, group, none, more}
use Rattle.ps_lists.specs.declared.lexemes.Lexeme.{Lexeme}
use Rattle.ps_lists.proofs.OneWord as one
use Rattle.ps_lists.proofs.OneWord.{no_word}
use Rattle.ps_lists.proofs.Taking.{Takes, TakesAll}
use Rattle.ps_lists.proofs.VariableLists.{bound_of_taken}
use Rattle.ps_lists.specs.TypedLists.{IsTypedList, is_variable}

-- ---- what ends a list

-- nothing more stands in a list where the symbol is wanted
abbrev Closes : Symbol → Type 1
Closes last = (ts : Nesteds) (st : List Symbol) (After : List Symbol → Type 0) → TakesAll ts After (last ∷ st) → (ts ≡ none) × After st

-- where a parenthesis that closes is wanted nothing more stands
pub only_close : (ts : Nesteds) (st : List Symbol) (After : List Symbol → Type 0) → TakesAll ts After (The mark.Close ∷ st) → (ts ≡ none) × After st
only_close none st After h = (refl, h)
only_close (more (word l) ts) st After h = absurd (no_word (The mark.Close) refl st (TakesAll ts After) l.mark h)
only_close (more (group us) ts) st After h = absurd h.1

-- nor where a timed form alone ends
form_end : (ts : Nesteds) (st : List Symbol) (After : List Symbol → Type 0) → TakesAll ts After (InEffect effect.FormEnd ∷ st) → (ts ≡ none) × After st
form_end none st After h = (refl, h)
form_end (more (word l) ts) st After h = absurd (no_word (InEffect effect.FormEnd) refl st (TakesAll ts After) l.mark h)
form_end (more (group us) ts) st After h = absurd h.1

-- ---- terms and values

-- what is taken where terms are wanted is terms
terms_of_taken : (ts : Nesteds) (st : List Symbol) (After : List Symbol → Type 0) → TakesAll ts After (InValue value.Terms ∷ st) → AreTerms ts × After st
terms_of_taken none st After h = (no_argument, h)
terms_of_taken (more (word l) ts) st After h =
    let first = one.term_told st (TakesAll ts After) l.mark h in
    let later = terms_of_taken ts st After first.1 in
    (one_argument l ts first.0 later.0, later.1)
terms_of_taken (more (group us) ts) st After h = absurd h.1

-- what is taken where an atom is wanted is one
atom_of_taken : (t : Nested) (room : ℕ) (st : List Symbol) (After : List Symbol → Type 0) → room + level st ≡ deepest → Takes t After (InValue value.Atom ∷ st) → IsAtom room t × After st
atom_of_taken (word l) room st After e h = absurd (no_word (InValue value.Atom) refl st After l.mark h)
atom_of_taken (group ts) zero st After e h = absurd (omega (arith, h.0))
atom_of_taken (group none) (suc room) st After e h = absurd h.1
atom_of_taken (group (more (group us) ts)) (suc room) st After e h = absurd h.1.1
atom_of_taken (group (more (word l) ts)) (suc room) st After e h =
    let name = one.name_told (InValue value.Terms ∷ st) (TakesAll ts After) l.mark h.1 in
    let later = terms_of_taken ts st After name.1 in
    (atom room l ts name.0 later.0 tt, later.1)

-- the last value is one with a parenthesis after it
last_value : (t : Nested) (st : List Symbol) (After : List Symbol → Type 0) → Takes t After (InValue value.ValueOrEnd ∷ st) → Takes t After (InValue value.Value ∷ The mark.Close ∷ st)
last_value (word l) st After h = one.last_value_told st After l.mark h
last_value (group us) st After h = (omega (arith, h.0), h.1)

-- a name and terms are a value
function_of_taken : (l : Lexeme) (ts : Nesteds) (room : ℕ) (st : List Symbol) (After : List Symbol → Type 0) → is_name l.mark ≡ true → TakesAll ts After (InValue value.Terms ∷ st) → IsValue (suc room) (group (more (word l) ts)) × After st
function_of_taken l ts room st After e h =
    let all = terms_of_taken ts st After h in
    (an_atom (suc room) (group (more (word l) ts)) (atom room l ts e all.0 tt), all.1)

-- what is taken where a value is wanted is one
pub value_of_taken : (t : Nested) (room : ℕ) (st : List Symbol) (After : List Symbol → Type 0) → room + level st ≡ deepest → Takes t After (InValue value.Value ∷ st) → IsValue room t × After st
value_of_taken (word l) room st After e h =
    let here = one.value_told st After l.mark h in (
      elim here.0 [
        | inl number ↦ a_number room l number
        | inr name ↦ an_argument room l refl name
      ],
      here.1,
    )
value_of_taken (group ts) zero st After e h = absurd (omega (arith, h.0))
value_of_taken (group none) (suc room) st After e h = absurd h.1
value_of_taken (group (more (group us) ts)) (suc room) st After e h = absurd h.1.1
value_of_taken (group (more (word l) none)) (suc room) st After e h =
    elim (one.value_head_told st (TakesAll none After) l.mark h.1) [
      | inl minus ↦ absurd minus.1
      | inr (inl two) ↦ absurd two.1
      | inr (inr name) ↦ function_of_taken l none room st After name.0 name.1
    ]
value_of_taken (group (more (word l) (more x none))) (suc room) st After e h =
    elim (one.value_head_told st (TakesAll (more x none) After) l.mark h.1) [
      | inl minus ↦
          let first = value_of_taken x room (InValue value.ValueOrEnd ∷ st) (TakesAll none After) (omega arith) minus.1 in
          (negation room l x minus.0 first.0, first.1)
      | inr (inl two) ↦ absurd (value_of_taken x room (InValue value.Value ∷ The mark.Close ∷ st) (TakesAll none After) (omega arith) two.1).1
      | inr (inr name) ↦ function_of_taken l (more x none) room st After name.0 name.1
    ]
value_of_taken (group (more (word l) (more x (more y ts)))) (suc room) st After e h =
    elim (one.value_head_told st (TakesAll (more x (more y ts)) After) l.mark h.1) [
      | inl minus ↦
          let first = value_of_taken x room (InValue value.ValueOrEnd ∷ st) (TakesAll (more y ts) After) (omega arith) minus.1 in
          let second = value_of_taken y room (The mark.Close ∷ st) (TakesAll ts After) (omega arith) (last_value y st (TakesAll ts After) first.1) in
          let end = only_close ts st After second.1 in
          (rw end.0 (operation room l x y (ap is_operator minus.0) first.0 second.0), end.1)
      | inr (inl two) ↦
          let first = value_of_taken x room (InValue value.Value ∷ The mark.Close ∷ st) (TakesAll (more y ts) After) (omega arith) two.1 in
          let second = value_of_taken y room (The mark.Close ∷ st) (TakesAll ts After) (omega arith) first.1 in
          let end = only_close ts st After second.1 in
          (rw end.0 (operation room l x y two.0 first.0 second.0), end.1)
      | inr (inr name) ↦ function_of_taken l (more x (more y ts)) room st After name.0 name.1
    ]

-- ---- conditions

-- two values after a relation are a comparison
comparison_of_taken : (ts : Nesteds) (room : ℕ) (st : List Symbol) (After : List Symbol → Type 0) → suc room + level st ≡ deepest → TakesAll ts After (InValue value.Value ∷ InValue value.Value ∷ The mark.Close ∷ st) → ((l : Lexeme) → is_relation l.mark ≡ true → IsCondition (suc room) (group (more (word l) ts))) × After st
comparison_of_taken none room st After e h = absurd h
comparison_of_taken (more x none) room st After e h = absurd (value_of_taken x room (InValue value.Value ∷ The mark.Close ∷ st) (TakesAll none After) (omega arith) h).1
comparison_of_taken (more x (more y ts)) room st After e h =
    let first = value_of_taken x room (InValue value.Value ∷ The mark.Close ∷ st) (TakesAll (more y ts) After) (omega arith) h in
    let second = value_of_taken y room (The mark.Close ∷ st) (TakesAll ts After) (omega arith) first.1 in
    let end = only_close ts st After second.1 in
    (λ l relation. rw end.0 (comparison room l x y relation first.0 second.0), end.1)

-- a condition of several is one
as_condition : (t : Nested) (st : List Symbol) (After : List Symbol → Type 0) → Takes t After (InCondition condition.Conditions ∷ st) → Takes t After (InCondition condition.Condition ∷ InCondition condition.Conditions ∷ st)
as_condition (word l) st After h = absurd (no_word (InCondition condition.Conditions) refl st After l.mark h)
as_condition (group ts) st After h = (omega (arith, h.0), h.1)

-- a name and terms are a fact
fact_of_taken : (l : Lexeme) (ts : Nesteds) (room : ℕ) (st : List Symbol) (After : List Symbol → Type 0) → is_fact_name l.mark ≡ true → TakesAll ts After (InValue value.Terms ∷ st) → IsCondition (suc room) (group (more (word l) ts)) × After st
fact_of_taken l ts room st After e h =
    let all = terms_of_taken ts st After h in
    (a_fact room l ts e all.0 tt, all.1)

-- a quantifier by its word
choice_of : (room : ℕ) (l : Lexeme) (vs : Nesteds) (c : Nested) → (l.mark ≡ mark.Exists) ⊎ (l.mark ≡ mark.Forall) → IsTypedList is_variable vs → IsCondition room c → IsCondition (suc room) (group (more (word l) (more (group vs) (more c none))))
choice_of room l vs c (inl is) typed own = some_choice room l vs c is typed own
choice_of room l vs c (inr is) typed own = each_choice room l vs c is typed own

mutual
  -- what is taken where a condition is wanted is one
  condition_of_taken : (t : Nested) (room : ℕ) (st : List Symbol) (After : List Symbol → Type 0) → room + level st ≡ deepest → Takes t After (InCondition condition.Condition ∷ st) → IsCondition room t × After st
  condition_of_taken (word l) room st After e h = absurd (no_word (InCondition condition.Condition) refl st After l.mark h)
  condition_of_taken (group ts) zero st After e h = absurd (omega (arith, h.0))
  condition_of_taken (group none) (suc room) st After e h = absurd h.1
  condition_of_taken (group (more (group us) ts)) (suc room) st After e h = absurd h.1.1
  condition_of_taken (group (more (word l) none)) (suc room) st After e h =
      elim (one.condition_head_told st (TakesAll none After) l.mark h.1) [
        | inl (inl (inl all)) ↦ (all_of room l none all.0 (no_condition room), all.1)
        | inl (inl (inr any)) ↦ (any_of room l none any.0 (no_condition room), any.1)
        | inl (inr (inl denied)) ↦ absurd denied.1
        | inl (inr (inr implied)) ↦ absurd implied.1
        | inr (inl choice) ↦ absurd choice.1
        | inr (inr (inl two)) ↦ absurd two.1
        | inr (inr (inr name)) ↦ fact_of_taken l none room st After name.0 name.1
      ]
  condition_of_taken (group (more (word l) (more c ts))) (suc room) st After e h =
      elim (one.condition_head_told st (TakesAll (more c ts) After) l.mark h.1) [
        | inl (inl (inl all)) ↦
            let first = condition_of_taken c room (InCondition condition.Conditions ∷ st) (TakesAll ts After) (omega arith) (as_condition c st (TakesAll ts After) all.1) in
            let later = conditions_of_taken ts room st After e first.1 in
            (all_of room l (more c ts) all.0 (one_condition room c ts first.0 later.0), later.1)
        | inl (inl (inr any)) ↦
            let first = condition_of_taken c room (InCondition condition.Conditions ∷ st) (TakesAll ts After) (omega arith) (as_condition c st (TakesAll ts After) any.1) in
            let later = conditions_of_taken ts room st After e first.1 in
            (any_of room l (more c ts) any.0 (one_condition room c ts first.0 later.0), later.1)
        | inl (inr (inr implied)) ↦
            let first = condition_of_taken c room (InCondition condition.Condition ∷ The mark.Close ∷ st) (TakesAll ts After) (omega arith) implied.1 in
            let later = implied_of_taken ts room st After e first.1 in
            (later.0 l c implied.0 first.0, later.1)
        | inr (inl choice) ↦
            let bound = bound_of_taken c (InCondition condition.Condition ∷ The mark.Close ∷ st) (TakesAll ts After) choice.1 in
            let later = quantified_of_taken ts room st After e bound.after in
            (subst (λ (t : Nested). IsCondition (suc room) (group (more (word l) (more t ts)))) bound.is (later.0 l bound.inside choice.0 bound.typed), later.1)
        | inl (inr (inl denied)) ↦
            let first = condition_of_taken c room (The mark.Close ∷ st) (TakesAll ts After) (omega arith) denied.1 in
            let end = only_close ts st After first.1 in
            (rw end.0 (not_so room l c denied.0 first.0), end.1)
        | inr (inr (inl two)) ↦
            let both = comparison_of_taken (more c ts) room st After e two.1 in
            (both.0 l two.0, both.1)
        | inr (inr (inr name)) ↦ fact_of_taken l (more c ts) room st After name.0 name.1
      ]

  -- what follows the first condition of an implication
  implied_of_taken : (ts : Nesteds) (room : ℕ) (st : List Symbol) (After : List Symbol → Type 0) → suc room + level st ≡ deepest → TakesAll ts After (InCondition condition.Condition ∷ The mark.Close ∷ st) → ((l : Lexeme) (a : Nested) → l.mark ≡ mark.Imply → IsCondition room a → IsCondition (suc room) (group (more (word l) (more a ts)))) × After st
  implied_of_taken none room st After e h = absurd h
  implied_of_taken (more b ts) room st After e h =
      let first = condition_of_taken b room (The mark.Close ∷ st) (TakesAll ts After) (omega arith) h in
      let end = only_close ts st After first.1 in
      (λ l a is own. rw end.0 (implication room l a b is own first.0), end.1)

  -- what follows the variables of a quantifier
  quantified_of_taken : (ts : Nesteds) (room : ℕ) (st : List Symbol) (After : List Symbol → Type 0) → suc room + level st ≡ deepest → TakesAll ts After (InCondition condition.Condition ∷ The mark.Close ∷ st) → ((l : Lexeme) (vs : Nesteds) → (l.mark ≡ mark.Exists) ⊎ (l.mark ≡ mark.Forall) → IsTypedList is_variable vs → IsCondition (suc room) (group (more (word l) (more (group vs) ts)))) × After st
  quantified_of_taken none room st After e h = absurd h
  quantified_of_taken (more c ts) room st After e h =
      let first = condition_of_taken c room (The mark.Close ∷ st) (TakesAll ts After) (omega arith) h in
      let end = only_close ts st After first.1 in
      (λ l vs is typed. rw end.0 (choice_of room l vs c is typed first.0), end.1)

  conditions_of_taken : (ts : Nesteds) (room : ℕ) (st : List Symbol) (After : List Symbol → Type 0) → suc room + level st ≡ deepest → TakesAll ts After (InCondition condition.Conditions ∷ st) → AreConditions room ts × After st
  conditions_of_taken none room st After e h = (no_condition room, h)
  conditions_of_taken (more c ts) room st After e h =
      let first = condition_of_taken c room (InCondition condition.Conditions ∷ st) (TakesAll ts After) (omega arith) (as_condition c st (TakesAll ts After) h) in
      let later = conditions_of_taken ts room st After e first.1 in
      (one_condition room c ts first.0 later.0, later.1)

-- ---- timed conditions

-- a moment and a condition after `at` are a timed condition
at_moment_of_taken : (last : Symbol) → Closes last → (ts : Nesteds) (room : ℕ) (st : List Symbol) (After : List Symbol → Type 0) → room + level (last ∷ st) ≡ deepest → TakesAll ts After (InEffect effect.StartOrEnd ∷ InCondition condition.Condition ∷ last ∷ st) → ((l : Lexeme) → l.mark ≡ mark.At → IsTimedCondition room (group (more (word l) ts))) × After st
at_moment_of_taken last closes none room st After e h = absurd h
at_moment_of_taken last closes (more (group us) ts) room st After e h = absurd h.1
at_moment_of_taken last closes (more (word m) none) room st After e h =
    absurd (one.moment_told (InCondition condition.Condition ∷ last ∷ st) (TakesAll none After) m.mark h).1
at_moment_of_taken last closes (more (word m) (more c ts)) room st After e h =
    let moment = one.moment_told (InCondition condition.Condition ∷ last ∷ st) (TakesAll (more c ts) After) m.mark h in
    let first = condition_of_taken c room (last ∷ st) (TakesAll ts After) e moment.1 in
    let end = closes ts st After first.1 in
    (λ l is. rw end.0 (at_moment room l m c is moment.0 first.0), end.1)

-- `all` and a condition after `over` are a timed condition
over_all_of_taken : (last : Symbol) → Closes last → (ts : Nesteds) (room : ℕ) (st : List Symbol) (After : List Symbol → Type 0) → room + level (last ∷ st) ≡ deepest → TakesAll ts After (The mark.All ∷ InCondition condition.Condition ∷ last ∷ st) → ((l : Lexeme) → l.mark ≡ mark.Over → IsTimedCondition room (group (more (word l) ts))) × After st
over_all_of_taken last closes none room st After e h = absurd h
over_all_of_taken last closes (more (group us) ts) room st After e h = absurd h.1
over_all_of_taken last closes (more (word m) none) room st After e h =
    absurd (one.the_told (InCondition condition.Condition ∷ last ∷ st) (TakesAll none After) mark.All m.mark h).1
over_all_of_taken last closes (more (word m) (more c ts)) room st After e h =
    let all = one.the_told (InCondition condition.Condition ∷ last ∷ st) (TakesAll (more c ts) After) mark.All m.mark h in
    let first = condition_of_taken c room (last ∷ st) (TakesAll ts After) e all.1 in
    let end = closes ts st After first.1 in
    (λ l is. rw end.0 (over_all room l m c is all.0 first.0), end.1)

mutual
  -- what is taken where a timed condition within another is wanted is one
  part_of_taken : (t : Nested) (room : ℕ) (st : List Symbol) (After : List Symbol → Type 0) → room + suc (level st) ≡ deepest → Takes t After (InCondition condition.TimedList ∷ st) → IsPart room t × After (InCondition condition.TimedList ∷ st)
  part_of_taken (word l) room st After e h = absurd (no_word (InCondition condition.TimedList) refl st After l.mark h)
  part_of_taken (group ts) zero st After e h = absurd (omega (arith, h.0))
  part_of_taken (group none) (suc room) st After e h = (empty_part room, h.1)
  part_of_taken (group (more (group us) ts)) (suc room) st After e h = absurd h.1.1
  part_of_taken (group (more (word l) ts)) (suc room) st After e h =
      elim (one.timed_head_told (InCondition condition.TimedList ∷ st) (TakesAll ts After) l.mark h.1) [
        | inl all ↦
            let inside = parts_of_taken ts room (InCondition condition.TimedList ∷ st) After (omega arith) all.1 in
            (all_parts room l ts all.0 inside.0, inside.1)
        | inr (inl at) ↦
            let inside = at_moment_of_taken (The mark.Close) only_close ts room (InCondition condition.TimedList ∷ st) After (omega arith) at.1 in
            (timed_part room (group (more (word l) ts)) (inside.0 l at.0), inside.1)
        | inr (inr over) ↦
            let inside = over_all_of_taken (The mark.Close) only_close ts room (InCondition condition.TimedList ∷ st) After (omega arith) over.1 in
            (timed_part room (group (more (word l) ts)) (inside.0 l over.0), inside.1)
      ]

  parts_of_taken : (ts : Nesteds) (room : ℕ) (st : List Symbol) (After : List Symbol → Type 0) → room + suc (level st) ≡ deepest → TakesAll ts After (InCondition condition.TimedList ∷ st) → AreParts room ts × After st
  parts_of_taken none room st After e h = (no_part room, h)
  parts_of_taken (more t ts) room st After e h =
      let first = part_of_taken t room st (TakesAll ts After) e h in
      let later = parts_of_taken ts room st After e first.1 in
      (one_part room t ts first.0 later.0, later.1)

-- what is taken where an action's condition is wanted is one
pub condition_form_of_taken : (t : Nested) (room : ℕ) (st : List Symbol) (After : List Symbol → Type 0) → suc (suc room) + level st ≡ deepest → Takes t After (InCondition condition.Form ∷ st) → IsConditionForm (suc (suc room)) t × After st
condition_form_of_taken (word l) room st After e h = absurd (no_word (InCondition condition.Form) refl st After l.mark h)
condition_form_of_taken (group none) room st After e h = (empty_condition (suc room), h.1)
condition_form_of_taken (group (more (group us) ts)) room st After e h = absurd h.1.1
condition_form_of_taken (group (more (word l) ts)) room st After e h =
    elim (one.form_head_told st (TakesAll ts After) l.mark h.1) [
      | inl all ↦
          let inside = parts_of_taken ts (suc room) st After (omega arith) all.1 in
          (listed_condition (suc room) l ts all.0 inside.0, inside.1)
      | inr (inl at) ↦
          let inside = at_moment_of_taken (InEffect effect.FormEnd) form_end ts room st After (omega arith) at.1 in
          (lone_condition room (group (more (word l) ts)) (inside.0 l at.0), inside.1)
      | inr (inr over) ↦
          let inside = over_all_of_taken (InEffect effect.FormEnd) form_end ts room st After (omega arith) over.1 in
          (lone_condition room (group (more (word l) ts)) (inside.0 l over.0), inside.1)
    ]

-- ---- effects

-- an effect of several is one
as_effect : (reach : Reach) (t : Nested) (st : List Symbol) (After : List Symbol → Type 0) → Takes t After (InEffect (effect.Effects reach) ∷ st) → Takes t After (InEffect (effect.Effect reach) ∷ InEffect (effect.Effects reach) ∷ st)
as_effect reach (word l) st After h = absurd (no_word (InEffect (effect.Effects reach)) refl st After l.mark h)
as_effect reach (group ts) st After h = (omega (arith, h.0), h.1)

-- what is taken where the symbol is wanted is terms
abbrev GivesTerms : Symbol → Type 1
GivesTerms terms = (ts : Nesteds) (st : List Symbol) (After : List Symbol → Type 0) → TakesAll ts After (terms ∷ st) → AreTerms ts × After st

lone_terms_of_taken : GivesTerms (InEffect effect.LoneTerms)
lone_terms_of_taken none st After h = (no_argument, h)
lone_terms_of_taken (more (word l) ts) st After h =
    let first = one.lone_term_told st (TakesAll ts After) l.mark h in
    let later = lone_terms_of_taken ts st After first.1 in
    (one_argument l ts first.0 later.0, later.1)
lone_terms_of_taken (more (group us) ts) st After h = absurd h.1

module _ (last : Symbol) (closes : Closes last) (reach : Reach) (room : ℕ) (st : List Symbol) (e : room + level (last ∷ st) ≡ deepest) where
  -- an atom after `not` is a deletion
  deletion_of_taken : (ts : Nesteds) (After : List Symbol → Type 0) → TakesAll ts After (InValue value.Atom ∷ last ∷ st) → ((l : Lexeme) → l.mark ≡ mark.Not → IsOneEffect reach (suc room) (group (more (word l) ts))) × After st
  deletion_of_taken none After h = absurd h
  deletion_of_taken (more a ts) After h =
      let first = atom_of_taken a room (last ∷ st) (TakesAll ts After) e h in
      let end = closes ts st After first.1 in
      (λ l is. rw end.0 (deletion reach room l a is first.0), end.1)

  -- an atom and a value after a change's name are a change
  change_of_taken : (ts : Nesteds) (After : List Symbol → Type 0) → TakesAll ts After (InValue value.Atom ∷ InValue value.Value ∷ last ∷ st) → ((l : Lexeme) → is_change l.mark ≡ true → IsOneEffect reach (suc room) (group (more (word l) ts))) × After st
  change_of_taken none After h = absurd h
  change_of_taken (more a none) After h = absurd (atom_of_taken a room (InValue value.Value ∷ last ∷ st) (TakesAll none After) (omega (arith, e)) h).1
  change_of_taken (more a (more x ts)) After h =
      let first = atom_of_taken a room (InValue value.Value ∷ last ∷ st) (TakesAll (more x ts) After) (omega (arith, e)) h in
      let second = value_of_taken x room (last ∷ st) (TakesAll ts After) e first.1 in
      let end = closes ts st After second.1 in
      (λ l is. rw end.0 (change reach room l a x is first.0 second.0), end.1)

mutual
  -- what is taken where an effect is wanted is one
  effect_of_taken : (reach : Reach) (t : Nested) (room : ℕ) (st : List Symbol) (After : List Symbol → Type 0) → room + level st ≡ deepest → Takes t After (InEffect (effect.Effect reach) ∷ st) → IsEffectOf reach room t × After st
  effect_of_taken reach (word l) room st After e h = absurd (no_word (InEffect (effect.Effect reach)) refl st After l.mark h)
  effect_of_taken reach (group ts) zero st After e h = absurd (omega (arith, h.0))
  effect_of_taken reach (group none) (suc room) st After e h = absurd h.1
  effect_of_taken reach (group (more (group us) ts)) (suc room) st After e h = absurd h.1.1
  effect_of_taken reach (group (more (word l) ts)) (suc room) st After e h =
      elim (one.effect_head_told st (TakesAll ts After) reach l.mark h.1) [
        | inl all ↦
            let inside = effects_of_taken reach ts room st After e all.1 in
            (all_effects reach room l ts all.0 inside.0, inside.1)
        | inr head ↦
            let own = one_effect_of_taken reach l ts (InValue value.Terms) (The mark.Close) terms_of_taken only_close room st After (omega arith) head in
            (single reach (suc room) (group (more (word l) ts)) own.0, own.1)
      ]

  -- what is taken after the head of an effect makes one
  one_effect_of_taken : (reach : Reach) (l : Lexeme) (ts : Nesteds) (terms last : Symbol) → GivesTerms terms → Closes last → (room : ℕ) (st : List Symbol) (After : List Symbol → Type 0) → room + level (last ∷ st) ≡ deepest → one.IsHead st (TakesAll ts After) reach terms last l.mark → IsOneEffect reach (suc room) (group (more (word l) ts)) × After st
  one_effect_of_taken reach l ts terms last gives closes room st After e (inl (inl denied)) =
      let inside = deletion_of_taken last closes reach room st e ts After denied.1 in
      (inside.0 l denied.0, inside.1)
  one_effect_of_taken reach l ts terms last gives closes room st After e (inl (inr changed)) =
      let inside = change_of_taken last closes reach room st e ts After changed.1 in
      (inside.0 l changed.0, inside.1)
  one_effect_of_taken reach l none terms last gives closes room st After e (inr (inl (inl held))) = absurd held.1
  one_effect_of_taken reach l (more c none) terms last gives closes room st After e (inr (inl (inl held))) =
      absurd (condition_of_taken c room (InEffect (effect.Body Plain) ∷ last ∷ st) (TakesAll none After) (omega arith) held.1).1
  one_effect_of_taken reach l (more c (more t ts)) terms last gives closes room st After e (inr (inl (inl held))) =
      let first = condition_of_taken c room (InEffect (effect.Body Plain) ∷ last ∷ st) (TakesAll (more t ts) After) (omega arith) held.1 in
      let second = body_of_taken Plain t room (last ∷ st) (TakesAll ts After) e first.1 in
      let end = closes ts st After second.1 in
      (rw end.0 (conditional reach room l c t held.0.0 held.0.1 first.0 second.0), end.1)
  one_effect_of_taken reach l none terms last gives closes room st After e (inr (inl (inr each))) = absurd each.1
  one_effect_of_taken reach l (more v none) terms last gives closes room st After e (inr (inl (inr each))) =
      absurd (bound_of_taken v (InEffect (effect.Body Guarded) ∷ last ∷ st) (TakesAll none After) each.1).after
  one_effect_of_taken reach l (more v (more t ts)) terms last gives closes room st After e (inr (inl (inr each))) =
      let bound = bound_of_taken v (InEffect (effect.Body Guarded) ∷ last ∷ st) (TakesAll (more t ts) After) each.1 in
      let second = body_of_taken Guarded t room (last ∷ st) (TakesAll ts After) e bound.after in
      let end = closes ts st After second.1 in
      let made : IsOneEffect reach (suc room) (group (more (word l) (more (group bound.inside) (more t ts)))) =
      subst (λ (x : Nesteds). IsOneEffect reach (suc room) (group (more (word l) (more (group bound.inside) (more t x))))) (sym end.0) (for_each reach room l bound.inside t each.0.0 each.0.1 bound.typed second.0) in
      (subst (λ (x : Nested). IsOneEffect reach (suc room) (group (more (word l) (more x (more t ts))))) bound.is made, end.1)
  one_effect_of_taken reach l ts terms last gives closes room st After e (inr (inr name)) =
      let inside = gives ts st After name.1 in
      (addition reach room l ts name.0 inside.0, inside.1)

  effects_of_taken : (reach : Reach) (ts : Nesteds) (room : ℕ) (st : List Symbol) (After : List Symbol → Type 0) → suc room + level st ≡ deepest → TakesAll ts After (InEffect (effect.Effects reach) ∷ st) → AreEffectsOf reach room ts × After st
  effects_of_taken reach none room st After e h = (no_effect reach room, h)
  effects_of_taken reach (more t ts) room st After e h =
      let first = effect_of_taken reach t room (InEffect (effect.Effects reach) ∷ st) (TakesAll ts After) (omega arith) (as_effect reach t st (TakesAll ts After) h) in
      let later = effects_of_taken reach ts room st After e first.1 in
      (one_effect reach room t ts first.0 later.0, later.1)

  -- what is taken where a body is wanted is one
  body_of_taken : (reach : Reach) (t : Nested) (room : ℕ) (st : List Symbol) (After : List Symbol → Type 0) → room + level st ≡ deepest → Takes t After (InEffect (effect.Body reach) ∷ st) → IsBody reach room t × After st
  body_of_taken reach (word l) room st After e h = absurd (no_word (InEffect (effect.Body reach)) refl st After l.mark h)
  body_of_taken reach (group ts) zero st After e h = absurd (omega (arith, h.0))
  body_of_taken reach (group none) (suc room) st After e h = absurd h.1
  body_of_taken reach (group (more (group us) ts)) (suc room) st After e h = absurd h.1.1
  body_of_taken reach (group (more (word l) ts)) (suc zero) st After e h =
      elim (one.body_head_told st (TakesAll ts After) reach l.mark h.1) [
        | inl all ↦
            let inside = effects_of_taken reach ts zero st After e all.1 in
            (listed_body reach zero l ts all.0 inside.0, inside.1)
        | inr head ↦ absurd (omega (arith, e, head.0))
      ]
  body_of_taken reach (group (more (word l) ts)) (suc (suc room)) st After e h =
      elim (one.body_head_told st (TakesAll ts After) reach l.mark h.1) [
        | inl all ↦
            let inside = effects_of_taken reach ts (suc room) st After e all.1 in
            (listed_body reach (suc room) l ts all.0 inside.0, inside.1)
        | inr head ↦
            let own = one_effect_of_taken reach l ts (InEffect effect.LoneTerms) (InEffect effect.FormEnd) lone_terms_of_taken form_end room st After (omega arith) head.1 in
            (lone_body reach (suc room) (group (more (word l) ts)) own.0, own.1)
      ]

-- ---- timed effects

-- a moment and an effect after `at` are a timed effect
timed_effect_of_taken : (last : Symbol) → Closes last → (ts : Nesteds) (room : ℕ) (st : List Symbol) (After : List Symbol → Type 0) → room + level (last ∷ st) ≡ deepest → TakesAll ts After (InEffect effect.StartOrEnd ∷ InEffect (effect.Effect Spread) ∷ last ∷ st) → ((l : Lexeme) → l.mark ≡ mark.At → IsTimedEffect room (group (more (word l) ts))) × After st
timed_effect_of_taken last closes none room st After e h = absurd h
timed_effect_of_taken last closes (more (group us) ts) room st After e h = absurd h.1
timed_effect_of_taken last closes (more (word m) none) room st After e h =
    absurd (one.moment_told (InEffect (effect.Effect Spread) ∷ last ∷ st) (TakesAll none After) m.mark h).1
timed_effect_of_taken last closes (more (word m) (more t ts)) room st After e h =
    let moment = one.moment_told (InEffect (effect.Effect Spread) ∷ last ∷ st) (TakesAll (more t ts) After) m.mark h in
    let first = effect_of_taken Spread t room (last ∷ st) (TakesAll ts After) e moment.1 in
    let end = closes ts st After first.1 in
    (λ l is. rw end.0 (effect_at room l m t is moment.0 first.0), end.1)

mutual
  -- what is taken where a timed effect within another is wanted is one
  timed_change_of_taken : (t : Nested) (room : ℕ) (st : List Symbol) (After : List Symbol → Type 0) → room + suc (level st) ≡ deepest → Takes t After (InEffect effect.TimedList ∷ st) → IsChange room t × After (InEffect effect.TimedList ∷ st)
  timed_change_of_taken (word l) room st After e h = absurd (no_word (InEffect effect.TimedList) refl st After l.mark h)
  timed_change_of_taken (group ts) zero st After e h = absurd (omega (arith, h.0))
  timed_change_of_taken (group none) (suc room) st After e h = (empty_change room, h.1)
  timed_change_of_taken (group (more (group us) ts)) (suc room) st After e h = absurd h.1.1
  timed_change_of_taken (group (more (word l) ts)) (suc room) st After e h =
      elim (one.timed_effect_head_told (InEffect effect.TimedList ∷ st) (TakesAll ts After) l.mark h.1) [
        | inl all ↦
            let inside = timed_changes_of_taken ts room (InEffect effect.TimedList ∷ st) After (omega arith) all.1 in
            (all_changes room l ts all.0 inside.0, inside.1)
        | inr at ↦
            let inside = timed_effect_of_taken (The mark.Close) only_close ts room (InEffect effect.TimedList ∷ st) After (omega arith) at.1 in
            (timed_change room (group (more (word l) ts)) (inside.0 l at.0), inside.1)
      ]

  timed_changes_of_taken : (ts : Nesteds) (room : ℕ) (st : List Symbol) (After : List Symbol → Type 0) → room + suc (level st) ≡ deepest → TakesAll ts After (InEffect effect.TimedList ∷ st) → AreChanges room ts × After st
  timed_changes_of_taken none room st After e h = (no_change room, h)
  timed_changes_of_taken (more t ts) room st After e h =
      let first = timed_change_of_taken t room st (TakesAll ts After) e h in
      let later = timed_changes_of_taken ts room st After e first.1 in
      (one_change room t ts first.0 later.0, later.1)

-- what is taken where an action's effect is wanted is one
pub effect_form_of_taken : (t : Nested) (room : ℕ) (st : List Symbol) (After : List Symbol → Type 0) → suc (suc room) + level st ≡ deepest → Takes t After (InEffect effect.Form ∷ st) → IsEffectForm (suc (suc room)) t × After st
effect_form_of_taken (word l) room st After e h = absurd (no_word (InEffect effect.Form) refl st After l.mark h)
effect_form_of_taken (group none) room st After e h = (empty_effect (suc room), h.1)
effect_form_of_taken (group (more (group us) ts)) room st After e h = absurd h.1.1
effect_form_of_taken (group (more (word l) ts)) room st After e h =
    elim (one.effect_form_head_told st (TakesAll ts After) l.mark h.1) [
      | inl all ↦
          let inside = timed_changes_of_taken ts (suc room) st After (omega arith) all.1 in
          (listed_effect (suc room) l ts all.0 inside.0, inside.1)
      | inr at ↦
          let inside = timed_effect_of_taken (InEffect effect.FormEnd) form_end ts room st After (omega arith) at.1 in
          (lone_effect room (group (more (word l) ts)) (inside.0 l at.0), inside.1)
    ]

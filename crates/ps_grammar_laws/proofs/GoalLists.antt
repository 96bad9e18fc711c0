-- What is taken where a fact, a value or a condition of a goal is wanted is one, and each is taken there.
use Rattle.std.proofs.Common.{◌≡◌, ℕ, zero, suc, ◌+◌, ◌≤◌, List, ◌∷◌, true, refl, ap, subst, ◌⊎◌, inl, inr, arith}
use Rattle.ps_grammar.specs.Marks.{is_goal_name, is_name, is_term}
use Rattle.ps_grammar.specs.Rules.{most_names}
use Rattle.ps_grammar.specs.Shape.{deepest}
use Rattle.ps_grammar.specs.Symbols.{level}
use Rattle.ps_grammar.specs.declared.marks.Mark.TheVariants as mark
use Rattle.ps_grammar.specs.declared.symbols.Symbol.{Symbol}
use Rattle.ps_grammar.specs.declared.symbols.Symbol.TheVariants.{The, InAction, InGoal}
use Rattle.ps_grammar.specs.declared.symbols.ActionPart.TheVariants.{Parameters}
use Rattle.ps_grammar.specs.declared.symbols.GoalPart.TheVariants as goal
use Rattle.ps_lists.specs.Conditions.{AreArguments, AreConditionsOf, IsAtomOf, IsConditionOf, IsValueOf, goals, is_operator, is_relation}
use Rattle.ps_lists.specs.Conditions.AreArguments.{no_argument, one_argument}
use Rattle.ps_lists.specs.Conditions.AreConditionsOf.{no_condition, one_condition}
use Rattle.ps_lists.specs.Conditions.IsAtomOf.{atom}
use Rattle.ps_lists.specs.Conditions.IsConditionOf.{a_fact, all_of, any_of, comparison, each_choice, implication, not_so, same, some_choice}
use Rattle.ps_lists.specs.Conditions.IsValueOf.{a_number, an_argument, an_atom, negation, operation}
use Rattle.ps_lists.specs.Nested.{Nested, Nesteds, word, group, none, more}
use Rattle.ps_lists.specs.Places.{count}
use Rattle.ps_lists.specs.TypedLists.{IsTypedList, is_variable}
use Rattle.ps_lists.specs.declared.lexemes.Lexeme.{Lexeme}
use Rattle.ps_lists.proofs.JudgedForms.{only_close}
use Rattle.ps_lists.proofs.OneWord as one
use Rattle.ps_lists.proofs.OneWord.{no_word}
use Rattle.ps_lists.proofs.Taking.{Takes, TakesAll}
use Rattle.ps_lists.proofs.VariableLists.{bound_of_taken, bound_taken}
use Rattle.ps_grammar_laws.proofs.GoalWords as here

-- ---- terms

-- what is taken where so many terms may stand is as many at most
names_of_taken : (ts : Nesteds) (most : ℕ) (st : List Symbol) (After : List Symbol → Type 0) → TakesAll ts After (InGoal (goal.Names most) ∷ st) → AreArguments ts × (count ts ≤ most) × After st
names_of_taken none most st After h = (no_argument, omega arith, h)
names_of_taken (more (word l) ts) zero st After h = absurd (no_word (InGoal (goal.Names 0)) refl st (TakesAll ts After) l.mark h)
names_of_taken (more (word l) ts) (suc most) st After h =
    let first = here.more_names_told st (TakesAll ts After) most l.mark h in
    let later = names_of_taken ts most st After first.1 in
    let few : count ts ≤ most = later.1 in
    (one_argument l ts first.0 later.0, omega arith, later.2)
names_of_taken (more (group us) ts) zero st After h = absurd h.1
names_of_taken (more (group us) ts) (suc most) st After h = absurd h.1

names_taken : (ts : Nesteds) (most : ℕ) → AreArguments ts → count ts ≤ most → (st : List Symbol) (After : List Symbol → Type 0) → After st → TakesAll ts After (InGoal (goal.Names most) ∷ st)
names_taken _ most no_argument few st After k = k
names_taken _ zero (one_argument l ts is later) few st After k = absurd (omega (arith, few))
names_taken _ (suc most) (one_argument l ts is later) few st After k =
    here.more_names_fit st (TakesAll ts After) most l.mark is (names_taken ts most later (omega (arith, few)) st After k)

-- ---- facts

pub atom_of_taken : (t : Nested) (room : ℕ) (st : List Symbol) (After : List Symbol → Type 0) → room + level st ≡ deepest → Takes t After (InGoal goal.Atom ∷ st) → IsAtomOf goals room t × After st
atom_of_taken (word l) room st After e h = absurd (no_word (InGoal goal.Atom) refl st After l.mark h)
atom_of_taken (group ts) zero st After e h = absurd (omega (arith, h.0))
atom_of_taken (group none) (suc room) st After e h = absurd h.1
atom_of_taken (group (more (group us) ts)) (suc room) st After e h = absurd h.1.1
atom_of_taken (group (more (word l) ts)) (suc room) st After e h =
    let name = one.name_told (InGoal (goal.Names most_names) ∷ st) (TakesAll ts After) l.mark h.1 in
    let later = names_of_taken ts most_names st After name.1 in
    (atom room l ts name.0 later.0 later.1, later.2)

pub atom_taken : (room : ℕ) (t : Nested) → IsAtomOf goals room t → (st : List Symbol) (After : List Symbol → Type 0) → room + level st ≡ deepest → After st → Takes t After (InGoal goal.Atom ∷ st)
atom_taken _ _ (atom room l ts name all few) st After e k =
    (omega arith, one.name_fits (InGoal (goal.Names most_names) ∷ st) (TakesAll ts After) l.mark name (names_taken ts most_names all few st After k))

-- ---- values

-- the last value is one with a parenthesis after it
last_value : (t : Nested) (st : List Symbol) (After : List Symbol → Type 0) → Takes t After (InGoal goal.ValueOrEnd ∷ st) → Takes t After (InGoal goal.Value ∷ The mark.Close ∷ st)
last_value (word l) st After h = here.last_number_told st After l.mark h
last_value (group us) st After h = (omega (arith, h.0), h.1)

taken_last : (t : Nested) (st : List Symbol) (After : List Symbol → Type 0) → Takes t After (InGoal goal.Value ∷ The mark.Close ∷ st) → Takes t After (InGoal goal.ValueOrEnd ∷ st)
taken_last (word l) st After h = here.last_number_fits st After l.mark h
taken_last (group us) st After h = (omega (arith, h.0), h.1)

-- a name and terms are a value
function_of_taken : (l : Lexeme) (ts : Nesteds) (room : ℕ) (st : List Symbol) (After : List Symbol → Type 0) → is_name l.mark ≡ true → TakesAll ts After (InGoal (goal.Names most_names) ∷ st) → IsValueOf goals (suc room) (group (more (word l) ts)) × After st
function_of_taken l ts room st After e h =
    let all = names_of_taken ts most_names st After h in
    (an_atom (suc room) (group (more (word l) ts)) (atom room l ts e all.0 all.1), all.2)

-- what is taken where a value is wanted is one
value_of_taken : (t : Nested) (room : ℕ) (st : List Symbol) (After : List Symbol → Type 0) → room + level st ≡ deepest → Takes t After (InGoal goal.Value ∷ st) → IsValueOf goals room t × After st
value_of_taken (word l) room st After e h =
    let number = here.number_told st After l.mark h in
    (a_number room l number.0, number.1)
value_of_taken (group ts) zero st After e h = absurd (omega (arith, h.0))
value_of_taken (group none) (suc room) st After e h = absurd h.1
value_of_taken (group (more (group us) ts)) (suc room) st After e h = absurd h.1.1
value_of_taken (group (more (word l) none)) (suc room) st After e h =
    elim (here.value_head_told st (TakesAll none After) l.mark h.1) [
      | inl minus ↦ absurd minus.1
      | inr (inl two) ↦ absurd two.1
      | inr (inr name) ↦ function_of_taken l none room st After name.0 name.1
    ]
value_of_taken (group (more (word l) (more x none))) (suc room) st After e h =
    elim (here.value_head_told st (TakesAll (more x none) After) l.mark h.1) [
      | inl minus ↦
          let first = value_of_taken x room (InGoal goal.ValueOrEnd ∷ st) (TakesAll none After) (omega arith) minus.1 in
          (negation room l x minus.0 first.0, first.1)
      | inr (inl two) ↦ absurd (value_of_taken x room (InGoal goal.Value ∷ The mark.Close ∷ st) (TakesAll none After) (omega arith) two.1).1
      | inr (inr name) ↦ function_of_taken l (more x none) room st After name.0 name.1
    ]
value_of_taken (group (more (word l) (more x (more y ts)))) (suc room) st After e h =
    elim (here.value_head_told st (TakesAll (more x (more y ts)) After) l.mark h.1) [
      | inl minus ↦
          let first = value_of_taken x room (InGoal goal.ValueOrEnd ∷ st) (TakesAll (more y ts) After) (omega arith) minus.1 in
          let second = value_of_taken y room (The mark.Close ∷ st) (TakesAll ts After) (omega arith) (last_value y st (TakesAll ts After) first.1) in
          let end = only_close ts st After second.1 in
          (rw end.0 (operation room l x y (ap is_operator minus.0) first.0 second.0), end.1)
      | inr (inl two) ↦
          let first = value_of_taken x room (InGoal goal.Value ∷ The mark.Close ∷ st) (TakesAll (more y ts) After) (omega arith) two.1 in
          let second = value_of_taken y room (The mark.Close ∷ st) (TakesAll ts After) (omega arith) first.1 in
          let end = only_close ts st After second.1 in
          (rw end.0 (operation room l x y two.0 first.0 second.0), end.1)
      | inr (inr name) ↦ function_of_taken l (more x (more y ts)) room st After name.0 name.1
    ]

atom_taken_as_value : (room : ℕ) (t : Nested) → IsAtomOf goals room t → (st : List Symbol) (After : List Symbol → Type 0) → room + level st ≡ deepest → After st → Takes t After (InGoal goal.Value ∷ st)
atom_taken_as_value _ _ (atom room l ts name all few) st After e k =
    (omega arith, here.function_fits st (TakesAll ts After) l.mark name (names_taken ts most_names all few st After k))

value_taken : (room : ℕ) (t : Nested) → IsValueOf goals room t → (st : List Symbol) (After : List Symbol → Type 0) → room + level st ≡ deepest → After st → Takes t After (InGoal goal.Value ∷ st)
value_taken _ _ (a_number room l is) st After e k = one.at_mark st After (InGoal goal.Value) l.mark mark.Number is k
value_taken _ _ (an_argument room l may is) st After e k = absurd (cc)
value_taken _ _ (an_atom room t a) st After e k = atom_taken_as_value room t a st After e k
value_taken _ _ (negation room l x is v) st After e k =
    (omega arith, one.at_mark st (TakesAll (more x none) After) (InGoal goal.ValueHead) l.mark mark.Minus is (value_taken room x v (InGoal goal.ValueOrEnd ∷ st) (TakesAll none After) (omega arith) k))
value_taken _ _ (operation room l x y is v w) st After e k =
    let last : Takes y (TakesAll none After) (InGoal goal.Value ∷ The mark.Close ∷ st) = value_taken room y w (The mark.Close ∷ st) (TakesAll none After) (omega arith) k in (
      omega arith,
      here.operator_fits st (TakesAll (more x (more y none)) After) l.mark is (value_taken room x v (InGoal goal.ValueOrEnd ∷ st) (TakesAll (more y none) After) (omega arith) (taken_last y st (TakesAll none After) last)) (value_taken room x v (InGoal goal.Value ∷ The mark.Close ∷ st) (TakesAll (more y none) After) (omega arith) last),
    )

-- ---- comparisons

-- two values after a relation are a comparison
comparison_of_taken : (ts : Nesteds) (room : ℕ) (st : List Symbol) (After : List Symbol → Type 0) → suc room + level st ≡ deepest → TakesAll ts After (InGoal goal.Value ∷ InGoal goal.Value ∷ The mark.Close ∷ st) → ((l : Lexeme) → is_relation l.mark ≡ true → IsConditionOf goals (suc room) (group (more (word l) ts))) × After st
comparison_of_taken none room st After e h = absurd h
comparison_of_taken (more x none) room st After e h = absurd (value_of_taken x room (InGoal goal.Value ∷ The mark.Close ∷ st) (TakesAll none After) (omega arith) h).1
comparison_of_taken (more x (more y ts)) room st After e h =
    let first = value_of_taken x room (InGoal goal.Value ∷ The mark.Close ∷ st) (TakesAll (more y ts) After) (omega arith) h in
    let second = value_of_taken y room (The mark.Close ∷ st) (TakesAll ts After) (omega arith) first.1 in
    let end = only_close ts st After second.1 in
    (λ l relation. rw end.0 (comparison room l x y relation first.0 second.0), end.1)

-- one term more and a parenthesis after a term are two terms that are compared
term_of_taken : (l m : Lexeme) (ts : Nesteds) (room : ℕ) (st : List Symbol) (After : List Symbol → Type 0) → l.mark ≡ mark.Equal → is_term m.mark ≡ true → TakesAll ts After (InGoal goal.Term ∷ The mark.Close ∷ st) → IsConditionOf goals (suc room) (group (more (word l) (more (word m) ts))) × After st
term_of_taken l m none room st After equal is h = absurd h
term_of_taken l m (more (group us) ts) room st After equal is h = absurd h.1
term_of_taken l m (more (word n) ts) room st After equal is h =
    let term = here.term_told (The mark.Close ∷ st) (TakesAll ts After) n.mark h in
    let end = only_close ts st After term.1 in
    (rw end.0 (same room l m n equal is term.0), end.1)

-- a number or a list where operands are wanted is the first of two values
first_number : (m : Lexeme) (ts : Nesteds) (st : List Symbol) (After : List Symbol → Type 0) → m.mark ≡ mark.Number → TakesAll ts After (InGoal goal.Value ∷ The mark.Close ∷ st) → TakesAll (more (word m) ts) After (InGoal goal.Value ∷ InGoal goal.Value ∷ The mark.Close ∷ st)
first_number m ts st After is h = one.at_mark (InGoal goal.Value ∷ The mark.Close ∷ st) (TakesAll ts After) (InGoal goal.Value) m.mark mark.Number is h

equality_of_taken : (l : Lexeme) (ts : Nesteds) (room : ℕ) (st : List Symbol) (After : List Symbol → Type 0) → l.mark ≡ mark.Equal → suc room + level st ≡ deepest → TakesAll ts After (InGoal goal.FirstOperand ∷ st) → IsConditionOf goals (suc room) (group (more (word l) ts)) × After st
equality_of_taken l none room st After equal e h = absurd h
equality_of_taken l (more (group us) ts) room st After equal e h =
    let both = comparison_of_taken (more (group us) ts) room st After e (omega (arith, h.0), h.1) in
    (both.0 l (ap is_relation equal), both.1)
equality_of_taken l (more (word m) ts) room st After equal e h =
    elim (here.operand_told st (TakesAll ts After) m.mark h) [
      | inl number ↦
          let both = comparison_of_taken (more (word m) ts) room st After e (first_number m ts st After number.0 number.1) in
          (both.0 l (ap is_relation equal), both.1)
      | inr term ↦ term_of_taken l m ts room st After equal term.0 term.1
    ]

-- two values are taken where operands are wanted
operands_taken : (x y : Nested) (room : ℕ) → IsValueOf goals room x → (st : List Symbol) (After : List Symbol → Type 0) → TakesAll (more x (more y none)) After (InGoal goal.Value ∷ InGoal goal.Value ∷ The mark.Close ∷ st) → TakesAll (more x (more y none)) After (InGoal goal.FirstOperand ∷ st)
operands_taken (word l) y room v st After h =
    let number = here.number_told (InGoal goal.Value ∷ The mark.Close ∷ st) (TakesAll (more y none) After) l.mark h in
    one.at_mark st (TakesAll (more y none) After) (InGoal goal.FirstOperand) l.mark mark.Number number.0 number.1
operands_taken (group us) y room v st After h = (omega (arith, h.0), h.1)

-- ---- conditions

-- a quantifier by its word
choice_of : (room : ℕ) (l : Lexeme) (vs : Nesteds) (c : Nested) → (l.mark ≡ mark.Exists) ⊎ (l.mark ≡ mark.Forall) → IsTypedList is_variable vs → IsConditionOf goals room c → IsConditionOf goals (suc room) (group (more (word l) (more (group vs) (more c none))))
choice_of room l vs c (inl is) typed own = some_choice room l vs c is typed own
choice_of room l vs c (inr is) typed own = each_choice room l vs c is typed own

-- a condition of several is one
as_condition : (t : Nested) (st : List Symbol) (After : List Symbol → Type 0) → Takes t After (InGoal goal.Conditions ∷ st) → Takes t After (InGoal goal.Condition ∷ InGoal goal.Conditions ∷ st)
as_condition (word l) st After h = absurd (no_word (InGoal goal.Conditions) refl st After l.mark h)
as_condition (group ts) st After h = (omega (arith, h.0), h.1)

-- a condition is one of several
taken_among : (t : Nested) (st : List Symbol) (After : List Symbol → Type 0) → Takes t After (InGoal goal.Condition ∷ InGoal goal.Conditions ∷ st) → Takes t After (InGoal goal.Conditions ∷ st)
taken_among (word l) st After h = absurd (no_word (InGoal goal.Condition) refl (InGoal goal.Conditions ∷ st) After l.mark h)
taken_among (group ts) st After h = (omega (arith, h.0), h.1)

-- a name and terms are a fact
fact_of_taken : (l : Lexeme) (ts : Nesteds) (room : ℕ) (st : List Symbol) (After : List Symbol → Type 0) → is_goal_name l.mark ≡ true → TakesAll ts After (InGoal (goal.Names most_names) ∷ st) → IsConditionOf goals (suc room) (group (more (word l) ts)) × After st
fact_of_taken l ts room st After e h =
    let all = names_of_taken ts most_names st After h in
    (a_fact room l ts e all.0 all.1, all.2)

mutual
  -- what is taken where a condition is wanted is one
  pub condition_of_taken : (t : Nested) (room : ℕ) (st : List Symbol) (After : List Symbol → Type 0) → room + level st ≡ deepest → Takes t After (InGoal goal.Condition ∷ st) → IsConditionOf goals room t × After st
  condition_of_taken (word l) room st After e h = absurd (no_word (InGoal goal.Condition) refl st After l.mark h)
  condition_of_taken (group ts) zero st After e h = absurd (omega (arith, h.0))
  condition_of_taken (group none) (suc room) st After e h = absurd h.1
  condition_of_taken (group (more (group us) ts)) (suc room) st After e h = absurd h.1.1
  condition_of_taken (group (more (word l) none)) (suc room) st After e h =
      elim (here.goal_head_told st (TakesAll none After) l.mark h.1) [
        | inl (inl (inl all)) ↦ (all_of room l none all.0 (no_condition room), all.1)
        | inl (inl (inr any)) ↦ (any_of room l none any.0 (no_condition room), any.1)
        | inl (inr (inl denied)) ↦ absurd denied.1
        | inl (inr (inr implied)) ↦ absurd implied.1
        | inr (inl choice) ↦ absurd choice.1
        | inr (inr (inl equal)) ↦ absurd equal.1
        | inr (inr (inr (inl two))) ↦ absurd two.1
        | inr (inr (inr (inr name))) ↦ fact_of_taken l none room st After name.0 name.1
      ]
  condition_of_taken (group (more (word l) (more c ts))) (suc room) st After e h =
      elim (here.goal_head_told st (TakesAll (more c ts) After) l.mark h.1) [
        | inl (inl (inl all)) ↦
            let first = condition_of_taken c room (InGoal goal.Conditions ∷ st) (TakesAll ts After) (omega arith) (as_condition c st (TakesAll ts After) all.1) in
            let later = conditions_of_taken ts room st After e first.1 in
            (all_of room l (more c ts) all.0 (one_condition room c ts first.0 later.0), later.1)
        | inl (inl (inr any)) ↦
            let first = condition_of_taken c room (InGoal goal.Conditions ∷ st) (TakesAll ts After) (omega arith) (as_condition c st (TakesAll ts After) any.1) in
            let later = conditions_of_taken ts room st After e first.1 in
            (any_of room l (more c ts) any.0 (one_condition room c ts first.0 later.0), later.1)
        | inl (inr (inl denied)) ↦
            let first = condition_of_taken c room (The mark.Close ∷ st) (TakesAll ts After) (omega arith) denied.1 in
            let end = only_close ts st After first.1 in
            (rw end.0 (not_so room l c denied.0 first.0), end.1)
        | inl (inr (inr implied)) ↦
            let first = condition_of_taken c room (InGoal goal.Condition ∷ The mark.Close ∷ st) (TakesAll ts After) (omega arith) implied.1 in
            let later = implied_of_taken ts room st After e first.1 in
            (later.0 l c implied.0 first.0, later.1)
        | inr (inl choice) ↦
            let bound = bound_of_taken c (InGoal goal.Condition ∷ The mark.Close ∷ st) (TakesAll ts After) choice.1 in
            let later = quantified_of_taken ts room st After e bound.after in
            (subst (λ (t : Nested). IsConditionOf goals (suc room) (group (more (word l) (more t ts)))) bound.is (later.0 l bound.inside choice.0 bound.typed), later.1)
        | inr (inr (inl equal)) ↦ equality_of_taken l (more c ts) room st After equal.0 e equal.1
        | inr (inr (inr (inl two))) ↦
            let both = comparison_of_taken (more c ts) room st After e two.1 in
            (both.0 l two.0, both.1)
        | inr (inr (inr (inr name))) ↦ fact_of_taken l (more c ts) room st After name.0 name.1
      ]

  -- what follows the first condition of an implication
  implied_of_taken : (ts : Nesteds) (room : ℕ) (st : List Symbol) (After : List Symbol → Type 0) → suc room + level st ≡ deepest → TakesAll ts After (InGoal goal.Condition ∷ The mark.Close ∷ st) → ((l : Lexeme) (a : Nested) → l.mark ≡ mark.Imply → IsConditionOf goals room a → IsConditionOf goals (suc room) (group (more (word l) (more a ts)))) × After st
  implied_of_taken none room st After e h = absurd h
  implied_of_taken (more b ts) room st After e h =
      let first = condition_of_taken b room (The mark.Close ∷ st) (TakesAll ts After) (omega arith) h in
      let end = only_close ts st After first.1 in
      (λ l a is own. rw end.0 (implication room l a b is own first.0), end.1)

  -- what follows the variables of a quantifier
  quantified_of_taken : (ts : Nesteds) (room : ℕ) (st : List Symbol) (After : List Symbol → Type 0) → suc room + level st ≡ deepest → TakesAll ts After (InGoal goal.Condition ∷ The mark.Close ∷ st) → ((l : Lexeme) (vs : Nesteds) → (l.mark ≡ mark.Exists) ⊎ (l.mark ≡ mark.Forall) → IsTypedList is_variable vs → IsConditionOf goals (suc room) (group (more (word l) (more (group vs) ts)))) × After st
  quantified_of_taken none room st After e h = absurd h
  quantified_of_taken (more c ts) room st After e h =
      let first = condition_of_taken c room (The mark.Close ∷ st) (TakesAll ts After) (omega arith) h in
      let end = only_close ts st After first.1 in
      (λ l vs is typed. rw end.0 (choice_of room l vs c is typed first.0), end.1)

  conditions_of_taken : (ts : Nesteds) (room : ℕ) (st : List Symbol) (After : List Symbol → Type 0) → suc room + level st ≡ deepest → TakesAll ts After (InGoal goal.Conditions ∷ st) → AreConditionsOf goals room ts × After st
  conditions_of_taken none room st After e h = (no_condition room, h)
  conditions_of_taken (more c ts) room st After e h =
      let first = condition_of_taken c room (InGoal goal.Conditions ∷ st) (TakesAll ts After) (omega arith) (as_condition c st (TakesAll ts After) h) in
      let later = conditions_of_taken ts room st After e first.1 in
      (one_condition room c ts first.0 later.0, later.1)

-- a condition opens a parenthesis at least
condition_opens : (room : ℕ) (t : Nested) → IsConditionOf goals room t → 1 ≤ room
condition_opens _ _ (all_of room l ts is all) = omega arith
condition_opens _ _ (any_of room l ts is all) = omega arith
condition_opens _ _ (not_so room l c is other) = omega arith
condition_opens _ _ (implication room l a b is first second) = omega arith
condition_opens _ _ (some_choice room l vs c is typed own) = omega arith
condition_opens _ _ (each_choice room l vs c is typed own) = omega arith
condition_opens _ _ (a_fact room l ts is all few) = omega arith
condition_opens _ _ (same room l m n is first second) = omega arith
condition_opens _ _ (comparison room l x y is v w) = omega arith

-- the variables of a quantifier and its condition are taken, where the condition is
quantified_taken : (room : ℕ) (vs : Nesteds) (c : Nested) → IsTypedList is_variable vs → 1 ≤ room → (st : List Symbol) (After : List Symbol → Type 0) → suc room + level st ≡ deepest → Takes c (TakesAll none After) (InGoal goal.Condition ∷ The mark.Close ∷ st)
    → TakesAll (more (group vs) (more c none)) After (InAction Parameters ∷ InGoal goal.Condition ∷ The mark.Close ∷ st)
quantified_taken room vs c typed some st After e own = bound_taken vs typed (InGoal goal.Condition ∷ The mark.Close ∷ st) (TakesAll (more c none) After) (omega (arith, some)) own

mutual
  -- each condition is taken where one is wanted
  pub condition_taken : (room : ℕ) (t : Nested) → IsConditionOf goals room t → (st : List Symbol) (After : List Symbol → Type 0) → room + level st ≡ deepest → After st → Takes t After (InGoal goal.Condition ∷ st)
  condition_taken _ _ (all_of room l ts is all) st After e k =
      (omega arith, one.at_mark st (TakesAll ts After) (InGoal goal.Head) l.mark mark.And is (conditions_taken room ts all st After e k))
  condition_taken _ _ (any_of room l ts is all) st After e k =
      (omega arith, one.at_mark st (TakesAll ts After) (InGoal goal.Head) l.mark mark.Or is (conditions_taken room ts all st After e k))
  condition_taken _ _ (not_so room l c is other) st After e k =
      (omega arith, one.at_mark st (TakesAll (more c none) After) (InGoal goal.Head) l.mark mark.Not is (condition_taken room c other (The mark.Close ∷ st) (TakesAll none After) (omega arith) k))
  condition_taken _ _ (implication room l a b is first second) st After e k =
      let last : Takes b (TakesAll none After) (InGoal goal.Condition ∷ The mark.Close ∷ st) = condition_taken room b second (The mark.Close ∷ st) (TakesAll none After) (omega arith) k in
      (omega arith, one.at_mark st (TakesAll (more a (more b none)) After) (InGoal goal.Head) l.mark mark.Imply is (condition_taken room a first (InGoal goal.Condition ∷ The mark.Close ∷ st) (TakesAll (more b none) After) (omega arith) last))
  condition_taken _ _ (some_choice room l vs c is typed own) st After e k =
      (omega arith, one.at_mark st (TakesAll (more (group vs) (more c none)) After) (InGoal goal.Head) l.mark mark.Exists is (quantified_taken room vs c typed (condition_opens room c own) st After e (condition_taken room c own (The mark.Close ∷ st) (TakesAll none After) (omega arith) k)))
  condition_taken _ _ (each_choice room l vs c is typed own) st After e k =
      (omega arith, one.at_mark st (TakesAll (more (group vs) (more c none)) After) (InGoal goal.Head) l.mark mark.Forall is (quantified_taken room vs c typed (condition_opens room c own) st After e (condition_taken room c own (The mark.Close ∷ st) (TakesAll none After) (omega arith) k)))
  condition_taken _ _ (a_fact room l ts is all few) st After e k =
      (omega arith, here.fact_fits st (TakesAll ts After) l.mark is (names_taken ts most_names all few st After k))
  condition_taken _ _ (same room l m n is first second) st After e k =
      (omega arith, one.at_mark st (TakesAll (more (word m) (more (word n) none)) After) (InGoal goal.Head) l.mark mark.Equal is (here.first_term_fits st (TakesAll (more (word n) none) After) m.mark first (here.term_fits (The mark.Close ∷ st) (TakesAll none After) n.mark second k)))
  condition_taken _ _ (comparison room l x y is v w) st After e k =
      let two : TakesAll (more x (more y none)) After (InGoal goal.Value ∷ InGoal goal.Value ∷ The mark.Close ∷ st) = value_taken room x v (InGoal goal.Value ∷ The mark.Close ∷ st) (TakesAll (more y none) After) (omega arith) (value_taken room y w (The mark.Close ∷ st) (TakesAll none After) (omega arith) k) in
      (omega arith, here.relation_fits st (TakesAll (more x (more y none)) After) l.mark is (operands_taken x y room v st After two) two)

  conditions_taken : (room : ℕ) (ts : Nesteds) → AreConditionsOf goals room ts → (st : List Symbol) (After : List Symbol → Type 0) → suc room + level st ≡ deepest → After st → TakesAll ts After (InGoal goal.Conditions ∷ st)
  conditions_taken _ _ (no_condition room) st After e k = k
  conditions_taken _ _ (one_condition room c cs first later) st After e k =
      taken_among c st (TakesAll cs After) (condition_taken room c first (InGoal goal.Conditions ∷ st) (TakesAll cs After) (omega arith) (conditions_taken room cs later st After e k))

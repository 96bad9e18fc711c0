-- Lists of variables, alone and in parentheses: what is taken where one is wanted is one, and each is taken there.
use Rattle.std.proofs.Common.{◌≡◌, ◌<◌, List, ◌∷◌, refl, inl, inr, arith}
use Rattle.ps_grammar.specs.Shape.{deepest}
use Rattle.ps_grammar.specs.Symbols.{level}
use Rattle.ps_grammar.specs.declared.marks.Mark.TheVariants as mark
use Rattle.ps_grammar.specs.declared.symbols.Symbol.{Symbol}
use Rattle.ps_grammar.specs.declared.symbols.Symbol.TheVariants.{InAction, InList}
use Rattle.ps_grammar.specs.declared.symbols.ActionPart.TheVariants.{Parameters}
use Rattle.ps_grammar.specs.declared.symbols.ListPart.TheVariants as list
use Rattle.ps_lists.specs.TypedLists.{IsTypedList, IsRun, is_variable}
use Rattle.ps_lists.specs.TypedLists.IsTypedList.{no_name, first_name}
use Rattle.ps_lists.specs.TypedLists.IsRun.{run_end, next_name, type_name}
use Rattle.ps_lists.specs.Nested.{Nested, Nesteds, word, group, none, more}
use Rattle.ps_lists.specs.declared.lexemes.Lexeme.{Lexeme}
use Rattle.ps_lists.proofs.OneWord as one
use Rattle.ps_lists.proofs.OneWord.{no_word}
use Rattle.ps_lists.proofs.Taking.{Takes, TakesAll}

mutual
  pub variables_taken : (ts : Nesteds) → IsTypedList is_variable ts → (st : List Symbol) (After : List Symbol → Type 0) → After st → TakesAll ts After (InList list.Variables ∷ st)
  variables_taken _ (no_name _) st After k = k
  variables_taken _ (first_name _ l ts is later) st After k = one.first_variable_fits st (TakesAll ts After) l.mark is (run_of_variables_taken ts later st After k)

  run_of_variables_taken : (ts : Nesteds) → IsRun is_variable ts → (st : List Symbol) (After : List Symbol → Type 0) → After st → TakesAll ts After (InList list.VariableRun ∷ st)
  run_of_variables_taken _ (run_end _) st After k = k
  run_of_variables_taken _ (next_name _ l ts is later) st After k = one.next_variable_fits st (TakesAll ts After) l.mark is (run_of_variables_taken ts later st After k)
  run_of_variables_taken _ (type_name _ l m ts minus name later) st After k =
      one.at_mark st (TakesAll (more (word m) ts) After) (InList list.VariableRun) l.mark mark.Minus minus (one.type_fits (InList list.Variables ∷ st) (TakesAll ts After) m.mark name (variables_taken ts later st After k))

mutual
  -- what is taken where a list of variables is wanted is one
  pub variables_of_taken : (ts : Nesteds) (st : List Symbol) (After : List Symbol → Type 0) → TakesAll ts After (InList list.Variables ∷ st) → IsTypedList is_variable ts × After st
  variables_of_taken none st After h = (no_name is_variable, h)
  variables_of_taken (more (group us) ts) st After h = absurd h.1
  variables_of_taken (more (word l) ts) st After h =
      let first = one.first_variable_told st (TakesAll ts After) l.mark h in
      let later = run_of_taken_variables ts st After first.1 in
      (first_name is_variable l ts first.0 later.0, later.1)

  run_of_taken_variables : (ts : Nesteds) (st : List Symbol) (After : List Symbol → Type 0) → TakesAll ts After (InList list.VariableRun ∷ st) → IsRun is_variable ts × After st
  run_of_taken_variables none st After h = (run_end is_variable, h)
  run_of_taken_variables (more (group us) ts) st After h = absurd h.1
  run_of_taken_variables (more (word l) ts) st After h =
      elim (one.next_variable_told st (TakesAll ts After) l.mark h) [
        | inl minus ↦
            let later = type_of_taken_variables ts st After minus.1 in
            (later.0 l minus.0, later.1)
        | inr name ↦
            let later = run_of_taken_variables ts st After name.1 in
            (next_name is_variable l ts name.0 later.0, later.1)
      ]

  type_of_taken_variables : (ts : Nesteds) (st : List Symbol) (After : List Symbol → Type 0) → TakesAll ts After (InList list.TypeName ∷ InList list.Variables ∷ st) → ((l : Lexeme) → l.mark ≡ mark.Minus → IsRun is_variable (more (word l) ts)) × After st
  type_of_taken_variables none st After h = absurd h
  type_of_taken_variables (more (group us) ts) st After h = absurd h.1
  type_of_taken_variables (more (word m) ts) st After h =
      let first = one.type_told (InList list.Variables ∷ st) (TakesAll ts After) m.mark h in
      let later = variables_of_taken ts st After first.1 in
      (λ l minus. type_name is_variable l m ts minus first.0 later.0, later.1)

-- ---- in parentheses

-- a list of variables in parentheses is taken where one is wanted
pub bound_taken : (vs : Nesteds) → IsTypedList is_variable vs → (st : List Symbol) (After : List Symbol → Type 0) → level st < deepest → After st → Takes (group vs) After (InAction Parameters ∷ st)
bound_taken vs typed st After room k = (omega (arith, room), variables_taken vs typed st After k)

-- a list in parentheses is one of variables, and what follows it is so
pub record IsBound (t : Nested) (Then : Type 0) : Type 0 where
  pub inside : Nesteds
  pub is : group inside ≡ t
  pub typed : IsTypedList is_variable inside
  pub after : Then

-- what is taken where a list of variables in parentheses is wanted is one
pub bound_of_taken : (t : Nested) (st : List Symbol) (After : List Symbol → Type 0) → Takes t After (InAction Parameters ∷ st) → IsBound t (After st)
bound_of_taken (word l) st After h = absurd (no_word (InAction Parameters) refl st After l.mark h)
bound_of_taken (group vs) st After h =
    let own = variables_of_taken vs st After h.1 in
    record { inside = vs; is = refl; typed = own.0; after = own.1 }

-- What one word tells where a symbol of a goal is wanted (`told`), and which words fit there (`fits`).
use Rattle.std.proofs.Common.{◌≡◌, ℕ, suc, Bool, true, false, List, [], ◌∷◌, ◌++◌, Some, refl, ◌⊎◌, inl, inr}
use Rattle.std.specs.Option.{option_and_then}
use Rattle.ps_grammar.specs.Marks.{is_goal_name, is_name, is_term}
use Rattle.ps_grammar.specs.Rules.{most_names, where_it_is}
use Rattle.ps_grammar.specs.declared.marks.Mark.{Mark}
use Rattle.ps_grammar.specs.declared.marks.Mark.TheVariants as mark
use Rattle.ps_grammar.specs.declared.symbols.Symbol.{Symbol}
use Rattle.ps_grammar.specs.declared.symbols.Symbol.TheVariants.{The, InAction, InGoal}
use Rattle.ps_grammar.specs.declared.symbols.ActionPart.TheVariants.{Parameters}
use Rattle.ps_grammar.specs.declared.symbols.GoalPart.TheVariants as goal
use Rattle.ps_lists.specs.Conditions.{is_operator, is_relation}
use Rattle.ps_lists.proofs.OneWord.{Fits}
use Rattle.ps_lists.proofs.Taking.{Follows}

module _ (st : List Symbol) (After : List Symbol → Type 0) where
  passed : (b : Bool) (new : List Symbol) → Follows After (option_and_then (λ n. Some (n ++ st)) (where_it_is b new)) → (b ≡ true) × After (new ++ st)
  passed true new h = (refl, h)
  passed false new h = absurd h

  passes : (b : Bool) (new : List Symbol) → b ≡ true → After (new ++ st) → Follows After (option_and_then (λ n. Some (n ++ st)) (where_it_is b new))
  passes true new e h = h
  passes false new e h = absurd (cc)

  -- ---- terms

  pub more_names_told : (k : ℕ) (m : Mark) → Fits st After (InGoal (goal.Names (suc k))) m → (is_term m ≡ true) × After (InGoal (goal.Names k) ∷ st)
  more_names_told k mark.Open h = absurd h
  more_names_told k mark.Close h = absurd h
  more_names_told k m h = passed (is_term m) (InGoal (goal.Names k) ∷ []) h

  pub more_names_fit : (k : ℕ) (m : Mark) → is_term m ≡ true → After (InGoal (goal.Names k) ∷ st) → Fits st After (InGoal (goal.Names (suc k))) m
  more_names_fit k mark.Open e h = absurd (cc)
  more_names_fit k mark.Close e h = absurd (cc)
  more_names_fit k m e h = passes (is_term m) (InGoal (goal.Names k) ∷ []) e h

  pub term_told : (m : Mark) → Fits st After (InGoal goal.Term) m → (is_term m ≡ true) × After st
  term_told mark.Open h = absurd h
  term_told mark.Close h = absurd h
  term_told m h = passed (is_term m) [] h

  pub term_fits : (m : Mark) → is_term m ≡ true → After st → Fits st After (InGoal goal.Term) m
  term_fits mark.Open e h = absurd (cc)
  term_fits mark.Close e h = absurd (cc)
  term_fits m e h = passes (is_term m) [] e h

  -- ---- values

  pub number_told : (m : Mark) → Fits st After (InGoal goal.Value) m → (m ≡ mark.Number) × After st
  number_told mark.Number h = (refl, h)
  number_told _ h = absurd h

  pub last_number_told : (m : Mark) → Fits st After (InGoal goal.ValueOrEnd) m → Fits (The mark.Close ∷ st) After (InGoal goal.Value) m
  last_number_told mark.Number h = h
  last_number_told _ h = absurd h

  pub last_number_fits : (m : Mark) → Fits (The mark.Close ∷ st) After (InGoal goal.Value) m → Fits st After (InGoal goal.ValueOrEnd) m
  last_number_fits mark.Number h = h
  last_number_fits _ h = absurd h

  -- what is wanted after two values, one or names
  abbrev pub TwoValues : Type 0
  TwoValues = After (InGoal goal.Value ∷ InGoal goal.Value ∷ The mark.Close ∷ st)

  abbrev pub ValueOrTwo : Type 0
  ValueOrTwo = After (InGoal goal.Value ∷ InGoal goal.ValueOrEnd ∷ st)

  abbrev pub SomeNames : Type 0
  SomeNames = After (InGoal (goal.Names most_names) ∷ st)

  pub value_head_told : (m : Mark) → Fits st After (InGoal goal.ValueHead) m → (m ≡ mark.Minus) × ValueOrTwo ⊎ ((is_operator m ≡ true) × TwoValues ⊎ (is_name m ≡ true) × SomeNames)
  value_head_told mark.Minus h = inl (refl, h)
  value_head_told mark.Plus h = inr (inl (refl, h))
  value_head_told mark.Times h = inr (inl (refl, h))
  value_head_told mark.Divide h = inr (inl (refl, h))
  value_head_told m h = inr (inr (passed (is_name m) (InGoal (goal.Names most_names) ∷ []) h))

  pub operator_fits : (m : Mark) → is_operator m ≡ true → ValueOrTwo → TwoValues → Fits st After (InGoal goal.ValueHead) m
  operator_fits mark.Minus e h k = h
  operator_fits mark.Plus e h k = k
  operator_fits mark.Times e h k = k
  operator_fits mark.Divide e h k = k
  operator_fits m e h k = absurd (cc)

  pub function_fits : (m : Mark) → is_name m ≡ true → SomeNames → Fits st After (InGoal goal.ValueHead) m
  function_fits mark.Minus e h = absurd (cc)
  function_fits mark.Plus e h = absurd (cc)
  function_fits mark.Times e h = absurd (cc)
  function_fits mark.Divide e h = absurd (cc)
  function_fits m e h = passes (is_name m) (InGoal (goal.Names most_names) ∷ []) e h

  -- ---- conditions

  -- the head of several conditions, of one or two, of a quantifier, of an equality, of another comparison, or of a fact
  pub goal_head_told : (m : Mark) → Fits st After (InGoal goal.Head) m
      → (((m ≡ mark.And) × After (InGoal goal.Conditions ∷ st) ⊎ (m ≡ mark.Or) × After (InGoal goal.Conditions ∷ st))
      ⊎ ((m ≡ mark.Not) × After (InGoal goal.Condition ∷ The mark.Close ∷ st) ⊎ (m ≡ mark.Imply) × After (InGoal goal.Condition ∷ InGoal goal.Condition ∷ The mark.Close ∷ st)))
      ⊎ (((m ≡ mark.Exists) ⊎ (m ≡ mark.Forall)) × After (InAction Parameters ∷ InGoal goal.Condition ∷ The mark.Close ∷ st)
      ⊎ ((m ≡ mark.Equal) × After (InGoal goal.FirstOperand ∷ st) ⊎ ((is_relation m ≡ true) × TwoValues ⊎ (is_goal_name m ≡ true) × SomeNames)))
  goal_head_told mark.And h = inl (inl (inl (refl, h)))
  goal_head_told mark.Or h = inl (inl (inr (refl, h)))
  goal_head_told mark.Not h = inl (inr (inl (refl, h)))
  goal_head_told mark.Imply h = inl (inr (inr (refl, h)))
  goal_head_told mark.Exists h = inr (inl (inl refl, h))
  goal_head_told mark.Forall h = inr (inl (inr refl, h))
  goal_head_told mark.Equal h = inr (inr (inl (refl, h)))
  goal_head_told mark.Less h = inr (inr (inr (inl (refl, h))))
  goal_head_told mark.LessEqual h = inr (inr (inr (inl (refl, h))))
  goal_head_told mark.GreaterEqual h = inr (inr (inr (inl (refl, h))))
  goal_head_told mark.Greater h = inr (inr (inr (inl (refl, h))))
  goal_head_told m h = inr (inr (inr (inr (passed (is_goal_name m) (InGoal (goal.Names most_names) ∷ []) h))))

  pub relation_fits : (m : Mark) → is_relation m ≡ true → After (InGoal goal.FirstOperand ∷ st) → TwoValues → Fits st After (InGoal goal.Head) m
  relation_fits mark.Equal e h k = h
  relation_fits mark.Less e h k = k
  relation_fits mark.LessEqual e h k = k
  relation_fits mark.GreaterEqual e h k = k
  relation_fits mark.Greater e h k = k
  relation_fits m e h k = absurd (cc)

  pub fact_fits : (m : Mark) → is_goal_name m ≡ true → SomeNames → Fits st After (InGoal goal.Head) m
  fact_fits mark.And e h = absurd (cc)
  fact_fits mark.Or e h = absurd (cc)
  fact_fits mark.Not e h = absurd (cc)
  fact_fits mark.Imply e h = absurd (cc)
  fact_fits mark.Exists e h = absurd (cc)
  fact_fits mark.Forall e h = absurd (cc)
  fact_fits mark.Equal e h = absurd (cc)
  fact_fits mark.Less e h = absurd (cc)
  fact_fits mark.LessEqual e h = absurd (cc)
  fact_fits mark.GreaterEqual e h = absurd (cc)
  fact_fits mark.Greater e h = absurd (cc)
  fact_fits m e h = passes (is_goal_name m) (InGoal (goal.Names most_names) ∷ []) e h

  -- ---- what `=` compares

  pub operand_told : (m : Mark) → Fits st After (InGoal goal.FirstOperand) m → (m ≡ mark.Number) × After (InGoal goal.Value ∷ The mark.Close ∷ st) ⊎ (is_term m ≡ true) × After (InGoal goal.Term ∷ The mark.Close ∷ st)
  operand_told mark.Number h = inl (refl, h)
  operand_told mark.Open h = absurd h
  operand_told m h = inr (passed (is_term m) (InGoal goal.Term ∷ The mark.Close ∷ []) h)

  pub first_term_fits : (m : Mark) → is_term m ≡ true → After (InGoal goal.Term ∷ The mark.Close ∷ st) → Fits st After (InGoal goal.FirstOperand) m
  first_term_fits mark.Number e h = absurd (cc)
  first_term_fits mark.Open e h = absurd (cc)
  first_term_fits m e h = passes (is_term m) (InGoal goal.Term ∷ The mark.Close ∷ []) e h

-- One grammar of conditions over nested lists, for domains and for goals, by what differs between them. The number counts the levels of
-- parentheses that may still be opened where the list stands.
use Rattle.std.specs.Prelude.{◌≡◌, ◌≤◌, ℕ, suc, Bool, true, false, Option, None, Some}
use Rattle.ps_grammar.specs.Marks.{is_fact_name, is_goal_name, is_name, is_term}
use Rattle.ps_grammar.specs.Rules.{most_names}
use Rattle.ps_grammar.specs.declared.marks.Mark.{Mark}
use Rattle.ps_grammar.specs.declared.marks.Mark.TheVariants as mark
use Rattle.ps_lists.specs.Nested.{Nested, Nesteds, word, group, none, more}
use Rattle.ps_lists.specs.Places.{count}
use Rattle.ps_lists.specs.TypedLists.{IsTypedList, is_variable}
use Rattle.ps_lists.specs.declared.lexemes.Lexeme.{Lexeme}

-- ---- marks

-- the mark of an operation on two operands
abbrev pub is_operator : Mark → Bool
is_operator mark.Plus = true
is_operator mark.Minus = true
is_operator mark.Times = true
is_operator mark.Divide = true
is_operator m = false

-- the mark of a comparison
abbrev pub is_relation : Mark → Bool
is_relation mark.Less = true
is_relation mark.LessEqual = true
is_relation mark.Equal = true
is_relation mark.GreaterEqual = true
is_relation mark.Greater = true
is_relation m = false

-- ---- what differs

-- What differs between conditions: how many arguments there are at most, if there is a most, what may name a fact, and whether an argument
-- may stand as a value.
pub record Dialect : Type 0 where
  pub most : Option ℕ
  pub is_head : Mark → Bool
  pub arguments_are_values : Bool

-- in a domain: as many as there are, which may be values too, and their meaning judges them
abbrev pub domains : Dialect
domains = record { most = None; is_head = is_fact_name; arguments_are_values = true }

-- in a goal: at most six, none of which is a value
abbrev pub goals : Dialect
goals = record { most = Some most_names; is_head = is_goal_name; arguments_are_values = false }

-- so many are no more than may be
abbrev pub IsAllowed : Option ℕ → ℕ → Type 0
IsAllowed None n = Unit {0}
IsAllowed (Some most) n = n ≤ most

-- ---- arguments and values

-- ARG*, where an ARG is a name or a variable
pub data AreArguments : Nesteds → Type 0 where
  no_argument : AreArguments none
  one_argument : (l : Lexeme) (ts : Nesteds) → is_term l.mark ≡ true → AreArguments ts → AreArguments (more (word l) ts)

-- (NAME ARG*)
pub data IsAtomOf (d : Dialect) : ℕ → Nested → Type 0 where
  atom : (room : ℕ) (l : Lexeme) (ts : Nesteds) → is_name l.mark ≡ true → AreArguments ts → IsAllowed d.most (count ts) → IsAtomOf d (suc room) (group (more (word l) ts))

-- X: NUMBER | (NAME ARG*) | (- X) | (OP X X) | ARG, the last where arguments are values
pub data IsValueOf (d : Dialect) : ℕ → Nested → Type 0 where
  a_number : (room : ℕ) (l : Lexeme) → l.mark ≡ mark.Number → IsValueOf d room (word l)
  an_argument : (room : ℕ) (l : Lexeme) → d.arguments_are_values ≡ true → is_term l.mark ≡ true → IsValueOf d room (word l)
  an_atom : (room : ℕ) (t : Nested) → IsAtomOf d room t → IsValueOf d room t
  negation : (room : ℕ) (l : Lexeme) (x : Nested) → l.mark ≡ mark.Minus → IsValueOf d room x → IsValueOf d (suc room) (group (more (word l) (more x none)))
  operation : (room : ℕ) (l : Lexeme) (x y : Nested) → is_operator l.mark ≡ true → IsValueOf d room x → IsValueOf d room y → IsValueOf d (suc room) (group (more (word l) (more x (more y none))))

-- ---- conditions

mutual
  -- C: (and C*) | (or C*) | (not C) | (imply C C) | (exists (VLIST) C) | (forall (VLIST) C) | (HEAD ARG*) | (= ARG ARG) | (REL X X), where REL
  -- is = < <= >= >
  pub data IsConditionOf (d : Dialect) : ℕ → Nested → Type 0 where
    all_of : (room : ℕ) (l : Lexeme) (ts : Nesteds) → l.mark ≡ mark.And → AreConditionsOf d room ts → IsConditionOf d (suc room) (group (more (word l) ts))
    any_of : (room : ℕ) (l : Lexeme) (ts : Nesteds) → l.mark ≡ mark.Or → AreConditionsOf d room ts → IsConditionOf d (suc room) (group (more (word l) ts))
    not_so : (room : ℕ) (l : Lexeme) (c : Nested) → l.mark ≡ mark.Not → IsConditionOf d room c → IsConditionOf d (suc room) (group (more (word l) (more c none)))
    implication : (room : ℕ) (l : Lexeme) (a b : Nested) → l.mark ≡ mark.Imply → IsConditionOf d room a → IsConditionOf d room b → IsConditionOf d (suc room) (group (more (word l) (more a (more b none))))
    some_choice : (room : ℕ) (l : Lexeme) (vs : Nesteds) (c : Nested) → l.mark ≡ mark.Exists → IsTypedList is_variable vs → IsConditionOf d room c → IsConditionOf d (suc room) (group (more (word l) (more (group vs) (more c none))))
    each_choice : (room : ℕ) (l : Lexeme) (vs : Nesteds) (c : Nested) → l.mark ≡ mark.Forall → IsTypedList is_variable vs → IsConditionOf d room c → IsConditionOf d (suc room) (group (more (word l) (more (group vs) (more c none))))
    a_fact : (room : ℕ) (l : Lexeme) (ts : Nesteds) → d.is_head l.mark ≡ true → AreArguments ts → IsAllowed d.most (count ts) → IsConditionOf d (suc room) (group (more (word l) ts))
    same : (room : ℕ) (l m n : Lexeme) → l.mark ≡ mark.Equal → is_term m.mark ≡ true → is_term n.mark ≡ true → IsConditionOf d (suc room) (group (more (word l) (more (word m) (more (word n) none))))
    comparison : (room : ℕ) (l : Lexeme) (x y : Nested) → is_relation l.mark ≡ true → IsValueOf d room x → IsValueOf d room y → IsConditionOf d (suc room) (group (more (word l) (more x (more y none))))

  -- C*
  pub data AreConditionsOf (d : Dialect) : ℕ → Nesteds → Type 0 where
    no_condition : (room : ℕ) → AreConditionsOf d room none
    one_condition : (room : ℕ) (c : Nested) (cs : Nesteds) → IsConditionOf d room c → AreConditionsOf d room cs → AreConditionsOf d room (more c cs)

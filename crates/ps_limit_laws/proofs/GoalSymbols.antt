-- What the symbols of goals lead to: each stands for one word or list, or for what stands up to a parenthesis that closes.
use Rattle.std.proofs.Common.{◌≡◌, ℕ, zero, suc, ◌==◌, Bool, true, false, ◌&&◌, List, [], ◌∷◌, Option, None, Some, refl, subst, arith}
use Rattle.std.specs.List.{list_all}
use Rattle.std.proofs.lemmas.Bool.{and_parts, eqb-true}
use Rattle.ps_grammar.specs.Rules.{action_rule, goal_rule, list_rule, step}
use Rattle.ps_grammar.specs.Symbols.{level, weight}
use Rattle.ps_grammar.specs.declared.marks.Mark.{Mark}
use Rattle.ps_grammar.specs.declared.marks.Mark.TheVariants.{Open, Close}
use Rattle.ps_grammar.specs.declared.symbols.Symbol.{Symbol}
use Rattle.ps_grammar.specs.declared.symbols.Symbol.TheVariants.{The, AnyName, InAction, InGoal, InList}
use Rattle.ps_grammar.specs.declared.symbols.ActionPart.TheVariants as action
use Rattle.ps_grammar.specs.declared.symbols.ListPart.TheVariants as list
use Rattle.ps_grammar.specs.declared.symbols.GoalPart.{GoalPart}
use Rattle.ps_grammar.specs.declared.symbols.GoalPart.TheVariants as goal
use Rattle.ps_lists.proofs.Balance.{each_mark, every_mark}

-- the symbol is of a goal
abbrev pub is_goal : Symbol → Bool
is_goal (The Close) = true
is_goal AnyName = true
is_goal (InGoal part) = true
is_goal (InAction action.Parameters) = true
is_goal (InList list.Variables) = true
is_goal (InList list.VariableRun) = true
is_goal (InList list.TypeName) = true
is_goal _ = false

-- the symbol stands for one word or list
abbrev pub is_one : Symbol → Bool
is_one s = is_goal s && weight s == 0

-- the symbol stands for what stands up to a parenthesis that closes
abbrev pub is_last : Symbol → Bool
is_last s = is_goal s && weight s == 1

-- words and lists, and what stands up to a parenthesis that closes
abbrev pub closes : List Symbol → Bool
closes [] = false
closes (s ∷ []) = is_last s
closes (s ∷ t ∷ st) = is_one s && closes (t ∷ st)

-- such symbols, after what stands up to another one
abbrev pub closes_twice : List Symbol → Bool
closes_twice [] = false
closes_twice (s ∷ st) = is_last s && closes st

-- no symbol
abbrev pub is_nothing : List Symbol → Bool
is_nothing [] = true
is_nothing (s ∷ st) = false

-- what a mark leads to from a symbol for one word or list
abbrev from_one : Mark → List Symbol → Bool
from_one Open new = closes new
from_one Close new = false
from_one m new = is_nothing new

-- what a mark leads to from a symbol for all up to a parenthesis that closes
abbrev from_last : Mark → List Symbol → Bool
from_last Open new = closes_twice new
from_last Close new = is_nothing new
from_last m new = closes new

-- the same by the levels that end with the symbol
abbrev fits : ℕ → Mark → Option (List Symbol) → Bool
fits w m None = true
fits zero m (Some new) = from_one m new
fits (suc w) m (Some new) = from_last m new

all_names : (most : ℕ) → list_all (λ m. fits 1 m (goal_rule (goal.Names most) m)) every_mark ≡ true
all_names zero = refl
all_names (suc more) = refl

all_goal : (part : GoalPart) → list_all (λ m. fits (weight (InGoal part)) m (goal_rule part m)) every_mark ≡ true
all_goal (goal.Names most) = all_names most
all_goal goal.Condition = refl
all_goal _ = refl

fits_step : (s : Symbol) (m : Mark) → is_goal s ≡ true → fits (weight s) m (step s m) ≡ true
fits_step (The Close) m is = each_mark (λ m. fits 1 m (step (The Close) m)) refl m
fits_step AnyName m is = each_mark (λ m. fits 0 m (step AnyName m)) refl m
fits_step (InGoal part) m is = each_mark (λ m. fits (weight (InGoal part)) m (goal_rule part m)) (all_goal part) m
fits_step (InAction action.Parameters) m is = each_mark (λ m. fits 0 m (action_rule action.Parameters m)) refl m
fits_step (InList list.Variables) m is = each_mark (λ m. fits 1 m (list_rule list.Variables m)) refl m
fits_step (InList list.VariableRun) m is = each_mark (λ m. fits 1 m (list_rule list.VariableRun m)) refl m
fits_step (InList list.TypeName) m is = each_mark (λ m. fits 0 m (list_rule list.TypeName m)) refl m
fits_step (The _) m is = absurd (cc)
fits_step _ m is = absurd (cc)

-- ---- each mark

nothing_is : (new : List Symbol) → is_nothing new ≡ true → new ≡ []
nothing_is [] e = refl
nothing_is (s ∷ st) e = absurd (cc)

module _ (s : Symbol) (m : Mark) (new : List Symbol) (leads : step s m ≡ Some new) where
  here : (w : ℕ) → is_goal s ≡ true → weight s ≡ w → fits w m (Some new) ≡ true
  here w is e = subst (λ o. fits w m o ≡ true) leads (subst (λ n. fits n m (step s m) ≡ true) e (fits_step s m is))

  one_here : is_one s ≡ true → from_one m new ≡ true
  one_here e =
      let parts = and_parts (is_goal s) (weight s == 0) e in
      here 0 parts.0 (eqb-true (weight s) 0 parts.1)

  last_here : is_last s ≡ true → from_last m new ≡ true
  last_here e =
      let parts = and_parts (is_goal s) (weight s == 1) e in
      here 1 parts.0 (eqb-true (weight s) 1 parts.1)

-- ---- levels

pub one_level : (s : Symbol) → is_one s ≡ true → weight s ≡ 0
one_level s e = eqb-true (weight s) 0 (and_parts (is_goal s) (weight s == 0) e).1

pub last_level : (s : Symbol) → is_last s ≡ true → weight s ≡ 1
last_level s e = eqb-true (weight s) 1 (and_parts (is_goal s) (weight s == 1) e).1

pub closes_level : (st : List Symbol) → closes st ≡ true → level st ≡ 1
closes_level [] e = absurd (cc)
closes_level (s ∷ []) e = omega (arith, last_level s e)
closes_level (s ∷ t ∷ st) e =
    let parts = and_parts (is_one s) (closes (t ∷ st)) e in
    omega (arith, one_level s parts.0, closes_level (t ∷ st) parts.1)

-- ---- words and parentheses

word_of_one : (m : Mark) (new : List Symbol) → (m ≡ Open → ⊥) → (m ≡ Close → ⊥) → from_one m new ≡ true → new ≡ []
word_of_one Open new o c e = absurd (o refl)
word_of_one Close new o c e = absurd (c refl)
word_of_one _ new o c e = nothing_is new e

word_of_last : (m : Mark) (new : List Symbol) → (m ≡ Open → ⊥) → (m ≡ Close → ⊥) → from_last m new ≡ true → closes new ≡ true
word_of_last Open new o c e = absurd (o refl)
word_of_last Close new o c e = absurd (c refl)
word_of_last _ new o c e = e

pub one_word : (s : Symbol) (m : Mark) (new : List Symbol) → step s m ≡ Some new → is_one s ≡ true → (m ≡ Open → ⊥) → (m ≡ Close → ⊥) → new ≡ []
one_word s m new leads e o c = word_of_one m new o c (one_here s m new leads e)

pub one_open : (s : Symbol) (new : List Symbol) → step s Open ≡ Some new → is_one s ≡ true → closes new ≡ true
one_open s new leads e = one_here s Open new leads e

pub one_close : (s : Symbol) (new : List Symbol) → step s Close ≡ Some new → is_one s ≡ true → ⊥
one_close s new leads e = let k = one_here s Close new leads e in cc

pub last_word : (s : Symbol) (m : Mark) (new : List Symbol) → step s m ≡ Some new → is_last s ≡ true → (m ≡ Open → ⊥) → (m ≡ Close → ⊥) → closes new ≡ true
last_word s m new leads e o c = word_of_last m new o c (last_here s m new leads e)

pub last_open : (s : Symbol) (new : List Symbol) → step s Open ≡ Some new → is_last s ≡ true → closes_twice new ≡ true
last_open s new leads e = last_here s Open new leads e

pub last_close : (s : Symbol) (new : List Symbol) → step s Close ≡ Some new → is_last s ≡ true → new ≡ []
last_close s new leads e = nothing_is new (last_here s Close new leads e)

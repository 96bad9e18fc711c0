-- What one mark makes of the level where a symbol of a line is wanted.
use Rattle.std.proofs.Common.{◌≡◌, ℕ, zero, suc, ◌+◌, ◌==◌, Bool, true, false, ◌&&◌, List, [], ◌∷◌, ◌++◌, Option, None, Some, refl, sym, subst, arith}
use Rattle.std.specs.List.{list_all}
use Rattle.std.proofs.lemmas.Bool.{and_parts, eqb-true}
use Rattle.ps_grammar.specs.Marks.{is}
use Rattle.ps_grammar.specs.Rules.{action_rule, goal_rule, list_rule, step, where_it_is}
use Rattle.ps_grammar.specs.Symbols.{level, weight}
use Rattle.ps_grammar.specs.declared.marks.Mark.{Mark}
use Rattle.ps_grammar.specs.declared.marks.Mark.TheVariants.{Open, Close}
use Rattle.ps_grammar.specs.declared.symbols.Symbol.{Symbol}
use Rattle.ps_grammar.specs.declared.symbols.Symbol.TheVariants.{The, AnyName, InList, InAction, InGoal}
use Rattle.ps_grammar.specs.declared.symbols.ListPart.{ListPart}
use Rattle.ps_grammar.specs.declared.symbols.ListPart.TheVariants as list
use Rattle.ps_grammar.specs.declared.symbols.ActionPart.TheVariants as action
use Rattle.ps_grammar.specs.declared.symbols.GoalPart.{GoalPart}
use Rattle.ps_grammar.specs.declared.symbols.GoalPart.TheVariants as goal
use Rattle.ps_lists.proofs.Balance.{each_mark, every_mark}
use Rattle.ps_reading_laws.specs.Levels.{opened_by}
use Rattle.ps_grammar.proofs.SameMarks.{mark_is}

-- the level after a mark, where it was so before
abbrev pub moves : Mark → ℕ → ℕ → Bool
moves Open before after = after == before + 1
moves Close before after = before == after + 1
moves _ before after = before == after

-- a symbol of a line: of a goal, of variables that it binds, or a mark, but no open parenthesis by itself
abbrev pub is_inner : Symbol → Bool
is_inner (The Open) = false
is_inner (The m) = true
is_inner AnyName = true
is_inner (InAction action.Parameters) = true
is_inner (InList list.Variables) = true
is_inner (InList list.VariableRun) = true
is_inner (InList list.TypeName) = true
is_inner (InGoal part) = true
is_inner s = false

-- what a mark leads to fits, where such a symbol was wanted
abbrev pub inner_fits : Option (List Symbol) → Mark → ℕ → Bool
inner_fits None m before = true
inner_fits (Some new) m before = moves m before (level new) && list_all is_inner new

-- no symbol
abbrev pub is_none : List Symbol → Bool
is_none [] = true
is_none st = false

inner_list : (part : ListPart) → is_inner (InList part) ≡ true → list_all (λ m. inner_fits (list_rule part m) m (weight (InList part))) every_mark ≡ true
inner_list list.Variables e = refl
inner_list list.VariableRun e = refl
inner_list list.TypeName e = refl
inner_list _ e = absurd (cc)

inner_names : (most : ℕ) → list_all (λ m. inner_fits (goal_rule (goal.Names most) m) m 1) every_mark ≡ true
inner_names zero = refl
inner_names (suc more) = refl

inner_goal : (part : GoalPart) → list_all (λ m. inner_fits (goal_rule part m) m (weight (InGoal part))) every_mark ≡ true
inner_goal (goal.Names most) = inner_names most
inner_goal goal.Condition = refl
inner_goal _ = refl

inner_itself : (m : Mark) → is_inner (The m) ≡ true → inner_fits (Some []) m (weight (The m)) ≡ true
inner_itself Open e = absurd (cc)
inner_itself _ e = refl

inner_the : (wanted m : Mark) (b : Bool) → is wanted m ≡ b → is_inner (The wanted) ≡ true → inner_fits (where_it_is b []) m (weight (The wanted)) ≡ true
inner_the wanted m false e h = refl
inner_the wanted m true e h = subst (λ (x : Mark). inner_fits (Some []) x (weight (The wanted)) ≡ true) (sym (mark_is wanted m e)) (inner_itself wanted h)

-- a mark leads from such a symbol to others
pub inner_step : (s : Symbol) (m : Mark) → is_inner s ≡ true → inner_fits (step s m) m (weight s) ≡ true
inner_step (The wanted) m h = inner_the wanted m (is wanted m) refl h
inner_step AnyName m h = each_mark (λ m. inner_fits (step AnyName m) m (weight AnyName)) refl m
inner_step (InAction action.Parameters) m h = each_mark (λ m. inner_fits (action_rule action.Parameters m) m (weight (InAction action.Parameters))) refl m
inner_step (InList part) m h = each_mark (λ m. inner_fits (list_rule part m) m (weight (InList part))) (inner_list part h) m
inner_step (InGoal part) m h = each_mark (λ m. inner_fits (goal_rule part m) m (weight (InGoal part))) (inner_goal part) m
inner_step _ m h = absurd (cc)

-- ---- what is wanted after a mark

-- so many are open after a mark that moves the level so
pub opens_so : (m : Mark) (before after rest : ℕ) → moves m before after ≡ true → after + rest ≡ opened_by (before + rest) m
opens_so Open before after rest e = omega (arith, eqb-true after (before + 1) e)
opens_so Close before after rest e = omega (arith, eqb-true before (after + 1) e)
opens_so _ before after rest e = omega (arith, eqb-true before after e)

pub inner_more : (a b : List Symbol) → list_all is_inner a ≡ true → list_all is_inner b ≡ true → list_all is_inner (a ++ b) ≡ true
inner_more [] b p q = q
inner_more (s ∷ a) b p q =
    let parts = and_parts (is_inner s) (list_all is_inner a) p in
    rw (parts.0) (inner_more a b parts.1 q)

pub none_of : (new : List Symbol) → is_none new ≡ true → new ≡ []
none_of [] e = refl
none_of (s ∷ new) e = absurd (cc)

-- The numbers of a session: what an expression is worth.
use Rattle.std.specs.Prelude.{◌^◌, ℤ, pos, ◌+ℤ◌, ◌-ℤ◌, ◌*ℤ◌, neg_ℤ, int_div, unsigned_abs, nat_le, if◌then◌else◌, Option, Some, None, option_map, option_and_then, List, []}
use Rattle.std.specs.Ordering.{int_eq}
use Rattle.ps_world.specs.Trees.{ExprTree, number, value_of, negated, operated}
use Rattle.ps_world.specs.Bound.{ground_in}
use Rattle.ps_world.specs.Knowledge.{value_in}
use Rattle.ps_world.specs.declared.names.Name.{Name}
use Rattle.ps_world.specs.declared.numbers.Num.{Num}
use Rattle.ps_world.specs.declared.expressions.Op.{Op}
use Rattle.ps_world.specs.declared.expressions.Op.TheVariants.{Add, Sub, Mul, Div}
use Rattle.ps_world.specs.declared.known.Knowledge.{Knowledge}

-- the number of a count of thousandths, where it is in range
abbrev pub in_range : ℤ → Option Num
in_range z = if nat_le (unsigned_abs z) (10 ^ 15) then Some z else None

-- the product of two counts of thousandths, rounded towards zero
abbrev pub product : ℤ → ℤ → ℤ
product a b = int_div (a *ℤ b) (pos 1000)

-- their quotient, rounded towards zero; there is none by zero
abbrev pub quotient : ℤ → ℤ → Option ℤ
quotient a b = if int_eq b (pos 0) then None else Some (int_div (a *ℤ pos 1000) b)

-- what an operation gives, before its range is judged
abbrev pub result_of : Op → ℤ → ℤ → Option ℤ
result_of Add a b = Some (a +ℤ b)
result_of Sub a b = Some (a -ℤ b)
result_of Mul a b = Some (product a b)
result_of Div a b = quotient a b

-- what an operation gives, where it is defined and in range
abbrev pub computed : Op → ℤ → ℤ → Option Num
computed op a b = option_and_then in_range (result_of op a b)

-- what two numbers give, where both are defined
abbrev pub of_both : {A : Type 0} → (ℤ → ℤ → Option A) → Option Num → Option Num → Option A
of_both f (Some a) (Some b) = f a b
of_both f a b = None

-- what an expression is worth, where variables stand for these names: none where a part of it isn't defined
abbrev pub value_with : Knowledge → List Name → ExprTree → Option Num
value_with k env (number n) = Some n
value_with k env (value_of l) = value_in k (ground_in env l)
value_with k env (negated x) = option_map neg_ℤ (value_with k env x)
value_with k env (operated op x y) = of_both (computed op) (value_with k env x) (value_with k env y)

-- what an expression is worth where no variable stands for a name
abbrev pub value : Knowledge → ExprTree → Option Num
value k x = value_with k [] x

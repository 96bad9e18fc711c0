-- What a numeric expression means.
use Rattle.std.specs.Prelude.{pos, if◌then◌else◌, Option, Some, None}
use Rattle.ps_world.specs.ExprViews.{expr_tree}
use Rattle.ps_world.specs.declared.expressions.Op.{Op}
use Rattle.ps_world.specs.declared.expressions.Expr.{Expr}
use Rattle.ps_world.specs.declared.expressions.Expr.TheVariants.{Num, Fun, Neg, Bin}
use Rattle.ps_grammar.specs.Marks.{is}
use Rattle.ps_grammar.specs.declared.marks.Mark.TheVariants.{Minus}
use Rattle.ps_lists.specs.Nested.{Nested, Nesteds, word, group, none, more}
use Rattle.ps_lists.specs.Places.{word_of}
use Rattle.ps_lists.specs.declared.lexemes.Lexeme.{Lexeme}
use Rattle.ps_conditions.specs.Signs.{operator_of}
use Rattle.ps_conditions.specs.Steps.{Steps}
use Rattle.ps_conditions.specs.Words.{Words}

-- the value of a function
abbrev pub function_value : (s : Steps) → Words s → Lexeme → Nesteds → s.Step Expr
function_value s w head ts = s.then (w.function head ts) (λ l. s.done (Fun l))

-- an operation on two operands, or else another expression
abbrev pub operated : (s : Steps) → Option Op → s.Step Expr → s.Step Expr → s.Step Expr → s.Step Expr
operated s None a b other = other
operated s (Some op) a b other = s.then a (λ a. s.then b (λ b. s.done (Bin op (expr_tree a) (expr_tree b))))

abbrev mutual
  -- X: NUMBER | (NAME TERM*) | (- X) | (OP X X), where OP is + - * /
  pub value : (s : Steps) → Words s → Nested → s.Step Expr
  value s w (word l) = w.worth l
  value s w (group ts) = operation s w ts

  -- a head and its operands
  pub operation : (s : Steps) → Words s → Nesteds → s.Step Expr
  operation s w none = s.done (Num (pos 0))
  operation s w (more f none) = function_value s w (word_of f) none
  operation s w (more f (more a none)) =
      if is Minus (word_of f).mark then s.then (value s w a) (λ a. s.done (Neg (expr_tree a)))
      else function_value s w (word_of f) (more a none)
  operation s w (more f (more a (more b ts))) =
      operated s (operator_of (word_of f).mark) (value s w a) (value s w b) (function_value s w (word_of f) (more a (more b ts)))

-- What words mean where a condition stands.
use Rattle.std.specs.Prelude.{Ok, List}
use Rattle.ps_world.specs.declared.domains.Param.{Param}
use Rattle.ps_world.specs.declared.schemas.Term.{Term}
use Rattle.ps_world.specs.declared.schemas.Lifted.{Lifted}
use Rattle.ps_world.specs.declared.expressions.Expr.{Expr}
use Rattle.ps_lists.specs.Nested.{Nested, Nesteds}
use Rattle.ps_lists.specs.declared.lexemes.Lexeme.{Lexeme}
use Rattle.ps_conditions.specs.Steps.{Steps, certain, refusable}

-- What the words of a domain's action or of a line mean: the term that a word is; the second of two terms that are to be the same, after
-- the first; what a word is worth where a number must stand; and a predicate or a function with its arguments.
pub record Words (s : Steps) : Type 0 where
  pub term : Lexeme → s.Step Term
  pub second : Lexeme → Nested → s.Step Term
  pub worth : Lexeme → s.Step Expr
  pub fact : Lexeme → Nesteds → s.Step Lifted
  pub function : Lexeme → Nesteds → s.Step Lifted

-- the same words, where reading may be refused, but not by them
abbrev pub unrefused : (R : Type 0) → Words certain → Words (refusable R)
unrefused R w = record {
  term = λ l. Ok (w.term l);
  second = λ l t. Ok (w.second l t);
  worth = λ l. Ok (w.worth l);
  fact = λ l ts. Ok (w.fact l ts);
  function = λ l ts. Ok (w.function l ts);
}

-- What words mean where these variables are in force, outer ones first, and the variables that a list binds there.
pub record Scopes (s : Steps) : Type 0 where
  pub words : List Param → Words s
  pub bound : List Param → Nesteds → s.Step (List Param)

-- the same, where reading may be refused, but not by them
abbrev pub unrefused_scopes : (R : Type 0) → Scopes certain → Scopes (refusable R)
unrefused_scopes R w = record { words = λ ps. unrefused R (w.words ps); bound = λ ps ts. Ok (w.bound ps ts) }

-- What words, values and conditions mean in an action.
use Rattle.std.specs.Prelude.{ℕ, ◌+◌, min, if◌then◌else◌, Ok, Err, List, length}
use Rattle.ps_world.specs.declared.domains.Param.{Param}
use Rattle.ps_world.specs.declared.domains.Domain.{Domain}
use Rattle.ps_world.specs.declared.schemas.Term.{Term}
use Rattle.ps_world.specs.declared.expressions.Expr.{Expr}
use Rattle.ps_world.specs.declared.expressions.Expr.TheVariants.{Num}
use Rattle.ps_world.specs.declared.conditions.Cond.{Cond}
use Rattle.ps_grammar.specs.Marks.{is}
use Rattle.ps_grammar.specs.declared.marks.Mark.TheVariants.{Number}
use Rattle.ps_lists.specs.Nested.{Nested, Nesteds, word, group}
use Rattle.ps_lists.specs.declared.lexemes.Lexeme.{Lexeme}
use Rattle.ps_conditions.specs.Conditions as meant
use Rattle.ps_conditions.specs.Steps.{◌>>=◌}
use Rattle.ps_conditions.specs.Values as worth
use Rattle.ps_conditions.specs.Words.{Scopes, Words}
use Rattle.ps_pddl.specs.Lists.{binding}
use Rattle.ps_pddl.specs.Steps.{Read, reads}
use Rattle.ps_pddl.specs.Terms.{fact, resolved, value_of}
use Rattle.ps_pddl.specs.declared.refusals.DomainRefusal.TheVariants.{Kind}

-- the term that a word is
abbrev pub term : Domain → List Param → Lexeme → Read Term
term d ps l = resolved d ps l >>= λ t. Ok t.term

-- the term that is to be the same as the one of this word: anything else is told at that word
abbrev pub second : Domain → List Param → Lexeme → Nested → Read Term
second d ps first (group ts) = Err (Kind first.at)
second d ps first (word l) = if is Number l.mark then Err (Kind first.at) else term d ps l

-- a word where a number must stand: a term isn't one
abbrev pub plain_value : Domain → List Param → Lexeme → Read Expr
plain_value d ps l = if is Number l.mark then Ok (Num l.number) else (resolved d ps l >>= λ t. Err (Kind l.at))

-- what words mean in an action with these parameters
abbrev pub words : Domain → List Param → Words reads
words d ps = record {
  term = term d ps;
  second = second d ps;
  worth = plain_value d ps;
  fact = fact d ps;
  function = value_of d ps;
}

-- what a numeric expression means there
abbrev pub value : Domain → List Param → Nested → Read Expr
value d ps t = worth.value reads (words d ps) t

-- how many variables may be in force below these: two more than the parameters of the action, which has so many
abbrev pub most_in_force : ℕ → List Param → ℕ
most_in_force own ps = min own (length ps) + 2

-- the variables that a list binds where these are in force: no name is that of one of these
abbrev pub bound : Domain → ℕ → List Param → Nesteds → Read (List Param)
bound d own ps ts = binding d (most_in_force own ps) ps ts

-- what words mean in an action with so many parameters, and what lists of variables bind
abbrev pub scopes : Domain → ℕ → Scopes reads
scopes d own = record { words = words d; bound = bound d own }

-- what a condition of an action with these parameters means
abbrev pub condition : Domain → List Param → Nested → Read Cond
condition d ps t = meant.condition reads (scopes d (length ps)) ps t

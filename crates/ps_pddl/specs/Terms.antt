-- What names and variables stand for in an action, and what a head with arguments means.
use Rattle.std.specs.Prelude.{ℕ, ◌==◌, nat_le, if◌then◌else◌, Option, Some, None, Ok, Err, List, [], ◌∷◌, ◌++◌, position, length, slice_index_or}
use Rattle.std.specs.Option.{option_map, ok_or}
use Rattle.ps_world.specs.Names.{same_name, object}
use Rattle.ps_world.specs.Knowledge.{is_below, constant_of, predicate_of, function_of}
use Rattle.ps_world.specs.declared.names.Name.{Name}
use Rattle.ps_world.specs.declared.domains.Param.{Param}
use Rattle.ps_world.specs.declared.domains.Decl.{Decl}
use Rattle.ps_world.specs.declared.domains.Domain.{Domain}
use Rattle.ps_world.specs.declared.schemas.Term.{Term}
use Rattle.ps_world.specs.declared.schemas.Term.TheVariants.{Var, Const}
use Rattle.ps_world.specs.declared.schemas.Lifted.{Lifted}
use Rattle.ps_grammar.specs.declared.marks.Mark.{Mark}
use Rattle.ps_grammar.specs.declared.marks.Mark.TheVariants as mark
use Rattle.ps_lists.specs.Nested.{Nesteds, none, more}
use Rattle.ps_lists.specs.Places.{word_of, count}
use Rattle.ps_conditions.specs.Steps.{◌>>=◌}
use Rattle.ps_pddl.specs.Steps.{Read}
use Rattle.ps_lists.specs.declared.lexemes.Lexeme.{Lexeme}
use Rattle.ps_pddl.specs.declared.meaning.terms.Typed.{Typed}
use Rattle.ps_pddl.specs.declared.refusals.DomainRefusal.TheVariants.{Unknown, Arity, Kind}

-- a parameter at this place
abbrev pub param_at : List Param → ℕ → Param
param_at ps i = slice_index_or ps i (record { name = object; kind = object })

-- a parameter as a term with its type: its number is its place
abbrev pub variable_of : List Param → Name → Option Typed
variable_of ps n = option_map (λ i. record { term = Var i; kind = (param_at ps i).kind }) (position (λ p. same_name n p.name) ps)

-- a declared parameter or constant as a term with its type
abbrev pub term_of : Domain → List Param → Mark → Name → Option Typed
term_of d ps mark.Variable n = variable_of ps n
term_of d ps m n = option_map (λ c. record { term = Const n; kind = c.kind }) (constant_of d n)

-- the term that a word is, with its type
abbrev pub resolved : Domain → List Param → Lexeme → Read Typed
resolved d ps l = ok_or (term_of d ps l.mark l.name) (Unknown l.at l.name)

-- the term that a word is where this type is wanted
abbrev pub argument : Domain → List Param → Name → Lexeme → Read Term
argument d ps want l = resolved d ps l >>= λ t. if is_below d t.kind want then Ok t.term else Err (Kind l.at)

-- these arguments after others, one for each parameter of what is declared
abbrev pub arguments : Domain → List Param → List Param → Nesteds → List Term → Read (List Term)
arguments d ps [] ts before = Ok before
arguments d ps (want ∷ wants) none before = Ok before
arguments d ps (want ∷ wants) (more t ts) before =
    argument d ps want.kind (word_of t) >>= λ term. arguments d ps wants ts (before ++ term ∷ [])

-- a head with its arguments, of which there are 6 at most
abbrev pub lifted : Lexeme → List Term → Read Lifted
lifted head terms = if nat_le (length terms) 6 then Ok (record { head = head.name; terms = terms }) else Err (Arity head.at)

-- a head that is declared so, with arguments that suit it
abbrev pub applied : Domain → List Param → Option Decl → Lexeme → Nesteds → Read Lifted
applied d ps None head ts = Err (Unknown head.at head.name)
applied d ps (Some decl) head ts =
    if length decl.params == count ts then (arguments d ps decl.params ts [] >>= lifted head)
    else Err (Arity head.at)

-- (NAME TERM*), where NAME is a predicate
abbrev pub fact : Domain → List Param → Lexeme → Nesteds → Read Lifted
fact d ps head ts = applied d ps (predicate_of d head.name) head ts

-- (NAME TERM*), where NAME is a function
abbrev pub value_of : Domain → List Param → Lexeme → Nesteds → Read Lifted
value_of d ps head ts = applied d ps (function_of d head.name) head ts

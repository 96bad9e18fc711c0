-- The condition and the fact that nested lists of names and variables are. Each is total: where a list isn't of the shape, or a variable isn't in
-- force, it stands for something all the same.
use Rattle.std.specs.Prelude.{if◌then◌else◌, ℕ, ◌-◌, Option, Some, None, List, [], ◌∷◌, length, position, take}
use Rattle.ps_world.specs.Names.{object, same_name}
use Rattle.ps_world.specs.declared.names.Name.{Name}
use Rattle.ps_world.specs.declared.domains.Param.{Param}
use Rattle.ps_world.specs.declared.facts.Fact.{Fact}
use Rattle.ps_world.specs.declared.schemas.Lifted.{Lifted}
use Rattle.ps_world.specs.declared.schemas.Term.{Term}
use Rattle.ps_world.specs.declared.schemas.Term.TheVariants.{Const, Var}
use Rattle.ps_world.specs.declared.expressions.Expr.TheVariants.{Num}
use Rattle.ps_world.specs.declared.conditions.Cond.{Cond}
use Rattle.ps_world.specs.declared.conditions.Cond.TheVariants.{And}
use Rattle.ps_grammar.specs.Marks.{is}
use Rattle.ps_grammar.specs.declared.marks.Mark.TheVariants.{Minus, Variable}
use Rattle.ps_lists.specs.Nested.{Nested, Nesteds, none, more}
use Rattle.ps_lists.specs.Places.{head, rest, word_of}
use Rattle.ps_lists.specs.declared.lexemes.Lexeme.{Lexeme}
use Rattle.ps_conditions.specs.Conditions as meant
use Rattle.ps_conditions.specs.Steps.{certain}
use Rattle.ps_conditions.specs.Words.{Scopes, Words}

-- the names of words that stand one after another
abbrev pub names_of : Nesteds → List Name
names_of none = []
names_of (more t ts) = (word_of t).name ∷ names_of ts

-- the arguments, of which there are 6 at most
abbrev pub args_of : Nesteds → List Name
args_of ts = take 6 (names_of ts)

-- (NAME NAME*), by what stands between its parentheses, as a fact
abbrev pub fact_of : Nesteds → Fact
fact_of ts = record { head = (head ts).name; args = args_of (rest ts) }

-- ---- terms

-- the variable with this place, or else a constant
abbrev pub at_place : Option ℕ → Name → Term
at_place (Some i) n = Var i
at_place None n = Const n

-- the term that a word is: a variable in force, else a constant
abbrev pub term : List Param → Lexeme → Term
term ps l = if is Variable l.mark then at_place (position (λ p. same_name l.name p.name) ps) l.name else Const l.name

-- the terms that words are which stand one after another
abbrev pub terms_of : List Param → Nesteds → List Term
terms_of ps none = []
terms_of ps (more t ts) = term ps (word_of t) ∷ terms_of ps ts

-- a head and its arguments in a condition, of which there are 6 at most
abbrev pub lifted : List Param → Lexeme → Nesteds → Lifted
lifted ps l ts = record { head = l.name; terms = take 6 (terms_of ps ts) }

-- ---- what quantifiers bind

-- the type of the run of names that goes on here: the name after the next `-`, or `object`
abbrev pub kind_ahead : Nesteds → Name
kind_ahead none = object
kind_ahead (more t ts) = if is Minus (word_of t).mark then (head ts).name else kind_ahead ts

abbrev mutual
  -- VLIST: variables, of which a run before `- NAME` has that type and the rest `object`
  pub typed : Nesteds → List Param
  typed none = []
  typed (more t ts) = if is Minus (word_of t).mark then typed_after ts else record { name = (word_of t).name; kind = kind_ahead ts } ∷ typed ts

  -- those after the name of a type
  pub typed_after : Nesteds → List Param
  typed_after none = []
  typed_after (more t ts) = typed ts

-- the variables that a list binds where these are in force, with two at most in all
abbrev pub bound : List Param → Nesteds → List Param
bound ps ts = take (2 - length ps) (typed ts)

-- ---- conditions

-- what words mean in a line where these variables are in force: no word is refused
abbrev pub line_words : List Param → Words certain
line_words ps = record {
  term = term ps;
  second = λ l t. term ps (word_of t);
  worth = λ l. Num l.number;
  fact = lifted ps;
  function = lifted ps;
}

-- what words mean in a line, and what its quantifiers bind
abbrev pub line_scopes : Scopes certain
line_scopes = record { words = line_words; bound = bound }

-- the condition that a list is
abbrev pub condition : Nested → Cond
condition t = meant.condition certain line_scopes [] t

-- the first of these conditions
abbrev pub first_condition : Nesteds → Cond
first_condition none = And []
first_condition (more t ts) = condition t

-- Which variable of a line is out of its scope first.
use Rattle.std.specs.Prelude.{if◌then◌else◌, nat_le, ℕ, Bool, true, false, not, ◌&&◌, ◌||◌, Option, Some, None, Result, Ok, Err, List, [], ◌∷◌, ◌++◌, length}
use Rattle.std.specs.List.{list_any}
use Rattle.std.specs.Option.{option_or}
use Rattle.ps_world.specs.Names.{same_name}
use Rattle.ps_world.specs.declared.names.Name.{Name}
use Rattle.ps_grammar.specs.Marks.{is}
use Rattle.ps_grammar.specs.declared.marks.Mark.{Mark}
use Rattle.ps_grammar.specs.declared.marks.Mark.TheVariants.{Exists, Forall, Variable}
use Rattle.ps_lists.specs.Nested.{Nested, Nesteds, word, group, none, more}
use Rattle.ps_lists.specs.Places.{items_at, word_of}
use Rattle.ps_lists.specs.declared.lexemes.Lexeme.{Lexeme}
use Rattle.ps_conditions.specs.Steps.{◌>>=◌}
use Rattle.ps_script.specs.declared.scopes.InForce.{InForce}
use Rattle.ps_script.specs.declared.scopes.InForce.TheVariants.{Nothing, One, Two}

-- the names of the variables in force, outer ones first
abbrev pub names_of : InForce → List Name
names_of Nothing = []
names_of (One n) = n ∷ []
names_of (Two m n) = m ∷ n ∷ []

-- the same of what a step gives
abbrev pub named : Result InForce ℕ → Result (List Name) ℕ
named (Ok ns) = Ok (names_of ns)
named (Err at) = Err at

-- whether a word is the head of a quantifier
abbrev pub quantifies : Mark → Bool
quantifies Exists = true
quantifies Forall = true
quantifies m = false

-- the variables in force with this word, if it is one; or its place, where it can't be bound: it is in force already, or it is the third
abbrev pub binds_word : List Name → Lexeme → Result (List Name) ℕ
binds_word ns l =
    if is Variable l.mark then (if list_any (same_name l.name) ns || nat_le 2 (length ns) then Err l.at else Ok (ns ++ l.name ∷ []))
    else Ok ns

-- the variables in force with those of a list, or the place of the first that can't be bound
abbrev pub binds : List Name → Nesteds → Result (List Name) ℕ
binds ns none = Ok ns
binds ns (more t ts) = binds_word ns (word_of t) >>= λ ns. binds ns ts

-- the place of a word that is a variable and not in force
abbrev pub loose : List Name → Lexeme → Option ℕ
loose ns l = if is Variable l.mark && not (list_any (same_name l.name) ns) then Some l.at else None

-- the first out of its scope in a list of variables, or else in what is below it
abbrev pub below : Result (List Name) ℕ → (List Name → Option ℕ) → Option ℕ
below (Ok ns) next = next ns
below (Err at) next = Some at

abbrev mutual
  -- the place of the first variable that is out of its scope where these are in force: it isn't bound there, or can't be
  pub stray : List Name → Nested → Option ℕ
  stray ns (word l) = loose ns l
  stray ns (group ts) = stray_form ns ts

  -- the same of a head and what follows it: a quantifier's variables are in force in all that follows
  pub stray_form : List Name → Nesteds → Option ℕ
  stray_form ns none = None
  stray_form ns (more f ts) =
      if quantifies (word_of f).mark then below (binds ns (items_at ts)) (λ ns. strays ns ts)
      else option_or (stray ns f) (strays ns ts)

  -- the same of each of these
  pub strays : List Name → Nesteds → Option ℕ
  strays ns none = None
  strays ns (more t ts) = option_or (stray ns t) (strays ns ts)

-- What a list of typed names declares.
use Rattle.std.specs.Prelude.{◌≡◌, ℕ, ◌+◌, Bool, true, not, ◌&&◌, nat_le, if◌then◌else◌, Option, Some, None, Ok, Err, List, [], ◌∷◌, ◌++◌, drop, filter, length}
use Rattle.std.specs.List.{list_any}
use Rattle.ps_world.specs.Names.{same_name, object}
use Rattle.ps_world.specs.Knowledge.{is_type}
use Rattle.ps_world.specs.declared.names.Name.{Name}
use Rattle.ps_world.specs.declared.domains.Param.{Param}
use Rattle.ps_world.specs.declared.domains.Domain.{Domain}
use Rattle.ps_grammar.specs.Marks.{is}
use Rattle.ps_grammar.specs.declared.marks.Mark.TheVariants.{Minus}
use Rattle.ps_lists.specs.Nested.{Nesteds, none, more}
use Rattle.ps_lists.specs.Places.{word_of, head}
use Rattle.ps_pddl.specs.Forms.{forms}
use Rattle.ps_conditions.specs.Steps.{◌>>=◌}
use Rattle.ps_pddl.specs.Steps.{Read, unless}
use Rattle.ps_lists.specs.declared.lexemes.Lexeme.{Lexeme}
use Rattle.ps_lists.specs.declared.trees.Tree.{Tree}
use Rattle.ps_pddl.specs.declared.refusals.Cap.{Cap}
use Rattle.ps_pddl.specs.declared.refusals.Cap.TheVariants as cap
use Rattle.ps_pddl.specs.declared.refusals.DomainRefusal.{DomainRefusal}
use Rattle.ps_pddl.specs.declared.refusals.DomainRefusal.TheVariants.{Unknown, Twice, Limit}
use Rattle.ps_pddl.specs.declared.meaning.lists.Listing.{Listing}
use Rattle.ps_pddl.specs.declared.meaning.lists.Listing.TheVariants.{Types, Constants, Params, Bound}

-- what is at fault with one name more in a list, where there are so many: it is one too many, or it is there already
abbrev pub fault_of_new : Cap → ℕ → ℕ → Bool → Lexeme → Option DomainRefusal
fault_of_new which most count taken l =
    if nat_le most count then Some (Limit l.at which) else (if taken then Some (Twice l.at l.name) else None)

-- which limit a list has
abbrev pub cap_of : Listing → Cap
cap_of Types = cap.Types
cap_of Constants = cap.Instances
cap_of Params = cap.Params
cap_of (Bound most) = cap.Bound

-- how many names it has at most
abbrev pub most_of : Listing → ℕ
most_of Types = 256
most_of Constants = 1000
most_of Params = 6
most_of (Bound most) = most

-- whether a name counts: `object` among the types with the parent `object` has no effect
abbrev pub counts : Listing → Param → Bool
counts Types p = not (same_name p.name object && same_name p.kind object)
counts listing p = true

-- those that count
abbrev pub kept : Listing → List Param → List Param
kept listing ps = filter (counts listing) ps

-- how many count, if this one does
abbrev pub counted : Listing → Param → List Param → ℕ
counted listing p ps = if counts listing p then length (kept listing ps) else 0

-- the list with one name more
abbrev pub with_name : Listing → Lexeme → Name → List Param → Read (List Param)
with_name listing l kind before =
    let p : Param = record { name = l.name; kind = kind } in
    unless (fault_of_new (cap_of listing) (most_of listing) (counted listing p before) (list_any (λ q. same_name l.name q.name) before) l)
    (Ok (before ++ p ∷ []))

-- the type of the run of names that goes on here: the name after the next `-`, or `object`
abbrev pub kind_ahead : Nesteds → Name
kind_ahead none = object
kind_ahead (more t ts) = if is Minus (word_of t).mark then (head ts).name else kind_ahead ts

abbrev mutual
  -- TLIST: names, of which a run before `- NAME` has that type and the rest `object`; these names follow those before
  pub listed : Domain → Listing → Nesteds → List Param → Read (List Param)
  listed d listing none before = Ok before
  listed d listing (more t ts) before =
      if is Minus (word_of t).mark then listed_type d listing ts before
      else (with_name listing (word_of t) (kind_ahead ts) before >>= λ before. listed d listing ts before)

  -- the name of a type, and the names after it
  pub listed_type : Domain → Listing → Nesteds → List Param → Read (List Param)
  listed_type d listing none before = Ok before
  listed_type d listing (more t ts) before =
      if is_type d (word_of t).name then listed d listing ts before
      else Err (Unknown (word_of t).at (word_of t).name)

-- the variables that a list binds after these, of which there may be so many then: no name is that of one of these
abbrev pub binding : Domain → ℕ → List Param → Nesteds → Read (List Param)
binding d most ps ts = listed d (Bound most) ts ps >>= λ all. Ok (drop (length ps) all)

-- the name of a type at this place is passed over in every list, or every list is refused for it
abbrev pub PassesType : Domain → List Tree → ℕ → Read (Unit {0}) → Type 0
PassesType d ts at (Ok done) =
    (listing : Listing) (before : List Param) → listed_type d listing (forms (drop at ts)) before ≡ listed d listing (forms (drop (at + 1) ts)) before
PassesType d ts at (Err fault) = (listing : Listing) (before : List Param) → listed_type d listing (forms (drop at ts)) before ≡ Err fault

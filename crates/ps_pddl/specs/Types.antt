-- What the list of types declares.
use Rattle.std.specs.Prelude.{ℕ, suc, zero, Bool, false, not, ◌&&◌, ◌||◌, if◌then◌else◌, Option, Some, None, Ok, Err, List, [], ◌∷◌, ◌++◌, find, length}
use Rattle.std.specs.Option.{option_map_or}
use Rattle.ps_world.specs.Names.{same_name, object}
use Rattle.ps_world.specs.Knowledge.{parent_of}
use Rattle.ps_world.specs.declared.names.Name.{Name}
use Rattle.ps_world.specs.declared.domains.Param.{Param}
use Rattle.ps_world.specs.declared.domains.Domain.{Domain}
use Rattle.ps_grammar.specs.Marks.{is}
use Rattle.ps_grammar.specs.declared.marks.Mark.TheVariants.{Minus}
use Rattle.ps_lists.specs.Nested.{Nesteds, none, more}
use Rattle.ps_lists.specs.Places.{word_of}
use Rattle.ps_pddl.specs.Lists.{listed, kept}
use Rattle.ps_conditions.specs.Steps.{◌>>=◌}
use Rattle.ps_pddl.specs.Steps.{Read}
use Rattle.ps_pddl.specs.declared.refusals.DomainRefusal.TheVariants.{Cycle}
use Rattle.ps_pddl.specs.declared.meaning.lists.Listing.TheVariants.{Types}

abbrev mutual
  -- the names of a list, with the parent `object`, after others: a parent may be declared after its child
  pub names_of : Nesteds → List Param → List Param
  names_of none before = before
  names_of (more t ts) before =
      if is Minus (word_of t).mark then names_after_type ts before
      else names_of ts (before ++ record { name = (word_of t).name; kind = object } ∷ [])

  -- the same after `-`
  pub names_after_type : Nesteds → List Param → List Param
  names_after_type none before = before
  names_after_type (more t ts) before = names_of ts before

-- whether at most so many steps to parents lead from one type to the other; nothing leads through `object`
abbrev pub leads_to : ℕ → Domain → Name → Name → Bool
leads_to zero d at goal = same_name at goal
leads_to (suc n) d at goal =
    same_name at goal || (not (same_name at object) && option_map_or (λ parent. leads_to n d parent goal) (parent_of d at) false)

-- whether a type's parents lead back to it: no way round is longer than there are types. `object` has no parent.
abbrev pub is_cyclic : Domain → Param → Bool
is_cyclic d p = same_name p.name object || leads_to (length d.types) d p.kind p.name

-- the domain, unless a type's parents lead back to it
abbrev pub acyclic : Domain → Option Param → Read Domain
acyclic d None = Ok d
acyclic d (Some p) = Err (Cycle p.name)

-- the domain with the types of a list
abbrev pub with_types : Domain → Nesteds → Read Domain
with_types d ts =
    listed (record d { types = names_of ts [] }) Types ts [] >>= λ all.
    let typed = record d { types = kept Types all } in
    acyclic typed (find (is_cyclic typed) typed.types)

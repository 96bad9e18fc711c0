-- Names that variables stand for.
use Rattle.std.specs.Prelude.{List, map, slice_index_or}
use Rattle.ps_world.specs.Names.{object}
use Rattle.ps_world.specs.declared.names.Name.{Name}
use Rattle.ps_world.specs.declared.schemas.Term.{Term}
use Rattle.ps_world.specs.declared.schemas.Term.TheVariants.{Var, Const}
use Rattle.ps_world.specs.declared.schemas.Lifted.{Lifted}
use Rattle.ps_world.specs.declared.facts.Fact.{Fact}

-- the name that a term is, where a variable stands for the name at its place, and for `object` where there is none
abbrev pub name_in : List Name → Term → Name
name_in env (Var i) = slice_index_or env i object
name_in env (Const n) = n

-- a head with its arguments, where variables stand for these names
abbrev pub ground_in : List Name → Lifted → Fact
ground_in env l = record { head = l.head; args = map (name_in env) l.terms }

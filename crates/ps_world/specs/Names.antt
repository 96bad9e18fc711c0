-- Names, by their numbers.
use Rattle.std.specs.Prelude.{ℕ, Bool, nat_eq, List, [], slice_index_or}
use Rattle.std.specs.Ordering.{nat_cmp, on}
use Rattle.std.specs.declared.cmp.Ordering.{Ordering}
use Rattle.ps_world.specs.declared.names.Name.{Name}

-- whether two names are the same
abbrev pub same_name : Name → Name → Bool
same_name = on (λ n. n.0) nat_eq

-- the order of names
abbrev pub name_cmp : Name → Name → Ordering
name_cmp = on (λ n. n.0) nat_cmp

-- the type above all others
abbrev pub object : Name
object = record { 0 = 0 }

-- a table of names: the text of each, by its number
abbrev pub Table : Type 0
Table = List (List ℕ)

-- the text of a name
abbrev pub name_text : Table → Name → List ℕ
name_text names n = slice_index_or names n.0 []

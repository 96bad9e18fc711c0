-- Tables that keep their names.
use Rattle.std.proofs.Common.{ℕ, List, Option, Some, None, refl}
use Rattle.ps_world.specs.Names.{Table}
use Rattle.ps_text.specs.Names.{Keeps}
use Rattle.ps_text.proofs.Kept.{kept_interned}
use Rattle.ps_lists.specs.Lexemes.{named}

-- a table with a name keeps those that it had
pub kept_named : (t : Table) (o : Option (List ℕ)) → Keeps t (named t o)
kept_named t None = λ n lt. refl
kept_named t (Some name) = kept_interned t name

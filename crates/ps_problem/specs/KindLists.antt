-- The types of instances, in a list by the numbers of their names.
use Rattle.std.specs.Prelude.{◌≡◌, ◌<◌, ℕ, suc, Bool, false, Option, Some, None, List, [], ◌∷◌, length, cond, slice_index_or}
use Rattle.std.specs.List.Sorted.{IsStrictlySortedBy}
use Rattle.std.specs.Map.{keys_of, lookup}
use Rattle.std.specs.Ordering.{is_gt}
use Rattle.ps_world.specs.Names.{name_cmp, same_name}
use Rattle.ps_world.specs.declared.names.Name.{Name}

-- at each place stands the type of the name with that number, if it is an instance
abbrev pub AreKinds : List (Option Name) → List (Name × Name) → Type 0
AreKinds kinds es = (i : ℕ) → i < length kinds → slice_index_or kinds i None ≡ lookup (same_name (record { 0 = i })) es

-- this name has this type afterwards, or none, and all others have what they had
abbrev pub AreAfter : Name → Option Name → List (Name × Name) → List (Name × Name) → Type 0
AreAfter n kind es fs = (m : Name) → lookup (same_name m) fs ≡ cond (same_name m n) kind (lookup (same_name m) es)

-- the names of a list rise, and these are the types of the lowest
abbrev pub IsListed : List (Option Name) → List (Name × Name) → Type 0
IsListed kinds es = AreKinds kinds es × IsStrictlySortedBy name_cmp (keys_of es)

-- how many names at the beginning of a list are below this one
abbrev pub place_of : Name → List (Name × Name) → ℕ
place_of n [] = 0
place_of n (e ∷ es) = cond (is_gt (name_cmp n e.0)) (suc (place_of n es)) 0

-- whether an instance has this name
abbrev pub is_named : Name → Option (Name × Name) → Bool
is_named n None = false
is_named n (Some e) = same_name n e.0

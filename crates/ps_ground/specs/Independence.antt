-- Ground actions that are independent: neither changes an atom that the other reads or changes, so that both orders lead to the same.
use Rattle.std.specs.Prelude.{◌≡◌, ℕ, Bool, true, false, nat_eq, nat_lt, ◌&&◌, ◌*◌, ◌%◌, ◌^◌, bit_and, bit_or, Option, Some, None, List, [], ◌++◌, fold, length, slice_get}
use Rattle.std.specs.Option.{option_map_or}
use Rattle.ps_ground.specs.declared.prepared.Change.{Change}
use Rattle.ps_ground.specs.declared.prepared.Change.TheVariants.{Flags, Effects, Spreads}
use Rattle.ps_ground.specs.declared.footprints.Footprint.{Footprint}
use Rattle.ps_ground.specs.declared.prepared.Prepared.{Prepared}
use Rattle.ps_ground.specs.declared.prepared.Test.{Test}

-- ---- what a ground action reads and changes

-- whether prepared conditions say nothing but that atoms are known
abbrev pub is_plain_test : Test → Bool
is_plain_test t = nat_eq (length t.others) 0

-- whether a change is of flags alone
abbrev pub is_plain_change : Change → Bool
is_plain_change (Flags cleared set) = true
is_plain_change (Effects es clash) = false
is_plain_change (Spreads es) = false

-- whether a ground action is of atoms alone
abbrev pub is_plain : Prepared → Bool
is_plain p = is_plain_test p.start && (is_plain_test p.over && (is_plain_test p.end && (is_plain_change p.at_start && is_plain_change p.at_end)))

-- the places whose flags a change clears or sets
abbrev pub changed_by : Change → List ℕ
changed_by (Flags cleared set) = cleared.items ++ set.items
changed_by (Effects es clash) = []
changed_by (Spreads es) = []

-- the places that a ground action changes
abbrev pub changes : Prepared → List ℕ
changes p = changed_by p.at_start ++ changed_by p.at_end

-- the places that it reads
abbrev pub reads : Prepared → List ℕ
reads p = p.start.wanted.items ++ (p.over.wanted.items ++ p.end.wanted.items)

-- a number with one more bit, by the remainder of a place
abbrev pub with_bit : ℕ → ℕ → ℕ
with_bit n i = bit_or n (1 * 2 ^ (i % 64) % 2 ^ 64)

-- the bits of places, each by its remainder, so that lists with no common bit have no common place
abbrev pub bits_of : List ℕ → ℕ
bits_of places = fold with_bit 0 places

-- the footprint of a ground action has the bits of what it reads and changes
pub record HasFootprint (p : Prepared) : Type 0 where
  pub plain : p.footprint.plain ≡ is_plain p
  pub changed : p.footprint.changed ≡ bits_of (changes p)
  pub touched : p.footprint.touched ≡ bits_of (reads p ++ changes p)

-- ---- independent

-- whether both are of atoms alone, and no bit of what one changes is a bit of what the other reads or changes
abbrev pub are_independent : Footprint → Footprint → Bool
are_independent a b = (a.plain && b.plain) && (nat_eq (bit_and a.changed b.touched) 0 && nat_eq (bit_and b.changed a.touched) 0)

-- whether a ground action needs not be tried where the one at a place led last, if one did: it stands before that one, and they are
-- independent
abbrev pub is_pruned : List Prepared → Option ℕ → ℕ → Prepared → Bool
is_pruned ps None i b = false
is_pruned ps (Some last) i b = nat_lt i last && option_map_or (λ a. are_independent a.footprint b.footprint) (slice_get ps last) false

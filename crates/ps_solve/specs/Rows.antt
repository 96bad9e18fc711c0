-- Rows of flags, each of which says of an atom whether it is known.
use Rattle.std.specs.Prelude.{◌≡◌, ℕ, Bool, ◌&&◌, if◌then◌else◌, List, [], ◌∷◌, ◌++◌, flat_map, length, IsTrue}
use Rattle.std.proofs.Math.Bool.{beq}
use Rattle.std.specs.Hash as fed
use Rattle.std.specs.Ordering.{eq_by_cmp}
use Rattle.std.specs.Cmp.{IsEquivalence, and_equiv, bool_eq_equiv, eq_by_cmp_equiv, first_so, on_equiv, second_so}
use Rattle.std.specs.Cmp.Lexicographic.{lists_equiv, pointwise}
use Rattle.ps_world.specs.declared.facts.Fact.{Fact}
use Rattle.ps_solve.specs.Flags.{flags_fed_alike, flags_key}
use Rattle.ps_solve.specs.Orders.{values_cmp, values_fed_alike, values_total}
use Rattle.ps_ground.specs.States.{State}
use Rattle.ps_solve.specs.declared.rows.Row.{Row}

-- the atoms whose flags are set, in order
abbrev pub facts_of : List Fact → List Bool → List Fact
facts_of [] flags = []
facts_of (a ∷ atoms) [] = []
facts_of (a ∷ atoms) (flag ∷ flags) = if flag then a ∷ facts_of atoms flags else facts_of atoms flags

-- the state of a row over these atoms
abbrev pub plain_state : List Fact → Row → State
plain_state atoms r = record { facts = facts_of atoms r.flags; values = r.values }

-- whether two rows are the same
abbrev pub same_row : Row → Row → Bool
same_row r s = pointwise beq r.flags s.flags && eq_by_cmp values_cmp r.values s.values

pub rows_equiv : IsEquivalence same_row
rows_equiv = and_equiv (on_equiv (λ r. r.flags) (lists_equiv bool_eq_equiv)) (on_equiv (λ r. r.values) (eq_by_cmp_equiv values_total))

-- what a row feeds to a hash
abbrev pub row_fed : Row → List (List ℕ)
row_fed r = fed.u64 (flags_key r.flags) ++ flat_map (λ v. fed.i64 v.1) r.values

-- rows that are the same are fed alike
pub rows_fed_alike : (r s : Row) → IsTrue (same_row r s) → row_fed r ≡ row_fed s
rows_fed_alike r s e =
    let flags = pointwise beq r.flags s.flags in
    let values = eq_by_cmp values_cmp r.values s.values in
    λ i. flags_fed_alike r.flags s.flags (first_so flags values e) i ++ values_fed_alike r.values s.values (second_so flags values e) i

-- each of these rows has a flag for each atom
abbrev pub AreWide : List Fact → List Row → Type 0
AreWide atoms [] = Unit {0}
AreWide atoms (r ∷ rs) = (length r.flags ≡ length atoms) × AreWide atoms rs

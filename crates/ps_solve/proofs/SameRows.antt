-- Rows with a flag for each atom are the same where their states are.
use Rattle.std.proofs.Common.{◌≡◌, true, false, cond, ◌&&◌, ◌||◌, List, [], ◌∷◌, ◌++◌, length, map, refl, ap, sym, ◌∙◌}
use Rattle.std.specs.Cmp.{both_ways, first_so, second_so}
use Rattle.std.specs.Cmp.Lexicographic.{pointwise}
use Rattle.std.specs.List.{list_any}
use Rattle.std.specs.List.Sorted.{IsStrictlySortedBy}
use Rattle.std.specs.Ordering.{eq_by_cmp}
use Rattle.std.proofs.Math.Bool.{beq}
use Rattle.std.proofs.lemmas.Map.Views.{tells_apart}
use Rattle.indexmap.specs.IndexSet.{insert_key}
use Rattle.ps_world.specs.Facts.{fact_cmp}
use Rattle.ps_world.specs.declared.facts.Fact.{Fact}
use Rattle.ps_solve.specs.Orders.{exact_values, values_cmp}
use Rattle.ps_ground.specs.States.{State}
use Rattle.ps_solve.specs.Nodes.{is_met, same_state}
use Rattle.ps_solve.specs.Flags.{same_flags}
use Rattle.ps_solve.specs.Rows.{AreWide, facts_of, plain_state, rows_equiv, same_row}
use Rattle.ps_solve.specs.declared.rows.Row.{Row}
use Rattle.ps_solve.proofs.FlagRows.{flags_told}
use Rattle.ps_solve.proofs.SameStates.{state_itself, state_same}

-- rows with the same flags and values are the same
alike : (r s : Row) → r.flags ≡ s.flags → r.values ≡ s.values → same_row r s ≡ true
alike r s flags values = (λ i. pointwise beq r.flags (sym flags i) && eq_by_cmp values_cmp r.values (sym values i)) ∙ rows_equiv.refl r

-- a row is found where one with its flags and values is
found_alike : (r c : Row) (rows : List Row) → c.flags ≡ r.flags → c.values ≡ r.values → list_any (same_row c) rows ≡ list_any (same_row r) rows
found_alike r c rows flags values = λ i. list_any (λ s. pointwise beq (flags i) s.flags && eq_by_cmp values_cmp (values i) s.values) rows

-- a row is told by its flags and values
pub row_told : (r s : Row) → r.flags ≡ s.flags → r.values ≡ s.values → r ≡ s
row_told r s flags values = λ i. record { flags = flags i; values = values i }

-- rows that are the same have as many flags
pub wide_of_same : (r s : Row) → same_row r s ≡ true → length r.flags ≡ length s.flags
wide_of_same r s e = ap length (same_flags r.flags s.flags (first_so (pointwise beq r.flags s.flags) (eq_by_cmp values_cmp r.values s.values) e))

-- a new row goes last
pub goes_last : (r c : Row) (rows : List Row) → c.flags ≡ r.flags → c.values ≡ r.values → list_any (same_row r) rows ≡ false → insert_key same_row rows c ≡ rows ++ c ∷ []
goes_last r c rows flags values new = ap (λ b. cond b rows (rows ++ c ∷ [])) (found_alike r c rows flags values ∙ new)

module _ (atoms : List Fact) where
  -- the state is told by flags and values
  pub same_plain : (r s : Row) → r.flags ≡ s.flags → r.values ≡ s.values → plain_state atoms r ≡ plain_state atoms s
  same_plain r s flags values = λ i. record { facts = facts_of atoms (flags i); values = values i }

  -- so it is told by what makes rows the same
  pub plain_of_same : (r s : Row) → same_row r s ≡ true → plain_state atoms r ≡ plain_state atoms s
  plain_of_same r s e =
      same_plain r s (same_flags r.flags s.flags (first_so (pointwise beq r.flags s.flags) (eq_by_cmp values_cmp r.values s.values) e))
      (tells_apart exact_values r.values s.values (second_so (pointwise beq r.flags s.flags) (eq_by_cmp values_cmp r.values s.values) e))

  pub wide_more : (rows : List Row) (c : Row) → AreWide atoms rows → length c.flags ≡ length atoms → AreWide atoms (rows ++ c ∷ [])
  wide_more [] c w h = (h, tt)
  wide_more (r ∷ rows) c w h = (w.0, wide_more rows c w.1 h)

  module _ (rise : IsStrictlySortedBy fact_cmp atoms) where
    same_rows : (r s : Row) → length r.flags ≡ length atoms → length s.flags ≡ length atoms → same_row r s ≡ same_state (plain_state atoms r) (plain_state atoms s)
    same_rows r s wide_r wide_s =
        both_ways _ _
        (λ e.
        let flags = same_flags r.flags s.flags (first_so (pointwise beq r.flags s.flags) (eq_by_cmp values_cmp r.values s.values) e) in
        let values = tells_apart exact_values r.values s.values (second_so (pointwise beq r.flags s.flags) (eq_by_cmp values_cmp r.values s.values) e) in
        ap (same_state (plain_state atoms r)) (sym (same_plain r s flags values)) ∙ state_itself (plain_state atoms r))
        (λ e.
        let same = state_same (plain_state atoms r) (plain_state atoms s) e in
        alike r s (flags_told atoms r.flags s.flags rise wide_r wide_s (ap (λ (t : State). t.facts) same)) (ap (λ (t : State). t.values) same))

    -- a row was met where its state was
    pub met_rows : (r : Row) (rows : List Row) → length r.flags ≡ length atoms → AreWide atoms rows → list_any (same_row r) rows ≡ is_met (map (plain_state atoms) rows) (plain_state atoms r)
    met_rows r [] h w = refl
    met_rows r (s ∷ rows) h w = λ i. same_rows r s h w.0 i || met_rows r rows h w.1 i

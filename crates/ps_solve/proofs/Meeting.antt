-- A row that is met, and what is kept then.
use Rattle.std.proofs.Common.{◌≡◌, ℕ, zero, suc, ◌<◌, ◌≤◌, nat_le, Bool, true, false, cond, ◌||◌, List, [], ◌∷◌, ◌++◌, Some, take, drop, fold, length, map, slice_index_or, refl, ap, sym, ◌∙◌, subst, arith}
use Rattle.std.specs.Prelude.{slice_get}
use Rattle.std.specs.List.{list_any}
use Rattle.std.specs.List.Sorted.{IsStrictlySortedBy}
use Rattle.std.proofs.lemmas.Bool.Decides.{nat_tests}
use Rattle.std.proofs.lemmas.List.{length-map}
use Rattle.std.proofs.lemmas.List.Elements.{All-append, All-cons, All-nil}
use Rattle.std.proofs.lemmas.Option.{slice_get_within}
use Rattle.ps_world.specs.Facts.{fact_cmp}
use Rattle.ps_world.specs.declared.facts.Fact.{Fact}
use Rattle.ps_world.proofs.Elements.{get_first}
use Rattle.ps_solve.specs.Expansions.{IsExpanding, NoneGood, leads_of, meets_goal}
use Rattle.ps_solve.specs.Nodes.{is_met}
use Rattle.ps_solve.specs.Queue.{Lead, states, with_lead}
use Rattle.ps_solve.specs.Reached.{places_of, rows_of}
use Rattle.ps_solve.specs.Rows.{AreWide, plain_state, same_row}
use Rattle.ps_solve.specs.declared.expansion.Expansion.{Expansion}
use Rattle.ps_solve.specs.declared.rows.Row.{Row}
use Rattle.ps_solve.specs.declared.task.Task.{Task}
use Rattle.ps_solve.proofs.Queues.{first_stay}
use Rattle.ps_solve.proofs.SameRows.{met_rows, wide_more}

-- rows that were reached, each with how
abbrev Rows : Type 0
Rows = List (Row × List ℕ)

-- each of these rows has a flag for each atom
pub wide_there : (atoms : List Fact) (rows : List Row) (i : ℕ) (r : Row) → AreWide atoms rows → slice_get rows i ≡ Some r → length r.flags ≡ length atoms
wide_there atoms [] i r w e = absurd (cc)
wide_there atoms (s ∷ rows) zero r w e =
    let same : s ≡ r = cc in
    ap (λ (x : Row). length x.flags) (sym same) ∙ w.0
wide_there atoms (s ∷ rows) (suc i) r w e = wide_there atoms rows i r w.1 e

module _ (t : Task) where
  abbrev atoms : List Fact
  atoms = t.grounds.atoms

  -- ---- the leads of rows that were reached

  states_are : (rs : Rows) → states (leads_of t rs) ≡ map (plain_state atoms) (rows_of rs)
  states_are [] = refl
  states_are (r ∷ rs) = ap (λ l. plain_state atoms r.0 ∷ l) (states_are rs)

  places_are : (rs : Rows) → map (λ (l : Lead). l.places) (leads_of t rs) ≡ map (λ (r : Row × List ℕ). r.1) rs
  places_are [] = refl
  places_are (r ∷ rs) = ap (λ l. r.1 ∷ l) (places_are rs)

  pub length-leads : (rs : Rows) → length (leads_of t rs) ≡ length rs
  length-leads [] = refl
  length-leads (r ∷ rs) = ap suc (length-leads rs)

  abbrev lead : Row → List ℕ → Lead
  lead r places = record { state = plain_state atoms r; places = places }

  leads-push : (rs : Rows) (r : Row) (places : List ℕ) → leads_of t (rs ++ (r, places) ∷ []) ≡ leads_of t rs ++ lead r places ∷ []
  leads-push [] r places = refl
  leads-push (s ∷ rs) r places = ap (λ l. lead s.0 s.1 ∷ l) (leads-push rs r places)

  rows-push : (rs : Rows) (r : Row) (places : List ℕ) → rows_of (rs ++ (r, places) ∷ []) ≡ rows_of rs ++ r ∷ []
  rows-push [] r places = refl
  rows-push (s ∷ rs) r places = ap (λ l. s.0 ∷ l) (rows-push rs r places)

  -- the lead of the row at a place stands there
  pub next_lead : (i : ℕ) (rs : Rows) (r : Row) → slice_get (rows_of rs) i ≡ Some r → (rest : List Lead) × (drop i (leads_of t rs) ≡ lead r (places_of rs i) ∷ rest)
  next_lead zero [] r e = absurd (cc)
  next_lead (suc i) [] r e = absurd (cc)
  next_lead zero (s ∷ rs) r e =
      let same : s.0 ≡ r = cc in
      (leads_of t rs, λ j. lead (same j) s.1 ∷ leads_of t rs)
  next_lead (suc i) (s ∷ rs) r e = next_lead i rs r e

  -- a row was met where its lead's state was
  pub row_met : IsStrictlySortedBy fact_cmp atoms → (r : Row) (rs : Rows) → length r.flags ≡ length atoms → AreWide atoms (rows_of rs) → list_any (same_row r) (rows_of rs) ≡ is_met (states (leads_of t rs)) (plain_state atoms r)
  row_met rise r rs h w = met_rows atoms rise r (rows_of rs) h w ∙ ap (λ ss. is_met ss (plain_state atoms r)) (sym (states_are rs))

  -- ---- what is kept

  module _ (most : ℕ) (rs : Rows) where
    by_test : (full met : Bool) (ls : List Lead) (l : Lead) → full ≡ true → cond (full || met) ls (ls ++ l ∷ []) ≡ ls
    by_test true met ls l e = refl
    by_test false met ls l e = absurd (cc)

    by_other : (full met : Bool) (ls : List Lead) (l : Lead) → met ≡ true → cond (full || met) ls (ls ++ l ∷ []) ≡ ls
    by_other true met ls l e = refl
    by_other false true ls l e = refl
    by_other false false ls l e = absurd (cc)

    by_none : (full met : Bool) (ls : List Lead) (l : Lead) → full ≡ false → met ≡ false → cond (full || met) ls (ls ++ l ∷ []) ≡ ls ++ l ∷ []
    by_none true met ls l e f = absurd (cc)
    by_none false true ls l e f = absurd (cc)
    by_none false false ls l e f = refl

    -- where as many are kept as may be, nothing changes
    pub kept_full : (l : Lead) → most ≤ length rs → leads_of t rs ≡ with_lead most (leads_of t rs) l
    kept_full l full =
        let long = length-leads rs in
        let h : most ≤ length (leads_of t rs) = omega (arith, full, long) in
        let f : nat_le most (length (leads_of t rs)) ≡ true = grind (arith, nat_tests, h) in
        sym (by_test (nat_le most (length (leads_of t rs))) (is_met (states (leads_of t rs)) l.state) (leads_of t rs) l f)

    -- nor where it was met
    pub kept_met : (l : Lead) → is_met (states (leads_of t rs)) l.state ≡ true → leads_of t rs ≡ with_lead most (leads_of t rs) l
    kept_met l met = sym (by_other (nat_le most (length (leads_of t rs))) (is_met (states (leads_of t rs)) l.state) (leads_of t rs) l met)

    -- else it goes last
    pub kept_new : (r : Row) (places : List ℕ) → length rs < most → is_met (states (leads_of t rs)) (plain_state atoms r) ≡ false → leads_of t (rs ++ (r, places) ∷ []) ≡ with_lead most (leads_of t rs) (lead r places)
    kept_new r places room new =
        let long = length-leads rs in
        let h : length (leads_of t rs) < most = omega (arith, room, long) in
        let f : nat_le most (length (leads_of t rs)) ≡ false = grind (arith, nat_tests, h) in
        leads-push rs r places ∙ sym (by_none (nat_le most (length (leads_of t rs))) (is_met (states (leads_of t rs)) (plain_state atoms r)) (leads_of t rs) (lead r places) f new)

  at_first : (n i : ℕ) (ls : List Lead) → i < n → slice_index_or (map (λ (l : Lead). l.places) (take n ls)) i [] ≡ slice_index_or (map (λ (l : Lead). l.places) ls) i []
  at_first zero i ls h = absurd (omega (arith, h))
  at_first (suc n) i [] h = refl
  at_first (suc n) zero (l ∷ ls) h = refl
  at_first (suc n) (suc i) (l ∷ ls) h = at_first n i ls (omega (arith, h))

  -- how a row was reached stays as it is
  pub places_stay : (most : ℕ) (old new : Rows) (ms : List Lead) (i : ℕ) → i < length old → leads_of t new ≡ fold (with_lead most) (leads_of t old) ms → places_of new i ≡ places_of old i
  places_stay most old new ms i h is =
      let long = length-leads old in
      let at = λ (ls : List Lead). slice_index_or (map (λ (l : Lead). l.places) ls) i [] in
      let next : i < suc i = omega arith in
      ap (λ l. slice_index_or l i []) (sym (places_are new))
      ∙ sym (at_first (suc i) i (leads_of t new) next)
      ∙ ap at (ap (take (suc i)) is ∙ first_stay most (suc i) (leads_of t old) ms (omega (arith, h, long)))
      ∙ at_first (suc i) i (leads_of t old) next
      ∙ ap (λ l. slice_index_or l i []) (places_are old)

-- ---- a row that is expanded

-- so it is with one more row
pub expanding_on : (e : Expansion) (rs : Rows) (r : Row) (places : List ℕ) → IsExpanding e rs → length r.flags ≡ length e.task.now.grounds.atoms → meets_goal e.task.now (plain_state e.task.now.grounds.atoms r) ≡ false → IsExpanding e (rs ++ (r, places) ∷ [])
expanding_on e rs r places h wide bad =
    let t = e.task.now in
    let rows = sym (rows-push t rs r places) in
    let P : List Row → Type 0 = λ l. slice_get l e.from ≡ Some e.here in
    let Q : List Row → Type 0 = AreWide t.grounds.atoms in
    let R : List Lead → Type 0 = NoneGood t in
    let Bad : Lead → Type 0 = λ l. meets_goal t l.state ≡ false in
    let one = lead t r places in
    record {
      there = subst P rows (get_first (rows_of rs) (r ∷ []) e.from e.here h.there);
      wide = subst Q rows (wide_more t.grounds.atoms (rows_of rs) r h.wide wide);
      none = subst R (sym (leads-push t rs r places)) (All-append Bad (leads_of t rs) (one ∷ []) h.none (All-cons Bad one [] bad (All-nil Bad)));
    }

-- it is one of those that were reached
pub from_below : (e : Expansion) (rs : Rows) → IsExpanding e rs → e.from < length rs
from_below e rs h =
    let within = slice_get_within (rows_of rs) e.from e.here h.there in
    let long = length-map rs (λ (r : Row × List ℕ). r.0) in
    omega (arith, within, long)

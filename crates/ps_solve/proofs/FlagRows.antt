-- The facts that flags stand for: where one is found, and what a flag that is cleared or set changes.
use Rattle.std.proofs.Common.{◌≡◌, ℕ, zero, suc, ◌≤◌, ◌<◌, Bool, true, false, not, List, [], ◌∷◌, Option, Some, None, filter, length, get_or, replicate, set, refl, ap, sym, ◌∙◌, arith, inl, inr}
use Rattle.std.specs.Prelude.{slice_get}
use Rattle.std.specs.List.{list_any}
use Rattle.std.specs.List.Sorted.{IsStrictlySortedBy}
use Rattle.std.specs.Option.{option_map_or}
use Rattle.std.specs.BTreeSet.{insert_key}
use Rattle.std.specs.Ordering.{is_eq}
use Rattle.std.specs.declared.cmp.Ordering.{Ordering}
use Rattle.std.specs.declared.cmp.Ordering.TheVariants.{Less, Equal, Greater}
use Rattle.std.proofs.lemmas.Bool.{cases_lt, or_parts}
use Rattle.std.proofs.lemmas.Option.{slice_get_past}
use Rattle.ps_world.specs.Facts.{fact_cmp}
use Rattle.ps_world.specs.Knowledge.{same_fact}
use Rattle.ps_world.specs.declared.facts.Fact.{Fact}
use Rattle.ps_action.proofs.Contained.{fact_itself}
use Rattle.ps_ground.specs.Atoms.{IsOver}
use Rattle.ps_ground.proofs.Below.{IsBelow, above, none_filtered}
use Rattle.ps_solve.specs.Rows.{facts_of, plain_state}
use Rattle.ps_solve.specs.declared.rows.Row.{Row}

-- ---- facts and those above them

tied : (f : Fact) (r : Ordering) → fact_cmp f f ≡ r → is_eq r ≡ true → fact_cmp f f ≡ Equal
tied f Less e t = absurd (cc)
tied f Equal e t = e
tied f Greater e t = absurd (cc)

equal : (f : Fact) → fact_cmp f f ≡ Equal
equal f = tied f (fact_cmp f f) refl (fact_itself f)

other : (f g : Fact) → fact_cmp f g ≡ Less → same_fact f g ≡ false
other f g e = ap is_eq e

not_above : (f g : Fact) → fact_cmp f g ≡ Less → same_fact g f ≡ false
not_above f g e = ap is_eq (above f g e)

-- none above is the same
none_same : (f : Fact) (gs : List Fact) → IsBelow f gs → list_any (same_fact f) gs ≡ false
none_same f [] h = refl
none_same f (g ∷ gs) h = rw (other f g h.0) (none_same f gs h.1)

-- all above stay
all_stay : (f : Fact) (gs : List Fact) → IsBelow f gs → filter (λ g. not (same_fact f g)) gs ≡ gs
all_stay f [] h = refl
all_stay f (g ∷ gs) h = rw (other f g h.0) (ap (λ l. g ∷ l) (all_stay f gs h.1))

-- below all, it goes first
goes_first : (f : Fact) (gs : List Fact) → IsBelow f gs → insert_key fact_cmp gs f ≡ f ∷ gs
goes_first f [] h = refl
goes_first f (g ∷ gs) h = rw h.0 refl

-- ---- what flags stand for

pub below_facts : (f : Fact) (atoms : List Fact) (flags : List Bool) → IsBelow f atoms → IsBelow f (facts_of atoms flags)
below_facts f [] flags h = tt
below_facts f (a ∷ atoms) [] h = tt
below_facts f (a ∷ atoms) (true ∷ flags) h = (h.0, below_facts f atoms flags h.1)
below_facts f (a ∷ atoms) (false ∷ flags) h = below_facts f atoms flags h.1

below_at : (f g : Fact) (atoms : List Fact) (i : ℕ) → IsBelow f atoms → slice_get atoms i ≡ Some g → fact_cmp f g ≡ Less
below_at f g [] i h e = absurd (cc)
below_at f g (a ∷ atoms) zero h e =
    let same : a ≡ g = cc in
    sym (ap (fact_cmp f) same) ∙ h.0
below_at f g (a ∷ atoms) (suc i) h e = below_at f g atoms i h.1 e

-- they rise as their atoms do
pub facts_rise : (atoms : List Fact) (flags : List Bool) → IsStrictlySortedBy fact_cmp atoms → IsStrictlySortedBy fact_cmp (facts_of atoms flags)
unfolding IsStrictlySortedBy
facts_rise [] flags s = tt
facts_rise (a ∷ atoms) [] s = tt
facts_rise (a ∷ atoms) (true ∷ flags) s = (below_facts a atoms flags s.0, facts_rise atoms flags s.1)
facts_rise (a ∷ atoms) (false ∷ flags) s = facts_rise atoms flags s.1

-- what no atom passes, no fact passes
pub none_known : (p : Fact → Bool) (atoms : List Fact) (flags : List Bool) → list_any p atoms ≡ false → list_any p (facts_of atoms flags) ≡ false
none_known p [] flags e = refl
none_known p (a ∷ atoms) [] e = refl
none_known p (a ∷ atoms) (true ∷ flags) e =
    let w = or_parts (p a) (list_any p atoms) e in
    rw w.0 (none_known p atoms flags w.1)
none_known p (a ∷ atoms) (false ∷ flags) e = none_known p atoms flags (or_parts (p a) (list_any p atoms) e).1

-- a row is over the atoms
pub row_over : (atoms : List Fact) (r : Row) → IsOver atoms (plain_state atoms r)
row_over atoms r f e = none_known (same_fact f) atoms r.flags e

-- what is no atom needs not be taken out
pub none_cleared : (f : Fact) (atoms : List Fact) (flags : List Bool) → list_any (same_fact f) atoms ≡ false → facts_of atoms flags ≡ filter (λ g. not (same_fact f g)) (facts_of atoms flags)
none_cleared f atoms flags e = sym (none_filtered (same_fact f) (facts_of atoms flags) (none_known (same_fact f) atoms flags e))

has_first : (a : Fact) (atoms : List Fact) (flags : List Bool) → IsBelow a atoms → list_any (same_fact a) (facts_of (a ∷ atoms) flags) ≡ get_or flags 0 false
has_first a atoms [] h = refl
has_first a atoms (true ∷ flags) h = rw (fact_itself a) refl
has_first a atoms (false ∷ flags) h = none_same a (facts_of atoms flags) (below_facts a atoms flags h)

-- a fact is known where its flag is set
pub has_flag : (f : Fact) (atoms : List Fact) (i : ℕ) (flags : List Bool) → IsStrictlySortedBy fact_cmp atoms → slice_get atoms i ≡ Some f → list_any (same_fact f) (facts_of atoms flags) ≡ get_or flags i false
unfolding IsStrictlySortedBy
has_flag f [] i flags s e = absurd (cc)
has_flag f (a ∷ atoms) zero flags s e =
    let same : a ≡ f = cc in
    ap (λ g. list_any (same_fact g) (facts_of (a ∷ atoms) flags)) (sym same) ∙ has_first a atoms flags s.0
has_flag f (a ∷ atoms) (suc i) [] s e = refl
has_flag f (a ∷ atoms) (suc i) (true ∷ flags) s e = rw (not_above a f (below_at a f atoms i s.0 e)) (has_flag f atoms i flags s.1 e)
has_flag f (a ∷ atoms) (suc i) (false ∷ flags) s e = has_flag f atoms i flags s.1 e

cleared_first : (a : Fact) (atoms : List Fact) (flags : List Bool) → IsBelow a atoms → facts_of (a ∷ atoms) (set flags 0 false) ≡ filter (λ g. not (same_fact a g)) (facts_of (a ∷ atoms) flags)
cleared_first a atoms [] h = refl
cleared_first a atoms (true ∷ flags) h = rw (fact_itself a) (sym (all_stay a (facts_of atoms flags) (below_facts a atoms flags h)))
cleared_first a atoms (false ∷ flags) h = sym (all_stay a (facts_of atoms flags) (below_facts a atoms flags h))

-- to clear a flag is to take its fact out
pub flag_cleared : (f : Fact) (atoms : List Fact) (i : ℕ) (flags : List Bool) → IsStrictlySortedBy fact_cmp atoms → slice_get atoms i ≡ Some f → facts_of atoms (set flags i false) ≡ filter (λ g. not (same_fact f g)) (facts_of atoms flags)
unfolding IsStrictlySortedBy
flag_cleared f [] i flags s e = absurd (cc)
flag_cleared f (a ∷ atoms) zero flags s e =
    let same : a ≡ f = cc in
    cleared_first a atoms flags s.0 ∙ ap (λ h. filter (λ g. not (same_fact h g)) (facts_of (a ∷ atoms) flags)) same
flag_cleared f (a ∷ atoms) (suc i) [] s e = refl
flag_cleared f (a ∷ atoms) (suc i) (true ∷ flags) s e = rw (not_above a f (below_at a f atoms i s.0 e)) (ap (λ l. a ∷ l) (flag_cleared f atoms i flags s.1 e))
flag_cleared f (a ∷ atoms) (suc i) (false ∷ flags) s e = flag_cleared f atoms i flags s.1 e

set_first : (a : Fact) (atoms : List Fact) (flags : List Bool) → IsBelow a atoms → 0 < length flags → facts_of (a ∷ atoms) (set flags 0 true) ≡ insert_key fact_cmp (facts_of (a ∷ atoms) flags) a
set_first a atoms [] h b = absurd (omega arith)
set_first a atoms (true ∷ flags) h b = rw (equal a) refl
set_first a atoms (false ∷ flags) h b = sym (goes_first a (facts_of atoms flags) (below_facts a atoms flags h))

-- to set a flag is to put its fact in
pub flag_set : (f : Fact) (atoms : List Fact) (i : ℕ) (flags : List Bool) → IsStrictlySortedBy fact_cmp atoms → slice_get atoms i ≡ Some f → i < length flags → facts_of atoms (set flags i true) ≡ insert_key fact_cmp (facts_of atoms flags) f
unfolding IsStrictlySortedBy
flag_set f [] i flags s e b = absurd (cc)
flag_set f (a ∷ atoms) zero flags s e b =
    let same : a ≡ f = cc in
    set_first a atoms flags s.0 b ∙ ap (insert_key fact_cmp (facts_of (a ∷ atoms) flags)) same
flag_set f (a ∷ atoms) (suc i) [] s e b = absurd (omega arith)
flag_set f (a ∷ atoms) (suc i) (true ∷ flags) s e b =
    let less : i < length flags = omega arith in
    rw (above a f (below_at a f atoms i s.0 e)) (ap (λ l. a ∷ l) (flag_set f atoms i flags s.1 e less))
flag_set f (a ∷ atoms) (suc i) (false ∷ flags) s e b =
    let less : i < length flags = omega arith in
    flag_set f atoms i flags s.1 e less

-- ---- flags that stand for the same facts

not_first : (a : Fact) (fs gs : List Fact) → IsBelow a gs → a ∷ fs ≡ gs → ⊥
not_first a fs [] h e = cc
not_first a fs (g ∷ gs) h e =
    let same : a ≡ g = cc in
    let less = ap (fact_cmp a) same ∙ h.0 in
    let tie = equal a in
    cc

-- flags for each atom are told by their facts
pub flags_told : (atoms : List Fact) (fs gs : List Bool) → IsStrictlySortedBy fact_cmp atoms → length fs ≡ length atoms → length gs ≡ length atoms → facts_of atoms fs ≡ facts_of atoms gs → fs ≡ gs
unfolding IsStrictlySortedBy
flags_told [] [] [] s p q e = refl
flags_told [] (f ∷ fs) gs s p q e = absurd (omega arith)
flags_told [] [] (g ∷ gs) s p q e = absurd (omega arith)
flags_told (a ∷ atoms) [] gs s p q e = absurd (omega arith)
flags_told (a ∷ atoms) (f ∷ fs) [] s p q e = absurd (omega arith)
flags_told (a ∷ atoms) (true ∷ fs) (true ∷ gs) s p q e =
    let p' : length fs ≡ length atoms = omega arith in
    let q' : length gs ≡ length atoms = omega arith in
    let e' : facts_of atoms fs ≡ facts_of atoms gs = cc in
    ap (λ l. true ∷ l) (flags_told atoms fs gs s.1 p' q' e')
flags_told (a ∷ atoms) (true ∷ fs) (false ∷ gs) s p q e = absurd (not_first a (facts_of atoms fs) (facts_of atoms gs) (below_facts a atoms gs s.0) e)
flags_told (a ∷ atoms) (false ∷ fs) (true ∷ gs) s p q e = absurd (not_first a (facts_of atoms gs) (facts_of atoms fs) (below_facts a atoms fs s.0) (sym e))
flags_told (a ∷ atoms) (false ∷ fs) (false ∷ gs) s p q e =
    let p' : length fs ≡ length atoms = omega arith in
    let q' : length gs ≡ length atoms = omega arith in
    ap (λ l. false ∷ l) (flags_told atoms fs gs s.1 p' q' e)

-- ---- no flags

-- where no flag is set, no fact is known
pub none_set : (atoms : List Fact) (k : ℕ) → facts_of atoms (replicate k false) ≡ []
none_set [] k = refl
none_set (a ∷ atoms) zero = refl
none_set (a ∷ atoms) (suc k) = none_set atoms k

-- ---- flags by their places

none_past : (atoms : List Fact) (i : ℕ) → slice_get atoms i ≡ None → length atoms ≤ i
none_past [] i e = omega arith
none_past (a ∷ atoms) zero e = absurd (cc)
none_past (a ∷ atoms) (suc i) e = omega (arith, none_past atoms i e)

past_kept : (b : Bool) (atoms : List Fact) (i : ℕ) (flags : List Bool) → slice_get atoms i ≡ None → facts_of atoms (set flags i b) ≡ facts_of atoms flags
past_kept b [] i flags e = refl
past_kept b (a ∷ atoms) zero flags e = absurd (cc)
past_kept b (a ∷ atoms) (suc i) [] e = refl
past_kept b (a ∷ atoms) (suc i) (true ∷ flags) e = ap (λ l. a ∷ l) (past_kept b atoms i flags e)
past_kept b (a ∷ atoms) (suc i) (false ∷ flags) e = past_kept b atoms i flags e

module _ (atoms : List Fact) (i : ℕ) (flags : List Bool) (rise : IsStrictlySortedBy fact_cmp atoms) where
  flag_by : (o : Option Fact) → slice_get atoms i ≡ o → i < length atoms → option_map_or (λ f. list_any (same_fact f) (facts_of atoms flags)) o false ≡ get_or flags i false
  flag_by None e h = absurd (omega (arith, none_past atoms i e))
  flag_by (Some f) e h = has_flag f atoms i flags rise e

  -- an atom is known where its flag is set
  pub known_flag : i < length atoms → option_map_or (λ f. list_any (same_fact f) (facts_of atoms flags)) (slice_get atoms i) false ≡ get_or flags i false
  known_flag h = flag_by (slice_get atoms i) refl h

  cleared_by : (o : Option Fact) → slice_get atoms i ≡ o → facts_of atoms (set flags i false) ≡ option_map_or (λ f. filter (λ g. not (same_fact f g)) (facts_of atoms flags)) o (facts_of atoms flags)
  cleared_by None e = past_kept false atoms i flags e
  cleared_by (Some f) e = flag_cleared f atoms i flags rise e

  -- to clear the flag at a place is to take its atom out
  pub place_cleared : facts_of atoms (set flags i false) ≡ option_map_or (λ f. filter (λ g. not (same_fact f g)) (facts_of atoms flags)) (slice_get atoms i) (facts_of atoms flags)
  place_cleared = cleared_by (slice_get atoms i) refl

  set_by : (o : Option Fact) → slice_get atoms i ≡ o → i < length flags → facts_of atoms (set flags i true) ≡ option_map_or (insert_key fact_cmp (facts_of atoms flags)) o (facts_of atoms flags)
  set_by None e h = past_kept true atoms i flags e
  set_by (Some f) e h = flag_set f atoms i flags rise e h

  -- to set it is to put its atom in
  pub place_set : i < length flags → facts_of atoms (set flags i true) ≡ option_map_or (insert_key fact_cmp (facts_of atoms flags)) (slice_get atoms i) (facts_of atoms flags)
  place_set h = set_by (slice_get atoms i) refl h

  past_all : length flags ≤ i → length flags ≡ length atoms → facts_of atoms (set flags i true) ≡ option_map_or (insert_key fact_cmp (facts_of atoms flags)) (slice_get atoms i) (facts_of atoms flags)
  past_all past wide =
      let none = slice_get_past atoms i (omega (arith, past, wide)) in
      past_kept true atoms i flags none ∙ ap (λ (o : Option Fact). option_map_or (insert_key fact_cmp (facts_of atoms flags)) o (facts_of atoms flags)) (sym none)

  -- so it is past the last too, where there is a flag for each atom
  pub place_put : length flags ≡ length atoms → facts_of atoms (set flags i true) ≡ option_map_or (insert_key fact_cmp (facts_of atoms flags)) (slice_get atoms i) (facts_of atoms flags)
  place_put wide =
      elim (cases_lt i (length flags)) [
        | inl within ↦ place_set within
        | inr past ↦ past_all past wide
      ]

-- Marks are derived from what is wanted, and shallow, or they have a first fault.
use Rattle.std.proofs.Common.{◌≡◌, ◌⊎◌, ℕ, zero, suc, ◌+◌, ◌≤◌, Bool, true, false, List, [], ◌∷◌, length, get_or, Option, None, Some, Err, slice_get, refl, sym, ◌∙◌, inl, inr, arith}
use Rattle.std.proofs.lemmas.Bool.{cases_Bool, cases_lt}
use Rattle.std.proofs.lemmas.Option.{slice_get-get_or}
use Rattle.ps_world.specs.declared.failures.Failure.TheVariants.{Refused}
use Rattle.ps_grammar.specs.Forms.{opened_at, told_at}
use Rattle.ps_grammar.specs.Shape.{Derives, IsDomainShape, IsFirstFaultFrom, IsShallow, IsShallowFrom, Refuses, deepest, next_wanted, opens_level, text_start}
use Rattle.ps_grammar.specs.Steps.{Fails, IsOver, Passes, Stops, form_of}
use Rattle.ps_grammar.specs.Symbols.{level}
use Rattle.ps_grammar.specs.declared.faults.ShapeFault.{ShapeFault}
use Rattle.ps_grammar.specs.declared.faults.ShapeFault.TheVariants.{Unsupported, Depth, Unexpected}
use Rattle.ps_grammar.specs.declared.marks.Mark.{Mark}
use Rattle.ps_grammar.specs.declared.marks.Mark.TheVariants.{Close}
use Rattle.ps_grammar.specs.declared.symbols.Symbol.{Symbol}
use Rattle.ps_grammar.proofs.FirstFaults.{Reached, first_fault_end, first_fault_here, reached_more, reached_start, refused, unfinished, whole}
use Rattle.ps_reading_laws.proofs.Cases.{found}

-- ---- one mark

-- a mark opens a level too many, or doesn't
over_or_not : (st : List Symbol) (m : Mark) → IsOver st m ⊎ (IsOver st m → ⊥)
over_or_not st m =
    elim (cases_Bool (opens_level st (Some m))) [
      | inr other ↦ inr (λ over. let clash : ◌≡◌ {A = Bool} true false = sym over.0 ∙ other in absurd (cc))
      | inl opens ↦ elim (cases_lt (level st) deepest) [
        | inl room ↦ inr (λ over. let deep : deepest ≤ level st = over.1 in omega arith)
        | inr deep ↦ inl (opens, deep)
      ]
    ]

-- a mark passes or stops
passes_or_stops : (st : List Symbol) (m : Mark) → ((new : List Symbol) × Passes st m new) ⊎ Stops st m
passes_or_stops st m =
    elim (over_or_not st m) [
      | inl over ↦ inr (inl over)
      | inr flat ↦ elim (found (next_wanted st m)) [
        | inl new ↦ inl (new.0, (new.1, flat))
        | inr none ↦ inr (inr none)
      ]
    ]

-- a mark that fits nothing is one fault or another
misfits : (st : List Symbol) (m : Mark) (next : Option Mark) (at : ℕ) → next_wanted st m ≡ None → (IsOver st m → ⊥) → (fault : ShapeFault) × Fails st m next at fault
misfits st m next at none flat =
    elim (found (form_of st m next)) [
      | inl what ↦ (Unsupported (told_at what.0 at) what.0, (refl, none, flat, what.1))
      | inr other ↦ (Unexpected at, (refl, none, flat, other))
    ]

-- a mark of a domain's text passes, or is a fault
passes_or_fails : (st : List Symbol) (m : Mark) (next : Option Mark) (at : ℕ) → ((new : List Symbol) × Passes st m new) ⊎ ((fault : ShapeFault) × Fails st m next at fault)
passes_or_fails st m next at =
    elim (over_or_not st m) [
      | inl over ↦ inr (Depth (opened_at (slice_get st 0) at), (refl, over))
      | inr flat ↦ elim (found (next_wanted st m)) [
        | inl new ↦ inl (new.0, (new.1, flat))
        | inr none ↦ inr (misfits st m next at none flat)
      ]
    ]

-- ---- marks where some symbols are wanted

-- the marks are derived and shallow, or have a first fault
abbrev pub IsJudged : List Symbol → List Mark → Type 0
IsJudged start ms = (Derives start ms × IsShallowFrom start ms) ⊎ ((at : ℕ) × IsFirstFaultFrom start ms at)

module _ (start : List Symbol) (ms : List Mark) where
  judged_end : (at : ℕ) (st : List Symbol) → length ms ≤ at → Reached start ms at st → IsJudged start ms
  judged_end at [] past r = inl (whole start ms at [] past refl r)
  judged_end at (s ∷ st) past r = inr (length ms, first_fault_end start ms at (s ∷ st) past (λ e. absurd (cc)) r)

  judged_from : (room at : ℕ) (st : List Symbol) → length ms ≤ at + room → Reached start ms at st → IsJudged start ms
  judged_from zero at st h r = judged_end at st (omega arith) r
  judged_from (suc room) at st h r =
      elim (cases_lt at (length ms)) [
        | inr past ↦ judged_end at st past r
        | inl inside ↦
            let m : Mark = get_or ms at Close in
            let here : slice_get ms at ≡ Some m = slice_get-get_or ms at Close inside in
            elim (passes_or_stops st m) [
              | inl new ↦ judged_from room (at + 1) new.0 (omega arith) (reached_more start ms at st m new.0 r here new.1)
              | inr stops ↦ inr (at, first_fault_here start ms at st m r here stops)
            ]
      ]

pub judged : (start : List Symbol) (ms : List Mark) → IsJudged start ms
judged start ms = judged_from start ms (length ms) 0 start (omega arith) (reached_start start ms)

-- ---- marks of a domain's text

-- the marks are those of a domain's text, or have a first fault
abbrev pub IsTextJudged : List Mark → Type 0
IsTextJudged ms = (IsDomainShape ms × IsShallow ms) ⊎ ((fault : ShapeFault) × Refuses fault ms)

module _ (ms : List Mark) where
  text_end : (at : ℕ) (st : List Symbol) → length ms ≤ at → Reached text_start ms at st → IsTextJudged ms
  text_end at [] past r = inl (whole text_start ms at [] past refl r)
  text_end at (s ∷ st) past r = inr (Unexpected (length ms), unfinished ms at (s ∷ st) past (λ e. absurd (cc)) r)

  text_from : (room at : ℕ) (st : List Symbol) → length ms ≤ at + room → Reached text_start ms at st → IsTextJudged ms
  text_from zero at st h r = text_end at st (omega arith) r
  text_from (suc room) at st h r =
      elim (cases_lt at (length ms)) [
        | inr past ↦ text_end at st past r
        | inl inside ↦
            let m : Mark = get_or ms at Close in
            let here : slice_get ms at ≡ Some m = slice_get-get_or ms at Close inside in
            elim (passes_or_fails st m (slice_get ms (at + 1)) at) [
              | inl new ↦ text_from room (at + 1) new.0 (omega arith) (reached_more text_start ms at st m new.0 r here new.1)
              | inr fails ↦ inr (fails.0, refused (Err (Refused fails.0)) ms at st m r here fails.1)
            ]
      ]

pub text_judged : (ms : List Mark) → IsTextJudged ms
text_judged ms = text_from ms (length ms) 0 text_start (omega arith) (reached_start text_start ms)

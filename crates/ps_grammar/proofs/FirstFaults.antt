-- What one mark after a clear beginning says of the whole list, whatever was wanted before it.
use Rattle.std.proofs.Common.{◌≡◌, ℕ, ◌+◌, ◌<◌, ◌≤◌, true, List, [], ◌∷◌, length, take, Option, None, Some, IfSome, Result, Ok, Err, slice_get, unwrap_or, refl, sym, ◌∙◌, ap, subst, inl, inr, arith}
use Rattle.std.specs.Option.{option_and_then}
use Rattle.std.proofs.lemmas.Bool.{cases_lt}
use Rattle.std.proofs.lemmas.List.{take_all, take-take}
use Rattle.std.proofs.lemmas.Option.{slice_get_within, slice_get_past}
use Rattle.ps_world.specs.Failures.{refusal_of}
use Rattle.ps_world.specs.declared.failures.Failure.{Failure}
use Rattle.ps_world.specs.declared.failures.Failure.TheVariants.{Refused, OutOfMemory}
use Rattle.ps_grammar.specs.Fronts.{IsFirstMisfit}
use Rattle.ps_grammar.specs.Forms.{unsupported, opened_at}
use Rattle.ps_grammar.specs.Shape.{Derives, OpensTooMany, opens_level, IsTooDeepFrom, IsShallowFrom, IsUnexpected, IsFirstFaultFrom, Refuses, form_here, next_wanted, run, text_start, wanted, wanted_from}
use Rattle.ps_grammar.specs.Steps.{IsOver, Passes, Stops, Fails, form_of}
use Rattle.ps_grammar.specs.declared.marks.Mark.{Mark}
use Rattle.ps_grammar.specs.declared.symbols.Symbol.{Symbol}
use Rattle.ps_grammar.specs.declared.faults.ShapeFault.{ShapeFault}
use Rattle.ps_grammar.specs.declared.faults.ShapeFault.TheVariants.{Unsupported, Depth, Unexpected}
use Rattle.ps_grammar.proofs.Places.{slice_get-take, slice_get-take_past, take_one_more}
use Rattle.ps_grammar.proofs.Runs.{run_more, run_of_front, front_of_run, derived_of_run, run_of_derived}

-- The marks before a place fit, these symbols are wanted there, and no parenthesis before it opens too many levels.
pub record Reached (start : List Symbol) (ms : List Mark) (at : ℕ) (st : List Symbol) : Type 0 where
  pub fits : run start (take at ms) ≡ Some st
  pub flat : (k : ℕ) → k < at → IsTooDeepFrom start ms k → ⊥

-- where no mark is, none opens a level
opens_nothing : (st : List Symbol) (here : Option Mark) → here ≡ None → opens_level st here ≡ true → ⊥
opens_nothing st None e opens = absurd (cc)
opens_nothing st (Some m) e opens = absurd (cc)

inside_of_opening : (st : List Symbol) (ms : List Mark) (at : ℕ) (here : Option Mark) → slice_get ms at ≡ here → opens_level st here ≡ true → at < length ms
inside_of_opening st ms at None e opens = absurd (cc)
inside_of_opening st ms at (Some m) e opens = slice_get_within ms at m e

-- a mark that opens a level too many is one of the list
pub inside_of_deep : (start : List Symbol) (ms : List Mark) (at : ℕ) → IsTooDeepFrom start ms at → at < length ms
inside_of_deep start ms at deep = inside_of_opening (wanted_from start (take at ms)) ms at (slice_get ms at) refl deep.0

-- what opens too many levels in a beginning does so in the list
deep_out : (start : List Symbol) (ms : List Mark) (n at : ℕ) → at < n → IsTooDeepFrom start (take n ms) at → IsTooDeepFrom start ms at
deep_out start ms n at h deep =
    subst (λ (x : List Mark). OpensTooMany (wanted_from start x) (slice_get ms at)) (take-take at n ms (omega arith)) (subst (λ (o : Option Mark). OpensTooMany (wanted_from start (take at (take n ms))) o) (slice_get-take n ms at h) deep)

-- and the other way round
pub deep_in : (start : List Symbol) (ms : List Mark) (n at : ℕ) → at < n → IsTooDeepFrom start ms at → IsTooDeepFrom start (take n ms) at
deep_in start ms n at h deep =
    subst (λ (o : Option Mark). OpensTooMany (wanted_from start (take at (take n ms))) o) (sym (slice_get-take n ms at h)) (subst (λ (x : List Mark). OpensTooMany (wanted_from start x) (slice_get ms at)) (sym (take-take at n ms (omega arith))) deep)

-- a beginning is as deep as the list is there
shallow : (start : List Symbol) (ms : List Mark) (n : ℕ) → ((k : ℕ) → k < n → IsTooDeepFrom start ms k → ⊥) → IsShallowFrom start (take n ms)
shallow start ms n flat k deep =
    elim (cases_lt k n) [
      | inl h ↦ flat k h (deep_out start ms n k h deep)
      | inr h ↦ absurd (opens_nothing (wanted_from start (take k (take n ms))) (slice_get (take n ms) k) (slice_get-take_past n ms k h) deep.0)
    ]

one_step : (o : Option (List Symbol)) → option_and_then (λ next. Some next) o ≡ o
one_step None = refl
one_step (Some x) = refl

-- one mark more
run_one_more : (start : List Symbol) (ms : List Mark) (at : ℕ) (st : List Symbol) (m : Mark) → run start (take at ms) ≡ Some st → slice_get ms at ≡ Some m → run start (take (at + 1) ms) ≡ next_wanted st m
run_one_more start ms at st m fits here =
    ap (λ x. run start x) (take_one_more ms at m here) ∙ run_more start (take at ms) (m ∷ []) ∙ ap (λ o. option_and_then (λ now. run now (m ∷ [])) o) fits ∙ one_step (next_wanted st m)

-- the level where symbols are wanted
wanted_is : (start : List Symbol) (ms : List Mark) (st : List Symbol) → run start ms ≡ Some st → wanted_from start ms ≡ st
wanted_is start ms st fits = ap (λ o. unwrap_or o []) fits

over_of_deep : (start : List Symbol) (ms : List Mark) (at : ℕ) (st : List Symbol) (m : Mark) → run start (take at ms) ≡ Some st → slice_get ms at ≡ Some m → IsTooDeepFrom start ms at → IsOver st m
over_of_deep start ms at st m fits here deep =
    subst (λ (x : List Symbol). OpensTooMany x (Some m)) (wanted_is start (take at ms) st fits) (subst (λ (o : Option Mark). OpensTooMany (wanted_from start (take at ms)) o) here deep)

deep_of_over : (start : List Symbol) (ms : List Mark) (at : ℕ) (st : List Symbol) (m : Mark) → run start (take at ms) ≡ Some st → slice_get ms at ≡ Some m → IsOver st m → IsTooDeepFrom start ms at
deep_of_over start ms at st m fits here over =
    subst (λ (o : Option Mark). OpensTooMany (wanted_from start (take at ms)) o) (sym here) (subst (λ (x : List Symbol). OpensTooMany x (Some m)) (sym (wanted_is start (take at ms) st fits)) over)

-- what was wanted before the marks may be named otherwise
pub reached_from : (start other : List Symbol) (ms : List Mark) (at : ℕ) (st : List Symbol) → other ≡ start → run other (take at ms) ≡ Some st → ((k : ℕ) → k < at → IsTooDeepFrom other ms k → ⊥) → Reached start ms at st
reached_from start other ms at st same fits flat = subst (λ (x : List Symbol). Reached x ms at st) same (record { fits = fits; flat = flat })

-- nothing is read yet
pub reached_start : (start : List Symbol) (ms : List Mark) → Reached start ms 0 start
reached_start start ms = record { fits = refl; flat = λ k h _. absurd (omega (arith, h)) }

flat_more : (start : List Symbol) (ms : List Mark) (at : ℕ) (st : List Symbol) (m : Mark) → Reached start ms at st → slice_get ms at ≡ Some m → (IsOver st m → ⊥) → (k : ℕ) → k < at + 1 → IsTooDeepFrom start ms k → ⊥
flat_more start ms at st m r here flat k h deep =
    elim (cases_lt k at) [
      | inl b ↦ r.flat k b deep
      | inr b ↦
          let same : k ≡ at = omega arith in
          flat (over_of_deep start ms at st m r.fits here (subst (λ (x : ℕ). IsTooDeepFrom start ms x) same deep))
    ]

-- a mark that passes leads on
pub reached_more : (start : List Symbol) (ms : List Mark) (at : ℕ) (st : List Symbol) (m : Mark) (new : List Symbol) → Reached start ms at st → slice_get ms at ≡ Some m → Passes st m new → Reached start ms (at + 1) new
reached_more start ms at st m new r here passes = record {
  fits = run_one_more start ms at st m r.fits here ∙ passes.0;
  flat = flat_more start ms at st m r here passes.1;
}

misfit : (start : List Symbol) (ms : List Mark) (at : ℕ) (st : List Symbol) (m : Mark) → Reached start ms at st → slice_get ms at ≡ Some m → next_wanted st m ≡ None → IsFirstMisfit (Derives start) ms at
misfit start ms at st m r here unfit =
    let inside : at < length ms = slice_get_within ms at m here in
    record {
      within = omega arith;
      before = front_of_run start (take at ms) st r.fits;
      here = λ _ f. run_of_front start (take (at + 1) ms) f (run_one_more start ms at st m r.fits here ∙ unfit);
      end = λ same _. omega arith;
    }

form_is : (ms : List Mark) (at : ℕ) (st : List Symbol) (m : Mark) → run text_start (take at ms) ≡ Some st → slice_get ms at ≡ Some m → form_here ms at ≡ form_of st m (slice_get ms (at + 1))
form_is ms at st m fits here =
    ap (λ o. option_and_then (λ x. unsupported (slice_get (wanted (take at ms)) 0) x (slice_get ms (at + 1))) o) here ∙ ap (λ x. unsupported (slice_get x 0) m (slice_get ms (at + 1))) (wanted_is text_start (take at ms) st fits)

-- a mark that opens no level too many keeps the beginning shallow
shallow_more : (start : List Symbol) (ms : List Mark) (at : ℕ) (st : List Symbol) (m : Mark) → Reached start ms at st → slice_get ms at ≡ Some m → (IsOver st m → ⊥) → IsShallowFrom start (take (at + 1) ms)
shallow_more start ms at st m r here flat = shallow start ms (at + 1) (flat_more start ms at st m r here flat)

-- the fault at a mark is the first fault of the text
pub refuses : (r : ShapeFault) (ms : List Mark) (at : ℕ) (st : List Symbol) (m : Mark) → Reached text_start ms at st → slice_get ms at ≡ Some m → Fails st m (slice_get ms (at + 1)) at r → Refuses r ms
refuses (Unsupported place what) ms at st m r here fails = (
  at,
  fails.0,
  record {
    misfit = misfit text_start ms at st m r here fails.1;
    shallow = shallow_more text_start ms at st m r here fails.2;
    form = form_is ms at st m r.fits here ∙ fails.3;
  },
)
refuses (Depth place) ms at st m r here fails = (
  at,
  fails.0 ∙ ap (λ x. opened_at (slice_get x 0) at) (sym (wanted_is text_start (take at ms) st r.fits)),
  record {
    before = front_of_run text_start (take at ms) st r.fits;
    shallow = shallow text_start ms at r.flat;
    deep = deep_of_over text_start ms at st m r.fits here fails.1;
  },
)
refuses (Unexpected place) ms at st m r here fails =
    subst (λ (x : ℕ). IsUnexpected ms x) (sym fails.0) (record {
      misfit = misfit text_start ms at st m r here fails.1;
      shallow = shallow_more text_start ms at st m r here fails.2;
      supported = form_is ms at st m r.fits here ∙ fails.3;
    })

-- an answer that tells the fault at a mark tells the first fault of the text
pub refused : (answer : Result (Unit {0}) (Failure ShapeFault)) (ms : List Mark) (at : ℕ) (st : List Symbol) (m : Mark) → Reached text_start ms at st → slice_get ms at ≡ Some m → IfSome (refusal_of answer) (λ r. Fails st m (slice_get ms (at + 1)) at r) → IfSome (refusal_of answer) (λ r. Refuses r ms)
refused (Ok value) ms at st m r here fails = tt
refused (Err (Refused fault)) ms at st m r here fails = refuses fault ms at st m r here fails
refused (Err OutOfMemory) ms at st m r here fails = tt

whole_run : (start : List Symbol) (ms : List Mark) (at : ℕ) (st : List Symbol) → length ms ≤ at → Reached start ms at st → run start ms ≡ Some st
whole_run start ms at st past r = ap (λ x. run start x) (sym (take_all at ms past)) ∙ r.fits

-- no parenthesis opens too many levels where all marks are reached
flat_whole : (start : List Symbol) (ms : List Mark) (at : ℕ) (st : List Symbol) → length ms ≤ at → Reached start ms at st → IsShallowFrom start ms
flat_whole start ms at st past r k deep = r.flat k (let inside : k < length ms = inside_of_deep start ms k deep in omega arith) deep

-- where nothing more is wanted the marks are derived
pub whole : (start : List Symbol) (ms : List Mark) (at : ℕ) (st : List Symbol) → length ms ≤ at → st ≡ [] → Reached start ms at st → Derives start ms × IsShallowFrom start ms
whole start ms at st past none r = (derived_of_run start ms (whole_run start ms at st past r ∙ ap Some none), flat_whole start ms at st past r)

-- where more is wanted the end of the marks is their first misfit
misfit_end : (start : List Symbol) (ms : List Mark) (at : ℕ) (st : List Symbol) → length ms ≤ at → (st ≡ [] → ⊥) → Reached start ms at st → IsFirstMisfit (Derives start) ms (length ms)
misfit_end start ms at st past more r =
    let all : run start ms ≡ Some st = whole_run start ms at st past r in
    record {
      within = omega arith;
      before = front_of_run start (take (length ms) ms) st (ap (λ x. run start x) (take_all (length ms) ms (omega arith)) ∙ all);
      here = λ h _. omega arith;
      end = λ _ d. more (let done = run_of_derived start ms d in cc);
    }

-- a beginning is shallow where all marks are reached
flat_before : (start : List Symbol) (ms : List Mark) (at n : ℕ) (st : List Symbol) → length ms ≤ at → Reached start ms at st → IsShallowFrom start (take n ms)
flat_before start ms at n st past r = shallow start ms n (λ k h deep. flat_whole start ms at st past r k deep)

-- where more is wanted the text's end is its first fault
pub unfinished : (ms : List Mark) (at : ℕ) (st : List Symbol) → length ms ≤ at → (st ≡ [] → ⊥) → Reached text_start ms at st → IsUnexpected ms (length ms)
unfinished ms at st past more r =
    let none : slice_get ms (length ms) ≡ None = slice_get_past ms (length ms) (omega arith) in
    record {
      misfit = misfit_end text_start ms at st past more r;
      shallow = flat_before text_start ms at (length ms + 1) st past r;
      supported = ap (λ o. option_and_then (λ x. unsupported (slice_get (wanted (take (length ms) ms)) 0) x (slice_get ms (length ms + 1))) o) none;
    }

-- a mark that doesn't pass is the first fault
pub first_fault_here : (start : List Symbol) (ms : List Mark) (at : ℕ) (st : List Symbol) (m : Mark) → Reached start ms at st → slice_get ms at ≡ Some m → Stops st m → IsFirstFaultFrom start ms at
first_fault_here start ms at st m r here stops = record {
  before = front_of_run start (take at ms) st r.fits;
  shallow = shallow start ms at r.flat;
  here = elim stops [
    | inl over ↦ inl (deep_of_over start ms at st m r.fits here over)
    | inr unfit ↦ inr (misfit start ms at st m r here unfit)
  ];
}

-- where more is wanted the end of the marks is their first fault
pub first_fault_end : (start : List Symbol) (ms : List Mark) (at : ℕ) (st : List Symbol) → length ms ≤ at → (st ≡ [] → ⊥) → Reached start ms at st → IsFirstFaultFrom start ms (length ms)
first_fault_end start ms at st past more r =
    let bad : IsFirstMisfit (Derives start) ms (length ms) = misfit_end start ms at st past more r in
    record { before = bad.before; shallow = flat_before start ms at (length ms) st past r; here = inr bad }

-- Whose hands the entries of a session have.
use Rattle.std.proofs.Common.{ℕ, zero, suc, ◌≤◌, ◌%◌, ◌||◌, Bool, true, false, if◌then◌else◌, Option, Some, None, List, [], ◌∷◌, ◌++◌, All, length, map, slice_get}
use Rattle.std.specs.Option.{option_map_or}
use Rattle.std.proofs.lemmas.List.Elements.{All-append, All-cons, All-nil}
use Rattle.ps_machine.specs.declared.inputs.Input.{Input}
use Rattle.ps_machine.specs.declared.journal.CancelWhy.{CancelWhy}
use Rattle.ps_machine.specs.declared.journal.CancelWhy.TheVariants as cancel
use Rattle.ps_machine.specs.declared.journal.Event.{Event}
use Rattle.ps_machine.specs.declared.journal.Entry.{Entry}
use Rattle.ps_rules.specs.Choices.{actors, ordered, Says, turn, with_block}
use Rattle.ps_rules.specs.History.{any_of, broken, cancels, forced, is_fail, unbroken}

module _ (most : ℕ) where
  abbrev IsBelow : Entry → Type 0
  IsBelow e = e.hand ≤ most

  cancels-below : (hand : ℕ) (why : CancelWhy) (acts : List ℕ) → hand ≤ most → All IsBelow (map (cancels hand why) acts)
  cancels-below hand why [] l = All-nil IsBelow
  cancels-below hand why (act ∷ acts) l = All-cons IsBelow (cancels hand why act) (map (cancels hand why) acts) l (cancels-below hand why acts l)

  if-below : (b : Bool) (es : List Entry) → All IsBelow es → All IsBelow (if b then es else [])
  if-below true es h = h
  if-below false es h = All-nil IsBelow

  forced-below : (i : Input) (es : List Entry) (e : Entry) → e.hand ≤ most → All IsBelow (forced i es e)
  forced-below i es e l =
      let all = es ++ e ∷ [] in
      let stops = map (cancels e.hand cancel.Stop) (unbroken i all) in
      let b = is_fail e.what || any_of (broken i all) in
      All-append IsBelow (map (cancels e.hand cancel.OverAll) (broken i all)) (if b then stops else [])
      (cancels-below e.hand cancel.OverAll (broken i all) l) (if-below b stops (cancels-below e.hand cancel.Stop (unbroken i all) l))

  -- the block of an event has the event's hand
  pub block-below : (i : Input) (hand : ℕ) (es : List Entry) (e : Event) → hand ≤ most → All IsBelow es → All IsBelow (with_block i hand es e)
  block-below i hand es e l h =
      let entry : Entry = record { hand = hand; what = e } in
      All-append IsBelow es (entry ∷ forced i es entry) h (All-cons IsBelow entry (forced i es entry) l (forced-below i es entry l))

  done-below : (i : Input) (hand : ℕ) (es : List Entry) (o : Option Event) → hand ≤ most → All IsBelow es → All IsBelow (option_map_or (with_block i hand es) o es)
  done-below i hand es None l h = h
  done-below i hand es (Some e) l h = block-below i hand es e l h

  -- turns in order have the first hand
  pub ordered-below : 1 ≤ most → (says : Says) (i : Input) (es : List Entry) (n : ℕ) → All IsBelow es → All IsBelow (ordered says i es n)
  ordered-below one says i es zero h = h
  ordered-below one says i es (suc n) h =
      let now = ordered says i es n in
      done-below i 1 now (turn says i now (slice_get (actors i) (n % length (actors i)))) one (ordered-below one says i es n h)

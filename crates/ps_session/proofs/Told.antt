-- Which plan answers the query for one.
use Rattle.std.proofs.Common.{◌≡◌, ◌≤◌, ℕ, zero, suc, false, Some, List, [], ◌∷◌, ◌++◌, append_assoc, append-nil, drop, length, slice_get, take, ap, sym, ◌∙◌, subst, arith}
use Rattle.std.specs.Option.{option_map_or}
use Rattle.std.proofs.lemmas.Bool.{true≢false}
use Rattle.ps_action.specs.declared.acts.Act.{Act}
use Rattle.ps_machine.specs.declared.inputs.Input.{Input}
use Rattle.ps_machine.specs.declared.inputs.Query.TheVariants as query
use Rattle.ps_machine.specs.declared.journal.Event.{Event}
use Rattle.ps_machine.specs.declared.journal.Event.TheVariants as event
use Rattle.ps_machine.specs.declared.journal.Entry.{Entry}
use Rattle.ps_rules.specs.Choices.{Says, with_block}
use Rattle.ps_rules.specs.History.{forced}
use Rattle.ps_rules.specs.Lines.{answers_line}
use Rattle.ps_good_plan_laws.specs.Segments.{NoneIs}
use Rattle.ps_pool.specs.Courses.{GrowsInRun}
use Rattle.ps_board.specs.Commands.{asks_plan}
use Rattle.ps_session.specs.Lines.{EachAfter, IsToldBy}
use Rattle.ps_session.proofs.AddedTexts.{since-dropped}
use Rattle.ps_session.proofs.Each.{each-join}
use Rattle.ps_session.proofs.Steps.{forced-answers-none}

module _ (says : Says) (i : Input) (plan : List Act) where
  -- another event isn't answered by a plan
  pub asks-none : (es : List Entry) (e : Event) → asks_plan e ≡ false → IsToldBy says i plan es e
  asks-none es (event.Ask query.Plan) h = absurd (true≢false h)
  asks-none es e h = tt

  pub opens-none : (es : List Entry) (e : Event) → answers_line e ≡ false → IsToldBy says i plan es e
  opens-none es (event.Ask query.Plan) h = absurd (true≢false h)
  opens-none es e h = tt

  quiet-told : (before es : List Entry) → NoneIs answers_line es → EachAfter (IsToldBy says i plan) before es
  quiet-told before [] h = tt
  quiet-told before (e ∷ es) h = (opens-none before e.what h.0, quiet-told (before ++ e ∷ []) es h.1)

  module _ (es : List Entry) (e : Event) (h : IsToldBy says i plan es e) where
    abbrev entry : Entry
    entry = record { hand = 0; what = e }

    abbrev first : List Entry
    first = entry ∷ forced i es entry

    block-told : EachAfter (IsToldBy says i plan) es first
    block-told = (h, quiet-told (es ++ entry ∷ []) (forced i es entry) (forced-answers-none i es entry))

    -- the block of an event
    pub told-block : (new : List Entry) → new ≡ with_block i 0 es e → EachAfter (IsToldBy says i plan) es (drop (length es) new)
    told-block new is = subst (EachAfter (IsToldBy says i plan) es) (sym (since-dropped es new first is)) block-told

    -- and the run that it opens
    pub told-run : (new : List Entry) → GrowsInRun (with_block i 0 es e) new → EachAfter (IsToldBy says i plan) es (drop (length es) new)
    told-run new grows =
        subst (EachAfter (IsToldBy says i plan) es)
        (sym (since-dropped es new (first ++ grows.since) (grows.all ∙ append_assoc es first grows.since)))
        (each-join (IsToldBy says i plan) es first grows.since block-told (quiet-told (es ++ first) grows.since grows.no_line))

  -- nothing came
  pub told-nothing : (es new : List Entry) → new ≡ es → EachAfter (IsToldBy says i plan) es (drop (length es) new)
  told-nothing es new is = subst (EachAfter (IsToldBy says i plan) es) (sym (since-dropped es new [] (is ∙ sym (append-nil es)))) tt

-- ---- the entry at a place

module _ (P : List Entry → Event → Type 0) where
  each-get : (before es : List Entry) (k : ℕ) (e : Entry) → EachAfter P before es → slice_get es k ≡ Some e → P (before ++ take k es) e.what
  each-get before [] k e h at = absurd (cc)
  each-get before (x ∷ es) zero e h at =
      let same : x ≡ e = ap (λ o. option_map_or (λ v. v) o x) at in
      subst (λ xs. P xs e.what) (sym (append-nil before)) (subst (λ (v : Entry). P before v.what) same h.0)
  each-get before (x ∷ es) (suc k) e h at =
      subst (λ xs. P xs e.what) (append_assoc before (x ∷ []) (take k es)) (each-get (before ++ x ∷ []) es k e h.1 at)

  each-past : (start old since : List Entry) (k : ℕ) (e : Entry) → length old ≤ k → EachAfter P (start ++ old) since
      → slice_get (old ++ since) k ≡ Some e → P (start ++ take k (old ++ since)) e.what
  each-past start [] since k e l h at = each-get start since k e (subst (λ xs. EachAfter P xs since) (append-nil start) h) at
  each-past start (x ∷ old) since zero e l h at = absurd (omega (arith, l))
  each-past start (x ∷ old) since (suc k) e l h at =
      subst (λ xs. P xs e.what) (append_assoc start (x ∷ []) (take k (old ++ since)))
      (each-past (start ++ x ∷ []) old since k e (omega (arith, l)) (subst (λ xs. EachAfter P xs since) (sym (append_assoc start (x ∷ []) old)) h) at)

  -- of the entry at a place after the old ones
  pub each-since : (old new since : List Entry) (k : ℕ) (e : Entry) → new ≡ old ++ since → length old ≤ k → EachAfter P old (drop (length old) new)
      → slice_get new k ≡ Some e → P (take k new) e.what
  each-since old new since k e grown l h at =
      let each : EachAfter P old since = subst (EachAfter P old) (since-dropped old new since grown) h in
      subst (λ xs. P (take k xs) e.what) (sym grown) (each-past [] old since k e l each (subst (λ xs. slice_get xs k ≡ Some e) grown at))

-- What is so of the event of each entry after those before it.
use Rattle.std.proofs.Common.{List, [], ◌∷◌, ◌++◌, append_assoc, append-nil, subst, sym}
use Rattle.ps_machine.specs.declared.journal.Event.{Event}
use Rattle.ps_machine.specs.declared.journal.Entry.{Entry}
use Rattle.ps_session.specs.Lines.{EachAfter}

module _ (P : List Entry → Event → Type 0) where
  pub each-join : (before es fs : List Entry) → EachAfter P before es → EachAfter P (before ++ es) fs → EachAfter P before (es ++ fs)
  each-join before [] fs h g = subst (λ xs. EachAfter P xs fs) (append-nil before) g
  each-join before (e ∷ es) fs h g =
      (h.0, each-join (before ++ e ∷ []) es fs h.1 (subst (λ xs. EachAfter P xs fs) (sym (append_assoc before (e ∷ []) es)) g))

  -- it is so of the entry at a seam
  pub each-at : (before es after : List Entry) (e : Entry) → EachAfter P before (es ++ e ∷ after) → P (before ++ es) e.what
  each-at before [] after e h = subst (λ xs. P xs e.what) (sym (append-nil before)) h.0
  each-at before (f ∷ es) after e h = subst (λ xs. P xs e.what) (append_assoc before (f ∷ []) es) (each-at (before ++ f ∷ []) es after e h.1)

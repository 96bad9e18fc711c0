-- What one entry of a history makes of what is known.
use Rattle.std.proofs.Common.{◌≡◌, ℕ, zero, suc, ◌+◌, ◌==◌, true, false, Some, Result, Ok, Err, is_ok, List, [], ◌∷◌, ◌++◌, take, slice_get, IsTrue, refl, arith, ap, sym, ◌∙◌, subst, append_assoc, append-nil}
use Rattle.std.proofs.lemmas.Bool.{and_parts}
use Rattle.ps_world.specs.Knowledge.{edited}
use Rattle.ps_world.specs.declared.known.Knowledge.{Knowledge}
use Rattle.ps_world.specs.declared.edits.Edit.{Edit}
use Rattle.ps_world.specs.declared.edits.EditRefusal.{EditRefusal}
use Rattle.ps_machine.specs.declared.inputs.Input.{Input}
use Rattle.ps_machine.specs.declared.journal.By.{By}
use Rattle.ps_machine.specs.declared.journal.By.TheVariants as by
use Rattle.ps_machine.specs.declared.journal.Event.TheVariants as event
use Rattle.ps_machine.specs.declared.journal.Entry.{Entry}
use Rattle.ps_rules.specs.Runs.{plan}
use Rattle.ps_rules.specs.Known.{kept, know, known_after}
use Rattle.ps_rules.specs.Lines.{answered, next_line}
use Rattle.ps_rules.specs.Members.{next_edit, next_seen}
use Rattle.ps_rules.specs.Legal.{is_edit, is_legal, line_edit, row_allows}
use Rattle.ps_rules.specs.Laws.{EachIsLegal, is_cancel}
use Rattle.ps_rules.proofs.Going.{entries_are_legal}
use Rattle.ps_rules.proofs.Kept.{fits-legal}
use Rattle.ps_rules.proofs.Pushed.{know-push, known_after-other}
use Rattle.ps_stale_plan_laws.specs.Asked.{EditsAreMade, OthersLeave}

-- ---- places

-- one more entry than those before a place: the entry that stands there too
pub take_more : (es : List Entry) (k : ℕ) (e : Entry) → slice_get es k ≡ Some e → take (k + 1) es ≡ take k es ++ e ∷ []
take_more es k e at = let one : suc k ≡ k + 1 = omega arith in subst (λ n. take n es ≡ take k es ++ e ∷ []) one (by_place es k e at)
  where
    by_place : (es : List Entry) (k : ℕ) (e : Entry) → slice_get es k ≡ Some e → take (suc k) es ≡ take k es ++ e ∷ []
    by_place [] k e at = absurd (cc)
    by_place (f ∷ es) zero e at = let same : f ≡ e = cc in ap (λ x. x ∷ []) same
    by_place (f ∷ es) (suc k) e at = ap (λ xs. f ∷ xs) (by_place es k e at)

-- each entry but the cancels is legal after those before it
pub legal_at : (i : Input) (before es : List Entry) (k : ℕ) (e : Entry) → EachIsLegal i before es → slice_get es k ≡ Some e → is_cancel e.what ≡ false
    → IsTrue (is_legal i (before ++ take k es) e.what)
legal_at i before [] k e l at n = absurd (cc)
legal_at i before (f ∷ es) zero e l at n =
    let same : f ≡ e = cc in
    subst (λ t. IsTrue (is_legal i t e.what)) (sym (append-nil before))
    (subst (λ x. is_cancel x.what ≡ false → IsTrue (is_legal i before x.what)) same l.0 n)
legal_at i before (f ∷ es) (suc k) e l at n =
    subst (λ t. IsTrue (is_legal i t e.what)) (append_assoc before (f ∷ []) (take k es)) (legal_at i (before ++ f ∷ []) es k e l.1 at n)

-- ---- what is known

-- an edit that fits is accepted
fits_accepted : (i : Input) (es : List Entry) (whose : By) (edit : Edit) → row_allows i es (event.Edit whose edit) ≡ true → is_ok (edited i.domain (know i es) edit) ≡ true
fits_accepted i es (by.Terminal n) edit f = (and_parts (is_edit edit (line_edit (next_line i es))) (is_ok (edited i.domain (know i es) edit)) (and_parts (n == answered es + 1) _ f).1).1
fits_accepted i es (by.Performer r p) edit f = (and_parts (is_edit edit (next_edit i r p es)) (is_ok (edited i.domain (know i es) edit)) f).1
fits_accepted i es (by.Observer o) edit f = (and_parts (is_edit edit (next_seen i o es)) (is_ok (edited i.domain (know i es) edit)) f).1

-- what an accepted edit makes is kept
made_is : (k : Knowledge) (r : Result Knowledge EditRefusal) → is_ok r ≡ true → r ≡ Ok (kept k r)
made_is k (Ok new) h = refl
made_is k (Err why) h = absurd (cc)

-- what is known after an entry
know_at : (i : Input) (es : List Entry) (k : ℕ) (e : Entry) → slice_get es k ≡ Some e
    → know i (take (k + 1) es) ≡ known_after i.domain (plan (take k es)) (know i (take k es)) e.what
know_at i es k e at = ap (know i) (take_more es k e at) ∙ know-push i (take k es) e

pub edits_are_made : EditsAreMade
edits_are_made i es k e whose edit h at what =
    let before : List Entry = take k es in
    let legal = legal_at i [] es k e (entries_are_legal i es h) at (ap is_cancel what) in
    let fit = fits-legal i before (event.Edit whose edit) (subst (λ w. IsTrue (is_legal i before w)) what legal) in
    made_is (know i before) (edited i.domain (know i before) edit) (fits_accepted i before whose edit fit)
    ∙ ap Ok (sym (know_at i es k e at ∙ ap (known_after i.domain (plan before) (know i before)) what))

pub others_leave : OthersLeave
others_leave i es k e at n = know_at i es k e at ∙ known_after-other i.domain (plan (take k es)) (know i (take k es)) e.what n

-- The entries since the solver was asked, one after another.
use Rattle.std.proofs.Common.{◌≡◌, ℕ, ◌+◌, ◌≤◌, true, false, Some, List, [], ◌∷◌, ◌++◌, length, take, drop, slice_get, refl, arith, ap, sym, ◌∙◌, subst, inl, inr, append_assoc, append-nil}
use Rattle.std.proofs.Math.Seq.{take-append_seam}
use Rattle.std.proofs.lemmas.Bool.{cases_order, false_from_ne_true}
use Rattle.std.proofs.lemmas.List.{length-take-le, take-append-drop}
use Rattle.std.proofs.lemmas.Option.{slice_get_past}
use Rattle.ps_world.proofs.Optionals.{some_same}
use Rattle.ps_machine.specs.declared.inputs.Input.{Input}
use Rattle.ps_machine.specs.declared.journal.Entry.{Entry}
use Rattle.ps_rules.specs.Known.{know}
use Rattle.ps_rules.specs.History.{IsHistory}
use Rattle.ps_rules.specs.Choices.{wants_plan}
use Rattle.ps_rules.specs.Prefixes.{Leads}
use Rattle.ps_rules.proofs.Prefixes.{history-leads, lead-next, prefixes_go_on}
use Rattle.ps_rules.proofs.InOrder.{get-seam}
use Rattle.ps_stale_plan_laws.specs.Asked.{Counts, ends_plan, may_come, NoneCount, NoneCountBetween, OnlyEditsCount, StillAsked, WasAsked}
use Rattle.ps_stale_plan_laws.specs.Asked.Counts.{planned, changed}
use Rattle.ps_stale_plan_laws.proofs.Asking.{all_quiet, asked_of, asked_still, AskedStill, IsAsked, legal_may_come, of_asked}
use Rattle.ps_stale_plan_laws.proofs.Due.{cut, none_due}
use Rattle.ps_stale_plan_laws.proofs.Lists.{take_seam}
use Rattle.ps_stale_plan_laws.proofs.Sameness.{knowledge_decides}

-- ---- one entry

-- an entry that doesn't count ends no plan and leaves what is known
pub idle : (i : Input) (es : List Entry) (k : ℕ) (e : Entry) → slice_get es k ≡ Some e → (Counts i es k → ⊥) → (ends_plan e.what ≡ false) × (know i (take k es) ≡ know i (take (k + 1) es))
idle i es k e at n =
    (false_from_ne_true (ends_plan e.what) (λ t. n (planned e at t)), knowledge_decides (know i (take k es)) (know i (take (k + 1) es)) (λ h. n (changed h)))

-- the next entry of a history while the solver is asked
abbrev Next : Input → List Entry → Entry → List Entry → Type 0
Next i before e rest = AskedStill i before e × (know i (before ++ e ∷ []) ≡ know i before) × Leads i (before ++ e ∷ []) [] rest []

next_idle : (i : Input) (before : List Entry) (e : Entry) (rest : List Entry) → IsHistory i before → IsAsked i before → Leads i before [] (e ∷ rest) []
    → (Counts i (before ++ e ∷ rest) (length before) → ⊥) → Next i before e rest
next_idle i before e rest history asked l n =
    let w = lead-next i before rest [] e l in
    let u = idle i (before ++ e ∷ rest) (length before) e (get-seam before e rest) n in
    let known : know i (before ++ e ∷ []) ≡ know i before =
    ap (know i) (sym (take_seam before e rest)) ∙ sym u.1 ∙ ap (know i) (take-append_seam before (e ∷ rest)) in
    let still = asked_still i before e history asked w.0 w.1 u.0 known in
    (still, known, subst (λ due. Leads i (before ++ e ∷ []) due rest []) still.forces w.2)

-- ---- the walks

length_last : (xs : List Entry) (e : Entry) → length (xs ++ e ∷ []) ≡ length xs + 1
length_last [] e = refl
length_last (x ∷ xs) e = let n = length_last xs e in omega (arith, n)

-- while nothing counts
still : (i : Input) (before rest : List Entry) → IsHistory i before → IsAsked i before → Leads i before [] rest [] → NoneCount i (before ++ rest) (length before)
    → IsAsked i (before ++ rest) × (know i (before ++ rest) ≡ know i before)
still i before [] history asked l n = (subst (IsAsked i) (sym (append-nil before)) asked, ap (know i) (append-nil before))
still i before (e ∷ rest) history asked l n =
    let w = next_idle i before e rest history asked l (n (length before) (omega arith)) in
    let join = append_assoc before (e ∷ []) rest in
    let far = length_last before e in
    let g = still i (before ++ e ∷ []) rest w.0.history w.0.asked w.2
    (subst (λ t. NoneCount i t (length (before ++ e ∷ []))) (sym join) (λ k m. n k (omega (arith, far, m)))) in
    (subst (IsAsked i) join g.0, ap (know i) (sym join) ∙ g.1 ∙ w.1)

-- what stands where nothing before counts
comes_at : (i : Input) (before rest : List Entry) (k : ℕ) (f : Entry) → IsHistory i before → IsAsked i before → Leads i before [] rest [] → length before ≤ k
    → slice_get (before ++ rest) k ≡ Some f → NoneCountBetween i (before ++ rest) (length before) k → may_come f.what ≡ true
comes_at i before [] k f history asked l m at n =
    let far : length (before ++ []) ≤ k = subst (λ t. length t ≤ k) (sym (append-nil before)) m in
    absurd (let none = sym (slice_get_past (before ++ []) k far) ∙ at in cc)
comes_at i before (e ∷ rest) k f history asked l m at n =
    elim (cases_order (length before) k) [
      | inl same ↦
          let it : e ≡ f = some_same e f (sym (get-seam before e rest) ∙ ap (slice_get (before ++ e ∷ rest)) same ∙ at) in
          ap (λ x. may_come x.what) (sym it) ∙ legal_may_come i before history asked e.what (lead-next i before rest [] e l).0
      | inr (inl less) ↦
          let w = next_idle i before e rest history asked l (n (length before) (omega arith) less) in
          let join = append_assoc before (e ∷ []) rest in
          let far = length_last before e in
          comes_at i (before ++ e ∷ []) rest k f w.0.history w.0.asked w.2 (omega (arith, far, less)) (ap (λ t. slice_get t k) join ∙ at)
          (subst (λ t. NoneCountBetween i t (length (before ++ e ∷ [])) k) (sym join) (λ j a b. n j (omega (arith, far, a)) b))
      | inr (inr more) ↦ absurd (omega (arith, m, more))
    ]

-- ---- where the solver was asked

-- there the entries are a history, and the rest goes on from nothing that is due
record IsAskedAt (i : Input) (es : List Entry) (at : ℕ) : Type 0 where
  history : IsHistory i (take at es)
  asked : IsAsked i (take at es)
  leads : Leads i (take at es) [] (drop at es) []
  joins : take at es ++ drop at es ≡ es
  long : length (take at es) ≡ at

asked_at : (i : Input) (es : List Entry) (at : ℕ) → IsHistory i es → WasAsked i es at → IsAskedAt i es at
asked_at i es at history was =
    let joins = take-append-drop at es in
    let w = cut i [] [] (take at es) (drop at es) [] tt (subst (λ t. Leads i [] [] t []) (sym joins) (history-leads i es history)) in
    let asked = asked_of i (take at es) was.asks in
    let none = none_due (take at es) w.0 (all_quiet i (take at es) asked.settled) w.1 in
    record {
      history = subst (IsHistory i) (append-nil (take at es)) (subst (λ due. IsHistory i (take at es ++ due)) none (prefixes_go_on i (take at es) w.0 w.2));
      asked = asked;
      leads = subst (λ due. Leads i (take at es) due (drop at es) []) none w.3;
      joins = joins;
      long = length-take-le at es was.few;
    }

pub still_asked : StillAsked
still_asked i es at history was none =
    let w = asked_at i es at history was in
    let g = still i (take at es) (drop at es) w.history w.asked w.leads (subst (λ t. NoneCount i t (length (take at es))) (sym w.joins) (subst (NoneCount i es) (sym w.long) none)) in
    record { asks = ap (wants_plan i) (sym w.joins) ∙ of_asked i (take at es ++ drop at es) g.0; known = ap (know i) (sym w.joins) ∙ g.1 }

pub only_edits_count : OnlyEditsCount
only_edits_count i es at k e history was after there none =
    let w = asked_at i es at history was in
    comes_at i (take at es) (drop at es) k e w.history w.asked w.leads (subst (λ n. n ≤ k) (sym w.long) after) (ap (λ t. slice_get t k) w.joins ∙ there)
    (subst (λ t. NoneCountBetween i t (length (take at es)) k) (sym w.joins) (subst (λ n. NoneCountBetween i es n k) (sym w.long) none))

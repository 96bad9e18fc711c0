-- Looking for the first entry that counts, place by place, and a journal that grows meanwhile.
use Rattle.std.proofs.Common.{◌≡◌, ℕ, ◌+◌, ◌≤◌, true, false, Some, List, ◌++◌, length, take, slice_get, arith, ap, sym, ◌∙◌, subst, inl, inr}
use Rattle.std.proofs.Math.Seq.{take-length}
use Rattle.std.proofs.lemmas.Bool.{cases_lt, true≢false}
use Rattle.std.proofs.lemmas.List.{length-append, take-append-le, take_all}
use Rattle.std.proofs.lemmas.Option.{slice_get_past}
use Rattle.ps_world.proofs.Optionals.{some_same}
use Rattle.ps_machine.specs.declared.inputs.Input.{Input}
use Rattle.ps_machine.specs.declared.journal.Entry.{Entry}
use Rattle.ps_rules.specs.Known.{know}
use Rattle.ps_rules.specs.Choices.{wants_plan}
use Rattle.ps_stale_plan_laws.specs.Asked.{AskedForGood, Counts, ends_plan, NoneCount, NoneCountBetween, WasAsked}
use Rattle.ps_stale_plan_laws.specs.Asked.Counts.{planned, changed}

-- ---- what counts

-- an entry that ends no plan and leaves what is known doesn't count
pub uncounted : (i : Input) (es : List Entry) (k : ℕ) (e : Entry) → slice_get es k ≡ Some e → ends_plan e.what ≡ false → know i (take k es) ≡ know i (take (k + 1) es)
    → Counts i es k → ⊥
uncounted i es k e at n same (planned f there t) =
    let it : e ≡ f = some_same e f (sym at ∙ there) in true≢false (sym t ∙ ap (λ x. ends_plan x.what) (sym it) ∙ n)
uncounted i es k e at n same (changed h) = h same

-- nothing past the end counts
pub past_uncounted : (i : Input) (es : List Entry) (k : ℕ) → length es ≤ k → Counts i es k → ⊥
past_uncounted i es k m (planned f there t) = absurd (let none = sym (slice_get_past es k m) ∙ there in cc)
past_uncounted i es k m (changed h) =
    let more : length es ≤ k + 1 = omega (arith, m) in h (ap (know i) (take_all k es m ∙ sym (take_all (k + 1) es more)))

-- ---- the search

-- at the first place nothing is passed yet
pub none_yet : (i : Input) (es : List Entry) (at : ℕ) → NoneCountBetween i es at at
none_yet i es at j a b = absurd (omega (arith, a, b))

-- one place more
pub one_more : (i : Input) (es : List Entry) (at k : ℕ) → NoneCountBetween i es at k → (Counts i es k → ⊥) → NoneCountBetween i es at (k + 1)
one_more i es at k n here j a b =
    elim (cases_lt j k) [
      | inl less ↦ n j a less
      | inr far ↦ let same : k ≡ j = omega (arith, far, b) in λ c. here (subst (Counts i es) (sym same) c)
    ]

-- where none counts before the end none does
pub none_to_end : (i : Input) (es : List Entry) (at : ℕ) → NoneCountBetween i es at (length es) → NoneCount i es at
none_to_end i es at n k a =
    elim (cases_lt k (length es)) [ inl less ↦ n k a less | inr far ↦ past_uncounted i es k far ]

-- ---- a journal that grows

-- where the solver is asked now it was asked after all entries
pub asked_now : (i : Input) (es : List Entry) → wants_plan i es ≡ true → WasAsked i es (length es)
asked_now i es h = record { few = omega arith; asks = ap (wants_plan i) (take-length es) ∙ h }

pub asked_for_good : AskedForGood
asked_for_good i es more at was =
    let same = take-append-le at es more was.few in
    let few = was.few in
    let long = length-append es more in
    record { few = omega (arith, few, long); asks = ap (wants_plan i) same ∙ was.asks }

-- what was known then
pub known_then : (i : Input) (es more : List Entry) (at : ℕ) → WasAsked i es at → know i (take at (es ++ more)) ≡ know i (take at es)
known_then i es more at was = ap (know i) (take-append-le at es more was.few)

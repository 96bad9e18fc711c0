-- The next number of a desk, and what it keeps of what was sent.
use Rattle.std.proofs.Common.{◌≡◌, ◌≢◌, ℕ, ◌+◌, ◌≤◌, List, [], ◌∷◌, ◌++◌, length, refl, sym, ap, ◌∙◌, arith}
use Rattle.std.proofs.lemmas.List.{length-append}
use Rattle.std.proofs.lemmas.List.Sums.{fold-append}
use Rattle.ps_hub.specs.declared.report.Report.{Report}
use Rattle.ps_hub.specs.Reports.{on}
use Rattle.ps_hub.specs.Sending.{last_request}
use Rattle.ps_hub.specs.Passes.{Counts}
use Rattle.ps_hub.proofs.Lists.{on_more, on_same}

-- on a later request than the last nothing was sent
pub none_later : (last count r : ℕ) (sent : List Report) → Counts last count sent → last_request sent ≤ r → r ≢ last → length (on r sent) ≡ 0
none_later last count r sent c le other = ap (λ (l : List Report). length l) (c.later r (let e = c.last_is in omega arith))

-- what is kept after one more report on a request that isn't before the last
pub counts_more : (last count r n : ℕ) (sent : List Report) (x : Report) → Counts last count sent → last_request sent ≤ r → x.r ≡ r → n ≡ length (on r sent)
    → Counts r (n + 1) (sent ++ x ∷ [])
counts_more last count r n sent x c le is number = record {
  last_is = sym is ∙ sym (fold-append (λ (a : ℕ) (y : Report). y.r) 0 sent (x ∷ []));
  count_is =
      let l : length (on r (sent ++ x ∷ [])) ≡ length (on r sent) + 1 = ap (λ (k : List Report). length k) (on_more r sent x is) ∙ length-append (on r sent) (x ∷ []) in
      omega arith;
  later = λ q less. on_same q sent x (λ same. let e = is in omega arith) ∙ c.later q (let e = c.last_is in omega arith);
}

pub counts_none : Counts 0 0 []
counts_none = record { last_is = refl; count_is = refl; later = λ r less. refl }

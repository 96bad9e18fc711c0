-- Lists of reports by performer and by request, and lists read by `get_elem?`.
use Rattle.std.proofs.Common.{◌≡◌, ◌≢◌, ℕ, length, ◌<◌, ◌+◌, List, [], ◌∷◌, ◌++◌, refl, sym, ap, ◌∙◌, subst, arith}
use Rattle.std.specs.Prelude.{◌==◌, slice_index_or}
use mathlib.Core.Logic.{dite}
use native.Mathlib.Decide.{ℕ_discrete}
use Rattle.std.specs.List.{All}
use Rattle.std.proofs.lemmas.List.Elements.{All-head, All-tail, filter-append}
use Rattle.std.proofs.lemmas.List.{append-nil, length-append, get_or_append_left}
use Rattle.std.proofs.Math.Seq.{get_or-append_seam}
use Rattle.ps_hub.specs.declared.report.Report.{Report}
use Rattle.ps_hub.specs.Reports.{of, on, CountsUp, IsNumbered}

-- ---- by performer and by request

of_one : (by : ℕ) (x : Report) → x.by ≡ by → of by (x ∷ []) ≡ x ∷ []
of_one by x is = grind (arith, is)

of_other : (by : ℕ) (x : Report) → x.by ≢ by → of by (x ∷ []) ≡ []
of_other by x isnt = grind (arith, isnt)

on_one : (r : ℕ) (x : Report) → x.r ≡ r → on r (x ∷ []) ≡ x ∷ []
on_one r x is = grind (arith, is)

on_other : (r : ℕ) (x : Report) → x.r ≢ r → on r (x ∷ []) ≡ []
on_other r x isnt = grind (arith, isnt)

-- one more report of a performer, or of another
pub of_more : (by : ℕ) (rs : List Report) (x : Report) → x.by ≡ by → of by (rs ++ x ∷ []) ≡ of by rs ++ x ∷ []
of_more by rs x is = filter-append (λ (y : Report). y.by == by) rs (x ∷ []) ∙ ap (λ l. of by rs ++ l) (of_one by x is)

pub of_same : (by : ℕ) (rs : List Report) (x : Report) → x.by ≢ by → of by (rs ++ x ∷ []) ≡ of by rs
of_same by rs x isnt =
    filter-append (λ (y : Report). y.by == by) rs (x ∷ []) ∙ (ap (λ l. of by rs ++ l) (of_other by x isnt) ∙ append-nil (of by rs))

pub on_more : (r : ℕ) (rs : List Report) (x : Report) → x.r ≡ r → on r (rs ++ x ∷ []) ≡ on r rs ++ x ∷ []
on_more r rs x is = filter-append (λ (y : Report). y.r == r) rs (x ∷ []) ∙ ap (λ l. on r rs ++ l) (on_one r x is)

pub on_same : (r : ℕ) (rs : List Report) (x : Report) → x.r ≢ r → on r (rs ++ x ∷ []) ≡ on r rs
on_same r rs x isnt =
    filter-append (λ (y : Report). y.r == r) rs (x ∷ []) ∙ (ap (λ l. on r rs ++ l) (on_other r x isnt) ∙ append-nil (on r rs))

-- a performer whose desk wasn't dealt has no reports
pub of_none : (by : ℕ) (rs : List Report) → All (λ x. x.by < by) rs → of by rs ≡ []
of_none by [] all = refl
of_none by (x ∷ rs) all =
    let here : x.by < by = All-head (λ (x : Report). x.by < by) x rs all in
    let rest = of_none by rs (All-tail (λ (x : Report). x.by < by) x rs all) in
    grind (arith, rest, here)

-- ---- numbers

count_more : (rs : List Report) (x : Report) → CountsUp rs → x.n ≡ length rs → CountsUp (rs ++ x ∷ [])
count_more rs x up is k d less =
    dite (ℕ_discrete k (length rs))
    (λ last. ap (λ (y : Report). y.n) (ap (λ i. slice_index_or (rs ++ x ∷ []) i d) last ∙ get_or-append_seam rs x [] d) ∙ (is ∙ sym last))
    (λ before.
    let len : length (rs ++ x ∷ []) ≡ length rs + 1 = length-append rs (x ∷ []) in
    let here : k < length rs = omega arith in
    ap (λ (y : Report). y.n) (get_or_append_left rs (x ∷ []) d k here) ∙ up k d here)

pub numbered_more : (rs : List Report) (x : Report) → IsNumbered rs → x.n ≡ length (on x.r (of x.by rs)) → IsNumbered (rs ++ x ∷ [])
numbered_more rs x num is by r =
    dite (ℕ_discrete x.by by)
    (λ same.
    dite (ℕ_discrete x.r r)
    (λ also. subst CountsUp (sym (ap (on r) (of_more by rs x same) ∙ on_more r (of by rs) x also))
    (count_more (on r (of by rs)) x (num by r) (is ∙ (ap (λ b. length (on x.r (of b rs))) same ∙ ap (λ q. length (on q (of by rs))) also))))
    (λ apart. subst CountsUp (sym (ap (on r) (of_more by rs x same) ∙ on_same r (of by rs) x apart)) (num by r)))
    (λ apart. subst CountsUp (sym (ap (on r) (of_same by rs x apart))) (num by r))

count_prefix : (xs ys : List Report) → CountsUp (xs ++ ys) → CountsUp xs
count_prefix xs ys up k d less =
    let len : length (xs ++ ys) ≡ length xs + length ys = length-append xs ys in
    ap (λ (y : Report). y.n) (sym (get_or_append_left xs ys d k less)) ∙ up k d (omega arith)

pub numbered_prefix : (xs ys : List Report) → IsNumbered (xs ++ ys) → IsNumbered xs
numbered_prefix xs ys num by r =
    let split : on r (of by (xs ++ ys)) ≡ on r (of by xs) ++ on r (of by ys) =
    ap (on r) (filter-append (λ (y : Report). y.by == by) xs ys) ∙ filter-append (λ (y : Report). y.r == r) (of by xs) (of by ys) in
    count_prefix (on r (of by xs)) (on r (of by ys)) (subst CountsUp split (num by r))

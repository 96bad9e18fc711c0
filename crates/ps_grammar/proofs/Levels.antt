-- Levels of parentheses.
use Rattle.std.proofs.Common.{◌≡◌, ◌+◌, ◌-◌, ◌≤◌, ◌<◌, ℕ, Bool, true, false, if◌then◌else◌, List, [], ◌∷◌, ◌++◌, drop, take, set, get_or, length, reverse, ap, Option, None, Some, IfSome, slice_get, refl, sym, subst, arith}
use Rattle.std.proofs.lemmas.List.{take_more, take_more_set, take_all, reverse-append, length-set, length-reverse}
use Rattle.ps_grammar.specs.Symbols.{level, symbols, weight}
use Rattle.ps_grammar.specs.declared.symbols.Symbol.{Symbol}
use Rattle.ps_grammar.specs.declared.symbols.Then.{Then}

pub level_more : (a b : List Symbol) → level (a ++ b) ≡ level a + level b
level_more [] b = omega arith
level_more (s ∷ a) b = omega (arith, level_more a b)

-- a rule opens one level at most
pub rises : (s : Symbol) (st : List Symbol) (o : Option Then) → slice_get st 0 ≡ Some s → IfSome o (λ next. level (symbols next) ≤ weight s + 1) → IfSome o (λ next. level (symbols next ++ drop 1 st) ≤ level st + 1)
rises s st None e few = tt
rises s [] (Some next) e few = absurd (cc)
rises s (t ∷ st) (Some next) e few =
    let same : t ≡ s = cc in
    let sum : level (symbols next ++ st) ≡ level (symbols next) + level st = level_more (symbols next) st in
    rw same (omega (arith, few, sum))

-- what a mark leads to where it fits opens one level at most
pub few_where : (fits : Bool) (next : Then) (o : Option Then) → o ≡ (if fits then Some next else None) → level (symbols next) ≤ 2 → IfSome o (λ next. level (symbols next) ≤ 2)
few_where true next o e few = subst (λ (x : Option Then). IfSome x (λ next. level (symbols next) ≤ 2)) (sym e) few
few_where false next o e few = subst (λ (x : Option Then). IfSome x (λ next. level (symbols next) ≤ 2)) (sym e) tt

-- the last symbol counts beside those before it
pub level_last : (l : List Symbol) (n : ℕ) (d : Symbol) → n < length l → level (reverse (take (n + 1) l)) ≡ weight (get_or l n d) + level (reverse (take n l))
level_last l n d lt = rw (take_more l n d lt, reverse-append (take n l) (get_or l n d ∷ [])) refl

-- another last symbol, where the last is the first one wanted
pub set_last : (l st : List Symbol) (n : ℕ) (a : Symbol) → reverse l ≡ st → n ≡ length l → 0 < length st → reverse (set l (n - 1) a) ≡ a ∷ drop 1 st
set_last l st n a same long some =
    let m : ℕ = n - 1 in
    let below : m < length l = omega (arith, long, some, length-reverse l, ap (λ (x : List Symbol). length x) same) in
    let all : length l ≤ m + 1 = omega (arith, long) in
    let e : take (m + 1) l ≡ take m l ++ get_or l m a ∷ [] = take_more l m a below in
    let f : take (m + 1) l ≡ l = take_all (m + 1) l all in
    let h : take (m + 1) (set l m a) ≡ take m l ++ a ∷ [] = take_more_set l m a below in
    let k : take (m + 1) (set l m a) ≡ set l m a = take_all (m + 1) (set l m a) (rw (length-set l m a) all) in
    let r : reverse (take m l ++ a ∷ []) ≡ a ∷ reverse (take m l) = reverse-append (take m l) (a ∷ []) in
    let s : reverse (take m l ++ get_or l m a ∷ []) ≡ get_or l m a ∷ reverse (take m l) = reverse-append (take m l) (get_or l m a ∷ []) in
    let t : st ≡ get_or l m a ∷ reverse (take m l) = cc in
    let d : drop 1 st ≡ reverse (take m l) = rw t refl in
    cc

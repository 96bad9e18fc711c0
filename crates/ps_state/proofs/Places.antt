-- Tests over the places of a plan.
use Rattle.std.proofs.Common.{◌≡◌, ℕ, suc, zero, ◌+◌, ◌<◌, ◌≤◌, ◌&&◌, ◌||◌, not, Bool, true, false, List, [], ◌∷◌, length, map, take, get_or, refl, ap, sym, ◌∙◌, arith}
use Rattle.ps_action.specs.declared.states.ActState.{ActState}
use Rattle.ps_action.specs.declared.states.ActState.TheVariants.{Waiting}
use Rattle.ps_machine.specs.declared.journal.Entry.{Entry}
use Rattle.ps_rules.specs.Runs.{plan, state}
use Rattle.ps_rules.specs.Settled.{places}
use Rattle.ps_ledger.specs.declared.acts.Acts.{Acts}
use Rattle.ps_ledger.specs.Acts.{TellsActs}
use Rattle.std.proofs.Math.Seq.{take-length}
use Rattle.std.specs.List.{list_all, list_any, range_with_len}
use Rattle.std.proofs.lemmas.List.Folds.{list_all-append, list_all_at, list_all_more, list_any-append, list_any_at, list_any_more}
use Rattle.std.proofs.lemmas.List.FromFn.{get_or-range_with_len, length-range_with_len}
use Rattle.ps_arcs.proofs.Ranges.{range_more}

nor-so : (a b : Bool) → a ≡ false → b ≡ false → (a || (b || false)) ≡ false
nor-so a b e f = rw (e, f) refl

and-so : (a b : Bool) → a ≡ true → b ≡ true → (a && (b && true)) ≡ true
and-so a b e f = rw (e, f) refl

-- a test that none of the first so many passes, and not the next one
pub none-more : (p : ℕ → Bool) (n : ℕ) → list_any p (range_with_len 0 n) ≡ false → p n ≡ false → list_any p (range_with_len 0 (n + 1)) ≡ false
none-more p n h g =
    ap (list_any p) (range_more n) ∙ list_any-append p (range_with_len 0 n) (n ∷ []) ∙ nor-so (list_any p (range_with_len 0 n)) (p n) h g

-- a test that all of the first so many pass, and the next one too
pub all-more : (p : ℕ → Bool) (n : ℕ) → list_all p (range_with_len 0 n) ≡ true → p n ≡ true → list_all p (range_with_len 0 (n + 1)) ≡ true
all-more p n h g =
    ap (list_all p) (range_more n) ∙ list_all-append p (range_with_len 0 n) (n ∷ []) ∙ and-so (list_all p (range_with_len 0 n)) (p n) h g

at-place : (p : ℕ → Bool) (n k : ℕ) → k < n → (b : Bool) → p k ≡ b → p (get_or (range_with_len 0 n) k 0) ≡ b
at-place p n k h b e =
    let same : 0 + k ≡ k = omega arith in
    ap p (get_or-range_with_len 0 n k 0 h) ∙ ap p same ∙ e

-- one that passes is among them
pub some-below : (p : ℕ → Bool) (n k : ℕ) → k < n → p k ≡ true → list_any p (range_with_len 0 n) ≡ true
some-below p n k h e =
    let lt : k < length (range_with_len 0 n) = omega (arith, h, length-range_with_len 0 n) in
    list_any_at p (range_with_len 0 n) k 0 lt (at-place p n k h true e)

-- one that doesn't pass is among them
pub fails-below : (p : ℕ → Bool) (n k : ℕ) → k < n → p k ≡ false → list_all p (range_with_len 0 n) ≡ false
fails-below p n k h e =
    let lt : k < length (range_with_len 0 n) = omega (arith, h, length-range_with_len 0 n) in
    list_all_at p (range_with_len 0 n) k 0 lt (at-place p n k h false e)

-- ---- a list at its places

not-or : (a b : Bool) → not (a || b) ≡ (not a && not b)
not-or true b = refl
not-or false b = refl

or-nothing : (a b : Bool) → (a || (b || false)) ≡ (a || b)
or-nothing true b = refl
or-nothing false true = refl
or-nothing false false = refl

and-nothing : (a b : Bool) → (a && (b && true)) ≡ (a && b)
and-nothing true true = refl
and-nothing true false = refl
and-nothing false b = refl

module _ {X : Type 0} (f : X → Bool) (xs : List X) (d : X) where
  any-first : (n : ℕ) → n ≤ length xs → list_any (λ k. f (get_or xs k d)) (range_with_len 0 n) ≡ list_any f (take n xs)
  any-first zero h = refl
  any-first (suc n) h =
      let lt : n < length xs = omega (arith, h) in
      let le : n ≤ length xs = omega (arith, h) in
      let one : suc n ≡ n + 1 = omega arith in
      let p : ℕ → Bool = λ k. f (get_or xs k d) in
      ap (λ m. list_any p (range_with_len 0 m)) one ∙ ap (list_any p) (range_more n) ∙ list_any-append p (range_with_len 0 n) (n ∷ [])
      ∙ or-nothing (list_any p (range_with_len 0 n)) (p n) ∙ ap (λ b. b || p n) (any-first n le)
      ∙ sym (list_any_more f xs n d lt) ∙ ap (λ m. list_any f (take m xs)) (sym one)

  all-first : (n : ℕ) → n ≤ length xs → list_all (λ k. f (get_or xs k d)) (range_with_len 0 n) ≡ list_all f (take n xs)
  all-first zero h = refl
  all-first (suc n) h =
      let lt : n < length xs = omega (arith, h) in
      let le : n ≤ length xs = omega (arith, h) in
      let one : suc n ≡ n + 1 = omega arith in
      let p : ℕ → Bool = λ k. f (get_or xs k d) in
      ap (λ m. list_all p (range_with_len 0 m)) one ∙ ap (list_all p) (range_more n) ∙ list_all-append p (range_with_len 0 n) (n ∷ [])
      ∙ and-nothing (list_all p (range_with_len 0 n)) (p n) ∙ ap (λ b. b && p n) (all-first n le)
      ∙ sym (list_all_more f xs n d lt) ∙ ap (λ m. list_all f (take m xs)) (sym one)

-- ---- the states of the acts

any-alike : (p q : ℕ → Bool) → ((k : ℕ) → p k ≡ q k) → (ks : List ℕ) → list_any p ks ≡ list_any q ks
any-alike p q e [] = refl
any-alike p q e (k ∷ ks) = ap (λ b. b || list_any p ks) (e k) ∙ ap (λ b. q k || b) (any-alike p q e ks)

all-alike : (p q : ℕ → Bool) → ((k : ℕ) → p k ≡ q k) → (ks : List ℕ) → list_all p ks ≡ list_all q ks
all-alike p q e [] = refl
all-alike p q e (k ∷ ks) = ap (λ b. b && list_all p ks) (e k) ∙ ap (λ b. q k && b) (all-alike p q e ks)

-- what the states of the acts that are kept pass is what those pass that the entries tell
pub any-state : (f : ActState → Bool) (es : List Entry) (l : Acts) → TellsActs es l → list_any f l.states.items ≡ list_any (λ act. f (state act es)) (places es)
any-state f es l t =
    let xs : List ActState = l.states.items in
    let many : length xs ≡ length (plan es) = t.many ∙ sym (ap length t.acts) in
    ap (list_any f) (sym (take-length xs)) ∙ sym (any-first f xs Waiting (length xs) (omega arith))
    ∙ any-alike (λ k. f (get_or xs k Waiting)) (λ act. f (state act es)) (λ k. ap f (sym (t.states k))) (range_with_len 0 (length xs))
    ∙ ap (λ m. list_any (λ act. f (state act es)) (range_with_len 0 m)) many

pub all-state : (f : ActState → Bool) (es : List Entry) (l : Acts) → TellsActs es l → list_all f l.states.items ≡ list_all (λ act. f (state act es)) (places es)
all-state f es l t =
    let xs : List ActState = l.states.items in
    let many : length xs ≡ length (plan es) = t.many ∙ sym (ap length t.acts) in
    ap (list_all f) (sym (take-length xs)) ∙ sym (all-first f xs Waiting (length xs) (omega arith))
    ∙ all-alike (λ k. f (get_or xs k Waiting)) (λ act. f (state act es)) (λ k. ap f (sym (t.states k))) (range_with_len 0 (length xs))
    ∙ ap (λ m. list_all (λ act. f (state act es)) (range_with_len 0 m)) many

not-any : {X : Type 0} (f : X → Bool) (xs : List X) → not (list_any f xs) ≡ list_all (λ x. not (f x)) xs
not-any f [] = refl
not-any f (x ∷ xs) = not-or (f x) (list_any f xs) ∙ ap (λ b. not (f x) && b) (not-any f xs)

pub none-state : (f : ActState → Bool) (es : List Entry) (l : Acts) → TellsActs es l → not (list_any f l.states.items) ≡ list_all (λ act. not (f (state act es))) (places es)
none-state f es l t = ap not (any-state f es l t) ∙ not-any (λ act. f (state act es)) (places es)

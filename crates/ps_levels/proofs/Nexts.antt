-- What is kept when nodes are expanded one after another.
use Rattle.std.proofs.Common.{◌≡◌, ℕ, zero, suc, ◌+◌, ◌<◌, ◌≤◌, Bool, true, false, cond, ◌⊎◌, inl, inr, List, [], ◌∷◌, ◌++◌, Option, Some, None, option_map, flat_map, length, take, drop, refl, ap, sym, ◌∙◌, arith, append_assoc}
use Rattle.std.proofs.lemmas.List.{append-nil, length-append, length-take, take-append-drop, take-append-le, take_all, drop-append-le}
use Rattle.std.proofs.lemmas.Bool.Decides.{leb_tells}
use Rattle.std.proofs.lemmas.List.Elements.{All-append, All-cons, All-head, All-nil, All-tail, All-take}
use Rattle.ps_levels.specs.Levels.{NoneGood, Space, first_good, fresh, is_met}

le_or_gt : (a b : ℕ) → (a ≤ b) ⊎ (b < a)
le_or_gt a b =
    elim (leb_tells a b) [
      | inl low ↦ inl low.1
      | inr high ↦ inr high.1
    ]

-- the first item that is left
pub first_left : {N : Type 0} (i : ℕ) (xs : List N) → i < length xs → (n : N) × (drop i xs ≡ n ∷ drop (i + 1) xs)
first_left i [] h = absurd (omega (arith, h))
first_left zero (x ∷ xs) h = (x, refl)
first_left (suc i) (x ∷ xs) h =
    let rest = first_left i xs (omega (arith, h)) in
    let next : drop (i + 1) xs ≡ drop (suc i + 1) (x ∷ xs) = ap (λ j. drop j (x ∷ xs)) (let e : suc (i + 1) ≡ suc i + 1 = omega arith in e) in
    (rest.0, rest.1 ∙ ap (λ l. rest.0 ∷ l) next)

-- ---- what is kept

module _ {N : Type 0} where
  -- at most so many are taken
  short : (m : ℕ) (xs : List N) → length (take m xs) ≤ m
  short m xs = let l = length-take m xs in omega (arith, l)

  take_twice : (m : ℕ) (xs : List N) → take m (take m xs) ≡ take m xs
  take_twice m xs = take_all m (take m xs) (short m xs)

  -- where more than can be kept are kept, what follows makes no difference
  full : (m : ℕ) (xs a b : List N) → m < length xs → take m (take m xs ++ a) ≡ take m (xs ++ b)
  full m xs a b h =
      let l = length-take m xs in
      take-append-le m (take m xs) a (omega (arith, l, h)) ∙ take_twice m xs ∙ sym (take-append-le m xs b (omega (arith, h)))

  -- the first ones stay as they are
  pub stay : (to m : ℕ) (old xs more : List N) → take to xs ≡ old → length old ≡ to → to ≤ m → take to (take m (xs ++ more)) ≡ old
  stay to m old xs more e count h =
      let l = length-take to xs in
      let long : to ≤ length xs = omega (arith, l, ap length e, count) in
      let k = length-append xs more in
      elim (le_or_gt (length (xs ++ more)) m) [
        | inl few ↦ ap (take to) (take_all m (xs ++ more) few) ∙ take-append-le to xs more long ∙ e
        | inr many ↦
            let joined = take-append-drop m (xs ++ more) in
            let t = length-take m (xs ++ more) in
            sym (take-append-le to (take m (xs ++ more)) (drop m (xs ++ more)) (omega (arith, t, many, h)))
            ∙ ap (take to) joined ∙ take-append-le to xs more long ∙ e
      ]

  -- what is left among the first ones is left
  pub left_there : (to i : ℕ) (old xs rest : List N) (n : N) → take to xs ≡ old → length old ≡ to → i < to → drop i old ≡ n ∷ rest → drop i xs ≡ n ∷ (rest ++ drop to xs)
  left_there to i old xs rest n e count h there =
      ap (drop i) (sym (take-append-drop to xs) ∙ ap (λ l. l ++ drop to xs) e)
      ∙ drop-append-le i old (drop to xs) (omega (arith, count, h))
      ∙ ap (λ l. l ++ drop to xs) there

module _ {N S : Type 0} (p : Space N S) where
  -- ---- one list after another

  pub fresh-append : (old xs ys : List N) → fresh p old (xs ++ ys) ≡ fresh p old xs ++ fresh p (old ++ fresh p old xs) ys
  fresh-append old [] ys = ap (λ l. fresh p l ys) (sym (append-nil old))
  fresh-append old (x ∷ xs) ys =
      let more = old ++ x ∷ [] in
      elim (is_met p old (p.state x)) as (λ b. cond b (fresh p old (xs ++ ys)) (x ∷ fresh p more (xs ++ ys)) ≡ cond b (fresh p old xs) (x ∷ fresh p more xs) ++ fresh p (old ++ cond b (fresh p old xs) (x ∷ fresh p more xs)) ys) [
        | true ↦ fresh-append old xs ys
        | false ↦ ap (λ l. x ∷ l) (fresh-append more xs ys ∙ ap (λ l. fresh p more xs ++ fresh p l ys) (append_assoc old (x ∷ []) (fresh p more xs)))
      ]

  fresh_twice : (xs a b : List N) → (xs ++ fresh p xs a) ++ fresh p (xs ++ fresh p xs a) b ≡ xs ++ fresh p xs (a ++ b)
  fresh_twice xs a b = append_assoc xs (fresh p xs a) (fresh p (xs ++ fresh p xs a) b) ∙ ap (λ l. xs ++ l) (sym (fresh-append xs a b))

  -- what is kept after one more node is expanded, and then after others, is what is kept after all
  pub kept_on : (m : ℕ) (xs a b : List N) → take m (take m (xs ++ fresh p xs a) ++ fresh p (take m (xs ++ fresh p xs a)) b) ≡ take m (xs ++ fresh p xs (a ++ b))
  kept_on m xs a b =
      let ys = xs ++ fresh p xs a in
      elim (le_or_gt (length ys) m) [
        | inl few ↦ ap (λ l. take m (l ++ fresh p l b)) (take_all m ys few) ∙ ap (take m) (fresh_twice xs a b)
        | inr many ↦ full m ys (fresh p (take m ys) b) (fresh p ys b) many ∙ ap (take m) (fresh_twice xs a b)
      ]

  -- ---- what is looked for

  abbrev Bad : N → Type 0
  Bad n = p.good (p.state n) ≡ false

  all_fresh : (old ns : List N) → NoneGood p ns → NoneGood p (fresh p old ns)
  all_fresh old [] h = h
  all_fresh old (n ∷ ns) h =
      let more = old ++ n ∷ [] in
      elim (is_met p old (p.state n)) as (λ b. NoneGood p (cond b (fresh p old ns) (n ∷ fresh p more ns))) [
        | true ↦ all_fresh old ns (All-tail Bad n ns h)
        | false ↦ All-cons Bad n (fresh p more ns) (All-head Bad n ns h) (all_fresh more ns (All-tail Bad n ns h))
      ]

  none_at : (n : N) (ns : List N) (b : Bool) → p.good (p.state n) ≡ b → (first_good p ns ≡ None → NoneGood p ns) → cond b (Some n) (first_good p ns) ≡ None → NoneGood p (n ∷ ns)
  none_at n ns true e h none = absurd (cc)
  none_at n ns false e h none = All-cons Bad n ns e (h none)

  pub none_good : (ns : List N) → first_good p ns ≡ None → NoneGood p ns
  none_good [] e = All-nil Bad
  none_good (n ∷ ns) e = none_at n ns (p.good (p.state n)) refl (none_good ns) e

  -- none that is kept is looked for, where none is that is led to
  pub none_kept : (m : ℕ) (xs ns : List N) → NoneGood p xs → first_good p ns ≡ None → NoneGood p (take m (xs ++ fresh p xs ns))
  none_kept m xs ns h e = All-take Bad m (xs ++ fresh p xs ns) (All-append Bad xs (fresh p xs ns) h (all_fresh xs ns (none_good ns e)))

  on_at : (x : N) (xs ys : List N) (b : Bool) → (first_good p xs ≡ None → first_good p (xs ++ ys) ≡ first_good p ys) → cond b (Some x) (first_good p xs) ≡ None → cond b (Some x) (first_good p (xs ++ ys)) ≡ first_good p ys
  on_at x xs ys true h e = absurd (cc)
  on_at x xs ys false h e = h e

  -- where none of the first is looked for, the first of all is the first of the others
  pub first_on : (xs ys : List N) → first_good p xs ≡ None → first_good p (xs ++ ys) ≡ first_good p ys
  first_on [] ys e = refl
  first_on (x ∷ xs) ys e = on_at x xs ys (p.good (p.state x)) (first_on xs ys) e

  here_at : (x n : N) (xs ys : List N) (b : Bool) → (first_good p xs ≡ Some n → first_good p (xs ++ ys) ≡ Some n) → cond b (Some x) (first_good p xs) ≡ Some n → cond b (Some x) (first_good p (xs ++ ys)) ≡ Some n
  here_at x n xs ys true h e = e
  here_at x n xs ys false h e = h e

  -- where one of the first is, it is the first of all
  pub first_here : (n : N) (xs ys : List N) → first_good p xs ≡ Some n → first_good p (xs ++ ys) ≡ Some n
  first_here n [] ys e = absurd (cc)
  first_here n (x ∷ xs) ys e = here_at x n xs ys (p.good (p.state x)) (first_here n xs ys) e

-- ---- the paths that are found

module _ {N S P : Type 0} (path : N → P) (p : Space N S) where
  pub no_node : (o : Option N) → option_map path o ≡ None → o ≡ None
  no_node None e = refl
  no_node (Some n) e = absurd (cc)

  mapped_here : (xs ys : List N) (x : P) (o : Option N) → first_good p xs ≡ o → option_map path o ≡ Some x → option_map path (first_good p (xs ++ ys)) ≡ Some x
  mapped_here xs ys x None f e = absurd (cc)
  mapped_here xs ys x (Some n) f e = ap (option_map path) (first_here p n xs ys f) ∙ e

  -- the node that is expanded leads to what is looked for
  pub found_here : (n : N) (rest left : List N) (x : P) → left ≡ n ∷ rest → option_map path (first_good p (p.moves n)) ≡ Some x → option_map path (first_good p (flat_map p.moves left)) ≡ Some x
  found_here n rest left x e h =
      ap (λ l. option_map path (first_good p (flat_map p.moves l))) e ∙ mapped_here (p.moves n) (flat_map p.moves rest) x (first_good p (p.moves n)) refl h

  -- it doesn't
  pub found_on : (n : N) (rest left : List N) → left ≡ n ∷ rest → option_map path (first_good p (p.moves n)) ≡ None → option_map path (first_good p (flat_map p.moves left)) ≡ option_map path (first_good p (flat_map p.moves rest))
  found_on n rest left e h =
      ap (λ l. option_map path (first_good p (flat_map p.moves l))) e
      ∙ ap (option_map path) (first_on p (p.moves n) (flat_map p.moves rest) (no_node (first_good p (p.moves n)) h))

-- Entries that rise, with some left out, some put in, and all put back.
use Rattle.std.proofs.Common.{◌≡◌, Bool, true, false, not, cond, ◌||◌, List, [], ◌∷◌, ◌++◌, Option, Some, None, filter, filter_map, fold, refl, ap, sym, ◌∙◌, subst}
use Rattle.std.specs.BTreeMap.{insert_entry}
use Rattle.std.specs.Cmp.{IsTotalOrder}
use Rattle.std.specs.List.{AllByRecursion, list_any}
use Rattle.std.specs.List.Sorted.{IsStrictlySortedBy}
use Rattle.std.specs.Map.{keys_of, lookup}
use Rattle.std.specs.Option.{option_map, option_or}
use Rattle.std.specs.Ordering.{eq_by_cmp, ordering_reverse}
use Rattle.std.specs.declared.cmp.Ordering.{Ordering}
use Rattle.std.specs.declared.cmp.Ordering.TheVariants.{Less, Equal, Greater}
use Rattle.std.proofs.lemmas.Bool.{or_parts}
use Rattle.std.proofs.lemmas.List.Folds.{list_any-append}
use Rattle.std.proofs.lemmas.Cmp.{eq_by_cmp_equiv}
use Rattle.std.proofs.lemmas.Map.{lookup-none}
use Rattle.std.proofs.lemmas.Map.Entries.{lookup-filter-keys, lookup_head, none_below_head}
use Rattle.std.proofs.lemmas.Map.Keys.{sorted_head, sorted_tail}
use Rattle.std.proofs.lemmas.Map.Lookups.{CmpEqualImpliesEq}
use Rattle.std.proofs.lemmas.Map.Views.{tells_apart}
use Rattle.ps_action.proofs.Keys.{keys-insert_entry, lookup-insert_entry, sorted-insert_key}
use Rattle.ps_problem.proofs.Filters.{sorted-filter}

-- with some keys left out, by this test
abbrev pub left : {K X : Type 0} → (K → K → Bool) → List (K × X) → List K → List (K × X)
left same es ks = filter (λ e. not (list_any (same e.0) ks)) es

-- the entries of some keys
abbrev pub got : {K X : Type 0} → (K → K → Bool) → List (K × X) → List K → List (K × X)
got same es ks = filter_map (λ k. option_map (λ x. (k, x)) (lookup (same k) es)) ks

module _ {K : Type 0} (R : K → K → Ordering) where
  -- whether two keys are the same
  abbrev pub is : K → K → Bool
  is = eq_by_cmp R

  abbrev pub among : K → List K → Bool
  among q ks = list_any (is q) ks

  -- what a key has
  abbrev pub at : {X : Type 0} → K → List (K × X) → Option X
  at q es = lookup (is q) es

module _ {K X : Type 0} {R : K → K → Ordering} (o : IsTotalOrder R) (exact : CmpEqualImpliesEq R) where
  -- with some entries put in
  abbrev pub put : List (K × X) → List (K × X) → List (K × X)
  put es more = fold (λ all e. insert_entry R all e.0 e.1) es more

  pub sorted-put : (es more : List (K × X)) → IsStrictlySortedBy R (keys_of es) → IsStrictlySortedBy R (keys_of (put es more))
  sorted-put es [] s = s
  sorted-put es (m ∷ ms) s =
      sorted-put (insert_entry R es m.0 m.1) ms (subst (IsStrictlySortedBy R) (sym (keys-insert_entry o m.0 m.1 es)) (sorted-insert_key o m.0 (keys_of es) s))

  -- ---- entries that rise are the same where each key has the same

  first_at : (e : K × X) (es : List (K × X)) → at R e.0 (e ∷ es) ≡ Some e.1
  first_at e es = lookup_head (is R e.0) e es ((eq_by_cmp_equiv o).refl e.0)

  below_all : (q : K) (es : List (K × X)) → AllByRecursion (λ y. R q y ≡ Less) (keys_of es) → at R q es ≡ None
  below_all q [] a = refl
  below_all q (e ∷ es) a = let less = a.0 in rw less (below_all q es a.1)

  heads_at : (x y : K × X) (xs ys : List (K × X)) (r : Ordering) → IsStrictlySortedBy R (keys_of (x ∷ xs)) → IsStrictlySortedBy R (keys_of (y ∷ ys)) → ((q : K) → at R q (x ∷ xs) ≡ at R q (y ∷ ys)) → R x.0 y.0 ≡ r → R x.0 y.0 ≡ Equal
  heads_at x y xs ys Less s t h p =
      let none : at R x.0 (y ∷ ys) ≡ None = lookup-none (is R x.0) (y ∷ ys) (none_below_head o x.0 y ys t p) in
      let some : Some x.1 ≡ None = sym (first_at x xs) ∙ h x.0 ∙ none in
      absurd (cc)
  heads_at x y xs ys Equal s t h p = p
  heads_at x y xs ys Greater s t h p =
      let none : at R y.0 (x ∷ xs) ≡ None = lookup-none (is R y.0) (x ∷ xs) (none_below_head o y.0 x xs s (o.antisymm y.0 x.0 ∙ ap ordering_reverse p)) in
      let some : Some y.1 ≡ None = sym (first_at y ys) ∙ sym (h y.0) ∙ none in
      absurd (cc)

  tail_at : (q k : K) (x : X) (xs ys : List (K × X)) (b : Bool) → is R q k ≡ b → AllByRecursion (λ y. R k y ≡ Less) (keys_of xs) → AllByRecursion (λ y. R k y ≡ Less) (keys_of ys) → cond b (Some x) (at R q xs) ≡ cond b (Some x) (at R q ys) → at R q xs ≡ at R q ys
  tail_at q k x xs ys true s a b e =
      subst (λ (l : K). at R l xs ≡ at R l ys) (sym (tells_apart exact q k s)) (below_all k xs a ∙ sym (below_all k ys b))
  tail_at q k x xs ys false s a b e = e

  pub same_entries : (xs ys : List (K × X)) → IsStrictlySortedBy R (keys_of xs) → IsStrictlySortedBy R (keys_of ys) → ((q : K) → at R q xs ≡ at R q ys) → xs ≡ ys
  same_entries [] [] s t h = refl
  same_entries [] (y ∷ ys) s t h = let same : None ≡ Some y.1 = h y.0 ∙ first_at y ys in absurd (cc)
  same_entries (x ∷ xs) [] s t h = let same : Some x.1 ≡ None = sym (first_at x xs) ∙ h x.0 in absurd (cc)
  same_entries (x ∷ xs) (y ∷ ys) s t h =
      let key : x.0 ≡ y.0 = exact x.0 y.0 (heads_at x y xs ys (R x.0 y.0) s t h refl) in
      let there : at R x.0 (y ∷ ys) ≡ Some y.1 = subst (λ (k : K). at R k (y ∷ ys) ≡ Some y.1) (sym key) (first_at y ys) in
      let some : Some x.1 ≡ Some y.1 = sym (first_at x xs) ∙ h x.0 ∙ there in
      let value : x.1 ≡ y.1 = cc in
      let pair : x ≡ y = λ i. (key i, value i) in
      let up : IsStrictlySortedBy R (keys_of (x ∷ ys)) = subst (λ (z : K × X). IsStrictlySortedBy R (keys_of (z ∷ ys))) (sym pair) t in
      let ats : (q : K) → at R q (x ∷ xs) ≡ at R q (x ∷ ys) = subst (λ (z : K × X). (q : K) → at R q (x ∷ xs) ≡ at R q (z ∷ ys)) (sym pair) h in
      let rest = same_entries xs ys (sorted_tail R x.0 (keys_of xs) s) (sorted_tail R x.0 (keys_of ys) up) (λ q.
      tail_at q x.0 x.1 xs ys (is R q x.0) refl (sorted_head R x.0 (keys_of xs) s) (sorted_head R x.0 (keys_of ys) up) (ats q)) in
      λ i. pair i ∷ rest i

  -- ---- entries left out, put in and put back

  at-left : (q : K) (ks : List K) (es : List (K × X)) → at R q (left (is R) es ks) ≡ cond (not (among R q ks)) (at R q es) None
  at-left q ks es =
      lookup-filter-keys (is R q) (λ k. not (among R k ks)) (not (among R q ks)) (λ k e. ap (λ (x : K). not (among R x ks)) (sym (tells_apart exact q k e))) es

  -- a key that isn't put in has what it had
  at-others : (q : K) (es more : List (K × X)) → among R q (keys_of more) ≡ false → at R q (put es more) ≡ at R q es
  at-others q es [] e = refl
  at-others q es (m ∷ ms) e =
      let both = or_parts (is R q m.0) (among R q (keys_of ms)) e in
      at-others q (insert_entry R es m.0 m.1) ms both.1 ∙ lookup-insert_entry o q m.0 m.1 es ∙ ap (λ b. cond b (Some m.1) (at R q es)) both.0

  -- f: what the key has among all entries, b: what it has in those into which they are put
  got_at : (s a : Bool) (x : X) (f b : Option X) → (s ≡ true → f ≡ Some x) → cond a (option_or f (cond s (Some x) b)) (cond s (Some x) b) ≡ cond (s || a) (option_or f b) b
  got_at true true x f b h = rw (h refl) refl
  got_at true false x f b h = rw (h refl) refl
  got_at false a x f b h = refl

  none_at : (s a : Bool) (f b : Option X) → (s ≡ true → f ≡ None) → cond a (option_or f b) b ≡ cond (s || a) (option_or f b) b
  none_at true true f b h = refl
  none_at true false f b h = rw (h refl) refl
  none_at false a f b h = refl

  got_more : (q k : K) (ks : List K) (es base : List (K × X)) (found : Option X) → at R k es ≡ found → ((base : List (K × X)) → at R q (put base (got (is R) es ks)) ≡ cond (among R q ks) (option_or (at R q es) (at R q base)) (at R q base)) → at R q (put base (got (is R) es (k ∷ ks))) ≡ cond (among R q (k ∷ ks)) (option_or (at R q es) (at R q base)) (at R q base)
  got_more q k ks es base None e rest =
      rw e (rest base ∙ none_at (is R q k) (among R q ks) (at R q es) (at R q base) (λ s. ap (λ (x : K). at R x es) (tells_apart exact q k s) ∙ e))
  got_more q k ks es base (Some x) e rest =
      rw e (
      rest (insert_entry R base k x) ∙ ap (λ (b : Option X). cond (among R q ks) (option_or (at R q es) b) b) (lookup-insert_entry o q k x base)
      ∙ got_at (is R q k) (among R q ks) x (at R q es) (at R q base) (λ s. ap (λ (y : K). at R y es) (tells_apart exact q k s) ∙ e)
      )

  at-got : (q : K) (ks : List K) (es base : List (K × X)) → at R q (put base (got (is R) es ks)) ≡ cond (among R q ks) (option_or (at R q es) (at R q base)) (at R q base)
  at-got q [] es base = refl
  at-got q (k ∷ ks) es base = got_more q k ks es base (at R k es) refl (at-got q ks es)

  or_none : (f : Option X) → option_or f None ≡ f
  or_none None = refl
  or_none (Some x) = refl

  -- i: the key is put in, u: it is left out
  back_at : (i u : Bool) (f a : Option X) → (i ≡ false → a ≡ cond (not u) f None) → cond (u || i) (option_or f (cond (not i) a None)) (cond (not i) a None) ≡ f
  back_at true true f a h = or_none f
  back_at true false f a h = or_none f
  back_at false true f a h = rw (h refl) (or_none f)
  back_at false false f a h = h refl

  -- entries with some left out and some put in, and those put back
  abbrev pub Back : (K → K → Bool) → List (K × X) → List K → List (K × X) → Type 0
  Back same es out ins = put (left same (put (left same es out) ins) (keys_of ins)) (got same es (out ++ keys_of ins)) ≡ es

  pub back : (es : List (K × X)) (out : List K) (ins : List (K × X)) → IsStrictlySortedBy R (keys_of es) → Back (is R) es out ins
  back es out ins s =
      same_entries (put low (got (is R) es (out ++ keys_of ins))) es (sorted-put low (got (is R) es (out ++ keys_of ins)) sorted_low) s (λ q.
      at-got q (out ++ keys_of ins) es low
      ∙ ap (λ (b : Bool). cond b (option_or (at R q es) (at R q low)) (at R q low)) (list_any-append (is R q) out (keys_of ins))
      ∙ ap (λ (b : Option X). cond (among R q out || among R q (keys_of ins)) (option_or (at R q es) b) b) (at-left q (keys_of ins) after)
      ∙ back_at (among R q (keys_of ins)) (among R q out) (at R q es) (at R q after) (λ e. at-others q (left (is R) es out) ins e ∙ at-left q out es))
    where
      after : List (K × X)
      after = put (left (is R) es out) ins

      low : List (K × X)
      low = left (is R) after (keys_of ins)

      sorted_low : IsStrictlySortedBy R (keys_of low)
      sorted_low =
          sorted-filter R (λ k. not (among R k (keys_of ins))) after (sorted-put (left (is R) es out) ins (sorted-filter R (λ k. not (among R k out)) es s))

  -- by any test that is that of the order
  pub back_by : (same : K → K → Bool) → (λ (k : K). eq_by_cmp R k) ≡ same → (es : List (K × X)) (out : List K) (ins : List (K × X)) → IsStrictlySortedBy R (keys_of es) → Back same es out ins
  back_by same e es out ins s = subst (λ (t : K → K → Bool). Back t es out ins) e (back es out ins s)

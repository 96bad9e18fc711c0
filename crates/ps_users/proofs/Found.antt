-- Single things, found by their order, and the acts that use what meets them.
use Rattle.std.proofs.Common.{◌≡◌, ℕ, nat_eq, Bool, true, false, ◌&&◌, ◌||◌, cond, List, [], ◌∷◌, ◌++◌, Some, None, refl, ap, sym, subst, ◌∙◌, arith}
use Rattle.std.specs.BTreeMap.{insert_entry, is_at}
use Rattle.std.specs.List.{AllByRecursion, list_any}
use Rattle.std.specs.List.Sorted.{IsStrictlySortedBy}
use Rattle.std.specs.Map.{keys_of, lookup, set_value}
use Rattle.std.specs.Option.{option_map_or}
use Rattle.std.specs.Ordering.{is_eq, match_ordering}
use Rattle.std.specs.declared.cmp.Ordering.{Ordering}
use Rattle.std.specs.declared.cmp.Ordering.TheVariants.{Less, Equal, Greater}
use Rattle.std.proofs.lemmas.Bool.Decides.{nat_tests}
use Rattle.std.proofs.lemmas.List.Folds.{list_any-append}
use Rattle.std.proofs.lemmas.Map.Keys.{sorted_head, sorted_tail}
use Rattle.ps_world.proofs.Truths.{or_false}
use Rattle.ps_action.proofs.Contained.{fact_same}
use Rattle.ps_action.proofs.Facts.{same_name-is}
use Rattle.ps_action.specs.declared.touched.Touched.{Touched}
use Rattle.ps_action.specs.Arcs.{meets}
use Rattle.ps_users.specs.Singles.{singles_of, touched_of}
use Rattle.ps_users.specs.Users.{ArePlaces, Enters, IsSame, Users, uses, uses_one}
use Rattle.ps_users.specs.contracts.single.SingleOrd.TheImpl.{cmp-value}
use Rattle.ps_users.specs.declared.single.Single.{Single}
use Rattle.ps_users.specs.declared.single.Single.TheVariants.{Fact, Value, Instance}

-- ---- single things in their order

-- they tie where they meet
single_at : (s t : Single) → is_at (cmp-value.it s) t ≡ meets (touched_of s) (touched_of t)
single_at (Fact f) (Fact g) = refl
single_at (Fact f) (Value g) = refl
single_at (Fact f) (Instance n) = refl
single_at (Value f) (Fact g) = refl
single_at (Value f) (Value g) = refl
single_at (Value f) (Instance n) = refl
single_at (Instance m) (Fact g) = refl
single_at (Instance m) (Value g) = refl
single_at (Instance m) (Instance n) = grind (arith, nat_tests)

same_by : (s t : Single) → meets (touched_of s) (touched_of t) ≡ true → s ≡ t
same_by (Fact f) (Fact g) e = ap Fact (fact_same f g e)
same_by (Value f) (Value g) e = ap Value (fact_same f g e)
same_by (Instance m) (Instance n) e = ap Instance (same_name-is m n e)
same_by s t e = absurd (cc)

single_same : (s t : Single) → is_at (cmp-value.it s) t ≡ true → s ≡ t
single_same s t e = same_by s t (sym (single_at s t) ∙ e)

-- ---- who uses a single thing

pub uses-append : (xs ys : Users) (t : Touched) (i : ℕ) → uses (xs ++ ys) t i ≡ (uses xs t i || uses ys t i)
uses-append xs ys t i = list_any-append (uses_one t i) xs ys

-- nothing is used by those that stand behind
none_behind : (s : Single) (es : List (Single × List ℕ)) (i : ℕ) → AllByRecursion (λ y. cmp-value.it s y ≡ Less) (keys_of es) → uses (singles_of es) (touched_of s) i ≡ false
none_behind s [] i h = refl
none_behind s (e ∷ es) i h =
    let away : meets (touched_of s) (touched_of e.0) ≡ false = sym (single_at s e.0) ∙ ap is_eq h.0 in
    rw away (none_behind s es i h.1)

found_by : (s : Single) (e : Single × List ℕ) (es : List (Single × List ℕ)) (i : ℕ) (b : Bool) → is_at (cmp-value.it s) e.0 ≡ b → IsStrictlySortedBy (cmp-value.it) (keys_of (e ∷ es))
    → uses (singles_of es) (touched_of s) i ≡ option_map_or (list_any (nat_eq i)) (lookup (is_at (cmp-value.it s)) es) false
    → ((b && list_any (nat_eq i) e.1) || uses (singles_of es) (touched_of s) i) ≡ option_map_or (list_any (nat_eq i)) (cond b (Some e.1) (lookup (is_at (cmp-value.it s)) es)) false
found_by s e es i true at sorted rest =
    let behind : AllByRecursion (λ y. cmp-value.it s y ≡ Less) (keys_of es) =
    subst (λ k. AllByRecursion (λ y. cmp-value.it k y ≡ Less) (keys_of es)) (sym (single_same s e.0 at)) (sorted_head (cmp-value.it) e.0 (keys_of es) sorted) in
    ap (λ b. list_any (nat_eq i) e.1 || b) (none_behind s es i behind) ∙ or_false (list_any (nat_eq i) e.1)
found_by s e es i false at sorted rest = rest

-- the acts that use a single thing are those that are found with it
pub found : (s : Single) (es : List (Single × List ℕ)) (i : ℕ) → IsStrictlySortedBy (cmp-value.it) (keys_of es)
    → uses (singles_of es) (touched_of s) i ≡ option_map_or (list_any (nat_eq i)) (lookup (is_at (cmp-value.it s)) es) false
found s [] i sorted = refl
found s (e ∷ es) i sorted =
    let rest = found s es i (sorted_tail (cmp-value.it) e.0 (keys_of es) sorted) in
    let at = single_at s e.0 in
    ap (λ b. (b && list_any (nat_eq i) e.1) || uses (singles_of es) (touched_of s) i) (sym at) ∙ found_by s e es i (is_at (cmp-value.it s) e.0) refl sorted rest

-- ---- one more that is noted

or_swap : (a b c : Bool) → (a || (b || c)) ≡ ((a || b) || c)
or_swap true b c = refl
or_swap false b c = refl

new_first : (a b c : Bool) → ((a && (b || false)) || c) ≡ (c || (b && (a || false)))
new_first true true true = refl
new_first true true false = refl
new_first true false true = refl
new_first true false false = refl
new_first false true true = refl
new_first false true false = refl
new_first false false true = refl
new_first false false false = refl

module _ (s : Single) (act : ℕ) (t : Touched) (i : ℕ) where
  abbrev more : Bool
  more = nat_eq i act && (meets t (touched_of s) || false)

  insert_by : (e : Single × List ℕ) (es : List (Single × List ℕ)) (o : Ordering) → cmp-value.it s e.0 ≡ o → cond (is_at (cmp-value.it s) e.0) (Some e.1) (lookup (is_at (cmp-value.it s)) es) ≡ None
      → uses (singles_of (insert_entry (cmp-value.it) es s (act ∷ []))) t i ≡ (uses (singles_of es) t i || more)
      → uses (singles_of (match_ordering o ((s, act ∷ []) ∷ e ∷ es) ((e.0, act ∷ []) ∷ es) (e ∷ insert_entry (cmp-value.it) es s (act ∷ [])))) t i ≡ (uses (singles_of (e ∷ es)) t i || more)
  insert_by e es Less at none rest = new_first (meets t (touched_of s)) (nat_eq i act) (uses (singles_of (e ∷ es)) t i)
  insert_by e es Equal at none rest =
      let there : cond (is_at (cmp-value.it s) e.0) (Some e.1) (lookup (is_at (cmp-value.it s)) es) ≡ Some e.1 = ap (λ o. cond (is_eq o) (Some e.1) (lookup (is_at (cmp-value.it s)) es)) at in
      absurd (cc)
  insert_by e es Greater at none rest =
      ap (λ b. (meets t (touched_of e.0) && list_any (nat_eq i) e.1) || b) rest ∙ or_swap (meets t (touched_of e.0) && list_any (nat_eq i) e.1) (uses (singles_of es) t i) more

  none_later : (e : Single × List ℕ) (es : List (Single × List ℕ)) (b : Bool) → cond b (Some e.1) (lookup (is_at (cmp-value.it s)) es) ≡ None → lookup (is_at (cmp-value.it s)) es ≡ None
  none_later e es true h = absurd (cc)
  none_later e es false h = h

  inserted_at : (es : List (Single × List ℕ)) → lookup (is_at (cmp-value.it s)) es ≡ None → uses (singles_of (insert_entry (cmp-value.it) es s (act ∷ []))) t i ≡ (uses (singles_of es) t i || more)
  inserted_at [] none = new_first (meets t (touched_of s)) (nat_eq i act) false
  inserted_at (e ∷ es) none =
      insert_by e es (cmp-value.it s e.0) refl none (inserted_at es (none_later e es (is_at (cmp-value.it s) e.0) none))

  new_here : (a b c : Bool) → (d : Bool) → (((a && (b || c))) || d) ≡ (((a && b) || d) || (c && (a || false)))
  new_here true true c d = refl
  new_here true false true true = refl
  new_here true false true false = refl
  new_here true false false true = refl
  new_here true false false false = refl
  new_here false b true true = refl
  new_here false b true false = refl
  new_here false b false true = refl
  new_here false b false false = refl

  set_by : (e : Single × List ℕ) (es : List (Single × List ℕ)) (before after : List ℕ) (b : Bool) → is_at (cmp-value.it s) e.0 ≡ b
      → cond b (Some e.1) (lookup (is_at (cmp-value.it s)) es) ≡ Some before → ArePlaces after (λ j. list_any (nat_eq j) before || nat_eq j act)
      → (lookup (is_at (cmp-value.it s)) es ≡ Some before → uses (singles_of (set_value (is_at (cmp-value.it s)) es after)) t i ≡ (uses (singles_of es) t i || more))
      → uses (singles_of (cond b ((e.0, after) ∷ es) (e ∷ set_value (is_at (cmp-value.it s)) es after))) t i ≡ (uses (singles_of (e ∷ es)) t i || more)
  set_by e es before after true at there are rest =
      let same : e.1 ≡ before = cc in
      let it : e.0 ≡ s = sym (single_same s e.0 at) in
      ap (λ b. (meets t (touched_of e.0) && b) || uses (singles_of es) t i) (are i ∙ ap (λ l. list_any (nat_eq i) l || nat_eq i act) (sym same))
      ∙ new_here (meets t (touched_of e.0)) (list_any (nat_eq i) e.1) (nat_eq i act) (uses (singles_of es) t i)
      ∙ ap (λ k. uses (singles_of (e ∷ es)) t i || (nat_eq i act && (meets t (touched_of k) || false))) it
  set_by e es before after false at there are rest =
      ap (λ b. (meets t (touched_of e.0) && list_any (nat_eq i) e.1) || b) (rest there) ∙ or_swap (meets t (touched_of e.0) && list_any (nat_eq i) e.1) (uses (singles_of es) t i) more

  set_at : (es : List (Single × List ℕ)) (before after : List ℕ) → lookup (is_at (cmp-value.it s)) es ≡ Some before → ArePlaces after (λ j. list_any (nat_eq j) before || nat_eq j act)
      → uses (singles_of (set_value (is_at (cmp-value.it s)) es after)) t i ≡ (uses (singles_of es) t i || more)
  set_at [] before after there are = absurd (cc)
  set_at (e ∷ es) before after there are =
      set_by e es before after (is_at (cmp-value.it s) e.0) refl there are (λ later. set_at es before after later are)

  again_by : (e : Single × List ℕ) (es : List (Single × List ℕ)) (before : List ℕ) (b : Bool) → cond b (Some e.1) (lookup (is_at (cmp-value.it s)) es) ≡ Some before
      → (lookup (is_at (cmp-value.it s)) es ≡ Some before → uses (singles_of (set_value (is_at (cmp-value.it s)) es before)) t i ≡ uses (singles_of es) t i)
      → uses (singles_of (cond b ((e.0, before) ∷ es) (e ∷ set_value (is_at (cmp-value.it s)) es before))) t i ≡ uses (singles_of (e ∷ es)) t i
  again_by e es before true there rest =
      let same : before ≡ e.1 = cc in
      ap (λ l. (meets t (touched_of e.0) && list_any (nat_eq i) l) || uses (singles_of es) t i) same
  again_by e es before false there rest = ap (λ b. (meets t (touched_of e.0) && list_any (nat_eq i) e.1) || b) (rest there)

  again_at : (es : List (Single × List ℕ)) (before : List ℕ) → lookup (is_at (cmp-value.it s)) es ≡ Some before → uses (singles_of (set_value (is_at (cmp-value.it s)) es before)) t i ≡ uses (singles_of es) t i
  again_at [] before there = absurd (cc)
  again_at (e ∷ es) before there = again_by e es before (is_at (cmp-value.it s) e.0) there (again_at es before)

-- a single thing that no act used has one place
pub entered_first : (s : Single) (act : ℕ) (es : List (Single × List ℕ)) (new : List (Single × List ℕ)) (places : List ℕ) → lookup (is_at (cmp-value.it s)) es ≡ None → places ≡ act ∷ []
    → new ≡ insert_entry (cmp-value.it) es s places → Enters (singles_of es) (touched_of s ∷ []) act (singles_of new)
entered_first s act es new places none is made t i =
    ap (λ l. uses (singles_of l) t i) (made ∙ ap (insert_entry (cmp-value.it) es s) is) ∙ inserted_at s act t i es none

-- one that acts used has one place more
pub entered_more : (s : Single) (act : ℕ) (es new : List (Single × List ℕ)) (before after : List ℕ) → lookup (is_at (cmp-value.it s)) es ≡ Some before
    → ArePlaces after (λ j. list_any (nat_eq j) before || nat_eq j act) → new ≡ set_value (is_at (cmp-value.it s)) es after → Enters (singles_of es) (touched_of s ∷ []) act (singles_of new)
entered_more s act es new before after there are made t i = ap (λ l. uses (singles_of l) t i) made ∙ set_at s act t i es before after there are

-- where the same places are written again, the same acts use each thing
pub written_again : (s : Single) (es new : List (Single × List ℕ)) (before : List ℕ) → lookup (is_at (cmp-value.it s)) es ≡ Some before
    → new ≡ set_value (is_at (cmp-value.it s)) es before → IsSame (singles_of es) (singles_of new)
written_again s es new before there made t i = ap (λ l. uses (singles_of l) t i) made ∙ again_at s 0 t i es before there

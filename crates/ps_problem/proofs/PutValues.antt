-- Values after a change, or as they were before.
use Rattle.std.proofs.Common.{◌≡◌, ◌⊎◌, ℕ, Bool, true, false, not, cond, ◌&&◌, ◌||◌, List, [], ◌∷◌, ◌++◌, Option, Some, None, is_some, filter, fold, take, zero, suc, inl, inr, refl, ap, sym, ◌∙◌, subst, All}
use Rattle.std.specs.List.{AllByRecursion, Contains}
use Rattle.std.specs.List.Sorted.{IsStrictlySortedBy}
use Rattle.std.specs.Map.{lookup, keys_of, set_value}
use Rattle.std.specs.Ordering.{ordering_reverse}
use Rattle.std.specs.declared.cmp.Ordering.{Ordering}
use Rattle.std.specs.declared.cmp.Ordering.TheVariants.{Less, Equal, Greater}
use Rattle.std.proofs.lemmas.Bool.{or_left, or_parts}
use Rattle.std.proofs.lemmas.Cmp.{eq_by_cmp_equiv}
use Rattle.std.proofs.lemmas.List.Elements.{All-cons, All-head, All-nil, All-tail}
use Rattle.std.proofs.lemmas.List.Folds.{list_any-append}
use Rattle.std.proofs.lemmas.Map.{keys-set_value, lookup-none}
use Rattle.std.proofs.lemmas.Map.Entries.{lookup-filter-keys, lookup_head, none_below_head}
use Rattle.std.proofs.lemmas.Map.Keys.{sorted_head, sorted_tail}
use Rattle.ps_world.specs.Facts.{fact_cmp}
use Rattle.ps_world.specs.Knowledge.{same_fact}
use Rattle.ps_world.specs.declared.numbers.Num.{Num}
use Rattle.ps_world.specs.declared.facts.Fact.{Fact}
use Rattle.ps_action.specs.Effects.{with_value}
use Rattle.ps_problem.specs.Patches.{values_after}
use Rattle.ps_problem.specs.Puts.{dropped_in, held_in, put_back, with_held, without_term}
use Rattle.ps_action.proofs.Facts.{facts_total, exact_facts}
use Rattle.ps_action.proofs.Keys.{lookup-insert_entry}
use Rattle.ps_action.proofs.Contained.{fact_same, contains_first, contains_later}
use Rattle.ps_action.proofs.MadeValues.{values_rise}
use Rattle.ps_problem.proofs.Filters.{sorted-filter}
use Rattle.ps_problem.proofs.PutFacts.{known, known-filter}

nowhere_at : {K X : Type 0} (test : K → Bool) (x : K × X) (es : List (K × X)) (w : X) (b : Bool) → (lookup test es ≡ None → set_value test es w ≡ es) → cond b (Some x.1) (lookup test es) ≡ None → cond b ((x.0, w) ∷ es) (x ∷ set_value test es w) ≡ x ∷ es
nowhere_at test x es w true h e = absurd (cc)
nowhere_at test x es w false h e = ap (λ l. x ∷ l) (h e)

-- where no key passes there is nothing to set
pub set_nowhere : {K X : Type 0} (test : K → Bool) (es : List (K × X)) (w : X) → lookup test es ≡ None → set_value test es w ≡ es
set_nowhere test [] w e = refl
set_nowhere test (x ∷ es) w e = nowhere_at test x es w (test x.0) (set_nowhere test es w) e

-- ---- values

-- what a term is worth in these values
abbrev worth : Fact → List (Fact × Num) → Option Num
worth f vs = lookup (same_fact f) vs

first_worth : (v : Fact × Num) (vs : List (Fact × Num)) → worth v.0 (v ∷ vs) ≡ Some v.1
first_worth v vs = lookup_head (same_fact v.0) v vs ((eq_by_cmp_equiv facts_total).refl v.0)

-- a term below all others is worth nothing among them
below_all : (f : Fact) (vs : List (Fact × Num)) → AllByRecursion (λ y. fact_cmp f y ≡ Less) (keys_of vs) → worth f vs ≡ None
below_all f [] a = refl
below_all f (v ∷ vs) a = let less = a.0 in rw less (below_all f vs a.1)

heads_at : (x y : Fact × Num) (xs ys : List (Fact × Num)) (r : Ordering) → IsStrictlySortedBy fact_cmp (keys_of (x ∷ xs)) → IsStrictlySortedBy fact_cmp (keys_of (y ∷ ys)) → ((f : Fact) → worth f (x ∷ xs) ≡ worth f (y ∷ ys)) → fact_cmp x.0 y.0 ≡ r → fact_cmp x.0 y.0 ≡ Equal
heads_at x y xs ys Less s t h p =
    let none : worth x.0 (y ∷ ys) ≡ None = lookup-none (same_fact x.0) (y ∷ ys) (none_below_head facts_total x.0 y ys t p) in
    let some : worth x.0 (x ∷ xs) ≡ Some x.1 = first_worth x xs in
    let same : Some x.1 ≡ None = sym some ∙ h x.0 ∙ none in
    absurd (cc)
heads_at x y xs ys Equal s t h p = p
heads_at x y xs ys Greater s t h p =
    let none : worth y.0 (x ∷ xs) ≡ None = lookup-none (same_fact y.0) (x ∷ xs) (none_below_head facts_total y.0 x xs s (facts_total.antisymm y.0 x.0 ∙ ap ordering_reverse p)) in
    let some : worth y.0 (y ∷ ys) ≡ Some y.1 = first_worth y ys in
    let same : Some y.1 ≡ None = sym some ∙ sym (h y.0) ∙ none in
    absurd (cc)

tail_at : (f x : Fact) (n : Num) (xs ys : List (Fact × Num)) (b : Bool) → same_fact f x ≡ b → AllByRecursion (λ y. fact_cmp x y ≡ Less) (keys_of xs) → AllByRecursion (λ y. fact_cmp x y ≡ Less) (keys_of ys) → cond b (Some n) (worth f xs) ≡ cond b (Some n) (worth f ys) → worth f xs ≡ worth f ys
tail_at f x n xs ys true s a b e = subst (λ g. worth g xs ≡ worth g ys) (sym (fact_same f x s)) (below_all x xs a ∙ sym (below_all x ys b))
tail_at f x n xs ys false s a b e = e

-- values that rise are the same where each term is worth the same
values_same : (xs ys : List (Fact × Num)) → IsStrictlySortedBy fact_cmp (keys_of xs) → IsStrictlySortedBy fact_cmp (keys_of ys) → ((f : Fact) → worth f xs ≡ worth f ys) → xs ≡ ys
values_same [] [] s t h = refl
values_same [] (y ∷ ys) s t h = let same : None ≡ Some y.1 = h y.0 ∙ first_worth y ys in absurd (cc)
values_same (x ∷ xs) [] s t h = let same : Some x.1 ≡ None = sym (first_worth x xs) ∙ h x.0 in absurd (cc)
values_same (x ∷ xs) (y ∷ ys) s t h =
    let key : x.0 ≡ y.0 = exact_facts x.0 y.0 (heads_at x y xs ys (fact_cmp x.0 y.0) s t h refl) in
    let there : worth x.0 (y ∷ ys) ≡ Some y.1 = subst (λ f. worth f (y ∷ ys) ≡ Some y.1) (sym key) (first_worth y ys) in
    let some : Some x.1 ≡ Some y.1 = sym (first_worth x xs) ∙ h x.0 ∙ there in
    let value : x.1 ≡ y.1 = cc in
    let pair : x ≡ y = λ i. (key i, value i) in
    let up : IsStrictlySortedBy fact_cmp (keys_of (x ∷ ys)) = subst (λ (z : Fact × Num). IsStrictlySortedBy fact_cmp (keys_of (z ∷ ys))) (sym pair) t in
    let worths : (f : Fact) → worth f (x ∷ xs) ≡ worth f (x ∷ ys) = subst (λ (z : Fact × Num). (f : Fact) → worth f (x ∷ xs) ≡ worth f (z ∷ ys)) (sym pair) h in
    let rest = values_same xs ys (sorted_tail fact_cmp x.0 (keys_of xs) s) (sorted_tail fact_cmp x.0 (keys_of ys) up) (λ f.
    tail_at f x.0 x.1 xs ys (same_fact f x.0) refl (sorted_head fact_cmp x.0 (keys_of xs) s) (sorted_head fact_cmp x.0 (keys_of ys) up) (worths f)) in
    λ i. pair i ∷ rest i

sorted-put_back : (vs : List (Fact × Num)) (f : Fact) (o : Option Num) → IsStrictlySortedBy fact_cmp (keys_of vs) → IsStrictlySortedBy fact_cmp (keys_of (put_back vs f o))
sorted-put_back vs f None s = sorted-filter fact_cmp (λ g. not (same_fact f g)) vs s
sorted-put_back vs f (Some n) s = rw (keys-set_value (same_fact f) vs n) s

sorted-held : (vs : List (Fact × Num)) (hs : List (Fact × Option Num)) → IsStrictlySortedBy fact_cmp (keys_of vs) → IsStrictlySortedBy fact_cmp (keys_of (fold with_held vs hs))
sorted-held vs [] s = s
sorted-held vs (h ∷ hs) s = sorted-held (with_held vs h) hs (sorted-put_back vs h.0 h.1 s)

-- a term that is given no value is worth what it was
pub unset : (f : Fact) (vs ready : List (Fact × Num)) → known f (keys_of ready) ≡ false → worth f (fold with_value vs ready) ≡ worth f vs
unset f vs [] e = refl
unset f vs (r ∷ rs) e =
    let both = or_parts (same_fact f r.0) (known f (keys_of rs)) e in
    unset f (with_value vs r) rs both.1 ∙ lookup-insert_entry facts_total f r.0 r.1 vs ∙ ap (λ b. cond b (Some r.1) (worth f vs)) both.0

some_after : (b : Bool) (n : Num) (o : Option Num) → is_some o ≡ true → is_some (cond b (Some n) o) ≡ true
some_after true n o e = refl
some_after false n o e = e

-- a term that is worth something still is
still_some : (f : Fact) (vs ready : List (Fact × Num)) → is_some (worth f vs) ≡ true → is_some (worth f (fold with_value vs ready)) ≡ true
still_some f vs [] e = e
still_some f vs (r ∷ rs) e =
    still_some f (with_value vs r) rs (rw (lookup-insert_entry facts_total f r.0 r.1 vs) (some_after (same_fact f r.0) r.1 (worth f vs) e))

-- ---- values put back

pub apart_from : (f g x : Fact) → same_fact f g ≡ false → same_fact g x ≡ true → same_fact f x ≡ false
apart_from f g x n p = subst (λ y. same_fact f y ≡ false) (fact_same g x p) n

elsewhere_at : (f : Fact) (n : Num) (v : Fact × Num) (vs rest : List (Fact × Num)) (b : Bool) → (b ≡ true → same_fact f v.0 ≡ false) → worth f rest ≡ worth f vs → worth f (cond b ((v.0, n) ∷ vs) (v ∷ rest)) ≡ worth f (v ∷ vs)
elsewhere_at f n v vs rest true a h = let no = a refl in rw no refl
elsewhere_at f n v vs rest false a h = ap (λ o. cond (same_fact f v.0) (Some v.1) o) h

-- another term is worth what it was
set_elsewhere : (f g : Fact) (n : Num) (vs : List (Fact × Num)) → same_fact f g ≡ false → worth f (set_value (same_fact g) vs n) ≡ worth f vs
set_elsewhere f g n [] e = refl
set_elsewhere f g n (v ∷ vs) e = elsewhere_at f n v vs (set_value (same_fact g) vs n) (same_fact g v.0) (apart_from f g v.0 e) (set_elsewhere f g n vs e)

symmetric : (f g : Fact) → same_fact f g ≡ false → same_fact g f ≡ false
symmetric f g e = (eq_by_cmp_equiv facts_total).symm g f ∙ e

another : (g f h : Fact) → same_fact g f ≡ false → same_fact f h ≡ true → same_fact g h ≡ false
another g f h n p = apart_from g f h n p

put_elsewhere : (f g : Fact) (o : Option Num) (vs : List (Fact × Num)) → same_fact f g ≡ false → worth f (put_back vs g o) ≡ worth f vs
put_elsewhere f g None vs e = lookup-filter-keys (same_fact f) (λ h. not (same_fact g h)) true (λ h p. ap not (another g f h (symmetric f g e) p)) vs
put_elsewhere f g (Some n) vs e = set_elsewhere f g n vs e

here_at : (f : Fact) (n : Num) (v : Fact × Num) (vs : List (Fact × Num)) (b : Bool) → same_fact f v.0 ≡ b → is_some (cond b (Some v.1) (worth f vs)) ≡ true → (is_some (worth f vs) ≡ true → worth f (set_value (same_fact f) vs n) ≡ Some n) → worth f (cond b ((v.0, n) ∷ vs) (v ∷ set_value (same_fact f) vs n)) ≡ Some n
here_at f n v vs true s e h = rw s refl
here_at f n v vs false s e h = rw s (h e)

set_here : (f : Fact) (n : Num) (vs : List (Fact × Num)) → is_some (worth f vs) ≡ true → worth f (set_value (same_fact f) vs n) ≡ Some n
set_here f n [] e = cc
set_here f n (v ∷ vs) e = here_at f n v vs (same_fact f v.0) refl e (set_here f n vs)

-- a term that is worth something where it was is worth what it was
put_here : (f : Fact) (o : Option Num) (vs : List (Fact × Num)) → (is_some o ≡ true → is_some (worth f vs) ≡ true) → worth f (put_back vs f o) ≡ o
put_here f None vs h = lookup-filter-keys (same_fact f) (λ g. not (same_fact f g)) false (λ g p. ap not p) vs
put_here f (Some n) vs h = set_here f n vs (h refl)

-- ---- all of it taken back

module _ (old : List (Fact × Num)) (f : Fact) where
  back_step : (vs : List (Fact × Num)) (g : Fact) (rs : List Fact) (b : Bool) → same_fact f g ≡ b → (is_some (worth f old) ≡ true → is_some (worth f vs) ≡ true) → (worth f vs ≡ worth f old) ⊎ ((b || known f rs) ≡ true) → (worth f (put_back vs g (worth g old)) ≡ worth f old) ⊎ ((known f rs ≡ true) × (worth f (put_back vs g (worth g old)) ≡ worth f vs))
  back_step vs g rs true s keeps h =
      inl (subst (λ x. worth f (put_back vs x (worth x old)) ≡ worth f old) (fact_same f g s) (put_here f (worth f old) vs keeps))
  back_step vs g rs false s keeps (inl e) = inl (put_elsewhere f g (worth g old) vs s ∙ e)
  back_step vs g rs false s keeps (inr e) = inr (e, put_elsewhere f g (worth g old) vs s)

  -- a term that is worth what it was or is still put back is worth what it was in the end
  all_back : (vs : List (Fact × Num)) (rs : List Fact) → (is_some (worth f old) ≡ true → is_some (worth f vs) ≡ true) → (worth f vs ≡ worth f old) ⊎ (known f rs ≡ true) → worth f (fold with_held vs (held_in old rs)) ≡ worth f old
  all_back vs [] keeps (inl e) = e
  all_back vs [] keeps (inr e) = absurd (cc)
  all_back vs (r ∷ rs) keeps h =
      elim (back_step vs r rs (same_fact f r) refl keeps h) [
        | inl e ↦ all_back (put_back vs r (worth r old)) rs (λ t. ap is_some e ∙ t) (inl e)
        | inr w ↦ all_back (put_back vs r (worth r old)) rs (λ t. ap is_some w.1 ∙ keeps t) (inr w.0)
      ]

pub one_or_other : (b : Bool) → (b ≡ false) ⊎ (b ≡ true)
one_or_other true = inr refl
one_or_other false = inl refl

known-take-keys : (f : Fact) (k : ℕ) (ready : List (Fact × Num)) → known f (keys_of ready) ≡ false → known f (keys_of (take k ready)) ≡ false
known-take-keys f zero ready e = refl
known-take-keys f (suc k) [] e = refl
known-take-keys f (suc k) (r ∷ rs) e =
    let both = or_parts (same_fact f r.0) (known f (keys_of rs)) e in rw both.0 (known-take-keys f k rs both.1)

-- the terms whose values may change: those that are given one, and those that lose theirs
abbrev terms_in : List (Fact × Num) → List Fact → List Fact
terms_in ready gone = keys_of ready ++ gone

given_known : (f : Fact) (ready : List (Fact × Num)) (gone : List Fact) → known f (keys_of ready) ≡ true → known f (terms_in ready gone) ≡ true
given_known f ready gone e = list_any-append (same_fact f) (keys_of ready) gone ∙ or_left (known f (keys_of ready)) (known f gone) e

-- the values that were set before memory ran out are put back
pub values_undone : (old ready : List (Fact × Num)) (gone : List Fact) (k : ℕ) → IsStrictlySortedBy fact_cmp (keys_of old) → fold with_held (fold with_value old (take k ready)) (held_in old (terms_in ready gone)) ≡ old
values_undone old ready gone k sorted =
    values_same _ old (sorted-held _ (held_in old (terms_in ready gone)) (values_rise old (take k ready) sorted)) sorted (λ f.
    all_back old f (fold with_value old (take k ready)) (terms_in ready gone) (still_some f old (take k ready)) (
    elim (one_or_other (known f (keys_of ready))) [
      | inl e ↦ inl (unset f old (take k ready) (known-take-keys f k ready e))
      | inr e ↦ inr (given_known f ready gone e)
    ]
    ))

-- ---- values that are given and values that are lost

set_over_at : (f : Fact) (r : Fact × Num) (rs vs ws : List (Fact × Num)) (b : Bool) → same_fact f r.0 ≡ b → (b || known f (keys_of rs)) ≡ true
    → (known f (keys_of rs) ≡ true → worth f (fold with_value (with_value vs r) rs) ≡ worth f (fold with_value (with_value ws r) rs))
    → worth f (fold with_value (with_value vs r) rs) ≡ worth f (fold with_value (with_value ws r) rs)
set_over_at f r rs vs ws true s e later =
    elim (one_or_other (known f (keys_of rs))) [
      | inl none ↦
          unset f (with_value vs r) rs none ∙ lookup-insert_entry facts_total f r.0 r.1 vs ∙ ap (λ b. cond b (Some r.1) (worth f vs)) s
          ∙ sym (unset f (with_value ws r) rs none ∙ lookup-insert_entry facts_total f r.0 r.1 ws ∙ ap (λ b. cond b (Some r.1) (worth f ws)) s)
      | inr there ↦ later there
    ]
set_over_at f r rs vs ws false s e later = later e

-- a term that is given a value is worth that, whatever it was worth
set_over : (f : Fact) (ready vs ws : List (Fact × Num)) → known f (keys_of ready) ≡ true → worth f (fold with_value vs ready) ≡ worth f (fold with_value ws ready)
set_over f [] vs ws e = absurd (cc)
set_over f (r ∷ rs) vs ws e = set_over_at f r rs vs ws (same_fact f r.0) refl e (set_over f rs (with_value vs r) (with_value ws r))

turned : (f g : Fact) → same_fact f g ≡ same_fact g f
turned f g = (eq_by_cmp_equiv facts_total).symm f g

congruent : (f h g : Fact) → same_fact f g ≡ true → same_fact h g ≡ same_fact h f
congruent f h g p = ap (same_fact h) (sym (fact_same f g p))

cond_not : (b : Bool) (x : Option Num) → cond (not b) x None ≡ cond b None x
cond_not true x = refl
cond_not false x = refl

worth_without : (f g : Fact) (vs : List (Fact × Num)) → worth f (without_term vs g) ≡ cond (same_fact f g) None (worth f vs)
worth_without f g vs =
    lookup-filter-keys (same_fact f) (λ h. not (same_fact g h)) (not (same_fact f g)) (λ h p. ap not (congruent f g h p ∙ turned g f)) vs
    ∙ cond_not (same_fact f g) (worth f vs)

cond_or : (a b : Bool) (x : Option Num) → cond b None (cond a None x) ≡ cond (a || b) None x
cond_or true true x = refl
cond_or true false x = refl
cond_or false b x = refl

worth_removed : (f : Fact) (ds : List Fact) (vs : List (Fact × Num)) → worth f (fold without_term vs ds) ≡ cond (known f ds) None (worth f vs)
worth_removed f [] vs = refl
worth_removed f (d ∷ ds) vs =
    worth_removed f ds (without_term vs d) ∙ ap (λ o. cond (known f ds) None o) (worth_without f d vs)
    ∙ cond_or (same_fact f d) (known f ds) (worth f vs)

sorted_removed : (ds : List Fact) (vs : List (Fact × Num)) → IsStrictlySortedBy fact_cmp (keys_of vs) → IsStrictlySortedBy fact_cmp (keys_of (fold without_term vs ds))
sorted_removed [] vs s = s
sorted_removed (d ∷ ds) vs s = sorted_removed ds (without_term vs d) (sorted-filter fact_cmp (λ g. not (same_fact d g)) vs s)

worth_kept : (f : Fact) (gone : List Fact) (vs : List (Fact × Num)) → worth f (filter (λ v. not (known v.0 gone)) vs) ≡ cond (known f gone) None (worth f vs)
worth_kept f gone vs =
    lookup-filter-keys (same_fact f) (λ h. not (known h gone)) (not (known f gone)) (λ h p. ap (λ g. not (known g gone)) (sym (fact_same f h p))) vs
    ∙ cond_not (known f gone) (worth f vs)

-- where nothing is taken out, all stays
pub filter_none : (vs : List (Fact × Num)) → filter (λ v. not (known v.0 [])) vs ≡ vs
filter_none [] = refl
filter_none (v ∷ vs) = ap (λ ws. v ∷ ws) (filter_none vs)

module _ (old ready : List (Fact × Num)) (gone : List Fact) (sorted : IsStrictlySortedBy fact_cmp (keys_of old)) where
  abbrev kept : List (Fact × Num)
  kept = filter (λ v. not (known v.0 gone)) old

  abbrev values_put_in : List (Fact × Num)
  values_put_in = fold without_term (fold with_value old ready) (dropped_in ready gone)

  sorted_kept : IsStrictlySortedBy fact_cmp (keys_of kept)
  sorted_kept = sorted-filter fact_cmp (λ g. not (known g gone)) old sorted

  sorted_after : IsStrictlySortedBy fact_cmp (keys_of (values_after old ready gone))
  sorted_after = values_rise kept ready sorted_kept

  dropped_known : (f : Fact) → known f (dropped_in ready gone) ≡ (known f gone && not (known f (keys_of ready)))
  dropped_known f = known-filter f (λ g. not (known g (keys_of ready))) gone

  and_off : (a b : Bool) → b ≡ true → (a && not b) ≡ false
  and_off true b e = ap not e
  and_off false b e = refl

  and_on : (a b : Bool) → b ≡ false → (a && not b) ≡ a
  and_on true b e = ap not e
  and_on false b e = refl

  worth_put : (f : Fact) → worth f values_put_in ≡ worth f (values_after old ready gone)
  worth_put f =
      worth_removed f (dropped_in ready gone) (fold with_value old ready) ∙ ap (λ b. cond b None (worth f (fold with_value old ready))) (dropped_known f)
      ∙ elim (one_or_other (known f (keys_of ready))) [
        | inl none ↦
            ap (λ b. cond b None (worth f (fold with_value old ready))) (and_on (known f gone) (known f (keys_of ready)) none)
            ∙ ap (λ o. cond (known f gone) None o) (unset f old ready none) ∙ sym (unset f kept ready none ∙ worth_kept f gone old)
        | inr there ↦
            ap (λ b. cond b None (worth f (fold with_value old ready))) (and_off (known f gone) (known f (keys_of ready)) there)
            ∙ set_over f ready old kept there
      ]

  -- what is given before what is lost, without what is lost of what is given: the same values
  pub values_put : values_put_in ≡ values_after old ready gone
  values_put =
      values_same values_put_in (values_after old ready gone) (sorted_removed (dropped_in ready gone) (fold with_value old ready) (values_rise old ready sorted)) sorted_after worth_put

  -- a term that is neither given a value nor loses its own is worth what it was
  untouched : (f : Fact) → known f (keys_of ready) ≡ false → known f gone ≡ false → worth f (values_after old ready gone) ≡ worth f old
  untouched f none stays = unset f kept ready none ∙ worth_kept f gone old ∙ ap (λ b. cond b None (worth f old)) stays

-- ---- whether values change

key_at : (f : Fact) (r : Fact × Num) (rs : List (Fact × Num)) (b : Bool) → same_fact f r.0 ≡ b → (b || known f (keys_of rs)) ≡ true → (known f (keys_of rs) ≡ true → (x : Fact × Num) × Contains rs x × (f ≡ x.0)) → (x : Fact × Num) × Contains (r ∷ rs) x × (f ≡ x.0)
key_at f r rs true s e later = (r, contains_first r r rs refl, fact_same f r.0 s)
key_at f r rs false s e later = let w = later e in (w.0, contains_later r w.0 rs w.1, w.2)

pub key_of_known : (f : Fact) (ready : List (Fact × Num)) → known f (keys_of ready) ≡ true → (r : Fact × Num) × Contains ready r × (f ≡ r.0)
key_of_known f [] e = absurd (cc)
key_of_known f (r ∷ rs) e = key_at f r rs (same_fact f r.0) refl e (key_of_known f rs)

-- a term is worth what it held
abbrev Held : List (Fact × Num) → Fact × Option Num → Type 0
Held new h = worth h.0 new ≡ h.1

held_at : (old new : List (Fact × Num)) (f t : Fact) (ts : List Fact) (b : Bool) → same_fact f t ≡ b → (b || known f ts) ≡ true → worth t new ≡ worth t old → (known f ts ≡ true → worth f new ≡ worth f old) → worth f new ≡ worth f old
held_at old new f t ts true s e here later = subst (λ g. worth g new ≡ worth g old) (sym (fact_same f t s)) here
held_at old new f t ts false s e here later = later e

-- a term of those that are held is worth what it was
held_same : (old new : List (Fact × Num)) (f : Fact) (ts : List Fact) → known f ts ≡ true → All (Held new) (held_in old ts) → worth f new ≡ worth f old
held_same old new f [] e all = absurd (cc)
held_same old new f (t ∷ ts) e all =
    held_at old new f t ts (same_fact f t) refl e (All-head (Held new) (t, worth t old) (held_in old ts) all)
    (λ later. held_same old new f ts later (All-tail (Held new) (t, worth t old) (held_in old ts) all))

-- Where each term is worth what it was, the values are the same.
pub values_kept : (old ready : List (Fact × Num)) (gone : List Fact) → IsStrictlySortedBy fact_cmp (keys_of old) → All (Held (values_after old ready gone)) (held_in old (terms_in ready gone)) → values_after old ready gone ≡ old
values_kept old ready gone sorted all =
    values_same _ old (sorted_after old ready gone sorted) sorted (λ f.
    elim (one_or_other (known f (terms_in ready gone))) [
      | inl e ↦
          let both = or_parts (known f (keys_of ready)) (known f gone) (sym (list_any-append (same_fact f) (keys_of ready) gone) ∙ e) in
          untouched old ready gone sorted f both.0 both.1
      | inr e ↦ held_same old (values_after old ready gone) f (terms_in ready gone) e all
    ])

held_all : (old new : List (Fact × Num)) (ts : List Fact) → new ≡ old → All (Held new) (held_in old ts)
held_all old new [] e = All-nil (Held new)
held_all old new (t ∷ ts) e = All-cons (Held new) (t, worth t old) (held_in old ts) (ap (worth t) e) (held_all old new ts e)

-- and the other way round
pub values_held : (old ready : List (Fact × Num)) (gone : List Fact) → values_after old ready gone ≡ old → All (Held (values_after old ready gone)) (held_in old (terms_in ready gone))
values_held old ready gone e = held_all old (values_after old ready gone) (terms_in ready gone) e

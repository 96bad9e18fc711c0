-- The first of facts that rise, where some that come later aren't listed.
use Rattle.std.proofs.Common.{◌≡◌, ◌⊎◌, ℕ, zero, suc, true, false, List, [], ◌∷◌, length, take, inl, inr, refl, ap, sym, ◌∙◌, subst, arith}
use Rattle.std.specs.List.{AllByRecursion}
use Rattle.std.specs.List.Sorted.{IsStrictlySortedBy}
use Rattle.std.specs.Ordering.{ordering_reverse}
use Rattle.std.specs.declared.cmp.Ordering.TheVariants.{Less, Greater}
use Rattle.std.proofs.lemmas.Bool.{false≢true, or_left, or_right}
use Rattle.std.proofs.lemmas.Map.Keys.{sorted_head, sorted_tail}
use Rattle.ps_world.specs.Facts.{fact_cmp}
use Rattle.ps_world.specs.Knowledge.{same_fact}
use Rattle.ps_world.specs.declared.facts.Fact.{Fact}
use Rattle.ps_action.proofs.Contained.{fact_itself, fact_same, or_cases}
use Rattle.ps_action.proofs.Facts.{facts_total}
use Rattle.ps_marks.specs.Candidates.{AreBefore}
use Rattle.ps_marks.specs.Closures.{is_in}

abbrev pub Rises : List Fact → Type 0
Rises fs = IsStrictlySortedBy fact_cmp fs

-- no fact is below one that is below it
pub not_both : (f g : Fact) → fact_cmp f g ≡ Less → fact_cmp g f ≡ Less → ⊥
not_both f g p q =
    let up : fact_cmp g f ≡ Greater = facts_total.antisymm g f ∙ ap ordering_reverse p in
    absurd (cc)

not_itself : (f g : Fact) → f ≡ g → fact_cmp f g ≡ Less → ⊥
not_itself f g e p =
    let P : Fact → Type 0 = λ h. fact_cmp h g ≡ Less in
    not_both g g (subst P e p) (subst P e p)

below_in : (f x : Fact) (fs : List Fact) → AllByRecursion (λ y. fact_cmp f y ≡ Less) fs → is_in fs x ≡ true → fact_cmp f x ≡ Less
below_in f x [] a e = absurd (cc)
below_in f x (g ∷ fs) a e =
    let P : Fact → Type 0 = λ h. fact_cmp f h ≡ Less in
    elim (or_cases (same_fact x g) (is_in fs x) e) [
      | inl here ↦ subst P (sym (fact_same x g here)) a.0
      | inr there ↦ below_in f x fs a.1 there
    ]

-- the first of facts that rise is below the others
pub first_below : (f x : Fact) (fs : List Fact) → Rises (f ∷ fs) → is_in fs x ≡ true → fact_cmp f x ≡ Less
first_below f x fs s e = below_in f x fs (sorted_head fact_cmp f fs s) e

here : (f : Fact) (fs : List Fact) → is_in (f ∷ fs) f ≡ true
here f fs = or_left (same_fact f f) (is_in fs f) (fact_itself f)

later : (f x : Fact) (fs : List Fact) → is_in fs x ≡ true → is_in (f ∷ fs) x ≡ true
later f x fs e = or_right (same_fact x f) (is_in fs x) e

either : (f x : Fact) (fs : List Fact) → is_in (f ∷ fs) x ≡ true → (x ≡ f) ⊎ (is_in fs x ≡ true)
either f x fs e = elim (or_cases (same_fact x f) (is_in fs x) e) [ inl same ↦ inl (fact_same x f same) | inr there ↦ inr there ]

-- ---- the first of all, by some

-- all of these are among those, or as many before them are
abbrev pub Covers : ℕ → List Fact → List Fact → Type 0
Covers n fs all = (x : Fact) → is_in all x ≡ true → (is_in fs x ≡ true) ⊎ AreBefore n fs x

module _ (n : ℕ) (s t : Fact) (ss ts : List Fact) (rise : Rises (s ∷ ss)) (all_rise : Rises (t ∷ ts)) (sub : (x : Fact) → is_in (s ∷ ss) x ≡ true → is_in (t ∷ ts) x ≡ true) (covers : Covers (suc n) (s ∷ ss) (t ∷ ts)) where
  none_before : (fs : List Fact) → length fs ≡ suc n → ((y : Fact) → is_in fs y ≡ true → is_in (s ∷ ss) y ≡ true) → ((y : Fact) → is_in fs y ≡ true → fact_cmp y t ≡ Less) → ⊥
  none_before [] l there before = omega (arith, l)
  none_before (y ∷ fs) l there before =
      elim (either t y ts (sub y (there y (here y fs)))) [
        | inl same ↦ not_itself y t same (before y (here y fs))
        | inr after ↦ not_both t y (first_below t y ts all_rise after) (before y (here y fs))
      ]

  first_there : is_in (s ∷ ss) t ≡ true
  first_there = elim (covers t (here t ts)) [ inl there ↦ there | inr w ↦ absurd (none_before w.some w.many w.there w.before) ]

  pub same_first : s ≡ t
  same_first =
      elim (either s t ss first_there) [
        | inl same ↦ sym same
        | inr after ↦ elim (either t s ts (sub s (here s ss))) [
          | inl same ↦ same
          | inr more ↦ absurd (not_both s t (first_below s t ss rise after) (first_below t s ts all_rise more))
        ]
      ]

  pub sub_rest : (x : Fact) → is_in ss x ≡ true → is_in ts x ≡ true
  sub_rest x e =
      elim (either t x ts (sub x (later s x ss e))) [
        | inl same ↦ absurd (not_itself s x (same_first ∙ sym same) (first_below s x ss rise e))
        | inr there ↦ there
      ]

  -- one of these that isn't the first
  past_first : (x : Fact) → fact_cmp s x ≡ Less → is_in (s ∷ ss) x ≡ true → is_in ss x ≡ true
  past_first x low e = elim (either s x ss e) [ inl same ↦ absurd (not_itself s x (sym same) low) | inr there ↦ there ]

  from_first : (x y : Fact) → is_in (s ∷ ss) y ≡ true → fact_cmp y x ≡ Less → fact_cmp s x ≡ Less
  from_first x y e low =
      let P : Fact → Type 0 = λ z. fact_cmp z x ≡ Less in
      elim (either s y ss e) [ inl same ↦ subst P same low | inr there ↦ facts_total.trans s y x (first_below s y ss rise there) low ]

  fewer : (x : Fact) (fs : List Fact) → Rises fs → length fs ≡ suc n → ((y : Fact) → is_in fs y ≡ true → is_in (s ∷ ss) y ≡ true) → ((y : Fact) → is_in fs y ≡ true → fact_cmp y x ≡ Less) → AreBefore n ss x
  fewer x [] r l there before = absurd (omega (arith, l))
  fewer x (y ∷ fs) r l there before = record {
    some = fs;
    rise = sorted_tail fact_cmp y fs r;
    many = omega (arith, l);
    there = λ z e. past_first z (from_first z y (there y (here y fs)) (first_below y z fs r e)) (there z (later y z fs e));
    before = λ z e. before z (later y z fs e);
  }

  pub covers_rest : Covers n ss ts
  covers_rest x e =
      let P : Fact → Type 0 = λ z. fact_cmp z x ≡ Less in
      let low : fact_cmp s x ≡ Less = subst P (sym same_first) (first_below t x ts all_rise e) in
      elim (covers x (later t x ts e)) [ inl there ↦ inl (past_first x low there) | inr w ↦ inr (fewer x w.some w.rise w.many w.there w.before) ]

none_there : (n : ℕ) (fs : List Fact) → length fs ≡ suc n → ((y : Fact) → is_in fs y ≡ true → false ≡ true) → ⊥
none_there n [] l there = omega (arith, l)
none_there n (y ∷ fs) l there = false≢true (there y (here y fs))

-- the first of facts are the first of some of them that cover them
pub first_same : (n : ℕ) (ss ts : List Fact) → Rises ss → Rises ts → ((x : Fact) → is_in ss x ≡ true → is_in ts x ≡ true) → Covers n ss ts → take n ss ≡ take n ts
first_same zero ss ts r q sub covers = refl
first_same (suc n) [] [] r q sub covers = refl
first_same (suc n) (s ∷ ss) [] r q sub covers = absurd (false≢true (sub s (here s ss)))
first_same (suc n) [] (t ∷ ts) r q sub covers = elim (covers t (here t ts)) [ inl none ↦ absurd (false≢true none) | inr w ↦ absurd (none_there n w.some w.many w.there) ]
first_same (suc n) (s ∷ ss) (t ∷ ts) r q sub covers =
    let first = same_first n s t ss ts r q sub covers in
    let rest = first_same n ss ts (sorted_tail fact_cmp s ss r) (sorted_tail fact_cmp t ts q) (sub_rest n s t ss ts r q sub covers) (covers_rest n s t ss ts r q sub covers) in
    λ i. first i ∷ rest i

-- ---- the first of facts that rise cover them

all_taken : (P : Fact → Type 0) (n : ℕ) (fs : List Fact) → AllByRecursion P fs → AllByRecursion P (take n fs)
all_taken P zero fs a = tt
all_taken P (suc n) [] a = tt
all_taken P (suc n) (f ∷ fs) a = (a.0, all_taken P n fs a.1)

pub rises_taken : (n : ℕ) (fs : List Fact) → Rises fs → Rises (take n fs)
unfolding IsStrictlySortedBy
rises_taken zero fs s = tt
rises_taken (suc n) [] s = tt
rises_taken (suc n) (f ∷ fs) s = (all_taken (λ y. fact_cmp f y ≡ Less) n fs s.0, rises_taken n fs s.1)

pub taken_or_after : (n : ℕ) (fs : List Fact) (x : Fact) → Rises fs → is_in fs x ≡ true → (is_in (take n fs) x ≡ true) ⊎ ((length (take n fs) ≡ n) × ((y : Fact) → is_in (take n fs) y ≡ true → fact_cmp y x ≡ Less))
taken_or_after zero fs x s e = inr (refl, λ y h. absurd (cc))
taken_or_after (suc n) [] x s e = absurd (cc)
taken_or_after (suc n) (f ∷ fs) x s e =
    let P : Fact → Type 0 = λ z. fact_cmp z x ≡ Less in
    elim (either f x fs e) [
      | inl same ↦ inl (or_left (same_fact x f) (is_in (take n fs) x) (ap (same_fact x) (sym same) ∙ fact_itself x))
      | inr there ↦ elim (taken_or_after n fs x (sorted_tail fact_cmp f fs s) there) [
        | inl taken ↦ inl (later f x (take n fs) taken)
        | inr w ↦ inr (
          ap suc w.0,
          λ y h. elim (either f y (take n fs) h) [
            | inl same ↦ subst P (sym same) (first_below f x fs s there)
            | inr more ↦ w.1 y more
          ],
        )
      ]
    ]

-- Places of facts put in one after another, and rules.
use Rattle.std.proofs.Common.{◌≡◌, ◌⊎◌, ℕ, ◌+◌, ◌<◌, zero, suc, Bool, true, false, not, ◌||◌, List, [], ◌∷◌, ◌++◌, Some, None, is_some, option_map, All, filter, flat_map, length, map, slice_get, get_or, take, inl, inr, ap, sym, ◌∙◌, subst, arith}
use Rattle.std.specs.List.{Contains}
use Rattle.std.proofs.lemmas.Grind.{flat_map-append}
use Rattle.std.proofs.lemmas.List.{append-nil, map-append, take_more}
use Rattle.std.proofs.lemmas.List.Elements.{All-contains, Contains-append_cases, Contains-append_left, Contains-get_or, Contains-push, Contains-push_cases}
use Rattle.std.proofs.lemmas.Bool.{cases_lt, false≢true}
use Rattle.std.proofs.lemmas.Option.{slice_get_within}
use Rattle.ps_world.specs.Knowledge.{same_fact}
use Rattle.ps_world.specs.declared.domains.Domain.{Domain}
use Rattle.ps_world.specs.declared.facts.Fact.{Fact}
use Rattle.ps_world.specs.declared.known.Knowledge.{Knowledge}
use Rattle.ps_action.specs.declared.acts.GroundAction.{GroundAction}
use Rattle.ps_action.proofs.Contained.{fact_itself}
use Rattle.ps_domain.proofs.Members.{Contains_from_has, has_from_Contains, has_passed}
use Rattle.ps_domain.proofs.Lookups.{find_nowhere, is_some-find}
use Rattle.ps_closing.specs.declared.rule.Rule.{Rule}
use Rattle.ps_marks.specs.declared.making.Made.{Made}
use Rattle.ps_marks.specs.Atoms.{atoms_of, makes}
use Rattle.ps_closing.specs.Closing.{AreWithin, FitsIn}
use Rattle.ps_marks.specs.Closures.{is_in}
use Rattle.ps_marks.specs.Making.{adds_of, facts_made, made_by}
use Rattle.ps_marks.specs.Rules.{AllIn, ArePlaces, AreRules, IsOnce, IsRuleOf, TakesPlaces, asked, later_atoms, place}
use Rattle.ps_marks.proofs.AddsMade.{made_is}
use Rattle.ps_marks.proofs.Bridge.{at_place}
use Rattle.ps_marks.proofs.Makes.{only_one}
use Rattle.ps_marks.proofs.Members.{both_first, both_second, in_both, in_filter, no_both}

-- a fact that has no place is none of these
pub no_place : (atoms : List Fact) (x : Fact) → place atoms x ≡ None → is_in atoms x ≡ false
no_place atoms x e =
    sym (is_some-find (same_fact x) (λ (y : Fact). y) atoms) ∙ ap (λ o. is_some {T = Fact} (option_map (λ (y : Fact). y) o)) (find_nowhere (same_fact x) atoms e)

-- ---- places taken one after another

pub takes_none : (atoms : List Fact) (xs : List ℕ) → TakesPlaces atoms [] xs xs
takes_none atoms xs i = (λ c. inl c, λ w. elim w [ inl c ↦ c | inr v ↦ absurd (false≢true v.2) ])

pub takes_more : (atoms fs gs : List Fact) (a b c : List ℕ) → TakesPlaces atoms fs a b → TakesPlaces atoms gs b c → TakesPlaces atoms (fs ++ gs) a c
takes_more atoms fs gs a b c p q i = (
  λ m. elim ((q i).0 m) [
    | inl old ↦ elim ((p i).0 old) [ inl first ↦ inl first | inr v ↦ inr (v.0, v.1, both_first fs gs v.0 v.2) ]
    | inr v ↦ inr (v.0, v.1, both_second fs gs v.0 v.2)
  ],
  λ w. (q i).1 (elim w [
    | inl first ↦ inl ((p i).1 (inl first))
    | inr v ↦ elim (in_both fs gs v.0 v.2) [ inl h ↦ inl ((p i).1 (inr (v.0, v.1, h))) | inr h ↦ inr (v.0, v.1, h) ]
  ]),
)

one_of : (x y : ℕ) → Contains (x ∷ []) y → x ≡ y
one_of x y c = elim (Contains-push_cases [] x y c) [ inl none ↦ absurd (omega (arith, none.1)) | inr same ↦ same ]

-- the place of one fact
pub takes_one : (atoms : List Fact) → IsOnce atoms → (f : Fact) (i : ℕ) (xs : List ℕ) → place atoms f ≡ Some i → TakesPlaces atoms (f ∷ []) xs (xs ++ i ∷ [])
takes_one atoms once f i xs e j = (
  λ c. elim (Contains-append_cases xs (i ∷ []) j c) [
    | inl old ↦ inl old
    | inr new ↦
        let P : ℕ → Type 0 = λ n. slice_get atoms n ≡ Some f in
        inr (f, subst P (one_of i j new) (at_place atoms f i e), ap (λ b. b || false) (fact_itself f))
  ],
  λ w. elim w [
    | inl old ↦ Contains-append_left xs (i ∷ []) j old
    | inr v ↦
        let there : place atoms f ≡ Some j = ap (place atoms) (sym (only_one v.0 f v.2)) ∙ once j v.0 v.1 in
        let same : i ≡ j = cc in
        let P : ℕ → Type 0 = λ n. Contains (xs ++ i ∷ []) n in
        subst P same (Contains-push xs i)
  ],
)

-- a fact that has no place takes none
pub takes_nowhere : (atoms : List Fact) → IsOnce atoms → (f : Fact) (xs : List ℕ) → place atoms f ≡ None → TakesPlaces atoms (f ∷ []) xs xs
takes_nowhere atoms once f xs e j = (
  λ c. inl c,
  λ w. elim w [
    | inl old ↦ old
    | inr v ↦
        let there : place atoms f ≡ Some j = ap (place atoms) (sym (only_one v.0 f v.2)) ∙ once j v.0 v.1 in
        absurd (cc)
  ],
)

-- the places before this one
abbrev pub TakesBefore : List Fact → List Fact → ℕ → List ℕ → List ℕ → Type 0
TakesBefore atoms fs n old new = (i : ℕ) → (Contains new i → Contains old i ⊎ ((i < n) × ((x : Fact) × (slice_get atoms i ≡ Some x) × (is_in fs x ≡ true)))) × ((Contains old i → Contains new i) × ((x : Fact) → i < n → slice_get atoms i ≡ Some x → is_in fs x ≡ true → Contains new i))

either : (i n : ℕ) → i < n + 1 → (i < n) ⊎ (i ≡ n)
either i n l = elim (cases_lt i n) [ inl low ↦ inl low | inr up ↦ inr (omega (arith, l, up)) ]

pub before_none : (atoms fs : List Fact) (xs : List ℕ) → TakesBefore atoms fs 0 xs xs
before_none atoms fs xs i = (λ c. inl c, (λ c. c, λ x l e h. absurd (omega (arith, l))))

pub before_taken : (atoms fs : List Fact) (n : ℕ) (x : Fact) (a b : List ℕ) → slice_get atoms n ≡ Some x → is_in fs x ≡ true → TakesBefore atoms fs n a b → TakesBefore atoms fs (n + 1) a (b ++ n ∷ [])
before_taken atoms fs n x a b at there t i = (
  λ c. elim (Contains-append_cases b (n ∷ []) i c) [
    | inl old ↦ elim ((t i).0 old) [ inl first ↦ inl first | inr w ↦ let less : i < n + 1 = omega (arith, w.0) in inr (less, w.1) ]
    | inr new ↦
        let same = one_of n i new in
        let P : ℕ → Type 0 = λ m. slice_get atoms m ≡ Some x in
        inr (omega (arith, same), (x, subst P same at, there))
  ],
  (
    λ c. Contains-append_left b (n ∷ []) i ((t i).1.0 c),
    λ y l e h. elim (either i n l) [
      | inl low ↦ Contains-append_left b (n ∷ []) i ((t i).1.1 y low e h)
      | inr same ↦ let P : ℕ → Type 0 = λ m. Contains (b ++ n ∷ []) m in subst P (sym same) (Contains-push b n)
    ],
  ),
)

pub before_passed : (atoms fs : List Fact) (n : ℕ) (x : Fact) (a b : List ℕ) → slice_get atoms n ≡ Some x → is_in fs x ≡ false → TakesBefore atoms fs n a b → TakesBefore atoms fs (n + 1) a b
before_passed atoms fs n x a b at none t i = (
  λ c. elim ((t i).0 c) [ inl old ↦ inl old | inr w ↦ let less : i < n + 1 = omega (arith, w.0) in inr (less, w.1) ],
  (
    (t i).1.0,
    λ y l e h. elim (either i n l) [
      | inl low ↦ (t i).1.1 y low e h
      | inr same ↦
          let here : Some y ≡ Some x = sym e ∙ ap (slice_get atoms) same ∙ at in
          let alike : y ≡ x = cc in
          absurd (no_both (is_in fs x) (ap (is_in fs) (sym alike) ∙ h) none)
    ],
  ),
)

pub before_all : (atoms fs : List Fact) (a b : List ℕ) → TakesBefore atoms fs (length atoms) a b → TakesPlaces atoms fs a b
before_all atoms fs a b t i = (
  λ c. elim ((t i).0 c) [ inl old ↦ inl old | inr w ↦ inr w.1 ],
  λ w. elim w [ inl old ↦ (t i).1.0 old | inr v ↦ (t i).1.1 v.0 (slice_get_within atoms i v.0 v.1) v.1 v.2 ],
)

-- ---- adds one after another

pub made_more : (d : Domain) (k : Knowledge) (adds : List Made) (add : Made) → made_by d k (adds ++ add ∷ []) ≡ made_by d k adds ++ facts_made d k add
made_more d k adds add = flat_map-append (facts_made d k) adds (add ∷ []) ∙ ap (λ fs. made_by d k adds ++ fs) (append-nil (facts_made d k add))

pub takes_add : (d : Domain) (k : Knowledge) (atoms : List Fact) (adds : List Made) (i : ℕ) (add : Made) (first old new : List ℕ) → i < length adds → TakesPlaces atoms (made_by d k (take i adds)) first old → TakesPlaces atoms (facts_made d k (get_or adds i add)) old new → TakesPlaces atoms (made_by d k (take (i + 1) adds)) first new
takes_add d k atoms adds i add first old new within before one =
    let P : List Fact → Type 0 = λ fs. TakesPlaces atoms fs first new in
    let is : made_by d k (take (i + 1) adds) ≡ made_by d k (take i adds) ++ facts_made d k (get_or adds i add) =
    ap (made_by d k) (take_more adds i add within) ∙ made_more d k (take i adds) (get_or adds i add) in
    subst P (sym is) (takes_more atoms (made_by d k (take i adds)) (facts_made d k (get_or adds i add)) first old new before one)

-- ---- rules

pub rules_more : (d : Domain) (k : Knowledge) (atoms : List Fact) (gs : List GroundAction) (rs : List Rule) (g : GroundAction) (r : Rule) → AreRules d k atoms gs rs → IsRuleOf d k atoms g r → AreRules d k atoms (gs ++ g ∷ []) (rs ++ r ∷ [])
rules_more d k atoms [] [] g r a is = (is, tt)
rules_more d k atoms [] (q ∷ rs) g r a is = absurd a
rules_more d k atoms (f ∷ gs) [] g r a is = absurd a
rules_more d k atoms (f ∷ gs) (q ∷ rs) g r a is = (a.0, rules_more d k atoms gs rs g r a.1 is)

-- places of facts are below the number of facts
places_within : (atoms : List Fact) (places : List ℕ) (fs : List Fact) → ArePlaces atoms places fs → AreWithin (length atoms) places
places_within atoms [] fs e i j l = absurd (omega (arith, l))
places_within atoms (p ∷ places) [] e i j l = absurd (cc)
places_within atoms (p ∷ places) (f ∷ fs) e zero j l = let first : slice_get atoms p ≡ Some f = cc in slice_get_within atoms p f first
places_within atoms (p ∷ places) (f ∷ fs) e (suc i) j l =
    let rest : map (slice_get atoms) places ≡ map Some fs = cc in
    places_within atoms places fs rest i j (omega (arith, l))

pub rule_fits : (d : Domain) (k : Knowledge) (atoms : List Fact) (g : GroundAction) (r : Rule) → IsRuleOf d k atoms g r → FitsIn (length atoms) r
rule_fits d k atoms g r is = record {
  needs = places_within atoms r.needs.items _ is.needs;
  gives = λ i j l.
      let w = (is.gives (get_or r.gives.items i j)).0 (Contains-get_or r.gives.items i j l) in
      slice_get_within atoms (get_or r.gives.items i j) w.0 w.1;
}

pub rules_fit : (d : Domain) (k : Knowledge) (atoms : List Fact) (gs : List GroundAction) (rs : List Rule) → AreRules d k atoms gs rs → All (FitsIn (length atoms)) rs
rules_fit d k atoms gs [] a i j l = absurd (omega (arith, l))
rules_fit d k atoms [] (r ∷ rs) a i j l = absurd a
rules_fit d k atoms (g ∷ gs) (r ∷ rs) a zero j l = rule_fits d k atoms g r a.0
rules_fit d k atoms (g ∷ gs) (r ∷ rs) a (suc i) j l = rules_fit d k atoms gs rs a.1 i j (omega (arith, l))

-- what a ground action needs is among what it asks for
pub needed_asked : (starts later : List Fact) (p : Fact → Bool) (atoms : List Fact) → AllIn atoms (starts ++ later) → AllIn atoms (starts ++ filter p later)
needed_asked starts later p atoms a x e =
    elim (in_both starts (filter p later) x e) [
      | inl first ↦ a x (both_first starts later x first)
      | inr rest ↦ a x (both_second starts later x (in_filter p later x rest).0)
    ]

pub own_asked : (starts later : List Fact) (p : Fact → Bool) (atoms : List Fact) → AllIn atoms (starts ++ later) → AllIn atoms (filter p later)
own_asked starts later p atoms a x e = a x (both_second starts later x (in_filter p later x e).0)

-- the rule of a ground action, from the adds at its start and at its end, and from its later atoms
pub rule_is : (d : Domain) (k : Knowledge) (atoms : List Fact) (g : GroundAction) (r : Rule) (begins ends : List Made) (later : List Fact) → begins ≡ adds_of g.effects.at_start → ends ≡ adds_of g.effects.at_end → later ≡ later_atoms g
    → ArePlaces atoms r.needs.items (atoms_of g.conditions.at_start ++ filter (λ x. not (is_in (made_by d k begins) x)) later)
    → ArePlaces atoms r.own.items (filter (is_in (made_by d k begins)) later)
    → TakesPlaces atoms (made_by d k begins ++ made_by d k ends) [] r.gives.items → IsRuleOf d k atoms g r
rule_is d k atoms g r begins ends later b e l needs own gives =
    let starts : made_by d k begins ≡ makes d k g.effects.at_start = ap (made_by d k) b ∙ made_is d k g.effects.at_start in
    let stops : made_by d k ends ≡ makes d k g.effects.at_end = ap (made_by d k) e ∙ made_is d k g.effects.at_end in
    record {
      needs = needs ∙ (λ i. map Some (atoms_of g.conditions.at_start ++ filter (λ x. not (is_in (starts i) x)) (l i)));
      own = own ∙ (λ i. map Some (filter (is_in (starts i)) (l i)));
      gives = λ i. (
        λ c. elim ((gives i).0 c) [
          | inl none ↦ absurd (omega (arith, none.1))
          | inr v ↦ (v.0, v.1, sym (λ j. is_in (starts j ++ stops j) v.0) ∙ v.2)
        ],
        λ w. (gives i).1 (inr (w.0, w.1, (λ j. is_in (starts j ++ stops j) w.0) ∙ w.2)),
      );
    }

-- one more fact at its place
pub places_more : (atoms fs : List Fact) (i : ℕ) (f : Fact) (at : List ℕ) (p : ℕ) → i < length fs → ArePlaces atoms at (take i fs) → slice_get atoms p ≡ Some (get_or fs i f) → ArePlaces atoms (at ++ p ∷ []) (take (i + 1) fs)
places_more atoms fs i f at p within are e =
    map-append (slice_get atoms) at (p ∷ [])
    ∙ (λ j. are j ++ e j ∷ [])
    ∙ sym (map-append Some (take i fs) (get_or fs i f ∷ []))
    ∙ ap (map Some) (sym (take_more fs i f within))

-- what one of several asks for is among what all ask for
pub asked_in : (atoms : List Fact) (gs : List GroundAction) (i : ℕ) (g : GroundAction) → i < length gs → AllIn atoms (flat_map asked gs) → AllIn atoms (asked (get_or gs i g))
asked_in atoms [] i g within a x e = absurd (omega (arith, within))
asked_in atoms (f ∷ gs) zero g within a x e = a x (both_first (asked f) (flat_map asked gs) x e)
asked_in atoms (f ∷ gs) (suc i) g within a x e = asked_in atoms gs i g (omega (arith, within)) (λ y h. a y (both_second (asked f) (flat_map asked gs) y h)) x e

-- one more ground action with its rule
pub rules_add : (d : Domain) (k : Knowledge) (atoms : List Fact) (gs : List GroundAction) (i : ℕ) (g : GroundAction) (rs : List Rule) (r : Rule) → i < length gs → AreRules d k atoms (take i gs) rs → IsRuleOf d k atoms (get_or gs i g) r → AreRules d k atoms (take (i + 1) gs) (rs ++ r ∷ [])
rules_add d k atoms gs i g rs r within are is =
    let P : List GroundAction → Type 0 = λ hs. AreRules d k atoms hs (rs ++ r ∷ []) in
    subst P (sym (take_more gs i g within)) (rules_more d k atoms (take i gs) rs (get_or gs i g) r are is)

-- rules that are left after others are left out fit as well
pub kept_fit : (n : ℕ) (p : Rule → Bool) (rs : List Rule) → All (FitsIn n) rs → All (FitsIn n) (filter p rs)
kept_fit n p rs a i d l =
    let h = has_passed p rs (get_or (filter p rs) i d) (has_from_Contains (filter p rs) (get_or (filter p rs) i d) (Contains-get_or (filter p rs) i d l)) in
    All-contains (FitsIn n) rs (get_or (filter p rs) i d) a (Contains_from_has rs (get_or (filter p rs) i d) h.0)

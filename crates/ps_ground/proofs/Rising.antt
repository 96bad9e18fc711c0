-- Lists that rise are what comes of putting in their items, one after another.
use Rattle.std.proofs.Common.{◌≡◌, ℕ, ◌<◌, ◌≤◌, List, [], ◌∷◌, ◌++◌, fold, refl, ap, sym, ◌∙◌, subst, arith}
use Rattle.std.specs.List.{AllByRecursion}
use Rattle.std.specs.List.Sorted.{IsStrictlySortedBy}
use Rattle.std.specs.BTreeSet.{insert_key}
use Rattle.std.specs.Cmp.{nat_cmp_is}
use Rattle.std.specs.Map.{keys_of}
use Rattle.std.specs.Ordering.{nat_cmp}
use Rattle.std.specs.declared.cmp.Ordering.TheVariants.{Less, Greater}
use Rattle.std.proofs.lemmas.List.{append-nil, append_assoc}
use Rattle.ps_world.specs.Facts.{fact_cmp}
use Rattle.ps_world.specs.declared.facts.Fact.{Fact}
use Rattle.ps_world.specs.declared.names.Name.{Name}
use Rattle.ps_world.specs.declared.numbers.Num.{Num}
use Rattle.ps_action.specs.Effects.{with_value}
use Rattle.ps_action.specs.Grounding.{with_named}
use Rattle.ps_ground.proofs.Below.{above}

-- each of these facts is below this one
abbrev pub AreBelow : Fact → List Fact → Type 0
AreBelow f gs = AllByRecursion (λ g. fact_cmp f g ≡ Greater) gs

below_among : (a f : Fact) (fs gs : List Fact) → AllByRecursion (λ g. fact_cmp a g ≡ Less) (fs ++ f ∷ gs) → fact_cmp a f ≡ Less
below_among a f [] gs h = h.0
below_among a f (g ∷ fs) gs h = below_among a f fs gs h.1

-- in a list that rises those before a fact are below it
are_below : (f : Fact) (fs gs : List Fact) → IsStrictlySortedBy fact_cmp (fs ++ f ∷ gs) → AreBelow f fs
unfolding IsStrictlySortedBy
are_below f [] gs s = tt
are_below f (a ∷ fs) gs s = (above a f (below_among a f fs gs s.0), are_below f fs gs s.1)

-- above all, it goes last
goes_last : (f : Fact) (fs : List Fact) → AreBelow f fs → insert_key fact_cmp fs f ≡ fs ++ f ∷ []
goes_last f [] h = refl
goes_last f (a ∷ fs) h = rw h.0 (ap (λ l. a ∷ l) (goes_last f fs h.1))

facts_on : (fs gs : List Fact) → IsStrictlySortedBy fact_cmp (fs ++ gs) → fold (insert_key fact_cmp) fs gs ≡ fs ++ gs
facts_on fs [] s = sym (append-nil fs)
facts_on fs (g ∷ gs) s =
    let P : List Fact → Type 0 = IsStrictlySortedBy fact_cmp in
    ap (λ l. fold (insert_key fact_cmp) l gs) (goes_last g fs (are_below g fs gs s))
    ∙ facts_on (fs ++ g ∷ []) gs (subst P (sym (append_assoc fs (g ∷ []) gs)) s)
    ∙ append_assoc fs (g ∷ []) gs

-- facts that rise
pub facts_put : (fs : List Fact) → IsStrictlySortedBy fact_cmp fs → fold (insert_key fact_cmp) [] fs ≡ fs
facts_put fs s = facts_on [] fs s

value_last : (v : Fact × Num) (vs : List (Fact × Num)) → AreBelow v.0 (keys_of vs) → with_value vs v ≡ vs ++ v ∷ []
value_last v [] h = refl
value_last v (w ∷ vs) h = rw h.0 (ap (λ l. w ∷ l) (value_last v vs h.1))

keys-append : (us vs : List (Fact × Num)) → keys_of (us ++ vs) ≡ keys_of us ++ keys_of vs
keys-append [] vs = refl
keys-append (u ∷ us) vs = ap (λ l. u.0 ∷ l) (keys-append us vs)

values_on : (us vs : List (Fact × Num)) → IsStrictlySortedBy fact_cmp (keys_of (us ++ vs)) → fold with_value us vs ≡ us ++ vs
values_on us [] s = sym (append-nil us)
values_on us (v ∷ vs) s =
    let P : List Fact → Type 0 = IsStrictlySortedBy fact_cmp in
    let Q : List (Fact × Num) → Type 0 = λ l. IsStrictlySortedBy fact_cmp (keys_of l) in
    ap (λ l. fold with_value l vs) (value_last v us (are_below v.0 (keys_of us) (keys_of vs) (subst P (keys-append us (v ∷ vs)) s)))
    ∙ values_on (us ++ v ∷ []) vs (subst Q (sym (append_assoc us (v ∷ []) vs)) s)
    ∙ append_assoc us (v ∷ []) vs

-- values that rise
pub values_put : (vs : List (Fact × Num)) → IsStrictlySortedBy fact_cmp (keys_of vs) → fold with_value [] vs ≡ vs
values_put vs s = values_on [] vs s

-- ---- instances

-- the names of these instances are below this number
abbrev pub AreUnder : ℕ → List (Name × Name) → Type 0
AreUnder n is = AllByRecursion (λ i. i.0.0 < n) is

higher : (n m : ℕ) → m < n → nat_cmp n m ≡ Greater
higher n m h = sym (nat_cmp_is n m Greater h)

-- one whose name isn't goes last
pub named_last : (n : ℕ) (i : Name × Name) (is : List (Name × Name)) → n ≤ i.0.0 → AreUnder n is → with_named is i ≡ is ++ i ∷ []
named_last n i [] up h = refl
named_last n i (j ∷ is) up h = rw (higher i.0.0 j.0.0 (omega (arith, up, h.0))) (ap (λ l. j ∷ l) (named_last n i is up h.1))

-- with it they are below any number above its name
pub under_more : (n m : ℕ) (i : Name × Name) (is : List (Name × Name)) → n ≤ i.0.0 → i.0.0 < m → AreUnder n is → AreUnder m (is ++ i ∷ [])
under_more n m i [] up down h = (down, tt)
under_more n m i (j ∷ is) up down h = (omega (arith, up, down, h.0), under_more n m i is up down h.1)

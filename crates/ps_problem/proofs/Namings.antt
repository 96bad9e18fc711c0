-- What is noted of facts, and how it is found.
use Rattle.std.proofs.Common.{BTreeSet, ◌≡◌, ◌≢◌, ℕ, ◌<◌, zero, suc, Bool, true, false, not, List, [], ◌∷◌, ◌++◌, Option, Some, None, IfSome, filter, get_or, inl, inr, refl, ap, sym, ◌∙◌, subst, length, All, arith}
use Rattle.std.specs.List.{Contains, list_any}
use Rattle.std.specs.Cmp.{IsTotalOrder}
use Rattle.std.specs.Cmp.Lexicographic.{slice_cmp}
use Rattle.std.specs.Ordering.{is_eq, is_gt, eq_by_cmp, ordering_then, ordering_reverse}
use Rattle.std.specs.declared.cmp.Ordering.{Ordering}
use Rattle.std.specs.declared.cmp.Ordering.TheVariants.{Less, Equal, Greater}
use Rattle.std.proofs.Math.ListN.{get_or-map}
use Rattle.std.proofs.lemmas.List.{length-map}
use Rattle.std.proofs.lemmas.List.Elements.{Contains-push_cases}
use Rattle.std.specs.Map.{keys_of}
use Rattle.std.specs.BTreeMap.{is_at}
use Rattle.std.specs.BTreeSet.{insert_key}
use Rattle.std.specs.Set.{remove_key}
use Rattle.std.proofs.lemmas.Bool.Decides.{nat_tests}
use Rattle.std.proofs.lemmas.Cmp.{on_total, then_total, eq_by_cmp_equiv}
use Rattle.std.proofs.lemmas.Map.Lookups.{CmpEqualImpliesEq, exact_pairs}
use Rattle.std.proofs.lemmas.Map.Views.{All-insert_key, All-remove_key, list_any-from_Contains, Contains-from_any, tells_apart}
use Rattle.std.proofs.lemmas.Bool.{not-true, or_right}
use Rattle.ps_world.specs.Names.{name_cmp, same_name}
use Rattle.ps_world.specs.Facts.{fact_cmp}
use Rattle.ps_world.specs.Knowledge.{is_among, same_fact}
use Rattle.ps_world.specs.declared.names.Name.{Name}
use Rattle.ps_world.specs.declared.numbers.Num.{Num}
use Rattle.ps_world.specs.declared.facts.Fact.{Fact}
use Rattle.ps_problem.specs.declared.problem.namings.Naming.{Naming}
use Rattle.ps_problem.specs.Namings.{naming_cmp, IsNaming, Covers, AreNamed, lowest_of}
use Rattle.ps_action.proofs.Facts.{names_total, facts_total, exact_names, exact_facts, same_name-is, same_name-refl}
use Rattle.ps_action.proofs.Contained.{fact_same, fact_in_filter}
use Rattle.ps_problem.proofs.Changes.{fact_apart}
use Rattle.ps_problem.proofs.Contained.{contains-insert_key, contains-remove_key, filter-filter, filter-all, list_any-push}

pub namings_total : IsTotalOrder naming_cmp
namings_total = then_total (on_total (λ x. x.name) names_total) (on_total (λ x. x.fact) facts_total)

pub exact_namings : CmpEqualImpliesEq naming_cmp
exact_namings a b e =
    let same = exact_pairs name_cmp fact_cmp exact_names exact_facts (a.name, a.fact) (b.name, b.fact) e in
    λ i. record { name = (same i).0; fact = (same i).1 }

-- ---- noting

-- the names of this list are noted with the fact
abbrev pub AreNoted : List Naming → Fact → List Name → Type 0
AreNoted xs f ns = (n : Name) → is_among n ns ≡ true → Contains xs (record { name = n; fact = f })

pub none_noted : (xs : List Naming) (f : Fact) → AreNoted xs f []
none_noted xs f n e = absurd (cc)

pub more_noted : (xs : List Naming) (f : Fact) (ns : List Name) (n : Name) → AreNoted xs f ns → AreNoted (insert_key naming_cmp xs (record { name = n; fact = f })) f (ns ++ n ∷ [])
more_noted xs f ns n h m e =
    let there = contains-insert_key namings_total exact_namings xs (record { name = n; fact = f }) (record { name = m; fact = f }) in
    elim (list_any-push (same_name m) ns n e) [
      | inl old ↦ there.1 (inl (h m old))
      | inr new ↦ there.1 (inr (let same : m ≡ n = same_name-is m n new in λ i. record { name = same i; fact = f }))
    ]

pub still_noted : (xs : List Naming) (more x : Naming) → Contains xs x → Contains (insert_key naming_cmp xs more) x
still_noted xs more x c = (contains-insert_key namings_total exact_namings xs more x).1 (inl c)

pub sound_more : (xs : List Naming) (more : Naming) → IsNaming more → All IsNaming xs → All IsNaming (insert_key naming_cmp xs more)
sound_more xs more h a = All-insert_key naming_cmp more IsNaming xs a h

-- ---- finding

least_name : (n : Name) → is_gt (name_cmp (record { 0 = 0 }) n) ≡ false
least_name n = grind (arith, nat_tests)

pub then_not_above : (a b : Ordering) → is_gt a ≡ false → is_gt b ≡ false → is_gt (ordering_then a b) ≡ false
then_not_above Less b p q = refl
then_not_above Equal b p q = q
then_not_above Greater b p q = p

pub least_names : (ns : List Name) → is_gt (slice_cmp name_cmp [] ns) ≡ false
least_names [] = refl
least_names (n ∷ ns) = refl

-- the fact that stands before all others
abbrev lowest_fact : Fact
lowest_fact = lowest_of (record { 0 = 0 })

least_fact : (f : Fact) → is_gt (fact_cmp lowest_fact f) ≡ false
least_fact f = then_not_above (name_cmp (record { 0 = 0 }) f.head) _ (least_name f.head) (least_names f.args)

pub not_above : (r : Ordering) → is_eq r ≡ true → is_gt r ≡ false
not_above Less e = refl
not_above Equal e = refl
not_above Greater e = absurd (cc)

-- every note of a name stands from the lowest of that name on
pub from_lowest : (n : Name) (f : Fact) → is_gt (naming_cmp (record { name = n; fact = lowest_fact }) (record { name = n; fact = f })) ≡ false
from_lowest n f = then_not_above (name_cmp n n) (fact_cmp lowest_fact f) (not_above (name_cmp n n) ((eq_by_cmp_equiv names_total).refl n)) (least_fact f)

pub squeezed_at : (a b : Name) (r s : Ordering) (u v : Ordering) → name_cmp a b ≡ u → name_cmp b a ≡ v → u ≡ ordering_reverse v → is_gt (ordering_then u r) ≡ false → is_gt (ordering_then v s) ≡ false → a ≡ b
squeezed_at a b r s Equal v p q e f g = exact_names a b p
squeezed_at a b r s Greater v p q e f g = absurd (cc)
squeezed_at a b r s Less Less p q e f g = absurd (cc)
squeezed_at a b r s Less Equal p q e f g = absurd (cc)
squeezed_at a b r s Less Greater p q e f g = absurd (cc)

-- what stands between two notes of a name is one of that name
pub squeezed : (n : Name) (f g : Fact) (x : Naming) → is_gt (naming_cmp (record { name = n; fact = f }) x) ≡ false → is_gt (naming_cmp x (record { name = n; fact = g })) ≡ false → x.name ≡ n
squeezed n f g x p q =
    sym (squeezed_at n x.name (fact_cmp f x.fact) (fact_cmp x.fact g) (name_cmp n x.name) (name_cmp x.name n) refl refl (names_total.antisymm n x.name) p q)

-- ---- leaving out

spared : (n : Name) (f g : Fact) (b : Bool) → same_fact f g ≡ b → is_among n f.args ≡ true → not (is_among n g.args) ≡ true → not b ≡ true
spared n f g true s e p =
    let same : f ≡ g = fact_same f g s in
    let named : is_among n g.args ≡ true = subst (λ (h : Fact). is_among n h.args ≡ true) same e in
    let no = not-true (is_among n g.args) p in
    absurd (cc)
spared n f g false s e p = refl

unnamed : (b : Bool) → (b ≡ true → ⊥) → not b ≡ true
unnamed true h = absurd (h refl)
unnamed false h = refl

-- a fact that names this goes, and what is left is noted as before
pub one_gone : (n : Name) (facts : List Fact) (f : Fact) → is_among n f.args ≡ true → filter (λ g. not (is_among n g.args)) (filter (λ g. not (same_fact f g)) facts) ≡ filter (λ g. not (is_among n g.args)) facts
one_gone n facts f e =
    filter-filter (λ (g : Fact). not (is_among n g.args)) (λ g. not (same_fact f g)) (λ g p. spared n f g (same_fact f g) refl e p) facts

pub still_named : (facts : List Fact) (old new : List Naming) (f : Fact) → AreNamed facts old → ((x : Naming) → (x.fact ≢ f) → Contains old x → Contains new x) → (All IsNaming old → All IsNaming new) → AreNamed (filter (λ g. not (same_fact f g)) facts) new
still_named facts old new f named kept sound = record {
  sound = sound named.sound;
  whole = λ g c n e.
      let was = (fact_in_filter (λ h. not (same_fact f h)) facts g).0 c in
      kept (record { name = n; fact = g }) (fact_apart f g was.1) (named.whole g was.0 n e);
}

-- where no note of the name is left, no fact names it
pub none_left : (n : Name) (facts : List Fact) (namings : List Naming) → AreNamed facts namings → ((f : Fact) → Contains namings (record { name = n; fact = f }) → ⊥) → filter (λ g. not (is_among n g.args)) facts ≡ facts
none_left n facts namings named none =
    filter-all (λ (g : Fact). not (is_among n g.args)) facts (λ g c. unnamed (is_among n g.args) (λ e. none g (named.whole g c n e)))

-- fewer facts are named as well
pub fewer_named : (facts new : List Fact) (namings : List Naming) (f : Fact) → new ≡ filter (λ g. not (same_fact f g)) facts → AreNamed facts namings → AreNamed new namings
fewer_named facts new namings f e named = record {
  sound = named.sound;
  whole = λ g c. named.whole g ((fact_in_filter (λ h. not (same_fact f h)) facts g).0 (subst (λ l. Contains l g) e c)).0;
}

-- the same where notes are taken
pub fewer_named_where_taken : (facts new : List Fact) (taken : Option (BTreeSet Naming)) (f : Fact) → new ≡ filter (λ g. not (same_fact f g)) facts → IfSome taken (λ s. AreNamed facts s.keys) → IfSome taken (λ s. AreNamed new s.keys)
fewer_named_where_taken facts new (Some s) f e named = fewer_named facts new s.keys f e named
fewer_named_where_taken facts new None f e named = named

-- one more fact is named once its arguments are noted
pub more_named : (facts new : List Fact) (old namings : List Naming) (f : Fact) → new ≡ insert_key fact_cmp facts f → AreNamed facts old → ((x : Naming) → Contains old x → Contains namings x) → (All IsNaming old → All IsNaming namings) → Covers namings f → AreNamed new namings
more_named facts new old namings f e named kept sound noted = record {
  sound = sound named.sound;
  whole = λ g c. elim ((contains-insert_key facts_total exact_facts facts f g).0 (subst (λ l. Contains l g) e c)) [
    | inl was ↦ λ n t. kept (record { name = n; fact = g }) (named.whole g was n t)
    | inr same ↦ subst (λ h. Covers namings h) (sym same) noted
  ];
}

-- the next fact of a list is named once its arguments are noted
pub next_named : (facts : List Fact) (old namings : List Naming) (f : Fact) → AreNamed facts old → ((x : Naming) → Contains old x → Contains namings x) → (All IsNaming old → All IsNaming namings) → Covers namings f → AreNamed (facts ++ f ∷ []) namings
next_named facts old namings f named kept sound noted = record {
  sound = sound named.sound;
  whole = λ g c. elim (Contains-push_cases facts f g c) [
    | inl was ↦ λ n t. kept (record { name = n; fact = g }) (named.whole g was n t)
    | inr same ↦ subst (λ h. Covers namings h) same noted
  ];
}

-- the same facts are named by more notes
pub named_by_more : (facts : List Fact) (old namings : List Naming) → AreNamed facts old → ((x : Naming) → Contains old x → Contains namings x) → (All IsNaming old → All IsNaming namings) → AreNamed facts namings
named_by_more facts old namings named kept sound = record {
  sound = sound named.sound;
  whole = λ g c n t. kept (record { name = n; fact = g }) (named.whole g c n t);
}

-- ---- what a look at the notes shows

among_at : (ns : List Name) (i : ℕ) (d : Name) → i < length ns → is_among (get_or ns i d) ns ≡ true
among_at [] i d h = absurd (omega arith)
among_at (n ∷ ns) zero d h = rw (same_name-refl n n refl) refl
among_at (n ∷ ns) (suc i) d h = or_right (same_name (get_or ns i d) n) (is_among (get_or ns i d) ns) (among_at ns i d (omega arith))

-- a name of the arguments is an argument
pub argument_at : (f : Fact) (ns : List Name) (i : ℕ) (d : Name) → ns ≡ f.args → i < length ns → is_among (get_or ns i d) f.args ≡ true
argument_at f ns i d e h = subst (λ all. is_among (get_or ns i d) all ≡ true) e (among_at ns i d h)

pub not_true : false ≡ true → ⊥
not_true e = cc

pub not_there : (xs : List Naming) (x : Naming) → list_any (eq_by_cmp naming_cmp x) xs ≡ false → Contains xs x → ⊥
not_there xs x e c = not_true (sym e ∙ list_any-from_Contains (eq_by_cmp_equiv namings_total) x xs c)

pub is_found : (xs : List Naming) (x : Naming) → Contains xs x → list_any (eq_by_cmp naming_cmp x) xs ≡ true
is_found xs x c = list_any-from_Contains (eq_by_cmp_equiv namings_total) x xs c

pub found_there : (xs : List Naming) (x : Naming) → list_any (eq_by_cmp naming_cmp x) xs ≡ true → Contains xs x
found_there xs x e = Contains-from_any (tells_apart exact_namings) x xs e

-- a note of a name stands from this on
pub from_here : (n : Name) (low f : Fact) → low ≡ lowest_fact → is_gt (naming_cmp (record { name = n; fact = low }) (record { name = n; fact = f })) ≡ false
from_here n low f e = subst (λ l. is_gt (naming_cmp (record { name = n; fact = l }) (record { name = n; fact = f })) ≡ false) (sym e) (from_lowest n f)

pub another_stays : (xs : List Naming) (taken x : Naming) → (x.fact ≢ taken.fact) → Contains xs x → Contains (remove_key (is_at (naming_cmp taken)) xs) x
another_stays xs taken x n c =
    contains-remove_key namings_total exact_namings taken x xs (λ e. n (ap (λ (y : Naming). y.fact) e)) c

pub sound_less : (xs : List Naming) (taken : Naming) → All IsNaming xs → All IsNaming (remove_key (is_at (naming_cmp taken)) xs)
sound_less xs taken a = All-remove_key (is_at (naming_cmp taken)) IsNaming xs a

-- ---- values

pub one_value_gone : (n : Name) (vs : List (Fact × Num)) (f : Fact) → is_among n f.args ≡ true → filter (λ v. not (is_among n v.0.args)) (filter (λ v. not (same_fact f v.0)) vs) ≡ filter (λ v. not (is_among n v.0.args)) vs
one_value_gone n vs f e =
    filter-filter (λ (v : Fact × Num). not (is_among n v.0.args)) (λ v. not (same_fact f v.0)) (λ v p. spared n f v.0 (same_fact f v.0) refl e p) vs

key_there : (vs : List (Fact × Num)) (v : Fact × Num) → Contains vs v → Contains (keys_of vs) v.0
key_there vs v c =
    (c.0, rw (length-map vs (λ (x : Fact × Num). x.0)) c.1, get_or-map (λ (x : Fact × Num). x.0) vs c.0 v ∙ ap (λ (x : Fact × Num). x.0) c.2)

pub no_value_left : (n : Name) (vs : List (Fact × Num)) (namings : List Naming) → AreNamed (keys_of vs) namings → ((f : Fact) → Contains namings (record { name = n; fact = f }) → ⊥) → filter (λ v. not (is_among n v.0.args)) vs ≡ vs
no_value_left n vs namings named none =
    filter-all (λ (v : Fact × Num). not (is_among n v.0.args)) vs (λ v c. unnamed (is_among n v.0.args) (λ e. none v.0 (named.whole v.0 (key_there vs v c) n e)))

-- The facts of declared arguments at a place, listed in their order.
use Rattle.std.proofs.Common.{◌≡◌, ◌⊎◌, ℕ, zero, suc, ◌+◌, ◌<◌, true, false, not, ◌&&◌, List, [], ◌∷◌, ◌++◌, Option, Some, None, is_none, filter, fold, get_or, length, map, take, inl, inr, refl, ap, sym, ◌∙◌, subst, arith}
use Rattle.std.specs.BTreeSet.{insert_key}
use Rattle.std.specs.Cmp.{first_so, second_so}
use Rattle.std.specs.Cmp.Lexicographic.{slice_cmp}
use Rattle.std.specs.List.{AllByRecursion, AllZip, list_any}
use Rattle.std.specs.List.Sorted.{IsStrictlySortedBy}
use Rattle.std.specs.Ordering.{eq_by_cmp, ordering_reverse, ordering_then}
use Rattle.std.specs.declared.cmp.Ordering.{Ordering}
use Rattle.std.specs.declared.cmp.Ordering.TheVariants.{Less, Equal, Greater}
use Rattle.std.proofs.lemmas.Bool.{and_from, not-true, not_from_false, or_left, or_right}
use Rattle.std.proofs.lemmas.Cmp.{eq_by_cmp_equiv}
use Rattle.std.proofs.lemmas.List.{length-map, take_more}
use Rattle.std.proofs.lemmas.List.Kept.{IsStrictlySortedBy-filter}
use Rattle.std.proofs.lemmas.Map.Views.{list_any-from_Contains, Contains-from_any, tells_apart}
use Rattle.ps_world.specs.Facts.{fact_cmp}
use Rattle.ps_world.specs.Knowledge.{fault_of_fact, is_known, kind_of, predicate_of}
use Rattle.ps_world.specs.Names.{name_cmp, same_name}
use Rattle.ps_world.specs.declared.domains.Decl.{Decl}
use Rattle.ps_world.specs.declared.domains.Domain.{Domain}
use Rattle.ps_world.specs.declared.domains.Param.{Param}
use Rattle.ps_world.specs.declared.edits.EditRefusal.TheVariants.{NoPredicate}
use Rattle.ps_world.specs.declared.facts.Fact.{Fact}
use Rattle.ps_world.specs.declared.known.Knowledge.{Knowledge}
use Rattle.ps_world.specs.declared.names.Name.{Name}
use Rattle.ps_world.specs.declared.schemas.Lifted.{Lifted}
use Rattle.ps_world.proofs.SameTexts.{name_itself}
use Rattle.ps_action.specs.Grounding.{picks}
use Rattle.ps_action.specs.Places.{closed, hole_meets, hole_of, holes_meet, place_of, places_meet}
use Rattle.ps_action.specs.Truth.{fits}
use Rattle.ps_action.proofs.Contained.{or_cases}
use Rattle.ps_action.proofs.Facts.{exact_names, names_total, same_name-is}
use Rattle.ps_action.proofs.Keys.{any-insert_key, sorted-insert_key}
use Rattle.ps_domain.proofs.Members.{Has, Contains_from_has, has_from_Contains, has_image, has_in_piece, has_mapped, has_passed, has_passes, has_piece, zip_length}
use Rattle.ps_domain.proofs.Pairs.{Pairs, each, each_mapped, pairs_mapped, pairs_of_pieces, pairs_weaker, sorted_from_pairs}
use Rattle.ps_problem.specs.WellKnown.{Fits}
use Rattle.ps_problem.proofs.Suits.{suits_from}
use Rattle.ps_marks.specs.Atoms.{facts_at, names_known}
use Rattle.ps_marks.specs.Candidates.{IsFirst, all_choices, choices_at, facts_from, first_with, is_choice, unknown}
use Rattle.ps_marks.specs.Closures.{is_in}
use Rattle.ps_marks.proofs.AddsMade.{at_is}
use Rattle.ps_marks.proofs.Firsts.{Rises}
use Rattle.ps_marks.proofs.Makes.{declared_at, named, none_is}
use Rattle.ps_marks.proofs.Members.{contains_in, filter_has, in_contains, in_filter}

-- ---- names in their order

names_rise : (xs ys : List Name) → IsStrictlySortedBy name_cmp xs → IsStrictlySortedBy name_cmp (fold (insert_key name_cmp) xs ys)
names_rise xs [] s = s
names_rise xs (y ∷ ys) s = names_rise (insert_key name_cmp xs y) ys (sorted-insert_key names_total y xs s)

-- a name is among these
abbrev IsNamed : List Name → Name → Type 0
IsNamed ns n = list_any (eq_by_cmp name_cmp n) ns ≡ true

named_from : (ns : List Name) (n : Name) → IsNamed ns n → Has ns n
named_from ns n e = has_from_Contains ns n (Contains-from_any (tells_apart exact_names) n ns e)

named_to : (ns : List Name) (n : Name) → Has ns n → IsNamed ns n
named_to ns n h = list_any-from_Contains (eq_by_cmp_equiv names_total) n ns (Contains_from_has ns n h)

put_has : (xs ys : List Name) (n : Name) → IsNamed xs n ⊎ IsNamed ys n → IsNamed (fold (insert_key name_cmp) xs ys) n
put_has xs [] n w = elim w [ inl e ↦ e | inr none ↦ absurd (cc) ]
put_has xs (y ∷ ys) n w =
    let more = any-insert_key names_total n y xs in
    put_has (insert_key name_cmp xs y) ys n (elim w [
      | inl e ↦ inl (more ∙ or_right (eq_by_cmp name_cmp n y) (list_any (eq_by_cmp name_cmp n) xs) e)
      | inr e ↦ elim (or_cases (eq_by_cmp name_cmp n y) (list_any (eq_by_cmp name_cmp n) ys) e) [
        | inl first ↦ inl (more ∙ or_left (eq_by_cmp name_cmp n y) (list_any (eq_by_cmp name_cmp n) xs) first)
        | inr rest ↦ inr rest
      ]
    ])

has_put : (xs ys : List Name) (n : Name) → IsNamed (fold (insert_key name_cmp) xs ys) n → IsNamed xs n ⊎ IsNamed ys n
has_put xs [] n e = inl e
has_put xs (y ∷ ys) n e =
    let more = any-insert_key names_total n y xs in
    elim (has_put (insert_key name_cmp xs y) ys n e) [
      | inl old ↦ elim (or_cases (eq_by_cmp name_cmp n y) (list_any (eq_by_cmp name_cmp n) xs) (sym more ∙ old)) [
        | inl first ↦ inr (or_left (eq_by_cmp name_cmp n y) (list_any (eq_by_cmp name_cmp n) ys) first)
        | inr there ↦ inl there
      ]
      | inr rest ↦ inr (or_right (eq_by_cmp name_cmp n y) (list_any (eq_by_cmp name_cmp n) ys) rest)
    ]

-- ---- names that may stand at a place

module _ (d : Domain) (k : Knowledge) where
  choice_in : (p : Param) (hole : Option Name) (n : Name) → hole_meets hole (Some n) ≡ true → Fits d k p n → Has (choices_at d k p hole) n
  choice_in p hole n meets fit =
      let test : fits d (kind_of k n) p.kind ≡ true = ap (λ o. fits d o p.kind) fit.1 ∙ fit.2 in
      let all = filter (is_choice d k p hole) (names_known k) in
      let there = has_passes (is_choice d k p hole) (names_known k) n (and_from (hole_meets hole (Some n)) (fits d (kind_of k n) p.kind) meets test) (named n fit.0 k.instances fit.1) in
      named_from (choices_at d k p hole) n (put_has [] all n (inr (named_to all n there)))

  fits_by : (p : Param) (n : Name) (o : Option Name) → kind_of k n ≡ o → fits d o p.kind ≡ true → Fits d k p n
  fits_by p n None e t = absurd (cc)
  fits_by p n (Some kind) e t = (kind, e, t)

  choice_fits : (p : Param) (hole : Option Name) (n : Name) → Has (choices_at d k p hole) n → (hole_meets hole (Some n) ≡ true) × Fits d k p n
  choice_fits p hole n h =
      let all = filter (is_choice d k p hole) (names_known k) in
      let there : Has all n = elim (has_put [] all n (named_to (choices_at d k p hole) n h)) [ inl none ↦ absurd (cc) | inr e ↦ named_from all n e ] in
      let w = (has_passed (is_choice d k p hole) (names_known k) n there).1 in
      let meets = hole_meets hole (Some n) in
      let test = fits d (kind_of k n) p.kind in
      (first_so meets test w, fits_by p n (kind_of k n) refl (second_so meets test w))

  -- lists of arguments that fit and meet a place
  picks_in : (ps : List Param) (holes : List (Option Name)) (ns : List Name) → AllZip (Fits d k) ps ns → holes_meet holes (map Some ns) ≡ true → Has (picks (all_choices d k ps holes)) ns
  picks_in [] [] [] a e = inl refl
  picks_in [] (h ∷ holes) [] a e = absurd (cc)
  picks_in [] holes (n ∷ ns) a e = absurd a
  picks_in (p ∷ ps) holes [] a e = absurd a
  picks_in (p ∷ ps) [] (n ∷ ns) a e = absurd (cc)
  picks_in (p ∷ ps) (h ∷ holes) (n ∷ ns) a e =
      let rest = picks (all_choices d k ps holes) in
      let meets = hole_meets h (Some n) in
      let others = holes_meet holes (map Some ns) in
      has_in_piece (λ m. map (λ args. m ∷ args) rest) (choices_at d k p h) n (n ∷ ns) (choice_in p h n (first_so meets others e) a.0)
      (has_image (λ (args : List Name). n ∷ args) rest ns (picks_in ps holes ns a.1 (second_so meets others e)))

  -- arguments fit one for one, and meet a place
  abbrev Suited : List Param → List (Option Name) → List Name → Type 0
  Suited ps holes ns = AllZip (Fits d k) ps ns × (holes_meet holes (map Some ns) ≡ true)

  picks_suit : (ps : List Param) (holes : List (Option Name)) (ns : List Name) → length ps ≡ length holes → Has (picks (all_choices d k ps holes)) ns → Suited ps holes ns
  picks_suit [] [] ns l (inl e) = subst (Suited [] []) e (tt, refl)
  picks_suit [] [] ns l (inr h) = absurd h
  picks_suit [] (h ∷ holes) ns l m = absurd (omega (arith, l))
  picks_suit (p ∷ ps) [] ns l m = absurd (omega (arith, l))
  picks_suit (p ∷ ps) (h ∷ holes) ns l m =
      let rest = picks (all_choices d k ps holes) in
      let piece = has_piece (λ n. map (λ args. n ∷ args) rest) (choices_at d k p h) ns m in
      let tail = has_mapped (λ (args : List Name). piece.0 ∷ args) rest ns piece.2 in
      let one = choice_fits p h piece.0 piece.1 in
      let more = picks_suit ps holes tail.0 (omega (arith, l)) tail.1 in
      subst (Suited (p ∷ ps) (h ∷ holes)) tail.2 ((one.1, more.0), and_from (hole_meets h (Some piece.0)) (holes_meet holes (map Some tail.0)) one.0 more.1)

-- ---- lists of arguments in their order

level_by : (n : Name) (r : Ordering) → name_cmp n n ≡ r → name_cmp n n ≡ Equal
level_by n Less e = let turned : name_cmp n n ≡ Greater = names_total.antisymm n n ∙ ap ordering_reverse e in absurd (cc)
level_by n Equal e = e
level_by n Greater e = let turned : name_cmp n n ≡ Less = names_total.antisymm n n ∙ ap ordering_reverse e in absurd (cc)

level : (n : Name) → name_cmp n n ≡ Equal
level n = level_by n (name_cmp n n) refl

abbrev IsUnder : List Name → List Name → Type 0
IsUnder xs ys = slice_cmp name_cmp xs ys ≡ Less

pairs_from_sorted : (ns : List Name) → IsStrictlySortedBy name_cmp ns → Pairs (λ n m. name_cmp n m ≡ Less) ns
unfolding IsStrictlySortedBy
pairs_from_sorted [] s = tt
pairs_from_sorted (n ∷ ns) s = (s.0, pairs_from_sorted ns s.1)

picks_order : (lists : List (List Name)) → AllByRecursion (IsStrictlySortedBy name_cmp) lists → Pairs IsUnder (picks lists)
picks_order [] a = (tt, tt)
picks_order (ns ∷ lists) a =
    let F : Name → List (List Name) = λ n. map (λ args. n ∷ args) (picks lists) in
    let apiece : AllByRecursion (λ n. Pairs IsUnder (F n)) ns =
    each (λ n. Pairs IsUnder (F n)) (λ n. pairs_mapped IsUnder (λ (args : List Name). n ∷ args) (picks lists) (pairs_weaker IsUnder (λ x y. IsUnder (n ∷ x) (n ∷ y)) (λ x y l. ap (λ (r : Ordering). ordering_then r (slice_cmp name_cmp x y)) (level n) ∙ l) (picks lists) (picks_order lists a.1))) ns in
    let across : Pairs (λ n m. AllByRecursion (λ x. AllByRecursion (IsUnder x) (F m)) (F n)) ns =
    pairs_weaker (λ n m. name_cmp n m ≡ Less) (λ n m. AllByRecursion (λ x. AllByRecursion (IsUnder x) (F m)) (F n))
    (λ n m lt. each_mapped (λ x. AllByRecursion (IsUnder x) (F m)) (λ (args : List Name). n ∷ args) (picks lists)
    (each (λ x. AllByRecursion (IsUnder (n ∷ x)) (F m)) (λ x. each_mapped (IsUnder (n ∷ x)) (λ (args : List Name). m ∷ args) (picks lists)
    (each (λ y. IsUnder (n ∷ x) (m ∷ y)) (λ y. ap (λ (r : Ordering). ordering_then r (slice_cmp name_cmp x y)) lt) (picks lists))) (picks lists))) ns (pairs_from_sorted ns a.0) in
    pairs_of_pieces IsUnder F ns apiece across

-- the first fact is below the second
abbrev IsLess : Fact → Fact → Type 0
IsLess f g = fact_cmp f g ≡ Less

abbrev fact_with : Name → List Name → Fact
fact_with head args = record { head = head; args = args }

facts_order : (head : Name) (lists : List (List Name)) → AllByRecursion (IsStrictlySortedBy name_cmp) lists → Rises (facts_from head [] (picks lists))
facts_order head lists a =
    sorted_from_pairs fact_cmp (facts_from head [] (picks lists))
    (pairs_mapped IsLess (fact_with head) (picks lists)
    (pairs_weaker IsUnder (λ x y. IsLess (fact_with head x) (fact_with head y))
    (λ x y l. ap (λ (r : Ordering). ordering_then r (slice_cmp name_cmp x y)) (level head) ∙ l) (picks lists) (picks_order lists a)))

pub none_rises : Rises []
unfolding IsStrictlySortedBy
none_rises = tt

no_names : IsStrictlySortedBy name_cmp []
unfolding IsStrictlySortedBy
no_names = tt

-- as many arguments stand at a place as a fact has that it meets
as_many : (holes : List (Option Name)) (ns : List Name) → holes_meet holes (map Some ns) ≡ true → length holes ≡ length ns
as_many [] [] e = refl
as_many [] (n ∷ ns) e = absurd (cc)
as_many (h ∷ holes) [] e = absurd (cc)
as_many (h ∷ holes) (n ∷ ns) e = ap suc (as_many holes ns (second_so (hole_meets h (Some n)) (holes_meet holes (map Some ns)) e))

-- ---- choices for parameters, one after another

same_take : {A B : Type 0} (n : ℕ) (xs : List A) (ys : List B) → length xs ≡ length ys → length (take n xs) ≡ length (take n ys)
same_take zero xs ys l = refl
same_take (suc n) [] [] l = refl
same_take (suc n) [] (y ∷ ys) l = absurd (omega (arith, l))
same_take (suc n) (x ∷ xs) [] l = absurd (omega (arith, l))
same_take (suc n) (x ∷ xs) (y ∷ ys) l = ap suc (same_take n xs ys (omega (arith, l)))

module _ (d : Domain) (k : Knowledge) where
  choices_push : (ps : List Param) (hs : List (Option Name)) (p : Param) (h : Option Name) → length ps ≡ length hs → all_choices d k (ps ++ p ∷ []) (hs ++ h ∷ []) ≡ all_choices d k ps hs ++ choices_at d k p h ∷ []
  choices_push [] [] p h l = refl
  choices_push [] (g ∷ hs) p h l = absurd (omega (arith, l))
  choices_push (q ∷ ps) [] p h l = absurd (omega (arith, l))
  choices_push (q ∷ ps) (g ∷ hs) p h l = ap (λ cs. choices_at d k q g ∷ cs) (choices_push ps hs p h (omega (arith, l)))

  pub choices_more : (ps : List Param) (hs : List (Option Name)) (i : ℕ) (p : Param) (h : Option Name) → length ps ≡ length hs → i < length ps
      → all_choices d k (take (i + 1) ps) (take (i + 1) hs) ≡ all_choices d k (take i ps) (take i hs) ++ choices_at d k (get_or ps i p) (get_or hs i h) ∷ []
  choices_more ps hs i p h l within =
      (λ j. all_choices d k (take_more ps i p within j) (take_more hs i h (omega (arith, l, within)) j))
      ∙ choices_push (take i ps) (take i hs) (get_or ps i p) (get_or hs i h) (same_take i ps hs l)

  pub choices_many : (ps : List Param) (hs : List (Option Name)) → length ps ≡ length hs → length (all_choices d k ps hs) ≡ length ps
  choices_many [] [] l = refl
  choices_many [] (h ∷ hs) l = absurd (omega (arith, l))
  choices_many (p ∷ ps) [] l = absurd (omega (arith, l))
  choices_many (p ∷ ps) (h ∷ hs) l = ap suc (choices_many ps hs (omega (arith, l)))

module _ (d : Domain) (k : Knowledge) where
  choices_order : (ps : List Param) (holes : List (Option Name)) → AllByRecursion (IsStrictlySortedBy name_cmp) (all_choices d k ps holes)
  choices_order [] holes = tt
  choices_order (p ∷ ps) [] = tt
  choices_order (p ∷ ps) (h ∷ holes) = (names_rise [] (filter (is_choice d k p h) (names_known k)) no_names, choices_order ps holes)

  module _ (l : Lifted) (decl : Decl) (there : predicate_of d l.head ≡ Some decl) (long : length decl.params ≡ length l.terms) where
    abbrev holes : List (Option Name)
    holes = (place_of l).args

    -- the unknown facts at the place, in their order
    abbrev pub ordered : List Fact
    ordered = unknown k (facts_from l.head [] (picks (all_choices d k decl.params holes)))

    pub ordered_rise : Rises ordered
    ordered_rise = IsStrictlySortedBy-filter fact_cmp (λ f. not (is_known k f)) (facts_from l.head [] (picks (all_choices d k decl.params holes))) (facts_order l.head (all_choices d k decl.params holes) (choices_order decl.params holes))

    length_of : length decl.params ≡ length holes
    length_of = long ∙ sym (length-map l.terms hole_of)

    abbrev made_with : List Name → Fact
    made_with args = fact_with l.head args

    pub ordered_has : (x : Fact) → is_in (facts_at d k l) x ≡ true → is_known k x ≡ false → is_in ordered x ≡ true
    ordered_has x e new =
        let meets = places_meet (place_of l) (closed x) in
        let declared = is_none (fault_of_fact d k x) in
        let both : (meets && declared) ≡ true = sym (at_is d k l x) ∙ e in
        let met = first_so meets declared both in
        let head : l.head ≡ x.head = same_name-is l.head x.head (first_so (same_name l.head x.head) (holes_meet holes (map Some x.args)) met) in
        let s = suits_from NoPredicate d k (predicate_of d x.head) x.args (none_is (fault_of_fact d k x) (second_so meets declared both)) in
        let by_head : predicate_of d l.head ≡ predicate_of d x.head = ap (predicate_of d) head in
        let found : predicate_of d x.head ≡ Some s.0 = s.1 in
        let same : s.0 ≡ decl = cc in
        let P : Decl → Type 0 = λ q. AllZip (Fits d k) q.params x.args in
        let lists = picks (all_choices d k decl.params holes) in
        let picked = picks_in d k decl.params holes x.args (subst P same s.2) (second_so (same_name l.head x.head) (holes_meet holes (map Some x.args)) met) in
        let is : made_with x.args ≡ x = λ i. record { head = head i; args = x.args } in
        let Q : Fact → Type 0 = λ f. Has (map made_with lists) f in
        let there_it_is = subst Q is (has_image made_with lists x.args picked) in
        filter_has (λ f. not (is_known k f)) (facts_from l.head [] lists) x (in_contains (facts_from l.head [] lists) x (Contains_from_has (facts_from l.head [] lists) x there_it_is)) (not_from_false (is_known k x) new)

    pub ordered_only : (x : Fact) → is_in ordered x ≡ true → (is_in (facts_at d k l) x ≡ true) × (is_known k x ≡ false)
    ordered_only x e =
        let lists = picks (all_choices d k decl.params holes) in
        let w = in_filter (λ f. not (is_known k f)) (facts_from l.head [] lists) x e in
        let m = has_mapped made_with lists x (has_from_Contains (facts_from l.head [] lists) x (contains_in (facts_from l.head [] lists) x w.0)) in
        let suit = picks_suit d k decl.params holes m.0 length_of m.1 in
        let f = made_with m.0 in
        let meets : places_meet (place_of l) (closed f) ≡ true = and_from (same_name l.head l.head) (holes_meet holes (map Some m.0)) (name_itself l.head) suit.1 in
        let declared = declared_at d k decl f there suit.0 in
        let P : Fact → Type 0 = λ y. is_in (facts_at d k l) y ≡ true in
        (subst P m.2 (at_is d k l f ∙ and_from (places_meet (place_of l) (closed f)) (is_none (fault_of_fact d k f)) meets declared), not-true (is_known k x) w.1)

  -- where a fact of declared arguments is at a place, the head is declared, with as many parameters
  declared_so : (l : Lifted) (x : Fact) → is_in (facts_at d k l) x ≡ true → (decl : Decl) × (predicate_of d l.head ≡ Some decl) × (length decl.params ≡ length (place_of l).args)
  declared_so l x e =
      let meets = places_meet (place_of l) (closed x) in
      let declared = is_none (fault_of_fact d k x) in
      let both : (meets && declared) ≡ true = sym (at_is d k l x) ∙ e in
      let met = first_so meets declared both in
      let head : l.head ≡ x.head = same_name-is l.head x.head (first_so (same_name l.head x.head) (holes_meet (place_of l).args (map Some x.args)) met) in
      let s = suits_from NoPredicate d k (predicate_of d x.head) x.args (none_is (fault_of_fact d k x) (second_so meets declared both)) in
      let many = as_many (place_of l).args x.args (second_so (same_name l.head x.head) (holes_meet (place_of l).args (map Some x.args)) met) in
      (s.0, ap (predicate_of d) head ∙ s.1, zip_length (Fits d k) s.0.params x.args s.2 ∙ sym many)

  -- no facts, where the head isn't declared or has another number of parameters
  pub none_first : (l : Lifted) → ((decl : Decl) → predicate_of d l.head ≡ Some decl → length decl.params ≡ length (place_of l).args → ⊥) → IsFirst d k l []
  none_first l never = record {
    all = [];
    rise = none_rises;
    only = λ x e. absurd (cc);
    has = λ x e new. let w = declared_so l x e in absurd (never w.0 w.1 w.2);
    first = refl;
  }

  pub some_first : (l : Lifted) (decl : Decl) (facts : List Fact) → predicate_of d l.head ≡ Some decl → length decl.params ≡ length l.terms → facts ≡ first_with k l.head (all_choices d k decl.params (place_of l).args) → IsFirst d k l facts
  some_first l decl facts there long e = record {
    all = ordered l decl there long;
    rise = ordered_rise l decl there long;
    only = ordered_only l decl there long;
    has = ordered_has l decl there long;
    first = e;
  }

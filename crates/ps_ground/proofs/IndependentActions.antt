-- Ground actions that are independent lead to the same in either order.
use Rattle.std.proofs.Common.{◌≡◌, ℕ, zero, suc, Bool, true, false, not, ◌&&◌, ◌||◌, List, [], ◌∷◌, ◌++◌, Option, Some, None, filter, fold, length, option_and_then, refl, ap, sym, ◌∙◌, subst, arith, bit_and}
use Rattle.std.specs.Prelude.{nat_eq, slice_get}
use Rattle.std.specs.Cmp.{first_so, second_so}
use Rattle.std.specs.Ordering.{is_eq}
use Rattle.std.proofs.Math.Bool.{or_comm}
use Rattle.std.proofs.lemmas.Bool.Decides.{nat_tests}
use Rattle.std.specs.List.{list_all, list_any}
use Rattle.std.specs.List.Sorted.{IsStrictlySortedBy}
use Rattle.std.specs.Option.{option_map_or}
use Rattle.std.specs.BTreeSet.{insert_key}
use Rattle.std.proofs.lemmas.Cmp.{eq_by_cmp_equiv}
use Rattle.std.proofs.lemmas.List.Folds.{list_any-append}
use Rattle.std.proofs.lemmas.List.Kept.{IsStrictlySortedBy-filter}
use Rattle.std.proofs.lemmas.Map.Made.{is_member-filter}
use Rattle.std.proofs.lemmas.Bool.{or_left, or_parts, false_from_ne_true, or_right}
use Rattle.ps_world.specs.Facts.{fact_cmp}
use Rattle.ps_world.specs.Knowledge.{same_fact}
use Rattle.ps_world.specs.Trees.{CondTree}
use Rattle.ps_world.specs.declared.domains.Domain.{Domain}
use Rattle.ps_world.specs.declared.facts.Fact.{Fact}
use Rattle.ps_world.specs.declared.known.Knowledge.{Knowledge}
use Rattle.ps_world.proofs.Truths.{and_true, or_false}
use Rattle.ps_action.specs.Truth.{all_true}
use Rattle.ps_action.proofs.Contained.{fact_itself, fact_same}
use Rattle.ps_action.proofs.Keys.{any-insert_key, sorted-insert_key}
use Rattle.ps_action.proofs.ArcTables.{true_false}
use Rattle.ps_problem.proofs.PutFacts.{facts_same}
use Rattle.ps_ground.specs.Independence.{HasFootprint, are_independent, changed_by, changes, is_plain, is_plain_change, is_plain_test, reads}
use Rattle.ps_ground.specs.Orders.{facts_total}
use Rattle.ps_ground.specs.Prepared.{landed, successor, passes, turned, with_at, without_at}
use Rattle.ps_ground.specs.States.{State, at, where_so}
use Rattle.ps_ground.specs.declared.prepared.Change.{Change}
use Rattle.ps_ground.specs.declared.prepared.Change.TheVariants.{Flags, Effects, Spreads}
use Rattle.ps_ground.specs.declared.prepared.Prepared.{Prepared}
use Rattle.ps_ground.specs.declared.prepared.Test.{Test}
use Rattle.ps_ground.proofs.Bits.{no_share, share, itself as nat_itself}
use Rattle.ps_ground.proofs.Below.{IsBelow}

-- ---- what is known

-- whether a fact is one of these
abbrev known : Fact → List Fact → Bool
known f fs = list_any (same_fact f) fs

known_put : (f : Fact) (fs : List Fact) (o : Option Fact) → known f (option_map_or (insert_key fact_cmp fs) o fs) ≡ (known f fs || option_map_or (same_fact f) o false)
known_put f fs None = sym (or_false (known f fs))
known_put f fs (Some g) = any-insert_key facts_total f g fs ∙ or_comm (same_fact f g) (known f fs)

known_taken : (f : Fact) (fs : List Fact) (o : Option Fact) → known f (option_map_or (λ g. filter (λ h. not (same_fact g h)) fs) o fs) ≡ (known f fs && not (option_map_or (same_fact f) o false))
known_taken f fs None = sym (and_true (known f fs))
known_taken f fs (Some g) =
    let laws = eq_by_cmp_equiv facts_total in
    is_member-filter laws (λ h. not (same_fact g h)) f (λ h e. ap (λ x. not (same_fact g x)) (fact_same f h e)) fs
    ∙ ap (λ b. known f fs && not b) (laws.symm g f)

rises_put : (fs : List Fact) (o : Option Fact) → IsStrictlySortedBy fact_cmp fs → IsStrictlySortedBy fact_cmp (option_map_or (insert_key fact_cmp fs) o fs)
rises_put fs None s = s
rises_put fs (Some g) s = sorted-insert_key facts_total g fs s

rises_taken : (fs : List Fact) (o : Option Fact) → IsStrictlySortedBy fact_cmp fs → IsStrictlySortedBy fact_cmp (option_map_or (λ g. filter (λ h. not (same_fact g h)) fs) o fs)
rises_taken fs None s = s
rises_taken fs (Some g) s = IsStrictlySortedBy-filter fact_cmp (λ h. not (same_fact g h)) fs s

-- ---- what stands at places

-- whether a fact is the atom at a place
abbrev stands : List Fact → Fact → ℕ → Bool
stands atoms f i = option_map_or (same_fact f) (slice_get atoms i) false

-- whether it is the atom at one of these places
abbrev among : List Fact → List ℕ → Fact → Bool
among atoms is f = list_any (stands atoms f) is

not_below : (f : Fact) (atoms : List Fact) (i : ℕ) → IsBelow f atoms → stands atoms f i ≡ false
not_below f [] i h = refl
not_below f (a ∷ atoms) zero h = ap is_eq h.0
not_below f (a ∷ atoms) (suc i) h = not_below f atoms i h.1

-- a fact stands at one place at most
one_place : (f : Fact) (atoms : List Fact) (i j : ℕ) → IsStrictlySortedBy fact_cmp atoms → stands atoms f i ≡ true → stands atoms f j ≡ true → i ≡ j
unfolding IsStrictlySortedBy
one_place f [] i j s p q = absurd (cc)
one_place f (a ∷ atoms) zero zero s p q = refl
one_place f (a ∷ atoms) zero (suc j) s p q =
    let gone = ap (λ g. stands atoms g j) (fact_same f a p) ∙ not_below a atoms j s.0 in
    absurd (cc)
one_place f (a ∷ atoms) (suc i) zero s p q =
    let gone = ap (λ g. stands atoms g i) (fact_same f a q) ∙ not_below a atoms i s.0 in
    absurd (cc)
one_place f (a ∷ atoms) (suc i) (suc j) s p q = ap suc (one_place f atoms i j s.1 p q)

module _ (atoms : List Fact) (rise : IsStrictlySortedBy fact_cmp atoms) where
  -- an atom stands at none of the places that don't have its own
  none_there : (f : Fact) (i : ℕ) (js : List ℕ) → list_any (λ j. nat_eq j i) js ≡ false → stands atoms f i ≡ true → among atoms js f ≡ false
  none_there f i [] e p = refl
  none_there f i (j ∷ js) e p =
      let w = or_parts (nat_eq j i) (list_any (λ j. nat_eq j i) js) e in
      let away : stands atoms f j ≡ false = false_from_ne_true (stands atoms f j) (λ q. true_false (nat_eq j i) (subst (λ m. nat_eq j m ≡ true) (one_place f atoms j i rise q p) (nat_itself j)) w.0) in
      rw away (none_there f i js w.1 p)

  independent_at : (f : Fact) (i : ℕ) (is js : List ℕ) (b : Bool) → stands atoms f i ≡ b → (b || among atoms is f) ≡ true → list_any (λ j. nat_eq j i) js ≡ false → (among atoms is f ≡ true → among atoms js f ≡ false) → among atoms js f ≡ false
  independent_at f i is js true p e gone later = none_there f i js gone p
  independent_at f i is js false p e gone later = later e

  -- an atom at a place of one list is at none of another that shares no place with it
  independent_among : (f : Fact) (is js : List ℕ) → share is js ≡ false → among atoms is f ≡ true → among atoms js f ≡ false
  independent_among f [] js e p = absurd (cc)
  independent_among f (i ∷ is) js e p =
      let w = or_parts (list_any (λ j. nat_eq j i) js) (share is js) e in
      independent_at f i is js (stands atoms f i) refl p w.0 (independent_among f is js w.1)

-- ---- plain changes

-- the facts after a plain change
abbrev altered : List Fact → Change → List Fact → List Fact
altered atoms (Flags cleared set) fs = fold (with_at atoms) (fold (without_at atoms) fs cleared.items) set.items
altered atoms (Effects es clash) fs = fs
altered atoms (Spreads es) fs = fs

-- whether a fact is known after it, by whether it was before
abbrev stays : List Fact → Change → Fact → Bool → Bool
stays atoms (Flags cleared set) f b = (b && not (among atoms cleared.items f)) || among atoms set.items f
stays atoms (Effects es clash) f b = b
stays atoms (Spreads es) f b = b

module _ (atoms : List Fact) where
  known_with : (f : Fact) (is : List ℕ) (fs : List Fact) → known f (fold (with_at atoms) fs is) ≡ (known f fs || among atoms is f)
  known_with f [] fs = sym (or_false (known f fs))
  known_with f (i ∷ is) fs =
      known_with f is (with_at atoms fs i) ∙ ap (λ b. b || among atoms is f) (known_put f fs (slice_get atoms i))
      ∙ or_later (known f fs) (stands atoms f i) (among atoms is f)
    where
      or_later : (a b c : Bool) → ((a || b) || c) ≡ (a || (b || c))
      or_later true b c = refl
      or_later false b c = refl

  known_without : (f : Fact) (is : List ℕ) (fs : List Fact) → known f (fold (without_at atoms) fs is) ≡ (known f fs && not (among atoms is f))
  known_without f [] fs = sym (and_true (known f fs))
  known_without f (i ∷ is) fs =
      known_without f is (without_at atoms fs i) ∙ ap (λ b. b && not (among atoms is f)) (known_taken f fs (slice_get atoms i))
      ∙ and_not (known f fs) (stands atoms f i) (among atoms is f)
    where
      and_not : (a b c : Bool) → ((a && not b) && not c) ≡ (a && not (b || c))
      and_not true true c = refl
      and_not true false c = refl
      and_not false b c = refl

  -- a plain change acts on each fact for itself
  known_altered : (f : Fact) (c : Change) (fs : List Fact) → known f (altered atoms c fs) ≡ stays atoms c f (known f fs)
  known_altered f (Flags cleared set) fs =
      known_with f set.items (fold (without_at atoms) fs cleared.items)
      ∙ ap (λ b. b || among atoms set.items f) (known_without f cleared.items fs)
  known_altered f (Effects es clash) fs = refl
  known_altered f (Spreads es) fs = refl

  rises_with : (is : List ℕ) (fs : List Fact) → IsStrictlySortedBy fact_cmp fs → IsStrictlySortedBy fact_cmp (fold (with_at atoms) fs is)
  rises_with [] fs s = s
  rises_with (i ∷ is) fs s = rises_with is (with_at atoms fs i) (rises_put fs (slice_get atoms i) s)

  rises_without : (is : List ℕ) (fs : List Fact) → IsStrictlySortedBy fact_cmp fs → IsStrictlySortedBy fact_cmp (fold (without_at atoms) fs is)
  rises_without [] fs s = s
  rises_without (i ∷ is) fs s = rises_without is (without_at atoms fs i) (rises_taken fs (slice_get atoms i) s)

  rises_altered : (c : Change) (fs : List Fact) → IsStrictlySortedBy fact_cmp fs → IsStrictlySortedBy fact_cmp (altered atoms c fs)
  rises_altered (Flags cleared set) fs s = rises_with set.items (fold (without_at atoms) fs cleared.items) (rises_without cleared.items fs s)
  rises_altered (Effects es clash) fs s = s
  rises_altered (Spreads es) fs s = s

  -- what is at no changed place stays as it was
  stays_there : (f : Fact) (c : Change) (b : Bool) → among atoms (changed_by c) f ≡ false → stays atoms c f b ≡ b
  stays_there f (Flags cleared set) b e =
      let w = or_parts (among atoms cleared.items f) (among atoms set.items f) (sym (list_any-append (stands atoms f) cleared.items set.items) ∙ e) in
      ap (λ u. (b && not u) || among atoms set.items f) w.0 ∙ ap (λ u. (b && true) || u) w.1 ∙ same b
    where
      same : (b : Bool) → ((b && true) || false) ≡ b
      same true = refl
      same false = refl
  stays_there f (Effects es clash) b e = refl
  stays_there f (Spreads es) b e = refl

-- ---- plain ground actions

-- whether the atoms at these places are known
abbrev all_known : List Fact → List Fact → List ℕ → Bool
all_known atoms fs is = list_all (λ i. option_map_or (λ f. known f fs) (slice_get atoms i) false) is

-- the facts after a plain ground action
abbrev left_by : List Fact → Prepared → List Fact → List Fact
left_by atoms p fs = altered atoms p.at_end (altered atoms p.at_start fs)

-- whether a fact is known after it, by whether it was before
abbrev remains : List Fact → Prepared → Fact → Bool → Bool
remains atoms p f b = stays atoms p.at_end f (stays atoms p.at_start f b)

-- whether it can step from these facts
abbrev can_step : List Fact → Prepared → List Fact → Bool
can_step atoms p fs =
    let started = altered atoms p.at_start fs in
    all_known atoms fs p.start.wanted.items && (all_known atoms started p.over.wanted.items && all_known atoms started p.end.wanted.items)

none_other : (d : Domain) (l : Knowledge) (cs : List CondTree) → nat_eq (length cs) 0 ≡ true → all_true d l cs ≡ true
none_other d l [] e = refl
none_other d l (c ∷ cs) e = absurd (grind (arith, nat_tests))

module _ (d : Domain) (k : Knowledge) (atoms : List Fact) where
  plain_passes : (t : Test) (s : State) → is_plain_test t ≡ true → passes d k atoms t s ≡ all_known atoms s.facts t.wanted.items
  plain_passes t s e =
      let wanted = all_known atoms s.facts t.wanted.items in
      ap (λ b. wanted && b) (none_other d (at k s) t.others e) ∙ and_true wanted

  plain_turned : (c : Change) (s : State) → is_plain_change c ≡ true → turned d k atoms c s ≡ Some (record { facts = altered atoms c s.facts; values = s.values })
  plain_turned (Flags cleared set) s e = refl
  plain_turned (Effects es clash) s e = absurd (cc)
  plain_turned (Spreads es) s e = absurd (cc)

  -- a plain ground action leads to the facts that it leaves, where it can step
  plain_successor : (p : Prepared) (s : State) → is_plain p ≡ true → successor d k atoms s p ≡ where_so (can_step atoms p s.facts) (Some (record { facts = left_by atoms p s.facts; values = s.values }))
  plain_successor p s e =
      let first = is_plain_test p.start in
      let over = is_plain_test p.over in
      let last = is_plain_test p.end in
      let begins = is_plain_change p.at_start in
      let ends = is_plain_change p.at_end in
      let v = second_so first (over && (last && (begins && ends))) e in
      let w = second_so over (last && (begins && ends)) v in
      let x = second_so last (begins && ends) w in
      let m : State = record { facts = altered atoms p.at_start s.facts; values = s.values } in
      (λ i. option_and_then (landed d k atoms p) (where_so (plain_passes p.start s (first_so first (over && (last && (begins && ends))) e) i) (plain_turned p.at_start s (first_so begins ends x) i)))
      ∙ by (all_known atoms s.facts p.start.wanted.items) (all_known atoms m.facts p.over.wanted.items) (all_known atoms m.facts p.end.wanted.items) m
      (record { facts = left_by atoms p s.facts; values = s.values })
      (λ i. where_so (plain_passes p.over m (first_so over (last && (begins && ends)) v) i) (where_so (plain_passes p.end m (first_so last (begins && ends) w) i) (plain_turned p.at_end m (second_so begins ends x) i)))
    where
      by : (a b c : Bool) (m t : State) → landed d k atoms p m ≡ where_so b (where_so c (Some t)) → option_and_then (landed d k atoms p) (where_so a (Some m)) ≡ where_so (a && (b && c)) (Some t)
      by false b c m t h = refl
      by true true c m t h = h
      by true false c m t h = h

module _ (atoms : List Fact) where
  known_left : (f : Fact) (p : Prepared) (fs : List Fact) → known f (left_by atoms p fs) ≡ remains atoms p f (known f fs)
  known_left f p fs = known_altered atoms f p.at_end (altered atoms p.at_start fs) ∙ ap (stays atoms p.at_end f) (known_altered atoms f p.at_start fs)

  rises_left : (p : Prepared) (fs : List Fact) → IsStrictlySortedBy fact_cmp fs → IsStrictlySortedBy fact_cmp (left_by atoms p fs)
  rises_left p fs s = rises_altered atoms p.at_end (altered atoms p.at_start fs) (rises_altered atoms p.at_start fs s)

  remains_there : (f : Fact) (p : Prepared) (b : Bool) → among atoms (changes p) f ≡ false → remains atoms p f b ≡ b
  remains_there f p b e =
      let w = or_parts (among atoms (changed_by p.at_start) f) (among atoms (changed_by p.at_end) f) (sym (list_any-append (stands atoms f) (changed_by p.at_start) (changed_by p.at_end)) ∙ e) in
      ap (stays atoms p.at_end f) (stays_there atoms f p.at_start b w.0) ∙ stays_there atoms f p.at_end b w.1

  known_alike_at : (fs gs : List Fact) (o : Option Fact) → ((f : Fact) → option_map_or (same_fact f) o false ≡ true → known f fs ≡ known f gs) → option_map_or (λ f. known f fs) o false ≡ option_map_or (λ f. known f gs) o false
  known_alike_at fs gs None h = refl
  known_alike_at fs gs (Some f) h = h f (fact_itself f)

  -- places are read alike where the atoms there are known alike
  read_alike : (fs gs : List Fact) (is : List ℕ) → ((f : Fact) → among atoms is f ≡ true → known f fs ≡ known f gs) → all_known atoms fs is ≡ all_known atoms gs is
  read_alike fs gs [] h = refl
  read_alike fs gs (i ∷ is) h =
      let one = known_alike_at fs gs (slice_get atoms i) (λ f e. h f (or_left (stands atoms f i) (among atoms is f) e)) in
      let rest = read_alike fs gs is (λ f e. h f (or_right (stands atoms f i) (among atoms is f) e)) in
      λ j. one j && rest j

  -- a ground action can step alike where the atoms that it reads are known alike
  step_alike : (p : Prepared) (fs gs : List Fact) → ((f : Fact) → among atoms (reads p) f ≡ true → known f fs ≡ known f gs) → can_step atoms p fs ≡ can_step atoms p gs
  step_alike p fs gs h =
      let start = p.start.wanted.items in
      let over = p.over.wanted.items in
      let last = p.end.wanted.items in
      let later : (f : Fact) → among atoms (reads p) f ≡ true → known f (altered atoms p.at_start fs) ≡ known f (altered atoms p.at_start gs) =
      λ f e. known_altered atoms f p.at_start fs ∙ ap (stays atoms p.at_start f) (h f e) ∙ sym (known_altered atoms f p.at_start gs) in
      let in_rest : (f : Fact) → among atoms (over ++ last) f ≡ true → among atoms (reads p) f ≡ true =
      λ f e. list_any-append (stands atoms f) start (over ++ last) ∙ or_right (among atoms start f) (among atoms (over ++ last) f) e in
      let begins = read_alike fs gs start (λ f e. h f (list_any-append (stands atoms f) start (over ++ last) ∙ or_left (among atoms start f) (among atoms (over ++ last) f) e)) in
      let runs = read_alike (altered atoms p.at_start fs) (altered atoms p.at_start gs) over (λ f e. later f (in_rest f (list_any-append (stands atoms f) over last ∙ or_left (among atoms over f) (among atoms last f) e))) in
      let ends = read_alike (altered atoms p.at_start fs) (altered atoms p.at_start gs) last (λ f e. later f (in_rest f (list_any-append (stands atoms f) over last ∙ or_right (among atoms over f) (among atoms last f) e))) in
      λ i. begins i && (runs i && ends i)

-- ---- in either order

module _ (atoms : List Fact) (rise : IsStrictlySortedBy fact_cmp atoms) where
  -- a ground action can step after one that changes nothing that it reads, where it can before
  step_after : (a b : Prepared) (fs : List Fact) → share (changes a) (reads b ++ changes b) ≡ false → can_step atoms b (left_by atoms a fs) ≡ can_step atoms b fs
  step_after a b fs e =
      step_alike atoms b (left_by atoms a fs) fs
      (λ f r.
      let touched : among atoms (reads b ++ changes b) f ≡ true = list_any-append (stands atoms f) (reads b) (changes b) ∙ or_left (among atoms (reads b) f) (among atoms (changes b) f) r in
      let away : among atoms (changes a) f ≡ false =
      false_from_ne_true (among atoms (changes a) f) (λ c. true_false (among atoms (reads b ++ changes b) f) touched (independent_among atoms rise f (changes a) (reads b ++ changes b) e c)) in
      known_left atoms f a fs ∙ remains_there atoms f a (known f fs) away)

  -- they leave the same facts in either order
  left_alike : (a b : Prepared) (fs : List Fact) → share (changes a) (reads b ++ changes b) ≡ false → IsStrictlySortedBy fact_cmp fs → left_by atoms b (left_by atoms a fs) ≡ left_by atoms a (left_by atoms b fs)
  left_alike a b fs e s =
      facts_same (left_by atoms b (left_by atoms a fs)) (left_by atoms a (left_by atoms b fs))
      (rises_left atoms b (left_by atoms a fs) (rises_left atoms a fs s)) (rises_left atoms a (left_by atoms b fs) (rises_left atoms b fs s))
      (λ f.
      known_left atoms f b (left_by atoms a fs) ∙ ap (remains atoms b f) (known_left atoms f a fs)
      ∙ by f (known f fs) (among atoms (changes a) f) refl
      ∙ sym (known_left atoms f a (left_by atoms b fs) ∙ ap (remains atoms a f) (known_left atoms f b fs)))
    where
      by : (f : Fact) (v c : Bool) → among atoms (changes a) f ≡ c → remains atoms b f (remains atoms a f v) ≡ remains atoms a f (remains atoms b f v)
      by f v true p =
          let away = (or_parts (among atoms (reads b) f) (among atoms (changes b) f) (sym (list_any-append (stands atoms f) (reads b) (changes b)) ∙ independent_among atoms rise f (changes a) (reads b ++ changes b) e p)).1 in
          remains_there atoms f b (remains atoms a f v) away ∙ sym (ap (remains atoms a f) (remains_there atoms f b v away))
      by f v false p = ap (remains atoms b f) (remains_there atoms f a v p) ∙ sym (remains_there atoms f a (remains atoms b f v) p)

-- what leads somewhere leads there, and its condition holds
given : (b : Bool) (s t : State) → where_so b (Some s) ≡ Some t → (b ≡ true) × (s ≡ t)
given true s t e =
    let same : s ≡ t = cc in
    (refl, same)
given false s t e = absurd (cc)

no_bits : (x y : ℕ) → nat_eq (bit_and x y) 0 ≡ true → bit_and x y ≡ 0
no_bits x y e = grind (arith, nat_tests, e)

-- ground actions that are independent lead to the same in either order
pub successor-swap : (d : Domain) (k : Knowledge) (atoms : List Fact) → IsStrictlySortedBy fact_cmp atoms → (a b : Prepared) → HasFootprint a → HasFootprint b → are_independent a.footprint b.footprint ≡ true → (s t u : State) → IsStrictlySortedBy fact_cmp s.facts → successor d k atoms s a ≡ Some t → successor d k atoms t b ≡ Some u → (m : State) × (successor d k atoms s b ≡ Some m) × (successor d k atoms m a ≡ Some u)
successor-swap d k atoms rise a b p q independent s t u sorted first second =
    let plain = a.footprint.plain && b.footprint.plain in
    let one = nat_eq (bit_and a.footprint.changed b.footprint.touched) 0 in
    let two = nat_eq (bit_and b.footprint.changed a.footprint.touched) 0 in
    let both = first_so plain (one && two) independent in
    let alone = second_so plain (one && two) independent in
    let a_plain : is_plain a ≡ true = sym p.plain ∙ first_so a.footprint.plain b.footprint.plain both in
    let b_plain : is_plain b ≡ true = sym q.plain ∙ second_so a.footprint.plain b.footprint.plain both in
    let a_independent : share (changes a) (reads b ++ changes b) ≡ false =
    no_share (changes a) (reads b ++ changes b) ((λ i. bit_and (sym p.changed i) (sym q.touched i)) ∙ no_bits a.footprint.changed b.footprint.touched (first_so one two alone)) in
    let b_independent : share (changes b) (reads a ++ changes a) ≡ false =
    no_share (changes b) (reads a ++ changes a) ((λ i. bit_and (sym q.changed i) (sym p.touched i)) ∙ no_bits b.footprint.changed a.footprint.touched (second_so one two alone)) in
    let v : State = record { facts = left_by atoms a s.facts; values = s.values } in
    let m : State = record { facts = left_by atoms b s.facts; values = s.values } in
    let here = given (can_step atoms a s.facts) v t (sym (plain_successor d k atoms a s a_plain) ∙ first) in
    let there = given (can_step atoms b v.facts) (record { facts = left_by atoms b v.facts; values = s.values }) u (sym (plain_successor d k atoms b v b_plain) ∙ ap (λ w. successor d k atoms w b) here.1 ∙ second) in
    let end : record { facts = left_by atoms a m.facts; values = s.values } ≡ u =
    (λ i. record { facts = sym (left_alike atoms rise a b s.facts a_independent sorted) i; values = s.values }) ∙ there.1 in (
      m,
      plain_successor d k atoms b s b_plain ∙ ap (λ w. where_so w (Some m)) (sym (step_after atoms rise a b s.facts a_independent) ∙ there.0),
      plain_successor d k atoms a m a_plain ∙ ap (λ w. where_so w (Some (record { facts = left_by atoms a m.facts; values = s.values }))) (step_after atoms rise b a s.facts b_independent ∙ here.0) ∙ ap Some end,
    )

-- Rules that were looked at while places got set.
use Rattle.std.proofs.Common.{◌≡◌, ◌⊎◌, ℕ, ◌+◌, ◌<◌, ◌≤◌, Bool, true, false, not, ◌&&◌, if◌then◌else◌, List, [], ◌∷◌, ◌++◌, Option, Some, Global, Vec, Contains, get_or, length, set, slice_get, inl, inr, refl, ap, sym, ◌∙◌, subst, arith, zero, suc}
use Rattle.std.specs.Cmp.{first_so, second_so}
use Rattle.std.specs.List.{list_all, list_any}
use Rattle.std.proofs.lemmas.List.Elements.{Contains-append_left, Contains-push, Contains-push_cases}
use Rattle.std.proofs.lemmas.List.{length-set, length_push}
use Rattle.std.proofs.lemmas.List.Sums.{sum_by-cons}
use Rattle.std.proofs.lemmas.Option.{slice_get-get_or, slice_get_within}
use Rattle.ps_closing.specs.declared.rule.Rule.{Rule}
use Rattle.ps_closing.specs.Closing.{Gives, IsClosed, has, is_out, is_ready, unset}
use Rattle.ps_closing.specs.Users.{AreGiven, AreSeen, AreUsers, AreUsersSeen, IsSeen, IsUser, Queues}

pub queues_none : (flags : List Bool) (queue : List ℕ) → Queues flags flags queue queue
queues_none flags queue = record { wide = refl; keeps = λ i e. e; waits = λ i c. c; added = λ i e. inl e; many = refl }

pub queues_on : (a b c : List Bool) (x y z : List ℕ) → Queues a b x y → Queues b c y z → Queues a c x z
queues_on a b c x y z g h = record {
  wide = h.wide ∙ g.wide;
  keeps = λ i e. h.keeps i (g.keeps i e);
  waits = λ i e. h.waits i (g.waits i e);
  added = λ i e. elim (h.added i e) [
    | inl old ↦ elim (g.added i old) [ inl first ↦ inl first | inr there ↦ inr (h.waits i there) ]
    | inr there ↦ inr there
  ];
  many = h.many ∙ g.many;
}

-- ---- a place that is set

set_keeps : (flags : List Bool) (p i : ℕ) → has flags i ≡ true → has (set flags p true) i ≡ true
set_keeps [] p i e = e
set_keeps (b ∷ fs) zero zero e = refl
set_keeps (b ∷ fs) zero (suc i) e = e
set_keeps (b ∷ fs) (suc p) zero e = e
set_keeps (b ∷ fs) (suc p) (suc i) e = set_keeps fs p i e

set_only : (flags : List Bool) (p i : ℕ) → has (set flags p true) i ≡ true → (has flags i ≡ true) ⊎ (p ≡ i)
set_only [] p i e = inl e
set_only (b ∷ fs) zero zero e = inr refl
set_only (b ∷ fs) zero (suc i) e = inl e
set_only (b ∷ fs) (suc p) zero e = inl e
set_only (b ∷ fs) (suc p) (suc i) e = elim (set_only fs p i e) [ inl old ↦ inl old | inr same ↦ inr (ap suc same) ]

abbrev count : Bool → ℕ
count b = if b then 0 else 1

unset_on : (b : Bool) (fs : List Bool) → unset (b ∷ fs) ≡ count b + unset fs
unset_on b fs = sum_by-cons count b fs

set_fewer : (flags : List Bool) (p : ℕ) → p < length flags → has flags p ≡ false → suc (unset (set flags p true)) ≡ unset flags
set_fewer [] p l e = absurd (omega (arith, l))
set_fewer (true ∷ fs) zero l e = absurd (cc)
set_fewer (false ∷ fs) zero l e =
    let new : unset (true ∷ fs) ≡ 0 + unset fs = unset_on true fs in
    let old : unset (false ∷ fs) ≡ 1 + unset fs = unset_on false fs in
    omega (arith, new, old)
set_fewer (b ∷ fs) (suc p) l e =
    let new : unset (b ∷ set fs p true) ≡ count b + unset (set fs p true) = unset_on b (set fs p true) in
    let old : unset (b ∷ fs) ≡ count b + unset fs = unset_on b fs in
    let rest : suc (unset (set fs p true)) ≡ unset fs = set_fewer fs p (omega (arith, l)) e in
    omega (arith, new, old, rest)

-- it is to be looked at
pub queues_set : (flags : List Bool) (p : ℕ) (before after : List ℕ) → p < length flags → has flags p ≡ false → after ≡ before ++ p ∷ [] → Queues flags (set flags p true) before after
queues_set flags p before after l e is = record {
  wide = length-set flags p true;
  keeps = λ i h. set_keeps flags p i h;
  waits = λ i c. let P : List ℕ → Type 0 = λ q. Contains q i in subst P (sym is) (Contains-append_left before (p ∷ []) i c);
  added = λ i h. elim (set_only flags p i h) [
    | inl old ↦ inl old
    | inr same ↦
        let P : List ℕ → Type 0 = λ q. Contains q i in
        let Q : ℕ → Type 0 = λ j. Contains (before ++ p ∷ []) j in
        inr (subst P (sym is) (subst Q same (Contains-push before p)))
  ];
  many =
      let fewer = set_fewer flags p l e in
      let longer : length after ≡ length before + 1 = ap length is ∙ length_push before p in
      omega (arith, fewer, longer);
}

-- ---- a place that got set

first : (p : ℕ) (ps : List ℕ) → Contains (p ∷ ps) p
first p ps = (0, omega arith, refl)

later : (p q : ℕ) (ps : List ℕ) → Contains ps q → Contains (p ∷ ps) q
later p q ps c = (suc c.0, omega (arith, c.1), c.2)

abbrev Newly : List Bool → List Bool → List ℕ → Type 0
Newly old new places = (p : ℕ) × Contains places p × (has old p ≡ false) × (has new p ≡ true)

newly_by : (old new : List Bool) (p : ℕ) (ps : List ℕ) (b c : Bool) → has old p ≡ b → has new p ≡ c → (b && list_all (has old) ps) ≡ false → (c && list_all (has new) ps) ≡ true → (list_all (has old) ps ≡ false → list_all (has new) ps ≡ true → Newly old new ps) → Newly old new (p ∷ ps)
newly_by old new p ps b false e f g h more = absurd (cc)
newly_by old new p ps false true e f g h more = (p, first p ps, e, f)
newly_by old new p ps true true e f g h more = let w = more g h in (w.0, later p w.0 ps w.1, w.2, w.3)

-- of places that weren't all set and are one got set
newly : (old new : List Bool) (places : List ℕ) → list_all (has old) places ≡ false → list_all (has new) places ≡ true → Newly old new places
newly old new [] e f = absurd (cc)
newly old new (p ∷ ps) e f = newly_by old new p ps (has old p) (has new p) refl refl e f (newly old new ps)

left_false : (a b : Bool) → (a && b) ≡ false → b ≡ true → a ≡ false
left_false true b e f = absurd (cc)
left_false false b e f = refl

-- ---- rules that were looked at

module _ (out : Option ℕ) (old new : List Bool) (before after : List ℕ) (q : Queues old new before after) where
  abbrev Now : Rule → Type 0
  Now r = AreGiven out new r ⊎ ((p : ℕ) × Contains r.needs.items p × Contains after p)

  seen_by : (r : Rule) (b : Bool) → is_ready out old r ≡ b → (is_ready out old r ≡ true → Now r) → is_ready out new r ≡ true → Now r
  seen_by r true e was ready = was e
  seen_by r false e was ready =
      let mine = not (list_any (is_out out) r.own.items) in
      let old_all = list_all (has old) r.needs.items in
      let new_all = list_all (has new) r.needs.items in
      let w = newly old new r.needs.items (left_false old_all mine e (second_so new_all mine ready)) (first_so new_all mine ready) in
      inr (w.0, w.1, elim (q.added w.0 w.3) [ inl was_set ↦ absurd (cc) | inr there ↦ there ])

  given_on : (r : Rule) → AreGiven out old r → AreGiven out new r
  given_on r g i c o = q.keeps i (g i c o)

  pub seen_on : (r : Rule) → IsSeen out old before r → IsSeen out new after r
  seen_on r s = seen_by r (is_ready out old r) refl (λ e. elim (s e) [ inl given ↦ inl (given_on r given) | inr w ↦ inr (w.0, w.1, q.waits w.0 w.2) ])

  -- once all users of a place were looked at, the place is done with
  pub seen_without : (rules : List Rule) (users : List (Vec ℕ Global)) (p : ℕ) → AreUsers rules users → AreSeen out rules old (before ++ p ∷ []) → ((j : ℕ) (r : Rule) → IsUser users p j → slice_get rules j ≡ Some r → IsSeen out new after r) → AreSeen out rules new after
  seen_without rules users p are seen looked r there ready =
      seen_by r (is_ready out old r) refl (λ e. elim (seen r there e) [
        | inl given ↦ inl (given_on r given)
        | inr w ↦ elim (Contains-push_cases before p w.0 w.2) [
          | inl still ↦ inr (w.0, w.1, q.waits w.0 still)
          | inr same ↦
              let P : ℕ → Type 0 = λ x. Contains r.needs.items x in
              let at : slice_get rules there.0 ≡ Some r = slice_get-get_or rules there.0 r there.1 ∙ ap Some there.2 in
              looked there.0 r (are.listed there.0 r p at (subst P (sym same) w.1)) at ready
        ]
      ]) ready

-- a rule whose turn came
pub seen_ready : (out : Option ℕ) (old new : List Bool) (queue : List ℕ) (r : Rule) → Gives out r.gives.items old new → IsSeen out new queue r
seen_ready out old new queue r g ready = inl g.given

pub seen_unready : (out : Option ℕ) (flags : List Bool) (queue : List ℕ) (r : Rule) → is_ready out flags r ≡ false → IsSeen out flags queue r
seen_unready out flags queue r e ready = absurd (cc)

-- with one more rule
pub seen_one : (out : Option ℕ) (rs : List Rule) (r : Rule) (old new : List Bool) (before after : List ℕ) → Queues old new before after → AreSeen out rs old before → IsSeen out new after r → AreSeen out (rs ++ r ∷ []) new after
seen_one out rs r old new before after q seen one x there =
    elim (Contains-push_cases rs r x there) [
      | inl was ↦ seen_on out old new before after q x (seen x was)
      | inr is ↦ let P : Rule → Type 0 = λ y. IsSeen out new after y in subst P is one
    ]

pub seen_none : (out : Option ℕ) (flags : List Bool) (queue : List ℕ) → AreSeen out [] flags queue
seen_none out flags queue r there = absurd (omega (arith, there.1))

-- with one more user
pub user_one : (out : Option ℕ) (rules : List Rule) (us : List ℕ) (j : ℕ) (r : Rule) (old new : List Bool) (before after : List ℕ) → Queues old new before after → AreUsersSeen out rules us old before → slice_get rules j ≡ Some r → IsSeen out new after r → AreUsersSeen out rules (us ++ j ∷ []) new after
user_one out rules us j r old new before after q seen at one i x there is =
    elim (Contains-push_cases us j i there) [
      | inl was ↦ seen_on out old new before after q x (seen i x was is)
      | inr same ↦
          let P : Rule → Type 0 = λ y. IsSeen out new after y in
          let alike : slice_get rules j ≡ slice_get rules i = ap (slice_get rules) same in
          let rule : r ≡ x = cc in
          subst P rule one
    ]

pub user_none : (out : Option ℕ) (rules : List Rule) (flags : List Bool) (queue : List ℕ) → AreUsersSeen out rules [] flags queue
user_none out rules flags queue j r there = absurd (omega (arith, there.1))

-- where nothing is left to be looked at, all is closed
pub seen_closed : (out : Option ℕ) (rules : List Rule) (flags : List Bool) → AreSeen out rules flags [] → IsClosed out rules flags
seen_closed out rules flags seen r there ready = elim (seen r there ready) [ inl given ↦ given | inr w ↦ absurd (let c = w.2 in omega (arith, c.1)) ]

-- ---- the users of a place

pub users_at : (us read : List (Vec ℕ Global)) (p : ℕ) (v : Vec ℕ Global) → read ≡ us → p < length read → v ≡ get_or read p v → slice_get us p ≡ Some v
users_at us read p v same low is = ap (λ (xs : List (Vec ℕ Global)). slice_get xs p) (sym same) ∙ slice_get-get_or read p v low ∙ ap Some (sym is)

pub some_looked : (out : Option ℕ) (rules read : List Rule) (us : List (Vec ℕ Global)) (p : ℕ) (v : Vec ℕ Global) (items : List ℕ) (flags : List Bool) (queue : List ℕ) → slice_get us p ≡ Some v → items ≡ v.items → read ≡ rules → AreUsersSeen out read items flags queue
    → (j : ℕ) (r : Rule) → IsUser us p j → slice_get rules j ≡ Some r → IsSeen out flags queue r
some_looked out rules read us p v items flags queue at is same seen j r u there =
    let there_v : u.0 ≡ v = let user = u.1 in cc in
    let P : Vec ℕ Global → Type 0 = λ w. Contains w.items j in
    let Q : List ℕ → Type 0 = λ l. Contains l j in
    seen j r (subst Q (sym is) (subst P there_v u.2)) (ap (λ (rs : List Rule). slice_get rs j) same ∙ there)

pub none_looked : (out : Option ℕ) (rules : List Rule) (us read : List (Vec ℕ Global)) (p : ℕ) (flags : List Bool) (queue : List ℕ) → read ≡ us → length read ≤ p
    → (j : ℕ) (r : Rule) → IsUser us p j → slice_get rules j ≡ Some r → IsSeen out flags queue r
none_looked out rules us read p flags queue same past j r u there =
    let low = slice_get_within us p u.0 u.1 in
    let long : length read ≡ length us = ap length same in
    absurd (omega (arith, low, past, long))

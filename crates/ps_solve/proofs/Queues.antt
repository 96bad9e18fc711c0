-- Queues of leads: what a pruned ground action leads to was looked at when an earlier state was expanded.
use Rattle.std.proofs.Common.{◌≡◌, ℕ, zero, suc, ◌+◌, ◌<◌, ◌≤◌, nat_le, Bool, true, false, cond, ◌||◌, ◌⊎◌, inl, inr, List, [], ◌∷◌, ◌++◌, Option, Some, None, option_map, drop, take, fold, length, refl, ap, sym, ◌∙◌, subst, arith, append_assoc}
use Rattle.std.specs.Prelude.{nat_lt, slice_get}
use Rattle.std.specs.Cmp.{first_so, second_so}
use Rattle.std.specs.List.{cons_option, last_or}
use Rattle.std.specs.List.Sorted.{IsStrictlySortedBy}
use Rattle.std.specs.Option.{option_map_or}
use Rattle.std.proofs.lemmas.Bool.{cases_lt, or_right, or_left, or_parts}
use Rattle.std.proofs.lemmas.Bool.Decides.{nat_tests}
use Rattle.std.proofs.lemmas.List.{append-nil, length-append, map-append, take-append-le}
use Rattle.ps_world.specs.Facts.{fact_cmp}
use Rattle.ps_world.specs.declared.domains.Domain.{Domain}
use Rattle.ps_world.specs.declared.facts.Fact.{Fact}
use Rattle.ps_world.specs.declared.known.Knowledge.{Knowledge}
use Rattle.ps_world.proofs.Optionals.{some_same}
use Rattle.ps_action.proofs.Contained.{or_cases}
use Rattle.ps_ground.specs.Independence.{are_independent, is_pruned}
use Rattle.ps_ground.specs.Prepared.{AreSound, IsSound, successor}
use Rattle.ps_ground.specs.States.{State}
use Rattle.ps_ground.specs.declared.prepared.Prepared.{Prepared}
use Rattle.ps_ground.proofs.IndependentActions.{successor-swap}
use Rattle.ps_solve.specs.Nodes.{is_met, same_state, with_state}
use Rattle.ps_solve.specs.Queue.{ArePruned, AreTried, IsPruned, IsQueue, IsTried, Lead, LeadsTo, leads_from, states, with_lead}
use Rattle.ps_solve.proofs.SameStates.{met_more, state_same}
use Rattle.ps_solve.proofs.Firsts.{met_stays, met_now}

-- each of those that are sound is
pub sound_there : (d : Domain) (k : Knowledge) (atoms : List Fact) (i : ℕ) (qs : List Prepared) (b : Prepared) → slice_get qs i ≡ Some b → AreSound d k atoms qs → IsSound d k atoms b
sound_there d k atoms i [] b e all = absurd (cc)
sound_there d k atoms zero (q ∷ qs) b e all =
    let same : q ≡ b = cc in
    let P : Prepared → Type 0 = IsSound d k atoms in
    subst P same all.0
sound_there d k atoms (suc i) (q ∷ qs) b e all = sound_there d k atoms i qs b e all.1

pub below : {A : Type 0} (i : ℕ) (xs : List A) (x : A) → slice_get xs i ≡ Some x → i < length xs
below i [] x e = absurd (cc)
below zero (y ∷ xs) x e = omega arith
below (suc i) (y ∷ xs) x e = let rest = below i xs x e in omega (arith, rest)

-- ---- the first of a list

take-next : {A : Type 0} (n : ℕ) (xs rest : List A) (x : A) → drop n xs ≡ x ∷ rest → take (suc n) xs ≡ take n xs ++ x ∷ []
take-next zero [] rest x e = absurd (cc)
take-next (suc n) [] rest x e = absurd (cc)
take-next zero (y ∷ xs) rest x e =
    let same : y ≡ x = cc in
    ap (λ z. z ∷ []) same
take-next (suc n) (y ∷ xs) rest x e = ap (λ l. y ∷ l) (take-next n xs rest x e)

long : {A : Type 0} (n : ℕ) (xs rest : List A) (x : A) → drop n xs ≡ x ∷ rest → suc n ≤ length xs
long zero [] rest x e = absurd (cc)
long (suc n) [] rest x e = absurd (cc)
long zero (y ∷ xs) rest x e = omega arith
long (suc n) (y ∷ xs) rest x e = let more = long n xs rest x e in omega (arith, more)

-- ---- states that are met

states-push : (ls : List Lead) (l : Lead) → states (ls ++ l ∷ []) ≡ with_state (states ls) l.state
states-push ls l = map-append (λ (l : Lead). l.state) ls (l ∷ [])

-- ---- one more lead

-- whether there is room for one more, and its state is new
abbrev blocked : ℕ → List Lead → State → Bool
blocked most ls t = nat_le most (length ls) || is_met (states ls) t

full_or_met : (most : ℕ) (ls : List Lead) (t : State) → blocked most ls t ≡ true → (most ≤ length ls) ⊎ (is_met (states ls) t ≡ true)
full_or_met most ls t e =
    elim (or_cases (nat_le most (length ls)) (is_met (states ls) t) e) [
      | inl full ↦ inl (grind (arith, nat_tests, full))
      | inr here ↦ inr here
    ]

-- the first leads stay as they are
stay_by : (b : Bool) (n : ℕ) (ls : List Lead) (m : Lead) → n ≤ length ls → (take n (cond b ls (ls ++ m ∷ [])) ≡ take n ls) × (n ≤ length (cond b ls (ls ++ m ∷ [])))
stay_by true n ls m h = (refl, h)
stay_by false n ls m h = let l = length-append ls (m ∷ []) in (take-append-le n ls (m ∷ []) h, omega (arith, l, h))

pub first_stay : (most n : ℕ) (ls ms : List Lead) → n ≤ length ls → take n (fold (with_lead most) ls ms) ≡ take n ls
first_stay most n ls [] h = refl
first_stay most n ls (m ∷ ms) h =
    let one = stay_by (blocked most ls m.state) n ls m h in
    first_stay most n (with_lead most ls m) ms one.1 ∙ one.0

-- none of these leads is good
abbrev pub NoneGood : (State → Bool) → List Lead → Type 0
NoneGood good [] = Unit {0}
NoneGood good (m ∷ ms) = (good m.state ≡ false) × NoneGood good ms

module _ (good : State → Bool) (most : ℕ) where
  tried_by : (b : Bool) (ls : List Lead) (m : Lead) (t : State) → IsTried good most ls t → IsTried good most (cond b ls (ls ++ m ∷ [])) t
  tried_by true ls m t tried = tried
  tried_by false ls m t tried =
      let long = length-append ls (m ∷ []) in
      elim tried [
        | inl here ↦ inl (ap (λ ss. is_met ss t) (states-push ls m) ∙ met_stays t m.state (states ls) here)
        | inr full ↦ inr (omega (arith, full.0, long), full.1)
      ]

  -- what was looked at was looked at afterwards
  pub still_tried : (ls : List Lead) (m : Lead) (t : State) → IsTried good most ls t → IsTried good most (with_lead most ls m) t
  still_tried ls m t tried = tried_by (blocked most ls m.state) ls m t tried

  now_by : (b : Bool) (ls : List Lead) (m : Lead) → blocked most ls m.state ≡ b → good m.state ≡ false → IsTried good most (cond b ls (ls ++ m ∷ [])) m.state
  now_by true ls m e bad =
      elim (full_or_met most ls m.state e) [
        | inl full ↦ inr (full, bad)
        | inr here ↦ inl here
      ]
  now_by false ls m e bad = inl (ap (λ ss. is_met ss m.state) (states-push ls m) ∙ met_now m.state (states ls))

  -- a lead that isn't good is looked at
  pub now_tried : (ls : List Lead) (m : Lead) → good m.state ≡ false → IsTried good most (with_lead most ls m) m.state
  now_tried ls m bad = now_by (blocked most ls m.state) ls m refl bad

  -- what was looked at changes nothing
  pub none_new : (ls : List Lead) (m : Lead) → IsTried good most ls m.state → with_lead most ls m ≡ ls
  none_new ls m tried =
      elim tried [
        | inl here ↦ let e = or_right (nat_le most (length ls)) (is_met (states ls) m.state) here in rw e refl
        | inr full ↦
            let f : nat_le most (length ls) ≡ true = grind (arith, nat_tests, full.0) in
            let e = or_left (nat_le most (length ls)) (is_met (states ls) m.state) f in
            rw e refl
      ]

module _ (d : Domain) (k : Knowledge) (atoms : List Fact) (ps : List Prepared) where
  -- ---- what is pruned at the leads of a queue

  -- so it is with one more lead
  pub pruned-push : (before : List State) (ls : List Lead) (m : Lead) → ArePruned d k atoms ps before ls → IsPruned d k atoms ps (before ++ states ls) m → ArePruned d k atoms ps before (ls ++ m ∷ [])
  pruned-push before [] m all one = let P : List State → Type 0 = λ ss. IsPruned d k atoms ps ss m in (subst P (append-nil before) one, tt)
  pruned-push before (l ∷ ls) m all one =
      let P : List State → Type 0 = λ ss. IsPruned d k atoms ps ss m in
      (all.0, pruned-push (with_state before l.state) ls m all.1 (subst P (sym (append_assoc before (l.state ∷ []) (states ls))) one))

  -- so it is with the next that is expanded
  pub pruned-at : (n : ℕ) (before : List State) (ls rest : List Lead) (l : Lead) → drop n ls ≡ l ∷ rest → ArePruned d k atoms ps before ls → IsPruned d k atoms ps (before ++ states (take n ls)) l
  pruned-at zero before [] rest l e all = absurd (cc)
  pruned-at (suc n) before [] rest l e all = absurd (cc)
  pruned-at zero before (m ∷ ls) rest l e all =
      let same : m ≡ l = cc in
      let P : List State → Type 0 = λ ss. IsPruned d k atoms ps ss l in
      let Q : Lead → Type 0 = IsPruned d k atoms ps before in
      subst P (sym (append-nil before)) (subst Q same all.0)
  pruned-at (suc n) before (m ∷ ls) rest l e all =
      let P : List State → Type 0 = λ ss. IsPruned d k atoms ps ss l in
      subst P (append_assoc before (m.state ∷ []) (states (take n ls))) (pruned-at n (with_state before m.state) ls rest l e all.1)

  -- what is pruned at the next that is expanded was looked at
  pub pruned_tried : (good : State → Bool) (most n : ℕ) (old rest ls : List Lead) (l : Lead) → drop n old ≡ l ∷ rest → ArePruned d k atoms ps [] old → AreTried d k atoms ps good most ls (states (take n old)) → (i : ℕ) (b : Prepared) (t : State) → slice_get ps i ≡ Some b → is_pruned ps (last_or None l.places) i b ≡ true → successor d k atoms l.state b ≡ Some t → IsTried good most ls t
  pruned_tried good most n old rest ls l here all tried i b t at pruned led =
      let earlier = pruned-at n [] old rest l here all i b t at pruned led in
      tried earlier.0 t earlier.1 earlier.2

  -- ---- the leads of one that is expanded

  module _ (rise : IsStrictlySortedBy fact_cmp atoms) (sound : AreSound d k atoms ps) (good : State → Bool) (most : ℕ) (l : Lead) (sorted : IsStrictlySortedBy fact_cmp l.state.facts) where
    -- what the first so many ground actions lead to from it was looked at
    abbrev pub TriedTo : ℕ → List Lead → Type 0
    TriedTo i ls = (j : ℕ) (b : Prepared) (t : State) → j < i → slice_get ps j ≡ Some b → successor d k atoms l.state b ≡ Some t → IsTried good most ls t

    -- the lead of the ground action at a place
    abbrev pub lead_to : ℕ → State → Lead
    lead_to i t = record { state = t; places = l.places ++ i ∷ [] }

    last-push : (o : Option ℕ) (xs : List ℕ) (x : ℕ) → last_or o (xs ++ x ∷ []) ≡ Some x
    last-push o [] x = refl
    last-push o (y ∷ xs) x = last-push (Some y) xs x

    pruned_by : (i j : ℕ) (a b : Prepared) → slice_get ps i ≡ Some a → is_pruned ps (Some i) j b ≡ true → (j < i) × (are_independent a.footprint b.footprint ≡ true)
    pruned_by i j a b e h =
        let before : nat_lt j i ≡ true = first_so (nat_lt j i) (option_map_or (λ a. are_independent a.footprint b.footprint) (slice_get ps i) false) h in
        (grind (arith, nat_tests, before), ap (λ o. option_map_or (λ (a : Prepared). are_independent a.footprint b.footprint) o false) (sym e) ∙ second_so (nat_lt j i) (option_map_or (λ a. are_independent a.footprint b.footprint) (slice_get ps i) false) h)

    met_there : (ls : List Lead) (t : State) → length ls < most → IsTried good most ls t → is_met (states ls) t ≡ true
    met_there ls t room tried =
        elim tried [
          | inl here ↦ here
          | inr full ↦ let f = full.0 in absurd (omega (arith, f, room))
        ]

    -- a new lead: what is pruned there was met by the other order
    pub new_pruned : (i : ℕ) (a : Prepared) (t : State) (ls : List Lead) → slice_get ps i ≡ Some a → successor d k atoms l.state a ≡ Some t → length ls < most → TriedTo i ls → IsPruned d k atoms ps (states ls) (lead_to i t)
    new_pruned i a t ls at led room tried j b u here pruned on =
        let w = pruned_by i j a b at (ap (λ o. is_pruned ps o j b) (sym (last-push None l.places i)) ∙ pruned) in
        let other = successor-swap d k atoms rise a b (sound_there d k atoms i ps a at sound).footprint (sound_there d k atoms j ps b here sound).footprint w.1 l.state t u sorted led on in
        (other.0, met_there ls other.0 room (tried j b other.0 w.0 here other.1), (i, a, at, other.2))

    one_more : (i : ℕ) (a : Prepared) (ls : List Lead) → slice_get ps i ≡ Some a → TriedTo i ls → ((t : State) → successor d k atoms l.state a ≡ Some t → IsTried good most ls t) → TriedTo (suc i) ls
    one_more i a ls at tried h j b t below here led =
        elim (last j i below) [
          | inl less ↦ tried j b t less here led
          | inr same ↦
              let there : a ≡ b = some_same a b (sym at ∙ ap (slice_get ps) (sym same) ∙ here) in
              h t (ap (successor d k atoms l.state) there ∙ led)
        ]
      where
        last : (j i : ℕ) → j < suc i → (j < i) ⊎ (j ≡ i)
        last j i h =
            elim (cases_lt j i) [
              | inl less ↦ inl less
              | inr up ↦ inr (omega (arith, h, up))
            ]

    -- the leads of the others, and what is kept after them
    abbrev others : ℕ → List Prepared → List Lead
    others i qs = leads_from d k atoms i qs l

    pushed_by : (b : Bool) (i : ℕ) (q : Prepared) (t : State) (ls : List Lead) → blocked most ls t ≡ b → slice_get ps i ≡ Some q → successor d k atoms l.state q ≡ Some t → TriedTo i ls → ArePruned d k atoms ps [] ls → ArePruned d k atoms ps [] (cond b ls (ls ++ lead_to i t ∷ []))
    pushed_by true i q t ls e at led tried all = all
    pushed_by false i q t ls e at led tried all =
        let w = or_parts (nat_le most (length ls)) (is_met (states ls) t) e in
        let room : length ls < most = (let f = w.0 in grind (arith, nat_tests, f)) in
        pruned-push [] ls (lead_to i t) all (new_pruned i q t ls at led room tried)

    -- what is kept after all is a queue still
    abbrev Kept : ℕ → List Prepared → Type 0
    Kept i qs = (ls : List Lead) → NoneGood good (others i qs) → TriedTo i ls → ArePruned d k atoms ps [] ls → ArePruned d k atoms ps [] (fold (with_lead most) ls (others i qs)) × TriedTo (i + length qs) (fold (with_lead most) ls (others i qs))

    walk_by : (i : ℕ) (q : Prepared) (qs : List Prepared) (o : Option State) → successor d k atoms l.state q ≡ o → slice_get ps i ≡ Some q → Kept (suc i) qs → (ls : List Lead) → NoneGood good (cons_option (option_map (lead_to i) o) (others (suc i) qs)) → TriedTo i ls → ArePruned d k atoms ps [] ls → ArePruned d k atoms ps [] (fold (with_lead most) ls (cons_option (option_map (lead_to i) o) (others (suc i) qs))) × TriedTo (suc i + length qs) (fold (with_lead most) ls (cons_option (option_map (lead_to i) o) (others (suc i) qs)))
    walk_by i q qs None led at more ls none tried all = more ls none (one_more i q ls at tried (λ t on. none_some t (sym led ∙ on))) all
      where
        none_some : {A : Type 0} (t : State) → None ≡ Some t → A
        none_some t e = absurd (cc)
    walk_by i q qs (Some t) led at more ls none tried all =
        let next = with_lead most ls (lead_to i t) in
        more next none.1
        (one_more i q next at (λ j b u below here on. still_tried good most ls (lead_to i t) u (tried j b u below here on)) (λ u on. now u (sym led ∙ on)))
        (pushed_by (blocked most ls t) i q t ls refl at led tried all)
      where
        now : (u : State) → Some t ≡ Some u → IsTried good most (with_lead most ls (lead_to i t)) u
        now u e = let P : State → Type 0 = IsTried good most (with_lead most ls (lead_to i t)) in subst P (some_same t u e) (now_tried good most ls (lead_to i t) none.0)

    walk : (i : ℕ) (qs : List Prepared) → ((j : ℕ) → slice_get qs j ≡ slice_get ps (i + j)) → Kept i qs
    walk i [] here ls none tried all = (all, λ j b t below at led. tried j b t (omega (arith, below)) at led)
    walk i (q ∷ qs) here ls none tried all =
        let first : i + 0 ≡ i = omega arith in
        let at : slice_get ps i ≡ Some q = sym (here 0 ∙ ap (slice_get ps) first) in
        let next = λ (j : ℕ). here (suc j) ∙ ap (slice_get ps) (step i j) in
        let w = walk_by i q qs (successor d k atoms l.state q) refl at (walk (suc i) qs next) ls none tried all in
        (w.0, λ j b t below at led. w.1 j b t (omega (arith, below)) at led)
      where
        step : (i j : ℕ) → i + suc j ≡ suc i + j
        step i j = omega arith

    -- ---- one that is expanded

    still_all : (ls ms : List Lead) (t : State) → IsTried good most ls t → IsTried good most (fold (with_lead most) ls ms) t
    still_all ls [] t tried = tried
    still_all ls (m ∷ ms) t tried = still_all (with_lead most ls m) ms t (still_tried good most ls m t tried)

    -- all that it leads to is put in, and then it is expanded
    pub expands : (n : ℕ) (ls rest : List Lead) → drop n ls ≡ l ∷ rest → IsQueue d k atoms ps good most n ls → NoneGood good (leads_from d k atoms 0 ps l) → IsQueue d k atoms ps good most (suc n) (fold (with_lead most) ls (leads_from d k atoms 0 ps l))
    expands n ls rest here queue none =
        let ms = leads_from d k atoms 0 ps l in
        let new = fold (with_lead most) ls ms in
        let w = walk 0 ps (λ j. ap (slice_get ps) (from_none j)) ls none (λ j b t below at led. absurd (omega (arith, below))) queue.pruned in
        let first : states (take (suc n) new) ≡ with_state (states (take n ls)) l.state =
        ap states (first_stay most (suc n) ls ms (long n ls rest l here) ∙ take-next n ls rest l here) ∙ states-push (take n ls) l in
        record {
          pruned = w.0;
          tried = λ s t met leads. elim (or_cases (same_state s l.state) (is_met (states (take n ls)) s) (sym (met_more s l.state (states (take n ls))) ∙ ap (λ ss. is_met ss s) (sym first) ∙ met)) [
            | inl now ↦ by_it new w.1 t (let P : State → Type 0 = λ u. LeadsTo d k atoms ps u t in subst P (state_same s l.state now) leads)
            | inr old ↦ still_all ls ms t (queue.tried s t old leads)
          ];
        }
      where
        from_none : (j : ℕ) → j ≡ 0 + j
        from_none j = omega arith

        by_it : (new : List Lead) → TriedTo (0 + length ps) new → (t : State) → LeadsTo d k atoms ps l.state t → IsTried good most new t
        by_it new tried t leads = tried leads.0 leads.1 t (let b = below leads.0 ps leads.1 leads.2 in omega (arith, b)) leads.2 leads.3

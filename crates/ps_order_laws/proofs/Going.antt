-- That each order of starts and ends that the arcs allow goes well.
use Rattle.std.proofs.Common.{◌≡◌, ℕ, suc, ◌*◌, ◌≤◌, ◌<◌, Bool, true, false, Option, Some, None, is_some, List, [], ◌∷◌, refl, ap, sym, ◌∙◌, subst, inl, inr, ◌⊎◌, arith}
use Rattle.std.proofs.lemmas.Bool.{or_right, or_left}
use Rattle.ps_order_laws.specs.Acts.{Acts, Acting, AreSame, GoodPlan, IsEffect, touches}
use Rattle.ps_order_laws.specs.Beginnings.{AnyBeginning, CanGoOn, Comes, IsReady}
use Rattle.ps_order_laws.specs.Beginnings.Comes.{opened, started, closed, retold}
use Rattle.ps_order_laws.specs.Orders.{AllHold, AnyOrder, Event, begins, ends, GoesWell, IsOrder, Stage, waiting, running, ended, all_waiting, moved}
use Rattle.ps_order_laws.proofs.Stages.{less, here, more, place, moved_here, moved_other}
use Rattle.ps_order_laws.proofs.Moments.{Cuts, Fits, cuts_alike, moment, moment_after, moment_before, moment_within}

-- ---- stages

not_waiting : running ≡ waiting → ⊥
not_waiting e = absurd (cc)

not_ended : running ≡ ended → ⊥
not_ended e = absurd (cc)

waits_not_ended : waiting ≡ ended → ⊥
waits_not_ended e = absurd (cc)

some_of : {K : Type 0} (o : Option K) → is_some o ≡ true → (l : K) × (o ≡ Some l)
some_of None e = absurd (cc)
some_of (Some l) e = (l, refl)

-- past the time of one act's event, what fits each other act goes on fitting
fits_on : (t i j : ℕ) (s : Stage) → 2 * i ≤ t → t ≤ suc (2 * i) → (i ≡ j → ⊥) → Fits t j s → Fits (suc t) j s
fits_on t i j waiting a b c f = omega arith
fits_on t i j running a b c f = absurd (c (omega arith))
fits_on t i j ended a b c f = omega arith

module _ {K X : Type 0} (same : K → K → X → Type 0) (n : ℕ) (a : Acts K X) (h : Acting same n a) (k0 : K) (plan : GoodPlan a n k0) where
  abbrev at_time : ℕ → K
  at_time = moment same n a h k0 plan

  abbrev IsCut : (ℕ → Stage) → X → ℕ → Type 0
  IsCut = Cuts same n a h k0 plan

  -- What stays true from event to event, where acts are at these stages.
  record Keeps (now : ℕ → Stage) (k : K) : Type 0 where
    -- no act has started before the acts with arcs to it have ended
    follows : (i j : ℕ) → i < j → j < n → a.arc i j ≡ true → (now j ≡ waiting) ⊎ (now i ≡ ended)
    -- each thing is as it is in the plan at a time before which just those changes of it stand that have been made
    told : (x : X) → (t : ℕ) × (t ≤ 2 * n) × IsCut now x t × same k (at_time t) x

  -- An act that isn't ended, each act with an arc to it having ended.
  record IsDue (now : ℕ → Stage) (i : ℕ) : Type 0 where
    below : i < n
    earlier : (j : ℕ) → j < i → a.arc j i ≡ true → now j ≡ ended
    unended : now i ≡ ended → ⊥

  -- a time of the act, by its stage
  record IsTime (now : ℕ → Stage) (i u : ℕ) : Type 0 where
    least : 2 * i ≤ u
    most : u ≤ suc (2 * i)
    fits : Fits u i (now i)

  earlier_fits : (now : ℕ → Stage) (i u j : ℕ) (x : X) (b : Bool) → a.arc j i ≡ b → IsDue now i → IsTime now i u → touches a i x ≡ true → a.changes j x ≡ true → j < i → Fits u j (now j)
  earlier_fits now i u j x true e d t r c l = rw (d.earlier j l e) (let m = t.least in omega arith)
  earlier_fits now i u j x false e d t r c l = let w = (h.apart j i l d.below e x).0 c in absurd (cc)

  later_fits : (now : ℕ → Stage) (i u j : ℕ) (b : Bool) (x : X) (k : K) → a.arc i j ≡ b → Keeps now k → IsDue now i → IsTime now i u → touches a i x ≡ true → a.changes j x ≡ true → j < n → i < j → Fits u j (now j)
  later_fits now i u j true x k e s d t r c b l =
      elim (s.follows i j l b e) [
        | inl w ↦ rw w (let m = t.most in omega arith)
        | inr w ↦ absurd (d.unended w)
      ]
  later_fits now i u j false x k e s d t r c b l = let w = (h.apart i j l b e x).1 c in absurd (cc)

  -- what an act reads or changes is cut at the act's own time
  cut_there : (now : ℕ → Stage) (k : K) (i u : ℕ) (x : X) → Keeps now k → IsDue now i → IsTime now i u → touches a i x ≡ true → IsCut now x u
  cut_there now k i u x s d t r j b c =
      elim (place i j) [
        | less l ↦ earlier_fits now i u j x (a.arc j i) refl d t r c l
        | here e ↦ subst (λ m. Fits u m (now m)) e t.fits
        | more l ↦ later_fits now i u j (a.arc i j) x k refl s d t r c b l
      ]

  -- so there the knowledge is what it is in the plan
  same_there : (now : ℕ → Stage) (k : K) (i u : ℕ) → Keeps now k → IsDue now i → IsTime now i u → AreSame same (touches a i) k (at_time u)
  same_there now k i u s d t x r =
      let w = s.told x in
      let fits : u ≤ 2 * n = let b = d.below in let m = t.most in omega arith in
      h.joined k (at_time w.0) (at_time u) x w.3 (cuts_alike same n a h k0 plan now x w.0 u w.1 fits w.2 (cut_there now k i u x s d t r))

  read_there : (now : ℕ → Stage) (k : K) (i u : ℕ) → Keeps now k → IsDue now i → IsTime now i u → AreSame same (a.reads i) k (at_time u)
  read_there now k i u s d t x r = same_there now k i u s d t x (or_left (a.reads i x) (a.changes i x) r)

  -- ---- one event

  module _ (now : ℕ → Stage) (k : K) (i u : ℕ) (s : Keeps now k) (d : IsDue now i) (t : IsTime now i u) (stage : Stage) (fits : Fits (suc u) i stage) where
    follows_after : (j m : ℕ) → j < m → m < n → a.arc j m ≡ true → (moved now i stage m ≡ waiting) ⊎ (moved now i stage j ≡ ended)
    follows_after j m l b e =
        elim (place i m) [
          | less o ↦ other (λ w. omega arith)
          | here w ↦
              let was : now j ≡ ended = d.earlier j (omega arith) (subst (λ v. a.arc j v ≡ true) (sym w) e) in
              inr (moved_other now i j stage (λ v. omega arith) ∙ was)
          | more o ↦ other (λ w. omega arith)
        ]
      where
        other : (i ≡ m → ⊥) → (moved now i stage m ≡ waiting) ⊎ (moved now i stage j ≡ ended)
        other w =
            elim (s.follows j m l b e) [
              | inl was ↦ inl (moved_other now i m stage w ∙ was)
              | inr was ↦ inr (moved_other now i j stage (λ v. d.unended (subst (λ z. now z ≡ ended) (sym v) was)) ∙ was)
            ]

    -- a changed thing is cut at the next time
    cut_changed : (x : X) → a.changes i x ≡ true → IsCut (moved now i stage) x (suc u)
    cut_changed x c j b e =
        elim (place i j) [
          | less l ↦ other (λ w. omega arith)
          | here w ↦ rw (moved_here now i j stage w) (subst (λ m. Fits (suc u) m stage) w fits)
          | more l ↦ other (λ w. omega arith)
        ]
      where
        other : (i ≡ j → ⊥) → Fits (suc u) j (moved now i stage j)
        other w =
            rw (moved_other now i j stage w)
            (fits_on u i j (now j) t.least t.most w (cut_there now k i u x s d t (or_right (a.reads i x) (a.changes i x) c) j b e))

    -- any other thing is cut where it was
    cut_unchanged : (x : X) (v : ℕ) → a.changes i x ≡ false → IsCut now x v → IsCut (moved now i stage) x v
    cut_unchanged x v c f j b e =
        let other : i ≡ j → ⊥ = λ w. let g = subst (λ m. a.changes m x ≡ true) (sym w) e in cc in
        rw (moved_other now i j stage other) (f j b e)

    told_after : (l : K) (x : X) (b : Bool) → a.changes i x ≡ b → AreSame same (a.changes i) l (at_time (suc u)) → ((y : X) → a.changes i y ≡ false → same k l y) → (v : ℕ) × (v ≤ 2 * n) × IsCut (moved now i stage) x v × same l (at_time v) x
    told_after l x true e alike others =
        let m = t.most in
        let b = d.below in
        (suc u, omega arith, cut_changed x e, alike x e)
    told_after l x false e alike others =
        let w = s.told x in
        (w.0, w.1, cut_unchanged x w.0 e w.2, h.joined l k (at_time w.0) x (h.turned k l x (others x e)) w.3)

    -- an effect is defined as it is in the plan, and what stays true stays true
    keeps_on : (effect : K → Option K) → IsEffect same (touches a i) (a.changes i) effect → effect (at_time u) ≡ Some (at_time (suc u)) → (l : K) × (effect k ≡ Some l) × Keeps (moved now i stage) l
    keeps_on effect is e =
        let there = same_there now k i u s d t in
        let w = some_of (effect k) (is.defined k (at_time u) there ∙ ap is_some e) in (
          w.0,
          w.1,
          record {
            follows = follows_after;
            told = λ x. told_after w.0 x (a.changes i x) refl (is.alike k (at_time u) w.0 (at_time (suc u)) there w.1 e) (is.others k w.0 w.1);
          },
        )

  -- ---- all events

  -- an act that runs is due
  running_due : (now : ℕ → Stage) (k : K) (i : ℕ) → Keeps now k → i < n → now i ≡ running → IsDue now i
  running_due now k i s b e = record {
    below = b;
    earlier = λ j l c. elim (s.follows j i l b c) [ inl w ↦ absurd (not_waiting (sym e ∙ w)) | inr w ↦ w ];
    unended = λ w. not_ended (sym e ∙ w);
  }

  running_time : (now : ℕ → Stage) (i : ℕ) → now i ≡ running → IsTime now i (suc (2 * i))
  running_time now i e = record { least = omega arith; most = omega arith; fits = rw e refl }

  all_hold : (now : ℕ → Stage) (k : K) → Keeps now k → AllHold same n a now k
  all_hold now k s i b e =
      h.over i b k (at_time (suc (2 * i))) (read_there now k i (suc (2 * i)) s (running_due now k i s b e) (running_time now i e))
      ∙ ap (a.over i) (moment_within same n a h k0 plan i) ∙ plan.holds i b

  -- where all acts have ended, the knowledge is what the plan comes to
  comes_to : (now : ℕ → Stage) (k : K) → Keeps now k → ((i : ℕ) → i < n → now i ≡ ended) → (x : X) → same k (plan.before n) x
  comes_to now k s o x =
      let w = s.told x in
      let cut : IsCut now x (2 * n) = λ j b e. rw (o j b) (omega arith) in
      let last = h.joined k (at_time w.0) (at_time (2 * n)) x w.3 (cuts_alike same n a h k0 plan now x w.0 (2 * n) w.1 (omega arith) w.2 cut) in
      subst (λ l. same k l x) (moment_before same n a h k0 plan n) last

  -- what an act that waits and is ready does at its start
  start_goes : (now : ℕ → Stage) (k : K) (i : ℕ) → Keeps now k → i < n → now i ≡ waiting → IsReady a.arc now i
      → (a.start i k ≡ true) × (l : K) × (a.begin i k ≡ Some l) × Keeps (moved now i running) l
  start_goes now k i s b e ready =
      let d : IsDue now i = record { below = b; earlier = ready; unended = λ w. waits_not_ended (sym e ∙ w) } in
      let t : IsTime now i (2 * i) = record { least = omega arith; most = omega arith; fits = rw e (omega arith) } in
      let was = moment_before same n a h k0 plan i in
      let starts = h.start i b k (at_time (2 * i)) (read_there now k i (2 * i) s d t) ∙ ap (a.start i) was ∙ plan.starts i b in
      let made : a.begin i (at_time (2 * i)) ≡ Some (at_time (suc (2 * i))) = ap (a.begin i) was ∙ plan.begins i b ∙ ap Some (sym (moment_within same n a h k0 plan i)) in
      let w = keeps_on now k i (2 * i) s d t running refl (a.begin i) (h.begin i b) made in
      (starts, w.0, w.1, w.2)

  -- and one that runs at its end
  end_goes : (now : ℕ → Stage) (k : K) (i : ℕ) → Keeps now k → i < n → now i ≡ running
      → (a.end i k ≡ true) × (l : K) × (a.finish i k ≡ Some l) × Keeps (moved now i ended) l
  end_goes now k i s b e =
      let u = suc (2 * i) in
      let d = running_due now k i s b e in
      let t = running_time now i e in
      let was = moment_within same n a h k0 plan i in
      let closes = h.end i b k (at_time u) (read_there now k i u s d t) ∙ ap (a.end i) was ∙ plan.ends i b in
      let made : a.finish i (at_time u) ≡ Some (at_time (suc u)) = ap (a.finish i) was ∙ plan.finishes i b ∙ ap Some (sym (moment_after same n a h k0 plan i)) in
      let w = keeps_on now k i u s d t ended (omega arith) (a.finish i) (h.finish i b) made in
      (closes, w.0, w.1, w.2)

  goes : (es : List Event) (now : ℕ → Stage) (k : K) → Keeps now k → IsOrder a.arc n now es → GoesWell same n a (plan.before n) now k es
  goes [] now k s o = comes_to now k s o
  goes (begins i ∷ es) now k s o =
      let w = start_goes now k i s o.0 o.1 o.2 in
      (w.0, w.1, w.2, all_hold (moved now i running) w.1 w.3, goes es (moved now i running) w.1 w.3 o.3)
  goes (ends i ∷ es) now k s o =
      let w = end_goes now k i s o.0 o.1 in
      (w.0, w.1, w.2, all_hold (moved now i ended) w.1 w.3, goes es (moved now i ended) w.1 w.3 o.2)

  -- where all acts wait
  keeps_first : Keeps all_waiting k0
  keeps_first = record {
    follows = λ i j l b e. inl refl;
    told = λ x.
        let e : at_time 0 ≡ k0 = moment_before same n a h k0 plan 0 ∙ plan.first in
        (0, omega arith, λ j b c. omega arith, rw e (h.itself k0 x));
  }

  -- ---- beginnings

  same_result : (o : Option K) (l m : K) → o ≡ Some l → o ≡ Some m → l ≡ m
  same_result o l m e f = cc

  keeps_come : (now : ℕ → Stage) (k : K) → Comes same n a k0 now k → Keeps now k
  keeps_come _ _ opened = keeps_first
  keeps_come _ l (started now k _ i c b e ready made) =
      let w = start_goes now k i (keeps_come now k c) b e ready in
      subst (λ m. Keeps (moved now i running) m) (same_result (a.begin i k) w.1 l w.2 made) w.3
  keeps_come _ l (closed now k _ i c b e made) =
      let w = end_goes now k i (keeps_come now k c) b e in
      subst (λ m. Keeps (moved now i ended) m) (same_result (a.finish i k) w.1 l w.2 made) w.3
  keeps_come now l (retold _ k _ c alike) =
      let s = keeps_come now k c in
      record {
        follows = s.follows;
        told = λ x. let w = s.told x in (w.0, w.1, w.2, h.joined l k (at_time w.0) x (h.turned k l x (alike x)) w.3);
      }

  can_go_on : (now : ℕ → Stage) (k : K) → Keeps now k → CanGoOn same n a (plan.before n) now k
  can_go_on now k s = record {
    start = λ i b e ready. let w = start_goes now k i s b e ready in (w.0, ap is_some w.2);
    hold = all_hold now k s;
    end = λ i b e. let w = end_goes now k i s b e in (w.0, ap is_some w.2);
    come = comes_to now k s;
  }

pub any_beginning : (K X : Type 0) (same : K → K → X → Type 0) → AnyBeginning K X same
any_beginning K X same n a h k plan now l c = can_go_on same n a h k plan now l (keeps_come same n a h k plan now l c)

pub any_order : (K X : Type 0) (same : K → K → X → Type 0) → AnyOrder K X same
any_order K X same n a h k plan es o = goes same n a h k plan es all_waiting k (keeps_first same n a h k plan) o

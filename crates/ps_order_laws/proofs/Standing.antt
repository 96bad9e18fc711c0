-- That the events that may come are those that stand as they have to.
use Rattle.std.proofs.Common.{◌≡◌, ℕ, suc, ◌+◌, ◌<◌, Bool, true, false, cond, nat_lt, ◌&&◌, List, [], ◌∷◌, refl, ap, sym, ◌∙◌, arith}
use Rattle.std.specs.List.{AllByRecursion, AllPairs, count_by}
use Rattle.std.proofs.lemmas.Bool.Decides.{nat_tests}
use Rattle.std.proofs.lemmas.List.Elements.{All-from_recursion, recursion_from_All}
use Rattle.std.proofs.lemmas.List.Kept.{AllPairs-cons}
use Rattle.std.proofs.lemmas.List.Sums.{sum_by-cons}
use Rattle.ps_order_laws.specs.Orders.{Event, begins, ends, IsOrder, Stage, waiting, running, ended, all_waiting, moved}
use Rattle.ps_order_laws.specs.Standing.{OrdersStand, act_of, comes_first, same_event}
use Rattle.ps_order_laws.proofs.Stages.{less, here, more, place, alike, unlike, moved_here, moved_other}

-- ---- pairs

abbrev Pairs : {X : Type 0} → (X → X → Type 0) → List X → Type 0
Pairs R [] = Unit {0}
Pairs R (x ∷ xs) = AllByRecursion (R x) xs × Pairs R xs

pairs_from : {X : Type 0} (R : X → X → Type 0) (xs : List X) → AllPairs R xs → Pairs R xs
pairs_from R [] h = tt
pairs_from R (x ∷ xs) h = (
  recursion_from_All (R x) xs (λ k d b. h 0 (suc k) d (omega arith) (omega arith)),
  pairs_from R xs (λ i j d l b. h (suc i) (suc j) d (omega arith) (omega arith)),
)

from_pairs : {X : Type 0} (R : X → X → Type 0) (xs : List X) → Pairs R xs → AllPairs R xs
from_pairs R [] h = λ i j d l b. absurd (omega arith)
from_pairs R (x ∷ xs) h = AllPairs-cons R x xs (All-from_recursion (R x) xs h.0) (from_pairs R xs h.1)

-- ---- how often events are to come

-- how often an event stands in a list
abbrev times : Event → List Event → ℕ
times e es = count_by (same_event e) es

times-cons : (e f : Event) (es : List Event) → times e (f ∷ es) ≡ cond (same_event e f) 1 0 + times e es
times-cons e f es = sum_by-cons (λ x. cond (same_event e x) 1 0) f es

same_itself : (e : Event) → same_event e e ≡ true
same_itself (begins i) = alike i i refl
same_itself (ends i) = alike i i refl

is_same : (e f : Event) → same_event e f ≡ true → e ≡ f
is_same (begins i) (begins j) t = let e : i ≡ j = grind (arith, nat_tests) in ap begins e
is_same (begins i) (ends j) t = absurd (cc)
is_same (ends i) (begins j) t = absurd (cc)
is_same (ends i) (ends j) t = let e : i ≡ j = grind (arith, nat_tests) in ap ends e

-- how often an event is to come where its act is at this stage
abbrev to_come : Stage → Event → ℕ
to_come waiting e = 1
to_come running (begins i) = 0
to_come running (ends i) = 1
to_come ended e = 0

step_begins : (now : ℕ → Stage) (i : ℕ) → now i ≡ waiting → (e : Event) → cond (same_event e (begins i)) 1 0 + to_come (moved now i running (act_of e)) e ≡ to_come (now (act_of e)) e
step_begins now i w (begins m) =
    elim (place i m) [
      | less l ↦ rw (unlike m i (λ v. omega arith), moved_other now i m running (λ v. omega arith)) (omega arith)
      | here e ↦ rw (alike m i (sym e), moved_here now i m running e, sym (ap now e) ∙ w) refl
      | more l ↦ rw (unlike m i (λ v. omega arith), moved_other now i m running (λ v. omega arith)) (omega arith)
    ]
step_begins now i w (ends m) =
    elim (place i m) [
      | less l ↦ rw (moved_other now i m running (λ v. omega arith)) (omega arith)
      | here e ↦ rw (moved_here now i m running e, sym (ap now e) ∙ w) refl
      | more l ↦ rw (moved_other now i m running (λ v. omega arith)) (omega arith)
    ]

step_ends : (now : ℕ → Stage) (i : ℕ) → now i ≡ running → (e : Event) → cond (same_event e (ends i)) 1 0 + to_come (moved now i ended (act_of e)) e ≡ to_come (now (act_of e)) e
step_ends now i w (begins m) =
    elim (place i m) [
      | less l ↦ rw (moved_other now i m ended (λ v. omega arith)) (omega arith)
      | here e ↦ rw (moved_here now i m ended e, sym (ap now e) ∙ w) refl
      | more l ↦ rw (moved_other now i m ended (λ v. omega arith)) (omega arith)
    ]
step_ends now i w (ends m) =
    elim (place i m) [
      | less l ↦ rw (unlike m i (λ v. omega arith), moved_other now i m ended (λ v. omega arith)) (omega arith)
      | here e ↦ rw (alike m i (sym e), moved_here now i m ended e, sym (ap now e) ∙ w) refl
      | more l ↦ rw (unlike m i (λ v. omega arith), moved_other now i m ended (λ v. omega arith)) (omega arith)
    ]

is_ended : (s : Stage) (i : ℕ) → to_come s (ends i) ≡ 0 → s ≡ ended
is_ended waiting i e = absurd (omega arith)
is_ended running i e = absurd (omega arith)
is_ended ended i e = refl

is_waiting : (s : Stage) (i : ℕ) → 0 < to_come s (begins i) → s ≡ waiting
is_waiting waiting i e = refl
is_waiting running i e = absurd (omega arith)
is_waiting ended i e = absurd (omega arith)

is_running : (s : Stage) (i : ℕ) → 0 < to_come s (ends i) → to_come s (begins i) ≡ 0 → s ≡ running
is_running waiting i e f = absurd (omega arith)
is_running running i e f = refl
is_running ended i e f = absurd (omega arith)

module _ (arc : ℕ → ℕ → Bool) where
  abbrev NoneFirst : Event → List Event → Type 0
  NoneFirst e es = AllByRecursion (λ f. comes_first arc f e ≡ false) es

  none_at : (e f : Event) (es : List Event) (b : Bool) → comes_first arc f e ≡ b → (comes_first arc f e ≡ true → times f (f ∷ es) ≡ 0) → comes_first arc f e ≡ false
  none_at e f es true c h =
      let none = h c in
      let one : times f (f ∷ es) ≡ 1 + times f es = times-cons f f es ∙ ap (λ b. cond b 1 0 + times f es) (same_itself f) in
      absurd (omega arith)
  none_at e f es false c h = c

  -- none comes that has to stand before an event, where each such event is to come no more
  none_first : (e : Event) (es : List Event) → ((f : Event) → comes_first arc f e ≡ true → times f es ≡ 0) → NoneFirst e es
  none_first e [] h = tt
  none_first e (f ∷ es) h = (
    none_at e f es (comes_first arc f e) refl (h f),
    none_first e es (λ g c. let none = h g c in omega (arith, times-cons g f es)),
  )

  first_at : (e f g : Event) (b : Bool) → same_event f g ≡ b → comes_first arc g e ≡ false → comes_first arc f e ≡ true → b ≡ false
  first_at e f g true t h c = let s = ap (λ x. comes_first arc x e) (is_same f g t) in absurd (cc)
  first_at e f g false t h c = refl

  first_none : (e f : Event) (es : List Event) → NoneFirst e es → comes_first arc f e ≡ true → times f es ≡ 0
  first_none e f [] h c = refl
  first_none e f (g ∷ es) h c =
      let rest = first_none e f es h.1 c in
      let other = first_at e f g (same_event f g) refl h.0 c in
      times-cons f g es ∙ rw (other, rest) refl

  -- the rest of an order, where acts are at these stages
  record Rest (n : ℕ) (now : ℕ → Stage) (es : List Event) : Type 0 where
    own : AllByRecursion (λ e. act_of e < n) es
    often : (e : Event) → act_of e < n → times e es ≡ to_come (now (act_of e)) e
    ordered : Pairs (λ e f. comes_first arc f e ≡ false) es

  first_of_begins : (n : ℕ) (now : ℕ → Stage) (i : ℕ) (es : List Event) → i < n → ((j : ℕ) → j < i → arc j i ≡ true → now j ≡ ended) → Rest n (moved now i running) es → (f : Event) → comes_first arc f (begins i) ≡ true → times f es ≡ 0
  first_of_begins n now i es b h r (begins j) c = absurd (cc)
  first_of_begins n now i es b h r (ends j) c =
      let l : j < i = under (nat_lt j i) (arc j i) refl c in
      let over : now j ≡ ended = h j l (second (nat_lt j i) (arc j i) c) in
      r.often (ends j) (omega arith) ∙ ap (λ s. to_come s (ends j)) (moved_other now i j running (λ v. omega arith) ∙ over)
    where
      under : (t u : Bool) → nat_lt j i ≡ t → (t && u) ≡ true → j < i
      under true u e d = grind (arith, nat_tests)
      under false u e d = absurd (cc)

      second : (t u : Bool) → (t && u) ≡ true → u ≡ true
      second true u d = d
      second false u d = absurd (cc)

  first_of_ends : (n : ℕ) (now : ℕ → Stage) (i : ℕ) (es : List Event) → i < n → Rest n (moved now i ended) es → (f : Event) → comes_first arc f (ends i) ≡ true → times f es ≡ 0
  first_of_ends n now i es b r (begins j) c =
      let e : j ≡ i = grind (arith, nat_tests) in
      r.often (begins j) (omega arith) ∙ ap (λ s. to_come s (begins j)) (moved_here now i j ended (sym e))
  first_of_ends n now i es b r (ends j) c = absurd (cc)

  rest_of : (n : ℕ) (es : List Event) (now : ℕ → Stage) → IsOrder arc n now es → Rest n now es
  rest_of n [] now o = record { own = tt; often = λ e b. rw (o (act_of e) b) refl; ordered = tt }
  rest_of n (begins i ∷ es) now o =
      let r = rest_of n es (moved now i running) o.3 in
      record {
        own = (o.0, r.own);
        often = λ e b. let now_so = step_begins now i o.1 e in let then_so = r.often e b in omega (arith, times-cons e (begins i) es);
        ordered = (none_first (begins i) es (first_of_begins n now i es o.0 o.2 r), r.ordered);
      }
  rest_of n (ends i ∷ es) now o =
      let r = rest_of n es (moved now i ended) o.2 in
      record {
        own = (o.0, r.own);
        often = λ e b. let now_so = step_ends now i o.1 e in let then_so = r.often e b in omega (arith, times-cons e (ends i) es);
        ordered = (none_first (ends i) es (first_of_ends n now i es o.0 r), r.ordered);
      }

  arc_first : (j i : ℕ) → j < i → arc j i ≡ true → (nat_lt j i && arc j i) ≡ true
  arc_first j i l e = let t : nat_lt j i ≡ true = grind (arith, nat_tests) in λ k. t k && e k

  order_of : (n : ℕ) (es : List Event) (now : ℕ → Stage) → Rest n now es → IsOrder arc n now es
  order_of n [] now r = λ i b. is_ended (now i) i (sym (r.often (ends i) b))
  order_of n (begins i ∷ es) now r =
      let b = (r.own).0 in
      let one = times-cons (begins i) (begins i) es ∙ ap (λ t. cond t 1 0 + times (begins i) es) (same_itself (begins i)) in
      let was = r.often (begins i) b in
      let waits = is_waiting (now i) i (omega arith) in (
        b,
        waits,
        λ j l e.
            let none = first_none (begins i) (ends j) es (r.ordered).0 (arc_first j i l e) in
            let all = times-cons (ends j) (begins i) es in
            let then_so = r.often (ends j) (omega arith) in
            is_ended (now j) j (omega arith),
        order_of n es (moved now i running) (record {
          own = (r.own).1;
          often = λ e c. let now_so = step_begins now i waits e in let then_so = r.often e c in omega (arith, times-cons e (begins i) es);
          ordered = (r.ordered).1;
        }),
      )
  order_of n (ends i ∷ es) now r =
      let b = (r.own).0 in
      let one = times-cons (ends i) (ends i) es ∙ ap (λ t. cond t 1 0 + times (ends i) es) (same_itself (ends i)) in
      let was = r.often (ends i) b in
      let none = first_none (ends i) (begins i) es (r.ordered).0 (alike i i refl) in
      let all = times-cons (begins i) (ends i) es in
      let begun = r.often (begins i) b in
      let runs = is_running (now i) i (omega arith) (omega arith) in (
        b,
        runs,
        order_of n es (moved now i ended) (record {
          own = (r.own).1;
          often = λ e c. let now_so = step_ends now i runs e in let then_so = r.often e c in omega (arith, times-cons e (ends i) es);
          ordered = (r.ordered).1;
        }),
      )

pub orders_stand : OrdersStand
orders_stand arc n es = (
  λ o.
      let r = rest_of arc n es all_waiting o in
      record {
        own = All-from_recursion (λ e. act_of e < n) es r.own;
        once = r.often;
        ordered = from_pairs (λ e f. comes_first arc f e ≡ false) es r.ordered;
      },
  λ s.
      order_of arc n es all_waiting (record {
        own = recursion_from_All (λ e. act_of e < n) es s.own;
        often = s.once;
        ordered = pairs_from (λ e f. comes_first arc f e ≡ false) es s.ordered;
      }),
)

-- That each order of starts and ends that the arcs of a good plan's ground actions allow goes well.
use Rattle.std.proofs.Common.{◌≡◌, ℕ, zero, suc, ◌<◌, true, Some, None, is_some, is_ok as is_fine, Result, Ok, Err, List, [], ◌∷◌, All, length, slice_get, refl, ap, sym, ◌∙◌, subst, arith}
use Rattle.std.specs.Result.{result_ok}
use Rattle.std.proofs.lemmas.List.Elements.{All-nil, All-cons}
use Rattle.ps_world.specs.declared.domains.Domain.{Domain}
use Rattle.ps_world.specs.declared.known.Knowledge.{Knowledge}
use Rattle.ps_action.specs.Effects.{effect}
use Rattle.ps_action.specs.declared.acts.GroundAction.{GroundAction}
use Rattle.ps_action.specs.declared.refusals.EffectRefusal.{EffectRefusal}
use Rattle.ps_order_laws.proofs.Going.{any_beginning, any_order}
use Rattle.ps_order_laws.specs.Beginnings.{CanGoOn as CanAllGoOn, Comes}
use Rattle.ps_order_laws.specs.Beginnings.Comes.{opened as all_opened, started as all_started, closed as all_closed, retold as all_retold}
use Rattle.ps_order_laws.specs.Acts.{GoodPlan}
use Rattle.ps_order_laws.specs.Orders.{AllHold as AllHolds, Event, begins, ends, GoesWell, IsOrder, Stage, running, ended, all_waiting, moved}
use Rattle.ps_action.specs.Arcs.{arcs_of, is_arc}
use Rattle.ps_action.specs.ArcTables.{Pairs, has_pair}
use Rattle.ps_arcs.specs.Commuting.{AllHold, EveryOrderGoesWell, GoWell, IsGood, OrdersGoWell, TellTheSame}
use Rattle.ps_arcs.specs.Beginnings.{BeginningsGoWell, CanGoOn, Come, TruthReadsWhatIsTold}
use Rattle.ps_arcs.specs.Beginnings.Come.{opened, started, closed, retold}
use Rattle.ps_arcs.proofs.Listed.{arcs_are_listed}
use Rattle.ps_arcs.proofs.Meeting.{all_told}
use Rattle.ps_arcs.proofs.Acting.{Told, SameAt, starts, lasts, closes, begun, finished, acts_of, acting}
use Rattle.ps_arcs.proofs.Steps.{parts}
use Rattle.ps_eval.specs.Laws.{Agree}
use Rattle.ps_action.specs.Things.{touched}
use Rattle.ps_action.specs.Touching.{read_by_list}
use Rattle.ps_eval.proofs.Reading.{truth_reads_what_is_named}

-- ---- a good plan

module _ (d : Domain) (last : Knowledge) where
  -- the knowledge before each ground action, where past them all it is the last one
  before_at : (gs : List GroundAction) (k : Knowledge) → IsGood d k gs last → ℕ → Knowledge
  before_at [] k g i = k
  before_at (a ∷ gs) k g zero = k
  before_at (a ∷ gs) k g (suc i) = before_at gs g.0 g.2 i

  -- the knowledge between the start and the end of each
  within_at : (gs : List GroundAction) (k : Knowledge) → IsGood d k gs last → ℕ → Knowledge
  within_at [] k g i = k
  within_at (a ∷ gs) k g zero = (parts d 0 a k g.0 g.1).during
  within_at (a ∷ gs) k g (suc i) = within_at gs g.0 g.2 i

  first_at : (gs : List GroundAction) (k : Knowledge) (g : IsGood d k gs last) → before_at gs k g 0 ≡ k
  unfolding before_at
  first_at [] k g = refl
  first_at (a ∷ gs) k g = refl

  last_at : (gs : List GroundAction) (k : Knowledge) (g : IsGood d k gs last) → before_at gs k g (length gs) ≡ last
  unfolding before_at
  last_at [] k g = g
  last_at (a ∷ gs) k g = last_at gs g.0 g.2

  starts_at : (gs : List GroundAction) (k : Knowledge) (g : IsGood d k gs last) (i : ℕ) → starts d (slice_get gs i) (before_at gs k g i) ≡ true
  unfolding before_at
  starts_at [] k g i = refl
  starts_at (a ∷ gs) k g zero = (parts d 0 a k g.0 g.1).start
  starts_at (a ∷ gs) k g (suc i) = starts_at gs g.0 g.2 i

  begins_at : (gs : List GroundAction) (k : Knowledge) (g : IsGood d k gs last) (i : ℕ) → begun d (slice_get gs i) (before_at gs k g i) ≡ Some (within_at gs k g i)
  unfolding before_at within_at
  begins_at [] k g i = refl
  begins_at (a ∷ gs) k g zero = ap result_ok (parts d 0 a k g.0 g.1).begin
  begins_at (a ∷ gs) k g (suc i) = begins_at gs g.0 g.2 i

  lasts_at : (gs : List GroundAction) (k : Knowledge) (g : IsGood d k gs last) (i : ℕ) → lasts d (slice_get gs i) (within_at gs k g i) ≡ true
  unfolding within_at
  lasts_at [] k g i = refl
  lasts_at (a ∷ gs) k g zero = (parts d 0 a k g.0 g.1).over
  lasts_at (a ∷ gs) k g (suc i) = lasts_at gs g.0 g.2 i

  closes_at : (gs : List GroundAction) (k : Knowledge) (g : IsGood d k gs last) (i : ℕ) → closes d (slice_get gs i) (within_at gs k g i) ≡ true
  unfolding within_at
  closes_at [] k g i = refl
  closes_at (a ∷ gs) k g zero = (parts d 0 a k g.0 g.1).end
  closes_at (a ∷ gs) k g (suc i) = closes_at gs g.0 g.2 i

  finishes_at : (gs : List GroundAction) (k : Knowledge) (g : IsGood d k gs last) (i : ℕ) → finished d (slice_get gs i) (within_at gs k g i) ≡ Some (before_at gs k g (suc i))
  unfolding before_at within_at
  finishes_at [] k g i = refl
  finishes_at (a ∷ gs) k g zero =
      ap result_ok (parts d 0 a k g.0 g.1).finish ∙ ap Some (sym (first_at gs g.0 g.2))
  finishes_at (a ∷ gs) k g (suc i) = finishes_at gs g.0 g.2 i

  good_plan : (gs : List GroundAction) (k : Knowledge) → IsGood d k gs last → GoodPlan (acts_of d gs) (length gs) k
  good_plan gs k g = record {
    before = before_at gs k g;
    within = within_at gs k g;
    first = first_at gs k g;
    starts = λ i l. starts_at gs k g i;
    begins = λ i l. begins_at gs k g i;
    holds = λ i l. lasts_at gs k g i;
    ends = λ i l. closes_at gs k g i;
    finishes = λ i l. finishes_at gs k g i;
  }

-- ---- an order

-- at each place within the list a ground action stands
pub stands : (gs : List GroundAction) (i : ℕ) → i < length gs → (a : GroundAction) × (slice_get gs i ≡ Some a)
stands [] i l = absurd (omega (arith, l))
stands (a ∷ gs) zero l = (a, refl)
stands (a ∷ gs) (suc i) l = stands gs i (omega (arith, l))

within : (gs : List GroundAction) (i : ℕ) (a : GroundAction) → slice_get gs i ≡ Some a → i < length gs
within [] i a e = absurd (cc)
within (b ∷ gs) zero a e = omega arith
within (b ∷ gs) (suc i) a e = let l = within gs i a e in omega (arith, l)

-- an outcome that gives a knowledge is no refusal
is_ok : (r : Result Knowledge EffectRefusal) (k : Knowledge) → result_ok r ≡ Some k → r ≡ Ok k
is_ok (Ok l) k e = let same : l ≡ k = cc in ap Ok same
is_ok (Err l) k e = absurd (cc)

module _ (d : Domain) (gs : List GroundAction) (last : Knowledge) where
  tell_the_same : (k l : Knowledge) → l ≡ last → ((x : Told) → SameAt k l x) → TellTheSame k last
  tell_the_same k l e h =
      let same : (x : Told) → SameAt k last x = subst (λ m. (x : Told) → SameAt k m x) e h in
      record { instances = (same None).0; goal = (same None).1; things = all_told k last (same None).0 (λ x. same (Some x)) }

  holds_all : (now : ℕ → Stage) (k : Knowledge) → AllHolds SameAt (length gs) (acts_of d gs) now k → AllHold d gs now k
  holds_all now k h i a e r = subst (λ o. lasts d o k ≡ true) e (h i (within gs i a e) r)

  go_well : (es : List Event) (now : ℕ → Stage) (k l : Knowledge) → l ≡ last → IsOrder (is_arc gs) (length gs) now es → GoesWell SameAt (length gs) (acts_of d gs) l now k es → GoWell d gs last now k es
  go_well [] now k l e o h = tell_the_same k l e h
  go_well (begins i ∷ es) now k l e o h =
      let w = stands gs i o.0 in (
        w.0,
        h.1,
        w.1,
        subst (λ p. starts d p k ≡ true) w.1 h.0,
        is_ok (effect d k (w.0).effects.at_start) h.1 (subst (λ p. begun d p k ≡ Some h.1) w.1 h.2),
        holds_all (moved now i running) h.1 h.3,
        go_well es (moved now i running) h.1 l e o.3 h.4,
      )
  go_well (ends i ∷ es) now k l e o h =
      let w = stands gs i o.0 in (
        w.0,
        h.1,
        w.1,
        subst (λ p. closes d p k ≡ true) w.1 h.0,
        is_ok (effect d k (w.0).effects.at_end) h.1 (subst (λ p. finished d p k ≡ Some h.1) w.1 h.2),
        holds_all (moved now i ended) h.1 h.3,
        go_well es (moved now i ended) h.1 l e o.2 h.4,
      )

pub orders_go_well : OrdersGoWell
unfolding good_plan
orders_go_well d k last gs es g o =
    let n = length gs in
    let plan = good_plan d last gs k g in
    let goes = any_order Knowledge Told SameAt n (acts_of d gs) (acting d gs n) k plan es o in
    go_well d gs last es all_waiting k (plan.before n) (last_at d last gs k g) o goes

-- so it is where the arcs are listed
pub all_listed : (gs : List GroundAction) (arcs : Pairs) → arcs.pairs ≡ arcs_of gs → EveryOrderGoesWell gs arcs
all_listed gs arcs pairs =
    let same : (λ (i j : ℕ). has_pair i j arcs.pairs) ≡ is_arc gs = λ t i j. (ap (has_pair i j) pairs ∙ arcs_are_listed gs i j) t in
    λ d k last es good order. orders_go_well d k last gs es good (subst (λ a. IsOrder a (length gs) all_waiting es) same order)

-- ---- a beginning

fine : (r : Result Knowledge EffectRefusal) → is_some (result_ok r) ≡ true → is_fine r ≡ true
fine (Ok k) e = refl
fine (Err r) e = absurd (cc)

told_at : (k l : Knowledge) → TellTheSame k l → (x : Told) → SameAt k l x
told_at k l t None = (t.instances, t.goal)
told_at k l t (Some x) = t.things (touched x)

module _ (d : Domain) (gs : List GroundAction) (first : Knowledge) where
  all_come : (now : ℕ → Stage) (k : Knowledge) → Come d gs first now k → Comes SameAt (length gs) (acts_of d gs) first now k
  all_come _ _ opened = all_opened
  all_come _ l (started now k _ i a c e w ready made) =
      all_started now k l i (all_come now k c) (within gs i a e) w ready (subst (λ o. begun d o k ≡ Some l) (sym e) (ap result_ok made))
  all_come _ l (closed now k _ i a c e w made) =
      all_closed now k l i (all_come now k c) (within gs i a e) w (subst (λ o. finished d o k ≡ Some l) (sym e) (ap result_ok made))
  all_come now l (retold _ k _ c t) = all_retold now k l (all_come now k c) (told_at k l t)

  go_on : (last end : Knowledge) (now : ℕ → Stage) (k : Knowledge) → end ≡ last → CanAllGoOn SameAt (length gs) (acts_of d gs) end now k → CanGoOn d gs last now k
  go_on last end now k same c = record {
    start = λ i a e w ready.
        let s = c.start i (within gs i a e) w ready in
        (subst (λ o. starts d o k ≡ true) e s.0, fine (effect d k a.effects.at_start) (subst (λ o. is_some (begun d o k) ≡ true) e s.1));
    hold = holds_all d gs last now k c.hold;
    end = λ i a e w.
        let s = c.end i (within gs i a e) w in
        (subst (λ o. closes d o k ≡ true) e s.0, fine (effect d k a.effects.at_end) (subst (λ o. is_some (finished d o k) ≡ true) e s.1));
    come = λ h. tell_the_same d gs last k end same (c.come h);
  }

pub beginnings_go_well : BeginningsGoWell
unfolding good_plan
beginnings_go_well d k last gs now l g c =
    let plan = good_plan d last gs k g in
    go_on d gs k last (plan.before (length gs)) now l (last_at d last gs k g)
    (any_beginning Knowledge Told SameAt (length gs) (acts_of d gs) (acting d gs (length gs)) k plan now l (all_come d gs k now l c))

-- what holds of all holds of each
each : {A : Type 0} (P : A → Type 0) → ((x : A) → P x) → (xs : List A) → All P xs
each P so [] = All-nil P
each P so (x ∷ xs) = All-cons P x xs (so x) (each P so xs)

pub truth_reads_what_is_told : TruthReadsWhatIsTold
truth_reads_what_is_told d one other cs t = truth_reads_what_is_named d one other cs (each (Agree one other) t.things (read_by_list cs))

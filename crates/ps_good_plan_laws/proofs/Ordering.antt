-- The starts and ends of a plan are a beginning of an order that its arcs allow.
use Rattle.std.proofs.Common.{◌≡◌, ℕ, zero, suc, ◌+◌, ◌<◌, ◌&&◌, ◌||◌, Bool, true, false, not, Some, None, List, [], ◌∷◌, ◌++◌, filter, length, map, if◌then◌else◌, refl, arith, ap, sym, ◌∙◌, subst, inl, inr, ◌⊎◌, append-nil, slice_index_or}
use Rattle.std.specs.List.{AllByRecursion, cons_option}
use Rattle.std.proofs.lemmas.Bool.{true≢false, and_parts}
use Rattle.ps_world.proofs.Truths.{not_not}
use Rattle.ps_world.proofs.Optionals.{none_not_some}
use Rattle.ps_action.specs.Arcs.{is_arc}
use Rattle.ps_action.specs.declared.acts.Act.{Act}
use Rattle.ps_action.specs.declared.states.ActState.TheVariants.{Cancelled}
use Rattle.ps_machine.specs.declared.inputs.Input.{Input}
use Rattle.ps_machine.specs.declared.journal.CancelWhy.{CancelWhy}
use Rattle.ps_machine.specs.declared.journal.CancelWhy.TheVariants as cancel
use Rattle.ps_machine.specs.declared.journal.Event.{Event}
use Rattle.ps_machine.specs.declared.journal.Event.TheVariants as event
use Rattle.ps_machine.specs.declared.journal.Entry.{Entry}
use Rattle.ps_order_laws.specs.Orders.{Event as Moment, begins, ends, IsOrder, Stage, waiting, running, ended, all_waiting, moved}
use Rattle.ps_order_laws.proofs.Stages.{less, here, more, place, moved_here, moved_other}
use Rattle.ps_rules.specs.Runs.{is_active, is_running, says_plan, state}
use Rattle.ps_rules.specs.Known.{grounds}
use Rattle.ps_rules.specs.Settled.{may_go_on, places}
use Rattle.ps_rules.specs.Legal.{is_legal, row_allows, same_flag}
use Rattle.ps_rules.specs.History.{any_of, broken, cancels, forced, forced_after, is_fail, IsHistory, unbroken}
use Rattle.ps_rules.specs.Laws.{is_cancel}
use Rattle.ps_rules.specs.Prefixes.{Leads}
use Rattle.ps_rules.proofs.Kept.{fits-legal}
use Rattle.ps_good_plan_laws.specs.Beginnings.{as_moment, JournalsGoInOrder, starts_and_ends}
use Rattle.ps_good_plan_laws.specs.Segments.{IsOfOnePlan}
use Rattle.ps_good_plan_laws.proofs.Following.{after, ends_now, FollowsAfter, FollowsAt, follows_next, follows-push, harmed_next, placed, ready_now, runs_now, starts_now, waits_now}
use Rattle.ps_good_plan_laws.proofs.Leading.{from_history, head_of}

-- ---- lists

-- that an event is one of a list
abbrev In : Moment → List Moment → Type 0
In x [] = ⊥
In x (y ∷ ys) = (x ≡ y) ⊎ In x ys

stands : (x : Moment) (xs : List Moment) (k : ℕ) → k < length xs → slice_index_or xs k x ≡ x → In x xs
stands x [] k l e = absurd (omega (arith, l))
stands x (y ∷ ys) zero l e = inl (sym e)
stands x (y ∷ ys) (suc k) l e = inr (stands x ys k (omega (arith, l)) e)

-- ---- events that may come, whatever comes after them

abbrev MayCome : (ℕ → ℕ → Bool) → ℕ → (ℕ → Stage) → List Moment → Type 0
MayCome arc n now [] = Unit {0}
MayCome arc n now (begins i ∷ es) =
    (i < n) × (now i ≡ waiting) × ((j : ℕ) → j < i → arc j i ≡ true → now j ≡ ended) × MayCome arc n (moved now i running) es
MayCome arc n now (ends i ∷ es) = (i < n) × (now i ≡ running) × MayCome arc n (moved now i ended) es

module _ (arc : ℕ → ℕ → Bool) (n : ℕ) where
  -- an order from these stages on
  abbrev Rest : (ℕ → Stage) → Type 0
  Rest now = (es : List Moment) × IsOrder arc n now es

  -- the first acts have ended
  abbrev Through : ℕ → (ℕ → Stage) → Type 0
  Through m now = (j : ℕ) → j < m → now j ≡ ended

  one_more : (now : ℕ → Stage) (m : ℕ) → Through m now → now m ≡ ended → Through (suc m) now
  one_more now m h e j l =
      elim (place m j) [
        | less k ↦ h j k
        | here s ↦ ap now (sym s) ∙ e
        | more k ↦ absurd (omega (arith, l, k))
      ]

  -- an earlier act stays where it is
  stays_through : (now : ℕ → Stage) (m : ℕ) (s : Stage) → Through m now → Through m (moved now m s)
  stays_through now m s h j l = moved_other now m j s (λ e. omega (arith, l, e)) ∙ h j l

  -- an act comes to its end, where those before it have ended
  one_act : (now : ℕ → Stage) (m : ℕ) → m < n → Through m now → ((next : ℕ → Stage) → Through (suc m) next → Rest next) → (s : Stage) → now m ≡ s → Rest now
  one_act now m l h go waiting s =
      let runs : ℕ → Stage = moved now m running in
      let done : ℕ → Stage = moved runs m ended in
      let w = go done (one_more done m (stays_through runs m ended (stays_through now m running h)) (moved_here runs m m ended refl)) in
      (begins m ∷ ends m ∷ w.0, (l, s, λ j k a. h j k, (l, moved_here now m m running refl, w.1)))
  one_act now m l h go running s =
      let done : ℕ → Stage = moved now m ended in
      let w = go done (one_more done m (stays_through now m ended h) (moved_here now m m ended refl)) in
      (ends m ∷ w.0, (l, s, w.1))
  one_act now m l h go ended s = go now (one_more now m h s)

  -- the acts from a place on can end one after another, where those before it have ended
  completes : (left m : ℕ) (now : ℕ → Stage) → left + m ≡ n → Through m now → Rest now
  completes zero m now e h = ([], λ j l. h j (omega (arith, l, e)))
  completes (suc left) m now e h = one_act now m (omega (arith, e)) h (λ next t. completes left (suc m) next (omega (arith, e)) t) (now m) refl

  -- events that may come are the beginning of an order
  begin_one : (es : List Moment) (now : ℕ → Stage) → MayCome arc n now es → (rest : List Moment) × IsOrder arc n now (es ++ rest)
  begin_one [] now m = completes n 0 now (omega arith) (λ j l. absurd (omega (arith, l)))
  begin_one (begins i ∷ es) now m = let w = begin_one es (moved now i running) m.3 in (w.0, (m.0, m.1, m.2, w.1))
  begin_one (ends i ∷ es) now m = let w = begin_one es (moved now i ended) m.2 in (w.0, (m.0, m.1, w.1))

  -- a beginning in which each act has ended, or ends, is an order
  all_ends : (es rest : List Moment) (now : ℕ → Stage) → IsOrder arc n now (es ++ rest) → ((i : ℕ) → i < n → (now i ≡ ended) ⊎ In (ends i) es) → IsOrder arc n now es
  all_ends [] rest now o h = λ i l. elim (h i l) [ inl e ↦ e | inr m ↦ absurd m ]
  all_ends (begins k ∷ es) rest now o h = (o.0, o.1, o.2, all_ends es rest (moved now k running) o.3 left)
    where
      ends_later : (i : ℕ) → (now i ≡ ended) ⊎ In (ends i) (begins k ∷ es) → (now i ≡ ended) ⊎ In (ends i) es
      ends_later i (inl e) = inl e
      ends_later i (inr (inl e)) = absurd (cc)
      ends_later i (inr (inr m)) = inr m

      other : (i : ℕ) → (k ≡ i → ⊥) → (now i ≡ ended) ⊎ In (ends i) es → (moved now k running i ≡ ended) ⊎ In (ends i) es
      other i apart (inl e) = inl (moved_other now k i running apart ∙ e)
      other i apart (inr m) = inr m

      own : (i : ℕ) → k ≡ i → (now i ≡ ended) ⊎ In (ends i) es → (moved now k running i ≡ ended) ⊎ In (ends i) es
      own i same (inl e) = absurd (let w = sym o.1 ∙ ap now same ∙ e in cc)
      own i same (inr m) = inr m

      left : (i : ℕ) → i < n → (moved now k running i ≡ ended) ⊎ In (ends i) es
      left i l =
          elim (place k i) [
            | less m ↦ other i (λ e. omega (arith, m, e)) (ends_later i (h i l))
            | here e ↦ own i e (ends_later i (h i l))
            | more m ↦ other i (λ e. omega (arith, m, e)) (ends_later i (h i l))
          ]
  all_ends (ends k ∷ es) rest now o h = (o.0, o.1, all_ends es rest (moved now k ended) o.2 left)
    where
      other : (i : ℕ) → (k ≡ i → ⊥) → (now i ≡ ended) ⊎ In (ends i) (ends k ∷ es) → (moved now k ended i ≡ ended) ⊎ In (ends i) es
      other i apart (inl e) = inl (moved_other now k i ended apart ∙ e)
      other i apart (inr (inl e)) = absurd (apart (let same = e in cc))
      other i apart (inr (inr m)) = inr m

      left : (i : ℕ) → i < n → (moved now k ended i ≡ ended) ⊎ In (ends i) es
      left i l =
          elim (place k i) [
            | less m ↦ other i (λ e. omega (arith, m, e)) (h i l)
            | here e ↦ inl (moved_here now k i ended e)
            | more m ↦ other i (λ e. omega (arith, m, e)) (h i l)
          ]

-- ---- what is due

-- a cancel of a started act
abbrev IsStop : (ℕ → Stage) → Event → Type 0
IsStop now (event.Cancel act why) = now act ≡ running
IsStop now e = ⊥

abbrev AreStops : (ℕ → Stage) → List Entry → Type 0
AreStops now due = AllByRecursion (λ c. IsStop now c.what) due

-- it is no start and no end
no_moment : (now : ℕ → Stage) (e : Event) → IsStop now e → as_moment e ≡ None
no_moment now (event.Cancel act why) h = refl
no_moment now e h = absurd h

stops_before : (now : ℕ → Stage) (hand : ℕ) (why : CancelWhy) (test : ℕ → Bool) → ((b : ℕ) → test b ≡ true → now b ≡ running) → (xs : List ℕ) (others : List Entry) → AreStops now others
    → AreStops now (map (cancels hand why) (filter test xs) ++ others)
stops_before now hand why test h [] others m = m
stops_before now hand why test h (x ∷ xs) others m =
    let cases : (b : Bool) → test x ≡ b → AreStops now (map (cancels hand why) (if b then x ∷ filter test xs else filter test xs) ++ others) =
    λ b. elim b as (λ b. test x ≡ b → AreStops now (map (cancels hand why) (if b then x ∷ filter test xs else filter test xs) ++ others)) [
      | true ↦ λ e. (h x e, stops_before now hand why test h xs others m)
      | false ↦ λ e. stops_before now hand why test h xs others m
    ] in
    cases (test x) refl

module _ (i : Input) (acts : List Act) where
  abbrev At : List Entry → (ℕ → Stage) → Type 0
  At = FollowsAt i acts

  -- the cancels that are forced are of started acts
  forced_stops : (es : List Entry) (now : ℕ → Stage) (hand : ℕ) (e : Event) → At es now → AreStops now (forced_after i es hand e)
  forced_stops es now hand e f =
      stops_before now hand cancel.OverAll (λ act. is_active (state act es) && not (may_go_on i es act))
      (λ b t. runs_now i acts es now b f (and_parts (is_active (state b es)) (not (may_go_on i es b)) t).0) (places es)
      (if is_fail e || any_of (broken i es) then map (cancels hand cancel.Stop) (unbroken i es) else [])
      (by_fail (is_fail e || any_of (broken i es)))
    where
      by_fail : (b : Bool) → AreStops now (if b then map (cancels hand cancel.Stop) (unbroken i es) else [])
      by_fail true =
          subst (AreStops now) (append-nil (map (cancels hand cancel.Stop) (unbroken i es)))
          (stops_before now hand cancel.Stop (λ act. is_active (state act es) && may_go_on i es act)
          (λ b t. runs_now i acts es now b f (and_parts (is_active (state b es)) (may_go_on i es b) t).0) (places es) [] tt)
      by_fail false = tt

  stop_next : (es : List Entry) (now : ℕ → Stage) (e : Event) → At es now → IsStop now e → FollowsAfter i acts es e now
  stop_next es now (event.Cancel act why) f h = harmed_next i acts es now act Cancelled f h
  stop_next es now e f h = absurd h

  -- ---- the walk

  abbrev May : (ℕ → Stage) → List Moment → Type 0
  May = MayCome (is_arc (grounds i.domain acts)) (length acts)

  -- a legal event that is a start or an end may come
  first_may : (es : List Entry) (now : ℕ → Stage) (e : Event) (others : List Moment) → At es now → row_allows i es e ≡ true → May (after now e) others → May now (cons_option (as_moment e) others)
  first_may es now (event.Start act) others f h m =
      let s = starts_now i acts es act h in
      (placed i acts es now act f s.0, waits_now i acts es now act f s.1, ready_now i acts es now act f s.1, m)
  first_may es now (event.End act) others f h m =
      let r = runs_now i acts es now act f (ends_now i acts es act h) in
      (f.own act r, r, m)
  first_may es now e others f h m = m

  walk : (before due es rest end : List Entry) (now : ℕ → Stage) → Leads i before due (es ++ rest) end → At before now → AreStops now due → IsOfOnePlan es → May now (starts_and_ends es)
  walk before due [] rest end now l f stops one = tt
  walk before due (e ∷ []) rest end now l f stops one =
      elim (head_of i before due (e ∷ rest) end l) [
        | inl w ↦ subst (λ o. May now (cons_option o [])) (sym (no_moment now e.what (subst (AreStops now) w.1 stops).0)) tt
        | inr w ↦ first_may before now e.what [] f (fits-legal i before e.what w.1) tt
      ]
  walk before due (e ∷ g ∷ es) rest end now l f stops one =
      elim (head_of i before due (e ∷ g ∷ (es ++ rest)) end l) [
        | inl w ↦
            let s = subst (AreStops now) w.1 stops in
            subst (λ o. May now (cons_option o (starts_and_ends (g ∷ es)))) (sym (no_moment now e.what s.0))
            (walk (before ++ e ∷ []) w.0 (g ∷ es) rest end now w.2 (follows-push i acts before e now (stop_next before now e.what f s.0)) s.1 one.1)
        | inr w ↦
            let next_now = after now e.what in
            let there = follows-push i acts before e next_now (follows_next i acts before now e.what f w.1 one.0) in
            first_may before now e.what (starts_and_ends (g ∷ es)) f (fits-legal i before e.what w.1)
            (walk (before ++ e ∷ []) (forced i before e) (g ∷ es) rest end next_now w.2 there (forced_stops (before ++ e ∷ []) next_now e.hand e.what there) one.1)
      ]

-- ---- where the plan begins

-- where an event makes a plan, all acts wait
opened : (i : Input) (acts : List Act) (es : List Entry) (e : Event) → is_legal i es e ≡ true → says_plan e ≡ Some acts → FollowsAfter i acts es e all_waiting
opened i acts es (event.Run for new) h m = record { stage = λ j. refl; own = λ j r. absurd (cc); of_plan = (let e = m in cc); is_open = refl }
opened i acts es (event.Replan new) h m = record {
  stage = λ j. refl;
  own = λ j r. absurd (cc);
  of_plan = (let e = m in cc);
  is_open = not_not (is_running es) (and_parts (same_flag false (not (is_running es))) (row_allows i es (event.Replan new)) h).0;
}
opened i acts es e h m = none_not_some acts m

-- a cancel makes no plan
no_cancel : (acts : List Act) (e : Event) → says_plan e ≡ Some acts → is_cancel e ≡ true → ⊥
no_cancel acts (event.Cancel act why) m c = none_not_some acts m
no_cancel acts e m c = true≢false (sym c)

pub journals_go_in_order : JournalsGoInOrder
journals_go_in_order i all history = record {
  each = λ before es rest e acts is made one.
      let w = from_history i before (es ++ rest) e (subst (IsHistory i) is history) (no_cancel acts e.what made) in
      let there = follows-push i acts before e all_waiting (opened i acts before e.what w.0 made) in
      let come = walk i acts (before ++ e ∷ []) (forced i before e) es rest [] all_waiting w.1 there
      (forced_stops i acts (before ++ e ∷ []) all_waiting e.hand e.what there) one in
      let moments : List Moment = starts_and_ends es in
      let order = begin_one (is_arc (grounds i.domain acts)) (length acts) moments all_waiting come in
      record {
        begun = record { rest = order.0; order = order.1 };
        whole = λ all.
            all_ends (is_arc (grounds i.domain acts)) (length acts) moments order.0 all_waiting order.1
            (λ act l. let c = all act l in inr (stands (ends act) moments c.0 c.1 c.2));
      };
}

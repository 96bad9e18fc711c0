-- The stages that the acts of a plan are at, while their starts and ends follow as a journal tells.
use Rattle.std.proofs.Common.{◌≡◌, ℕ, zero, suc, ◌+◌, ◌<◌, ◌≤◌, ◌==◌, ◌&&◌, ◌||◌, nat_lt, Bool, true, false, not, List, [], ◌∷◌, ◌++◌, length, refl, arith, ap, sym, ◌∙◌, subst}
use Rattle.std.specs.List.{list_all, range_with_len}
use Rattle.std.specs.Option.{unwrap_or}
use Rattle.std.proofs.lemmas.Bool.{eqb-true, ltb-true, true≢false, ne_eqb, eq-eqb, and_parts}
use Rattle.ps_action.specs.Arcs.{is_arc}
use Rattle.ps_action.specs.declared.acts.Act.{Act}
use Rattle.ps_action.specs.declared.states.ActState.{ActState}
use Rattle.ps_action.specs.declared.states.ActState.TheVariants.{Waiting, Active, Done, Failed, Cancelled}
use Rattle.ps_machine.specs.declared.inputs.Input.{Input}
use Rattle.ps_machine.specs.declared.journal.FailWhy.TheVariants as fail
use Rattle.ps_machine.specs.declared.journal.Event.{Event}
use Rattle.ps_machine.specs.declared.journal.Event.TheVariants as event
use Rattle.ps_machine.specs.declared.journal.Entry.{Entry}
use Rattle.ps_order_laws.specs.Beginnings.{IsReady}
use Rattle.ps_order_laws.specs.Orders.{Stage, waiting, running, ended, moved}
use Rattle.ps_order_laws.proofs.Stages.{less, here, more, place, moved_here, moved_other}
use Rattle.ps_rules.specs.Reading.{only_if}
use Rattle.ps_rules.specs.Runs.{is_active, is_done, is_running, is_waiting, plan, says_open, says_plan, says_state, state}
use Rattle.ps_rules.specs.Known.{grounds}
use Rattle.ps_rules.specs.Settled.{any_harmed, is_ready, is_startable}
use Rattle.ps_rules.specs.Legal.{is_act_active, is_legal, is_place, row_allows, same_flag}
use Rattle.ps_rules.proofs.Kept.{fits-legal}
use Rattle.ps_rules.proofs.Pushed.{read-push}
use Rattle.ps_rules.proofs.Failing.{fail_active}
use Rattle.ps_good_plan_laws.specs.Segments.{ends_plan}

-- ---- lists of places

pub all_in : (test : ℕ → Bool) (start n j : ℕ) → list_all test (range_with_len start n) ≡ true → start ≤ j → j < start + n → test j ≡ true
all_in test start zero j h low high = absurd (omega (arith, low, high))
all_in test start (suc n) j h low high =
    let w = and_parts (test start) (list_all test (range_with_len (start + 1) n)) h in
    elim (place start j) [
      | less l ↦ absurd (omega (arith, low, l))
      | here e ↦ ap test (sym e) ∙ w.0
      | more l ↦ all_in test (start + 1) n j w.1 (omega (arith, l)) (omega (arith, high))
    ]

-- ---- states and stages

-- the stage that an act is at, by its state: one that failed or was cancelled has started and never ends
abbrev pub Matches : ActState → Stage → Type 0
Matches Waiting s = s ≡ waiting
Matches Active s = s ≡ running
Matches Done s = s ≡ ended
Matches Failed s = s ≡ running
Matches Cancelled s = s ≡ running

waits : (a : ActState) (s : Stage) → Matches a s → is_waiting a ≡ true → s ≡ waiting
waits Waiting s m h = m
waits Active s m h = absurd (cc)
waits Done s m h = absurd (cc)
waits Failed s m h = absurd (cc)
waits Cancelled s m h = absurd (cc)

pub acts_on : (a : ActState) (s : Stage) → Matches a s → is_active a ≡ true → s ≡ running
acts_on Waiting s m h = absurd (cc)
acts_on Active s m h = m
acts_on Done s m h = absurd (cc)
acts_on Failed s m h = absurd (cc)
acts_on Cancelled s m h = absurd (cc)

pub is_through : (a : ActState) (s : Stage) → Matches a s → is_done a ≡ true → s ≡ ended
is_through Waiting s m h = absurd (cc)
is_through Active s m h = absurd (cc)
is_through Done s m h = m
is_through Failed s m h = absurd (cc)
is_through Cancelled s m h = absurd (cc)

-- an act at one place comes to a state, and to its stage
shifted : (now : ℕ → Stage) (i j : ℕ) (a was : ActState) (s : Stage) → Matches a s → Matches was (now j) → Matches (unwrap_or (only_if (j == i) a) was) (moved now i s j)
shifted now i j a was s m old =
    elim (place i j) [
      | less l ↦ rw (ne_eqb j i (omega (arith, l)), moved_other now i j s (λ e. omega (arith, l, e))) old
      | here e ↦ rw (eq-eqb j i (sym e), moved_here now i j s e) m
      | more l ↦ rw (ne_eqb j i (omega (arith, l)), moved_other now i j s (λ e. omega (arith, l, e))) old
    ]

-- an act at one place comes to a state of the stage that it was at
stayed : (now : ℕ → Stage) (i j : ℕ) (a was : ActState) → Matches a (now i) → Matches was (now j) → Matches (unwrap_or (only_if (j == i) a) was) (now j)
stayed now i j a was m old =
    let cases : (b : Bool) → (j == i) ≡ b → Matches (unwrap_or (only_if b a) was) (now j) = λ b. elim b as (λ b. (j == i) ≡ b → Matches (unwrap_or (only_if b a) was) (now j)) [
      | true ↦ λ e. subst (λ k. Matches a (now k)) (sym (eqb-true j i e)) m
      | false ↦ λ e. old
    ] in
    cases (j == i) refl

-- the stages after an event
abbrev pub after : (ℕ → Stage) → Event → ℕ → Stage
after now (event.Start act) = moved now act running
after now (event.End act) = moved now act ended
after now e = now

-- ---- the acts of a plan

module _ (i : Input) (acts : List Act) where
  -- these are the stages of the plan's acts, in an open run
  pub record Follows (at : ℕ → ActState) (acts_now : List Act) (running_now : Bool) (now : ℕ → Stage) : Type 0 where
    pub stage : (j : ℕ) → Matches (at j) (now j)
    pub own : (j : ℕ) → now j ≡ running → j < length acts
    pub of_plan : acts_now ≡ acts
    pub is_open : running_now ≡ true

  abbrev pub FollowsAt : List Entry → (ℕ → Stage) → Type 0
  FollowsAt es now = Follows (λ j. state j es) (plan es) (is_running es) now

  -- the same after one more event
  abbrev pub FollowsAfter : List Entry → Event → (ℕ → Stage) → Type 0
  FollowsAfter es e now =
      Follows (λ j. unwrap_or (says_state j e) (state j es)) (unwrap_or (says_plan e) (plan es)) (unwrap_or (says_open e) (is_running es)) now

  pub follows-push : (es : List Entry) (e : Entry) (now : ℕ → Stage) → FollowsAfter es e.what now → FollowsAt (es ++ e ∷ []) now
  follows-push es e now f = record {
    stage = λ j. subst (λ s. Matches s (now j)) (sym (read-push (λ s f. unwrap_or (says_state j f) s) Waiting es e)) (f.stage j);
    own = f.own;
    of_plan = read-push (λ a f. unwrap_or (says_plan f) a) [] es e ∙ f.of_plan;
    is_open = read-push (λ b f. unwrap_or (says_open f) b) false es e ∙ f.is_open;
  }

  pub ready_now : (es : List Entry) (now : ℕ → Stage) (act : ℕ) → FollowsAt es now → is_ready i es act ≡ true → IsReady (is_arc (grounds i.domain acts)) now act
  ready_now es now act f r j l arc =
      let tests = (and_parts (is_waiting (state act es)) (list_all (λ j. not (is_arc (grounds i.domain (plan es)) j act) || is_done (state j es)) (range_with_len 0 act)) r).1 in
      let one : (not (is_arc (grounds i.domain (plan es)) j act) || is_done (state j es)) ≡ true =
      all_in (λ j. not (is_arc (grounds i.domain (plan es)) j act) || is_done (state j es)) 0 act j tests (omega arith) (omega (arith, l)) in
      let tied : is_arc (grounds i.domain (plan es)) j act ≡ true = ap (λ p. is_arc (grounds i.domain p) j act) f.of_plan ∙ arc in
      let done : is_done (state j es) ≡ true = sym (ap (λ b. not b || is_done (state j es)) tied) ∙ one in
      is_through (state j es) (now j) (f.stage j) done

  pub waits_now : (es : List Entry) (now : ℕ → Stage) (act : ℕ) → FollowsAt es now → is_ready i es act ≡ true → now act ≡ waiting
  waits_now es now act f r =
      waits (state act es) (now act) (f.stage act)
      (and_parts (is_waiting (state act es)) (list_all (λ j. not (is_arc (grounds i.domain (plan es)) j act) || is_done (state j es)) (range_with_len 0 act)) r).0

  pub runs_now : (es : List Entry) (now : ℕ → Stage) (act : ℕ) → FollowsAt es now → is_act_active es act ≡ true → now act ≡ running
  runs_now es now act f a = acts_on (state act es) (now act) (f.stage act) a

  pub placed : (es : List Entry) (now : ℕ → Stage) (act : ℕ) → FollowsAt es now → is_place es act ≡ true → act < length acts
  placed es now act f p = ltb-true act (length acts) (sym (ap (λ ps. nat_lt act (length ps)) f.of_plan) ∙ p)

  -- what a legal start and a legal end say
  pub starts_now : (es : List Entry) (act : ℕ) → row_allows i es (event.Start act) ≡ true → (is_place es act ≡ true) × (is_ready i es act ≡ true) × (is_startable i es act ≡ true)
  starts_now es act f =
      let p = and_parts (is_place es act) (is_ready i es act && (is_startable i es act && not (any_harmed es))) f in
      let r = and_parts (is_ready i es act) (is_startable i es act && not (any_harmed es)) p.1 in
      (p.0, r.0, (and_parts (is_startable i es act) (not (any_harmed es)) r.1).0)

  pub ends_now : (es : List Entry) (act : ℕ) → row_allows i es (event.End act) ≡ true → is_act_active es act ≡ true
  ends_now es act f = (and_parts (is_act_active es act) _ f).0

  -- ---- one event

  own_more : (now : ℕ → Stage) (act : ℕ) (s : Stage) → ((j : ℕ) → now j ≡ running → j < length acts) → act < length acts → (j : ℕ) → moved now act s j ≡ running → j < length acts
  own_more now act s own l j r =
      elim (place act j) [
        | less m ↦ own j (sym (moved_other now act j s (λ e. omega (arith, m, e))) ∙ r)
        | here e ↦ omega (arith, e, l)
        | more m ↦ own j (sym (moved_other now act j s (λ e. omega (arith, m, e))) ∙ r)
      ]

  -- an act comes to a stage
  shifts : (es : List Entry) (now : ℕ → Stage) (act : ℕ) (a : ActState) (s : Stage) → FollowsAt es now → act < length acts → Matches a s
      → Follows (λ j. unwrap_or (only_if (j == act) a) (state j es)) (plan es) (is_running es) (moved now act s)
  shifts es now act a s f l m = record {
    stage = λ j. shifted now act j a (state j es) s m (f.stage j);
    own = own_more now act s f.own l;
    of_plan = f.of_plan;
    is_open = f.is_open;
  }

  -- an act that was started fails, or is cancelled
  pub harmed_next : (es : List Entry) (now : ℕ → Stage) (act : ℕ) (a : ActState) → FollowsAt es now → Matches a (now act)
      → Follows (λ j. unwrap_or (only_if (j == act) a) (state j es)) (plan es) (is_running es) now
  harmed_next es now act a f m = record { stage = λ j. stayed now act j a (state j es) m (f.stage j); own = f.own; of_plan = f.of_plan; is_open = f.is_open }

  -- a legal event that doesn't end the plan
  pub follows_next : (es : List Entry) (now : ℕ → Stage) (e : Event) → FollowsAt es now → is_legal i es e ≡ true → ends_plan e ≡ false → FollowsAfter es e (after now e)
  follows_next es now (event.Run for new) f h stays =
      absurd (true≢false (sym (and_parts (same_flag true (not (is_running es))) (row_allows i es (event.Run for new)) h).0 ∙ ap not f.is_open))
  follows_next es now (event.Replan new) f h stays = absurd (true≢false stays)
  follows_next es now (event.Over how) f h stays = absurd (true≢false stays)
  follows_next es now (event.Start act) f h stays =
      shifts es now act Active running f (placed es now act f (starts_now es act (fits-legal i es (event.Start act) h)).0) refl
  follows_next es now (event.End act) f h stays =
      shifts es now act Done ended f (f.own act (runs_now es now act f (ends_now es act (fits-legal i es (event.End act) h)))) refl
  follows_next es now (event.Fail act why) f h stays =
      harmed_next es now act Failed f (runs_now es now act f (fail_active i es act why (fits-legal i es (event.Fail act why) h)))
  follows_next es now (event.Cancel act why) f h stays = absurd (true≢false (sym (fits-legal i es (event.Cancel act why) h)))
  follows_next es now e f h stays = f

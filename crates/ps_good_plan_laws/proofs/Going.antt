-- What stays true while the acts of a good plan start and end as a journal tells.
use Rattle.std.proofs.Common.{◌≡◌, ℕ, zero, suc, ◌+◌, ◌<◌, ◌≤◌, ◌&&◌, Bool, true, false, not, Option, Some, None, Result, Ok, Err, is_ok, List, [], ◌∷◌, ◌++◌, length, slice_get, refl, arith, ap, sym, ◌∙◌, subst, inl, inr}
use Rattle.std.specs.List.{list_any, range_with_len}
use Rattle.std.specs.Option.{option_map_or, unwrap_or}
use Rattle.std.proofs.lemmas.Bool.{true≢false, and_parts}
use Rattle.ps_world.specs.declared.domains.Domain.{Domain}
use Rattle.ps_world.specs.declared.known.Knowledge.{Knowledge}
use Rattle.ps_world.specs.declared.actions.Spread.{Spread}
use Rattle.ps_action.specs.Effects.{effect}
use Rattle.ps_action.specs.declared.acts.Act.{Act}
use Rattle.ps_action.specs.declared.acts.GroundAction.{GroundAction}
use Rattle.ps_action.specs.declared.refusals.EffectRefusal.{EffectRefusal}
use Rattle.ps_machine.specs.declared.inputs.Input.{Input}
use Rattle.ps_action.specs.declared.states.ActState.{ActState}
use Rattle.ps_action.specs.declared.states.ActState.TheVariants.{Cancelled}
use Rattle.ps_action.proofs.Contained.{or_cases}
use Rattle.ps_machine.specs.declared.journal.RunKind.{RunKind}
use Rattle.ps_machine.specs.declared.journal.RunKind.TheVariants as run
use Rattle.ps_machine.specs.declared.journal.CancelWhy.{CancelWhy}
use Rattle.ps_machine.specs.declared.journal.Event.{Event}
use Rattle.ps_machine.specs.declared.journal.Event.TheVariants as event
use Rattle.ps_machine.specs.declared.journal.Entry.{Entry}
use Rattle.ps_order_laws.specs.Orders.{Stage, running, ended, moved}
use Rattle.ps_arcs.specs.Beginnings.{CanGoOn, Come}
use Rattle.ps_arcs.specs.Commuting.{IsGood, TellTheSame}
use Rattle.ps_arcs.specs.Beginnings.Come.{started as come_started, closed as come_closed, retold as come_retold}
use Rattle.ps_arcs.proofs.Commuting.{beginnings_go_well, stands}
use Rattle.ps_rules.specs.Runs.{is_running, kind, plan, says_kind, says_open, says_plan, says_state, state}
use Rattle.ps_rules.specs.Known.{are_defined, changed, grounds, hold, kept, know, known_after, part}
use Rattle.ps_rules.specs.Settled.{is_ready, is_startable, may_end, may_go_on, may_start, starts_well, ends_well}
use Rattle.ps_rules.specs.Legal.{is_act_active, is_legal, is_place, row_allows, same_flag}
use Rattle.ps_rules.proofs.Kept.{fits-legal}
use Rattle.ps_rules.proofs.Pushed.{know-push, read-push}
use Rattle.ps_good_plan_laws.specs.Segments.{ends_plan, is_edit}
use Rattle.ps_good_plan_laws.proofs.Following.{after, ends_now, Follows, follows_next, follows-push, harmed_next, placed, ready_now, runs_now, starts_now, waits_now}

-- ---- lists of places

pub any_in : (test : ℕ → Bool) (start n : ℕ) → list_any test (range_with_len start n) ≡ true → (j : ℕ) × (start ≤ j) × (j < start + n) × (test j ≡ true)
any_in test start zero h = absurd (cc)
any_in test start (suc n) h =
    elim (or_cases (test start) (list_any test (range_with_len (start + 1) n)) h) [
      | inl e ↦ (start, omega arith, omega arith, e)
      | inr later ↦ let w = any_in test (start + 1) n later in (w.0, (let l = w.1 in omega (arith, l)), (let l = w.2 in omega (arith, l)), w.3)
    ]

-- ---- effects

-- effects that are defined give the knowledge that is kept
defined : (d : Domain) (k : Knowledge) (es : List Spread) → are_defined d k es ≡ true → (l : Knowledge) × (effect d k es ≡ Ok l) × (kept k (changed d k es) ≡ l)
defined d k es h = by_outcome (effect d k es) refl h
  where
    by_outcome : (r : Result Knowledge EffectRefusal) → effect d k es ≡ r → is_ok r ≡ true → (l : Knowledge) × (effect d k es ≡ Ok l) × (kept k (changed d k es) ≡ l)
    by_outcome (Ok l) e h = (l, e, ap (kept k) e)
    by_outcome (Err r) e h = absurd (cc)

pub part_at : {A : Type 0} (of : GroundAction → List A) (d : Domain) (acts : List Act) (i : ℕ) (a : GroundAction) → slice_get (grounds d acts) i ≡ Some a → part of d acts i ≡ of a
part_at of d acts i a e = ap (λ o. option_map_or of o []) e

-- whether a run is for one act
abbrev pub is_for_act : Option RunKind → Bool
is_for_act (Some run.Action) = true
is_for_act for = false

-- ---- a good plan

module _ (i : Input) (acts : List Act) (first last : Knowledge) (good : IsGood i.domain first (grounds i.domain acts) last) (each : length (grounds i.domain acts) ≡ length acts) where
  abbrev pub gs : List GroundAction
  gs = grounds i.domain acts

  -- what stays true of all that is read
  pub record Goes (k : Knowledge) (at : ℕ → ActState) (acts_now : List Act) (running_now : Bool) (for : Option RunKind) (now : ℕ → Stage) : Type 0 where
    pub come : Come i.domain gs first now k
    pub follows : Follows i acts at acts_now running_now now
    pub by_goal : is_for_act for ≡ false

  abbrev pub GoesAt : List Entry → (ℕ → Stage) → Type 0
  GoesAt es now = Goes (know i es) (λ j. state j es) (plan es) (is_running es) (kind es) now

  -- the same after one more event
  abbrev pub GoesAfter : List Entry → Event → (ℕ → Stage) → Type 0
  GoesAfter es e now =
      Goes (known_after i.domain (plan es) (know i es) e) (λ j. unwrap_or (says_state j e) (state j es)) (unwrap_or (says_plan e) (plan es))
      (unwrap_or (says_open e) (is_running es)) (unwrap_or (says_kind e) (kind es)) now

  pub goes-push : (es : List Entry) (e : Entry) (now : ℕ → Stage) → GoesAfter es e.what now → GoesAt (es ++ e ∷ []) now
  goes-push es e now g = record {
    come = subst (λ k. Come i.domain gs first now k) (sym (know-push i es e)) g.come;
    follows = follows-push i acts es e now g.follows;
    by_goal = ap is_for_act (read-push (λ a f. unwrap_or (says_kind f) a) None es e) ∙ g.by_goal;
  }

  pub going : (es : List Entry) (now : ℕ → Stage) → GoesAt es now → CanGoOn i.domain gs last now (know i es)
  going es now g = beginnings_go_well i.domain first last gs now (know i es) good g.come

  -- ---- what an act can do

  -- the ground action of an act of the plan
  ground_at : (act : ℕ) → act < length acts → (a : GroundAction) × (slice_get gs act ≡ Some a)
  ground_at act l = stands gs act (omega (arith, l, each))

  -- a list in it is read from the plan of the journal
  part_now : {A : Type 0} (of : GroundAction → List A) (es : List Entry) (now : ℕ → Stage) (act : ℕ) (a : GroundAction) → GoesAt es now → slice_get gs act ≡ Some a → part of i.domain (plan es) act ≡ of a
  part_now of es now act a g e = ap (λ ps. part of i.domain ps act) g.follows.of_plan ∙ part_at of i.domain acts act a e

  -- a ready act is startable
  pub ready_starts : (es : List Entry) (now : ℕ → Stage) (act : ℕ) → GoesAt es now → is_place es act ≡ true → is_ready i es act ≡ true → is_startable i es act ≡ true
  ready_starts es now act g p r =
      let w = ground_at act (placed i acts es now act g.follows p) in
      let s = (going es now g).start act w.0 w.1 (waits_now i acts es now act g.follows r) (ready_now i acts es now act g.follows r) in
      let one : may_start i es act ≡ true = ap (λ cs. hold i.domain (know i es) cs) (part_now (λ g. g.conditions.at_start) es now act w.0 g w.1) ∙ s.0 in
      let two : starts_well i es act ≡ true = ap (λ cs. are_defined i.domain (know i es) cs) (part_now (λ g. g.effects.at_start) es now act w.0 g w.1) ∙ s.1 in
      ap (λ b. b && starts_well i es act) one ∙ two

  -- an active act may go on, and may end well
  pub active_ends : (es : List Entry) (now : ℕ → Stage) (act : ℕ) → GoesAt es now → is_act_active es act ≡ true → (may_go_on i es act ≡ true) × (may_end i es act ≡ true) × (ends_well i es act ≡ true)
  active_ends es now act g a =
      let r = runs_now i acts es now act g.follows a in
      let w = ground_at act (g.follows.own act r) in
      let s = (going es now g).end act w.0 w.1 r in
      let o = (going es now g).hold act w.0 w.1 r in (
        ap (λ cs. hold i.domain (know i es) cs) (part_now (λ g. g.conditions.over_all) es now act w.0 g w.1) ∙ o,
        ap (λ cs. hold i.domain (know i es) cs) (part_now (λ g. g.conditions.at_end) es now act w.0 g w.1) ∙ s.0,
        ap (λ cs. are_defined i.domain (know i es) cs) (part_now (λ g. g.effects.at_end) es now act w.0 g w.1) ∙ s.1,
      )

  -- ---- one event

  abbrev Comes : List Entry → Event → (ℕ → Stage) → Type 0
  Comes es e now = Come i.domain gs first now (known_after i.domain (plan es) (know i es) e)

  starts_come : (es : List Entry) (now : ℕ → Stage) (act : ℕ) → GoesAt es now → row_allows i es (event.Start act) ≡ true → Comes es (event.Start act) (moved now act running)
  starts_come es now act g f =
      let s = starts_now i acts es act f in
      let w = ground_at act (placed i acts es now act g.follows s.0) in
      let same : part (λ g. g.effects.at_start) i.domain (plan es) act ≡ (w.0).effects.at_start = part_now (λ g. g.effects.at_start) es now act w.0 g w.1 in
      let well = (and_parts (may_start i es act) (starts_well i es act) s.2).1 in
      let made = defined i.domain (know i es) (w.0).effects.at_start (sym (ap (λ cs. are_defined i.domain (know i es) cs) same) ∙ well) in
      subst (λ k. Come i.domain gs first (moved now act running) k) (sym (ap (λ cs. kept (know i es) (changed i.domain (know i es) cs)) same ∙ made.2))
      (come_started now (know i es) made.0 act w.0 g.come w.1 (waits_now i acts es now act g.follows s.1) (ready_now i acts es now act g.follows s.1) made.1)

  ends_come : (es : List Entry) (now : ℕ → Stage) (act : ℕ) → GoesAt es now → row_allows i es (event.End act) ≡ true → Comes es (event.End act) (moved now act ended)
  ends_come es now act g f =
      let a = ends_now i acts es act f in
      let r = runs_now i acts es now act g.follows a in
      let w = ground_at act (g.follows.own act r) in
      let same : part (λ g. g.effects.at_end) i.domain (plan es) act ≡ (w.0).effects.at_end = part_now (λ g. g.effects.at_end) es now act w.0 g w.1 in
      let made = defined i.domain (know i es) (w.0).effects.at_end (sym (ap (λ cs. are_defined i.domain (know i es) cs) same) ∙ (active_ends es now act g a).2) in
      subst (λ k. Come i.domain gs first (moved now act ended) k) (sym (ap (λ cs. kept (know i es) (changed i.domain (know i es) cs)) same ∙ made.2))
      (come_closed now (know i es) made.0 act w.0 g.come w.1 r made.1)

  -- a legal event that is no edit that counts
  comes_next : (es : List Entry) (now : ℕ → Stage) (e : Event) → GoesAt es now → row_allows i es e ≡ true
      → (is_edit e ≡ true → TellTheSame (know i es) (known_after i.domain (plan es) (know i es) e)) → Comes es e (after now e)
  comes_next es now (event.Start act) g f same = starts_come es now act g f
  comes_next es now (event.End act) g f same = ends_come es now act g f
  comes_next es now (event.Edit by edit) g f same =
      come_retold now (know i es) (known_after i.domain (plan es) (know i es) (event.Edit by edit)) g.come (same refl)
  comes_next es now e g f same = g.come

  -- what the run is for stays
  kind_stays : (es : List Entry) (now : ℕ → Stage) (e : Event) → GoesAt es now → is_legal i es e ≡ true → is_for_act (unwrap_or (says_kind e) (kind es)) ≡ false
  kind_stays es now (event.Run for new) g h =
      absurd (true≢false (sym (and_parts (same_flag true (not (is_running es))) (row_allows i es (event.Run for new)) h).0 ∙ ap not g.follows.is_open))
  kind_stays es now e g h = g.by_goal

  -- a legal event that doesn't end the plan, and is no edit that counts
  pub goes_next : (es : List Entry) (now : ℕ → Stage) (e : Event) → GoesAt es now → is_legal i es e ≡ true → ends_plan e ≡ false
      → (is_edit e ≡ true → TellTheSame (know i es) (known_after i.domain (plan es) (know i es) e)) → GoesAfter es e (after now e)
  goes_next es now e g h stays same = record {
    come = comes_next es now e g (fits-legal i es e h) same;
    follows = follows_next i acts es now e g.follows h stays;
    by_goal = kind_stays es now e g h;
  }

  -- an act that was started is cancelled
  pub cancel_next : (es : List Entry) (now : ℕ → Stage) (act : ℕ) (why : CancelWhy) → GoesAt es now → now act ≡ running → GoesAfter es (event.Cancel act why) now
  cancel_next es now act why g r = record { come = g.come; follows = harmed_next i acts es now act Cancelled g.follows r; by_goal = g.by_goal }

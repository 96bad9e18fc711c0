-- What a settled run's tests read of the entries, and which events leave it.
use Rattle.std.proofs.Common.{◌≡◌, ℕ, ◌+◌, ◌&&◌, ◌||◌, Bool, true, false, not, Option, Some, None, is_none, option_and_then, List, [], ◌∷◌, ◌++◌, slice_get, length, if◌then◌else◌, nat_le, refl, ap, sym, ◌∙◌}
use Rattle.std.specs.List.{list_all, list_any, range_with_len}
use Rattle.std.specs.Option.{unwrap_or}
use Rattle.std.proofs.lemmas.Bool.{and_from, true≢false, and_parts}
use Rattle.ps_world.specs.declared.names.Name.{Name}
use Rattle.ps_world.specs.declared.known.Knowledge.{Knowledge}
use Rattle.ps_action.specs.Arcs.{is_arc}
use Rattle.ps_action.specs.declared.acts.Act.{Act}
use Rattle.ps_action.specs.declared.states.ActState.{ActState}
use Rattle.ps_action.specs.declared.states.ActState.TheVariants.{Waiting}
use Rattle.ps_machine.specs.declared.inputs.Input.{Input}
use Rattle.ps_machine.specs.declared.journal.RunKind.{RunKind}
use Rattle.ps_machine.specs.declared.journal.RunKind.TheVariants as run
use Rattle.ps_machine.specs.declared.journal.Outcome.{Outcome}
use Rattle.ps_machine.specs.declared.journal.Outcome.TheVariants as outcome
use Rattle.ps_machine.specs.declared.journal.Event.{Event}
use Rattle.ps_machine.specs.declared.journal.Event.TheVariants as event
use Rattle.ps_machine.specs.declared.journal.Entry.{Entry}
use Rattle.ps_rules.specs.Runs.{is_active, is_done, is_harmed, is_replan, is_running, is_waiting, kind, opens, plan, replans, says_kind, says_open, says_plan, says_state, state}
use Rattle.ps_rules.specs.Auctions.{is_engaged, says_engaged}
use Rattle.ps_rules.specs.Known.{are_defined, grounds, hold, know, part}
use Rattle.ps_rules.specs.Members.{edit_where, is_observed, observed, observers, performers}
use Rattle.ps_rules.specs.Settled.{any_harmed, is_blocked, is_met, is_reached, is_settled, places, unreached, verdict}
use Rattle.ps_rules.proofs.Pushed.{read-push}
use Rattle.ps_stale_plan_laws.specs.Asked.{ends_plan, may_come}

-- ---- what is read

-- all that tells whether a run is open and settled and how it ends, but for what observers do, reads the same of these entries and of those
pub record ReadsTheSame (i : Input) (es fs : List Entry) : Type 0 where
  pub states : (act : ℕ) → state act fs ≡ state act es
  pub plans : plan fs ≡ plan es
  pub engaged : (p : Name) → is_engaged p fs ≡ is_engaged p es
  pub running : is_running fs ≡ is_running es
  pub kinds : kind fs ≡ kind es
  pub replanned : replans fs ≡ replans es
  pub known : know i fs ≡ know i es

-- whether an act is ready, where the plan and the states are these
abbrev ready_by : Input → List Act → (ℕ → ActState) → ℕ → Bool
ready_by i acts states act =
    is_waiting (states act) && list_all (λ j. not (is_arc (grounds i.domain acts) j act) || is_done (states j)) (range_with_len 0 act)

-- whether an act is startable, where this is known
abbrev startable_by : Input → List Act → Knowledge → ℕ → Bool
startable_by i acts k act =
    hold i.domain k (part (λ g. g.conditions.at_start) i.domain acts act) && are_defined i.domain k (part (λ g. g.effects.at_start) i.domain acts act)

-- whether an act was harmed
abbrev harmed_by : List Act → (ℕ → ActState) → Bool
harmed_by acts states = list_any (λ act. is_harmed (states act)) (range_with_len 0 (length acts))

-- whether a run is blocked, where observers have done so many units
abbrev blocked_by : Input → List Act → (ℕ → ActState) → Knowledge → (Name → ℕ) → Bool
blocked_by i acts states k units =
    not (harmed_by acts states)
    && (list_any (ready_by i acts states) (range_with_len 0 (length acts))
    && (list_all (λ act. not (ready_by i acts states act) || not (startable_by i acts k act)) (range_with_len 0 (length acts))
    && list_all (λ o. is_none (option_and_then (edit_where i.domain k) (slice_get o.units (units o.name)))) (observers i)))

module _ (i : Input) (es fs : List Entry) (same : ReadsTheSame i es fs) where
  pub blocked_same : ((o : Name) → observed o fs ≡ observed o es) → is_blocked i fs ≡ is_blocked i es
  blocked_same h = λ t. blocked_by i (same.plans t) (λ act. same.states act t) (same.known t) (λ o. h o t)

  harmed_same : any_harmed fs ≡ any_harmed es
  harmed_same = λ t. harmed_by (same.plans t) (λ act. same.states act t)

  quiet_same : list_all (λ act. not (is_active (state act fs))) (places fs) ≡ list_all (λ act. not (is_active (state act es))) (places es)
  quiet_same = λ t. list_all (λ act. not (is_active (same.states act t))) (range_with_len 0 (length (same.plans t)))

  free_same : list_all (λ p. not (is_engaged p.name fs)) (performers i) ≡ list_all (λ p. not (is_engaged p.name es)) (performers i)
  free_same = λ t. list_all (λ p. not (same.engaged p.name t)) (performers i)

  done_same : list_all (λ act. is_done (state act fs)) (places fs) ≡ list_all (λ act. is_done (state act es)) (places es)
  done_same = λ t. list_all (λ act. is_done (same.states act t)) (range_with_len 0 (length (same.plans t)))

  some_way : (a b c d e f : Bool) → a ≡ d → b ≡ e → (f ≡ true → c ≡ true) → (d || (e || f)) ≡ true → (a || (b || c)) ≡ true
  some_way true b c d e f x y h g = refl
  some_way false true c d e f x y h g = refl
  some_way false false c true e f x y h g = absurd (true≢false (sym x))
  some_way false false c false true f x y h g = absurd (true≢false (sym y))
  some_way false false c false false f x y h g = h g

  -- a settled run is settled still, where it is blocked still if it was
  pub settled_still : (is_blocked i es ≡ true → is_blocked i fs ≡ true) → is_settled i es ≡ true → is_settled i fs ≡ true
  settled_still h s =
      let rest : Bool = any_harmed es || (list_all (λ act. is_done (state act es)) (places es) || is_blocked i es) in
      let free : Bool = list_all (λ p. not (is_engaged p.name es)) (performers i) in
      let w = and_parts (list_all (λ act. not (is_active (state act es))) (places es)) (free && rest) s in
      let u = and_parts free rest w.1 in
      and_from _ _ (quiet_same ∙ w.0)
      (and_from _ _ (free_same ∙ u.0)
      (some_way (any_harmed fs) (list_all (λ act. is_done (state act fs)) (places fs)) (is_blocked i fs) (any_harmed es) (list_all (λ act. is_done (state act es)) (places es)) (is_blocked i es)
      harmed_same done_same h u.1))

  -- the verdict of a run for a goal, by four tests and an outcome
  abbrev verdict_by : Bool → Bool → Bool → Outcome → Option Outcome
  verdict_by met none full how = if met then Some outcome.Success else (if none then Some outcome.NoGoal else (if full then Some how else None))

  by_another : (met none full : Bool) (one other : Outcome) → is_none (verdict_by met none full one) ≡ true → is_none (verdict_by met none full other) ≡ true
  by_another true none full one other h = h
  by_another false true full one other h = h
  by_another false false true one other h = absurd (cc)
  by_another false false false one other h = h

  abbrev how_full : List Entry → Outcome
  how_full es = if is_blocked i es then outcome.Blocked else outcome.Replans

  for_goal : is_none (verdict_by (is_met i.domain (know i es) (know i es).goal) (is_none (know i es).goal) (nat_le i.replans (replans es)) (how_full es)) ≡ true
      → is_none (verdict_by (is_met i.domain (know i fs) (know i fs).goal) (is_none (know i fs).goal) (nat_le i.replans (replans fs)) (how_full fs)) ≡ true
  for_goal h =
      by_another (is_met i.domain (know i fs) (know i fs).goal) (is_none (know i fs).goal) (nat_le i.replans (replans fs)) (how_full es) (how_full fs)
      ((λ t. is_none (verdict_by (is_met i.domain (same.known t) (same.known t).goal) (is_none (same.known t).goal) (nat_le i.replans (same.replanned t)) (how_full es))) ∙ h)

  abbrev ends_by : List Entry → Option RunKind → Option Outcome
  ends_by es for = if is_reached i es for then Some outcome.Success else unreached i es for

  by_kind : (for : Option RunKind) → is_none (ends_by es for) ≡ true → is_none (ends_by fs for) ≡ true
  by_kind None h = for_goal h
  by_kind (Some run.Goal) h = for_goal h
  by_kind (Some run.Plan) h = for_goal h
  by_kind (Some run.Action) h = absurd (decided (is_done (state 0 es)) h)
    where
      decided : (b : Bool) → is_none (if b then Some outcome.Success else Some (if any_harmed es then outcome.Act else outcome.Blocked)) ≡ true → ⊥
      decided true h = absurd (cc)
      decided false h = absurd (cc)

  -- a run that doesn't end without the solver doesn't so still
  pub unended_still : is_none (verdict i es) ≡ true → is_none (verdict i fs) ≡ true
  unended_still h = ap (λ for. is_none (ends_by fs for)) same.kinds ∙ by_kind (kind es) h

-- ---- events that say nothing of it

-- an event says nothing of states, plans, engagements and runs
record SaysNothing (e : Event) : Type 0 where
  states : (act : ℕ) → says_state act e ≡ None
  plans : says_plan e ≡ None
  engaged : (p : Name) → says_engaged p e ≡ None
  running : says_open e ≡ None
  kinds : says_kind e ≡ None
  opening : opens e ≡ false
  replan : is_replan e ≡ false

-- an edit, a refusal and a pass say nothing of it
says_nothing : (e : Event) → may_come e ≡ true → ends_plan e ≡ false → SaysNothing e
says_nothing (event.Edit whose edit) m n =
    record { states = λ act. refl; plans = refl; engaged = λ p. refl; running = refl; kinds = refl; opening = refl; replan = refl }
says_nothing (event.Refused whose why) m n =
    record { states = λ act. refl; plans = refl; engaged = λ p. refl; running = refl; kinds = refl; opening = refl; replan = refl }
says_nothing (event.Pass r p why) m n =
    record { states = λ act. refl; plans = refl; engaged = λ p. refl; running = refl; kinds = refl; opening = refl; replan = refl }
says_nothing (event.Replan acts) m n = absurd (true≢false n)
says_nothing (event.Over how) m n = absurd (true≢false n)
says_nothing e m n = absurd (true≢false (sym m))

-- after such an event all reads the same, where what is known does
pub reads_same : (i : Input) (es : List Entry) (e : Entry) → may_come e.what ≡ true → ends_plan e.what ≡ false → know i (es ++ e ∷ []) ≡ know i es → ReadsTheSame i es (es ++ e ∷ [])
reads_same i es e m n k =
    let none = says_nothing e.what m n in record {
      states = λ act. read-push (λ s f. unwrap_or (says_state act f) s) Waiting es e ∙ ap (λ o. unwrap_or o (state act es)) (none.states act);
      plans = read-push (λ a f. unwrap_or (says_plan f) a) [] es e ∙ ap (λ o. unwrap_or o (plan es)) none.plans;
      engaged = λ p. read-push (λ a f. unwrap_or (says_engaged p f) a) false es e ∙ ap (λ o. unwrap_or o (is_engaged p es)) (none.engaged p);
      running = read-push (λ a f. unwrap_or (says_open f) a) false es e ∙ ap (λ o. unwrap_or o (is_running es)) none.running;
      kinds = read-push (λ a f. unwrap_or (says_kind f) a) None es e ∙ ap (λ o. unwrap_or o (kind es)) none.kinds;
      replanned = read-push (λ n f. if opens f then 0 else (if is_replan f then n + 1 else n)) 0 es e
          ∙ (λ t. if none.opening t then 0 else (if none.replan t then replans es + 1 else replans es));
      known = k;
    }

-- an event that is no unit of an observer leaves how many it has done, where it opens no run
pub observed_same : (o : Name) (es : List Entry) (e : Entry) → opens e.what ≡ false → is_observed o e.what ≡ false → observed o (es ++ e ∷ []) ≡ observed o es
observed_same o es e p q =
    read-push (λ n f. if opens f then 0 else (if is_observed o f then n + 1 else n)) 0 es e
    ∙ (λ t. if p t then 0 else (if q t then observed o es + 1 else observed o es))

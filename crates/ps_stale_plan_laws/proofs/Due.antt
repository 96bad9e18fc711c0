-- The cancels that are due in the midst of a block are of acts that are active there, so none is due where no act is active.
use Rattle.std.proofs.Common.{◌≡◌, ℕ, ◌<◌, ◌==◌, ◌&&◌, ◌||◌, Bool, true, false, not, List, [], ◌∷◌, ◌++◌, filter, map, length, if◌then◌else◌, refl, arith, ap, sym, ◌∙◌, subst, inl, inr, append_assoc, append-nil}
use Rattle.std.specs.List.{AllByRecursion, list_all}
use Rattle.std.specs.Option.{unwrap_or}
use Rattle.std.proofs.lemmas.Bool.{eqb-true, false_from_ne_true, not-true, true≢false, and_parts}
use Rattle.ps_action.specs.declared.states.ActState.TheVariants.{Waiting, Active, Cancelled}
use Rattle.ps_machine.specs.declared.inputs.Input.{Input}
use Rattle.ps_machine.specs.declared.journal.CancelWhy.{CancelWhy}
use Rattle.ps_machine.specs.declared.journal.CancelWhy.TheVariants as cancel
use Rattle.ps_machine.specs.declared.journal.Event.{Event}
use Rattle.ps_machine.specs.declared.journal.Event.TheVariants as event
use Rattle.ps_machine.specs.declared.journal.Entry.{Entry}
use Rattle.ps_rules.specs.Runs.{is_active, plan, says_plan, says_state, state}
use Rattle.ps_rules.specs.Settled.{may_go_on, places}
use Rattle.ps_rules.specs.History.{any_of, broken, cancels, forced, forced_after, is_fail, unbroken}
use Rattle.ps_rules.specs.Prefixes.{Leads}
use Rattle.ps_rules.specs.Prefixes.Leads.{here, owed, next}
use Rattle.ps_rules.proofs.Prefixes.{lead-next, lead-owed}
use Rattle.ps_rules.proofs.Pushed.{read-push}
use Rattle.ps_rules.proofs.Between.{active-so}
use Rattle.ps_progress_laws.proofs.Lists.{all_in, In, in_range, range_in}
use Rattle.ps_progress_laws.proofs.Picking.{clash, pick_no}
use Rattle.ps_stale_plan_laws.proofs.Lists.{Differ, in_kept, range_differ}

-- ---- cancels

-- an event is a cancel of an act of which this holds
abbrev CancelsOne : (ℕ → Type 0) → Event → Type 0
CancelsOne P (event.Cancel act why) = P act
CancelsOne P e = ⊥

-- none of these cancels is of this act
abbrev SparesAct : ℕ → List Entry → Type 0
SparesAct act cs = AllByRecursion (λ c. CancelsOne (λ b. b ≡ act → ⊥) c.what) cs

-- an act of the plan is active after these entries, and no other of these cancels is of it
abbrev IsDueOne : List Entry → List Entry → ℕ → Type 0
IsDueOne es cs act = (state act es ≡ Active) × (act < length (plan es)) × SparesAct act cs

-- these cancels, each of another active act of the plan, are due
abbrev pub AreDue : List Entry → List Entry → Type 0
AreDue es [] = Unit {0}
AreDue es (c ∷ cs) = CancelsOne (IsDueOne es cs) c.what × AreDue es cs

-- ---- what is forced is due

spared : (hand : ℕ) (why : CancelWhy) (act : ℕ) (acts : List ℕ) (more : List Entry) → (In act acts → ⊥) → SparesAct act more → SparesAct act (map (cancels hand why) acts ++ more)
spared hand why act [] more h g = g
spared hand why act (b ∷ acts) more h g = (λ e. h (inl (sym e)), spared hand why act acts more (λ i. h (inr i)) g)

due_map : (es : List Entry) (hand : ℕ) (why : CancelWhy) (acts : List ℕ) (more : List Entry) → Differ acts
    → ((act : ℕ) → In act acts → (state act es ≡ Active) × (act < length (plan es)) × SparesAct act more) → AreDue es more
    → AreDue es (map (cancels hand why) acts ++ more)
due_map es hand why [] more d h g = g
due_map es hand why (act ∷ acts) more d h g =
    let w = h act (inl refl) in
    ((w.0, w.1, spared hand why act acts more d.0 w.2), due_map es hand why acts more d.1 (λ b i. h b (inr i)) g)

module _ (i : Input) (es : List Entry) where
  -- an act of which this is true is active, and one of the plan
  placed_one : (test : ℕ → Bool) (act : ℕ) → In act (filter (λ act. is_active (state act es) && test act) (places es))
      → (state act es ≡ Active) × (act < length (plan es)) × (test act ≡ true)
  placed_one test act h =
      let w = in_kept (λ act. is_active (state act es) && test act) act (places es) h in
      let u = and_parts (is_active (state act es)) (test act) w.1 in
      let r = (range_in act 0 (length (plan es)) w.0).1 in
      (active-so (state act es) u.0, omega (arith, r), u.1)

  stops_due : (hand : ℕ) → AreDue es (map (cancels hand cancel.Stop) (unbroken i es))
  stops_due hand =
      subst (AreDue es) (append-nil (map (cancels hand cancel.Stop) (unbroken i es)))
      (due_map es hand cancel.Stop (unbroken i es) [] (range_differ (λ act. is_active (state act es) && may_go_on i es act) 0 (length (plan es)))
      (λ act h. let w = placed_one (may_go_on i es) act h in (w.0, w.1, tt)) tt)

  -- the stops, if there are any, spare the acts that are broken
  stops_spare : (hand : ℕ) (b : Bool) (act : ℕ) → may_go_on i es act ≡ false → SparesAct act (if b then map (cancels hand cancel.Stop) (unbroken i es) else [])
  stops_spare hand true act g =
      subst (SparesAct act) (append-nil (map (cancels hand cancel.Stop) (unbroken i es)))
      (spared hand cancel.Stop act (unbroken i es) [] (λ h. clash (may_go_on i es act) (placed_one (may_go_on i es) act h).2 g) tt)
  stops_spare hand false act g = tt

  any_stops_due : (hand : ℕ) (b : Bool) → AreDue es (if b then map (cancels hand cancel.Stop) (unbroken i es) else [])
  any_stops_due hand true = stops_due hand
  any_stops_due hand false = tt

  pub forced_due : (hand : ℕ) (e : Event) → AreDue es (forced_after i es hand e)
  forced_due hand e =
      let b : Bool = is_fail e || any_of (broken i es) in
      due_map es hand cancel.OverAll (broken i es) (if b then map (cancels hand cancel.Stop) (unbroken i es) else [])
      (range_differ (λ act. is_active (state act es) && not (may_go_on i es act)) 0 (length (plan es)))
      (λ act h. let w = placed_one (λ act. not (may_go_on i es act)) act h in (w.0, w.1, stops_spare hand b act (not-true (may_go_on i es act) w.2)))
      (any_stops_due hand b)

-- ---- one cancel more

still_due : (es : List Entry) (c : Entry) (cs more : List Entry) (act : ℕ) (why : CancelWhy) → c.what ≡ event.Cancel act why → SparesAct act cs → AreDue es cs → AreDue (es ++ c ∷ []) cs
still_due es c [] more act why e s d = tt
still_due es c (f ∷ cs) more act why e s d = (moved f.what s.0 d.0, still_due es c cs more act why e s.1 d.1)
  where
    moved : (g : Event) → CancelsOne (λ b. b ≡ act → ⊥) g → CancelsOne (IsDueOne es cs) g → CancelsOne (IsDueOne (es ++ c ∷ []) cs) g
    moved (event.Cancel b reason) n w = (
      read-push (λ s f. unwrap_or (says_state b f) s) Waiting es c
          ∙ ap (λ f. unwrap_or (says_state b f) (state b es)) e
          ∙ pick_no (b == act) Cancelled (state b es) (false_from_ne_true (b == act) (λ t. n (eqb-true b act t)))
          ∙ w.0,
      subst (λ acts. b < length acts) (sym (read-push (λ a f. unwrap_or (says_plan f) a) [] es c ∙ ap (λ f. unwrap_or (says_plan f) (plan es)) e)) w.1,
      w.2,
    )
    moved g n w = absurd n

owed_due : (es : List Entry) (c : Entry) (cs : List Entry) → AreDue es (c ∷ cs) → AreDue (es ++ c ∷ []) cs
owed_due es c cs d = by_what c.what refl d.0
  where
    by_what : (g : Event) → c.what ≡ g → CancelsOne (IsDueOne es cs) g → AreDue (es ++ c ∷ []) cs
    by_what (event.Cancel act why) e w = still_due es c cs [] act why e w.2 d.1
    by_what g e w = absurd w

-- ---- the midst of a history

-- how these entries go on: after the first of them other cancels are due, each of an active act
abbrev pub Cut : Input → List Entry → List Entry → List Entry → List Entry → List Entry → Type 0
Cut i past due before es last = (now : List Entry) × AreDue (past ++ before) now × Leads i past due before now × Leads i (past ++ before) now es last

pub cut : (i : Input) (past due before es last : List Entry) → AreDue past due → Leads i past due (before ++ es) last → Cut i past due before es last
cut i past due [] es last d l =
    (due, subst (λ t. AreDue t due) (sym (append-nil past)) d, here past due, subst (λ t. Leads i t due es last) (sym (append-nil past)) l)
cut i past [] (b ∷ before) es last d l =
    let w = lead-next i past (before ++ es) last b l in
    let g = cut i (past ++ b ∷ []) (forced i past b) before es last (forced_due i (past ++ b ∷ []) b.hand b.what) w.2 in
    let join = append_assoc past (b ∷ []) before in
    (g.0, subst (λ t. AreDue t g.0) join g.1, next past before g.0 b w.0 w.1 g.2, subst (λ t. Leads i t g.0 es last) join g.3)
cut i past (c ∷ cs) (b ∷ before) es last d l =
    let w = lead-owed i past cs (before ++ es) last c b l in
    let g = cut i (past ++ c ∷ []) cs before es last (owed_due past c cs d) w.1 in
    let join = append_assoc past (c ∷ []) before in
    let all : Cut i past (c ∷ cs) (c ∷ before) es last =
    (g.0, subst (λ t. AreDue t g.0) join g.1, owed past cs before g.0 c g.2, subst (λ t. Leads i t g.0 es last) join g.3) in
    subst (λ x. Cut i past (c ∷ cs) (x ∷ before) es last) (sym w.0) all

-- where no act of the plan is active none is due
pub none_due : (es cs : List Entry) → list_all (λ act. not (is_active (state act es))) (places es) ≡ true → AreDue es cs → cs ≡ []
none_due es [] q d = refl
none_due es (c ∷ cs) q d = by_what c.what d.0
  where
    by_what : (g : Event) → CancelsOne (IsDueOne es cs) g → c ∷ cs ≡ []
    by_what (event.Cancel act why) w =
        let l = w.1 in
        let fails = all_in (λ act. not (is_active (state act es))) (places es) q act (in_range act 0 (length (plan es)) (omega arith) (omega (arith, l))) in
        absurd (true≢false (sym fails ∙ ap (λ s. not (is_active s)) w.0))
    by_what g w = absurd w

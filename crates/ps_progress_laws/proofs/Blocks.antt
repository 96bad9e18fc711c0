-- What one block makes of what is read of auctions.
use Rattle.std.proofs.Common.{◌≡◌, ℕ, ◌+◌, ◌==◌, ◌||◌, Bool, true, false, None, List, [], ◌∷◌, ◌++◌, if◌then◌else◌, map, refl, sym, ◌∙◌, subst, inl, inr, ◌⊎◌}
use Rattle.std.specs.Option.{unwrap_or}
use Rattle.std.proofs.lemmas.Grind.{fold-append}
use Rattle.std.proofs.Math.Bool.{or-false}
use Rattle.ps_world.specs.declared.names.Name.{Name}
use Rattle.ps_action.specs.declared.states.ActState.{ActState}
use Rattle.ps_action.specs.declared.states.ActState.TheVariants.{Waiting, Cancelled}
use Rattle.ps_machine.specs.declared.inputs.Input.{Input}
use Rattle.ps_machine.specs.declared.journal.CancelWhy.{CancelWhy}
use Rattle.ps_machine.specs.declared.journal.CancelWhy.TheVariants as cancel
use Rattle.ps_machine.specs.declared.journal.Event.{Event}
use Rattle.ps_machine.specs.declared.journal.Entry.{Entry}
use Rattle.ps_rules.specs.Reading.{latest, only_if, with_last}
use Rattle.ps_rules.specs.Runs.{is_running, plan, says_open, says_plan, says_state, state}
use Rattle.ps_rules.specs.Auctions.{act_of, begins, begins_by, confirmed, finish_of, has_answered, has_begun, has_offered, is_answer, is_begin, is_engaged, is_last, is_of_run, is_offer, is_reject, is_rejected, is_request, is_through, is_unit, is_unserved, is_working, leaves_unserved, offers, pass_of, request_of, requests, says_act, says_confirm, says_engaged, says_finish, says_of_run, says_offer, says_pass, says_request, says_working, units_done}
use Rattle.ps_rules.specs.History.{any_of, broken, cancels, forced, forced_after, is_fail, unbroken}
use Rattle.ps_rules.proofs.Pushed.{read-block}
use Rattle.ps_progress_laws.proofs.Held.{is_held, says_held}

module _ (i : Input) (es : List Entry) (e : Entry) where
  -- these entries with the block of an entry
  abbrev pub block_of : List Entry
  block_of = es ++ e ∷ forced i es e

  pub running-block : is_running block_of ≡ unwrap_or (says_open e.what) (is_running es)
  running-block = read-block (λ a f. unwrap_or (says_open f) a) false i es e (λ a act why. refl)

  pub plan-block : plan block_of ≡ unwrap_or (says_plan e.what) (plan es)
  plan-block = read-block (λ a f. unwrap_or (says_plan f) a) [] i es e (λ a act why. refl)

  pub requests-block : requests block_of ≡ (if is_request e.what then requests es + 1 else requests es)
  requests-block = read-block (λ n f. if is_request f then n + 1 else n) 0 i es e (λ a act why. refl)

  pub of_run-block : (r : ℕ) → is_of_run r block_of ≡ unwrap_or (says_of_run r e.what) (is_of_run r es)
  of_run-block r = read-block (λ a f. unwrap_or (says_of_run r f) a) false i es e (λ a act why. refl)

  pub act-block : (r : ℕ) → act_of r block_of ≡ unwrap_or (says_act r e.what) (act_of r es)
  act-block r = read-block (λ a f. unwrap_or (says_act r f) a) None i es e (λ a act why. refl)

  pub request-block : (act : ℕ) → request_of act block_of ≡ unwrap_or (says_request act e.what) (request_of act es)
  request-block act = read-block (λ a f. unwrap_or (says_request act f) a) None i es e (λ a act why. refl)

  pub offers-block : (r : ℕ) → offers r block_of ≡ with_last (offers r es) (says_offer r e.what)
  offers-block r = read-block (λ xs f. with_last xs (says_offer r f)) [] i es e (λ a act why. refl)

  pub offered-block : (r : ℕ) (p : Name) → has_offered r p block_of ≡ (has_offered r p es || is_offer r p e.what)
  offered-block r p = read-block (λ b f. b || is_offer r p f) false i es e (λ a act why. or-false a)

  pub answered-block : (r : ℕ) (p : Name) → has_answered r p block_of ≡ (has_answered r p es || is_answer r p e.what)
  answered-block r p = read-block (λ b f. b || is_answer r p f) false i es e (λ a act why. or-false a)

  pub pass-block : (r : ℕ) (p : Name) → pass_of r p block_of ≡ unwrap_or (says_pass r p e.what) (pass_of r p es)
  pass-block r p = read-block (λ a f. unwrap_or (says_pass r p f) a) None i es e (λ a act why. refl)

  pub unserved-block : (r : ℕ) → is_unserved r block_of ≡ (is_unserved r es || leaves_unserved r e.what)
  unserved-block r = read-block (λ b f. b || leaves_unserved r f) false i es e (λ a act why. or-false a)

  pub confirmed-block : (r : ℕ) → confirmed r block_of ≡ unwrap_or (says_confirm r e.what) (confirmed r es)
  confirmed-block r = read-block (λ a f. unwrap_or (says_confirm r f) a) None i es e (λ a act why. refl)

  pub rejected-block : (r : ℕ) (p : Name) → is_rejected r p block_of ≡ (is_rejected r p es || is_reject r p e.what)
  rejected-block r p = read-block (λ b f. b || is_reject r p f) false i es e (λ a act why. or-false a)

  pub engaged-block : (p : Name) → is_engaged p block_of ≡ unwrap_or (says_engaged p e.what) (is_engaged p es)
  engaged-block p = read-block (λ a f. unwrap_or (says_engaged p f) a) false i es e (λ a act why. refl)

  pub begun-block : (r : ℕ) (p : Name) → has_begun r p block_of ≡ (has_begun r p es || is_begin r p e.what)
  begun-block r p = read-block (λ b f. b || is_begin r p f) false i es e (λ a act why. or-false a)

  pub working-block : (r : ℕ) (p : Name) → is_working r p block_of ≡ unwrap_or (says_working r p e.what) (is_working r p es)
  working-block r p = read-block (λ a f. unwrap_or (says_working r p f) a) false i es e (λ a act why. refl)

  pub through-block : (r : ℕ) (p : Name) → is_through r p block_of ≡ (is_through r p es || is_last r p e.what)
  through-block r p = read-block (λ b f. b || is_last r p f) false i es e (λ a act why. or-false a)

  pub held-block : (r : ℕ) (p : Name) → is_held r p block_of ≡ unwrap_or (says_held r p e.what) (is_held r p es)
  held-block r p = read-block (λ a f. unwrap_or (says_held r p f) a) false i es e (λ a act why. refl)

  pub finish-block : (r : ℕ) → finish_of r block_of ≡ unwrap_or (says_finish r e.what) (finish_of r es)
  finish-block r = read-block (λ a f. unwrap_or (says_finish r f) a) None i es e (λ a act why. refl)

  pub begins-block : (p : Name) → begins p block_of ≡ (if begins_by p e.what then begins p es + 1 else begins p es)
  begins-block p = read-block (λ n f. if begins_by p f then n + 1 else n) 0 i es e (λ a act why. refl)

  pub units-block : (r : ℕ) (p : Name) → units_done r p block_of ≡ (if is_unit r p e.what then units_done r p es + 1 else units_done r p es)
  units-block r p = read-block (λ n f. if is_unit r p f then n + 1 else n) 0 i es e (λ a act why. refl)

-- ---- states of acts

-- a state is as it was, or cancelled
abbrev pub IsKept : ActState → ActState → Type 0
IsKept was now = (now ≡ was) ⊎ (now ≡ Cancelled)

one-cancel : (b : Bool) (s : ActState) → IsKept s (unwrap_or (only_if b Cancelled) s)
one-cancel true s = inr refl
one-cancel false s = inl refl

kept-on : (a b c : ActState) → IsKept a b → IsKept b c → IsKept a c
kept-on a b c h (inl e) = elim h [ inl f ↦ inl (e ∙ f) | inr f ↦ inr (e ∙ f) ]
kept-on a b c h (inr e) = inr e

kept-cancels : (act hand : ℕ) (why : CancelWhy) (acts : List ℕ) (s : ActState) → IsKept s (latest (says_state act) s (map (cancels hand why) acts))
kept-cancels act hand why [] s = inl refl
kept-cancels act hand why (b ∷ more) s =
    let t : ActState = unwrap_or (only_if (act == b) Cancelled) s in
    kept-on s t (latest (says_state act) t (map (cancels hand why) more)) (one-cancel (act == b) s) (kept-cancels act hand why more t)

kept-stops : (act hand : ℕ) (b : Bool) (acts : List ℕ) (s : ActState) → IsKept s (latest (says_state act) s (if b then map (cancels hand cancel.Stop) acts else []))
kept-stops act hand true acts s = kept-cancels act hand cancel.Stop acts s
kept-stops act hand false acts s = inl refl

kept-forced : (i : Input) (act : ℕ) (es : List Entry) (hand : ℕ) (e : Event) (s : ActState) → IsKept s (latest (says_state act) s (forced_after i es hand e))
kept-forced i act es hand e s =
    let b : Bool = is_fail e || any_of (broken i es) in
    let over : List Entry = map (cancels hand cancel.OverAll) (broken i es) in
    let stops : List Entry = if b then map (cancels hand cancel.Stop) (unbroken i es) else [] in
    let t : ActState = latest (says_state act) s over in
    subst (IsKept s) (sym (fold-append (λ s f. unwrap_or (says_state act f.what) s) s over stops))
    (kept-on s t (latest (says_state act) t stops) (kept-cancels act hand cancel.OverAll (broken i es) s) (kept-stops act hand b (unbroken i es) t))

-- an act's state after a block is what the event makes of it, or cancelled
pub state-block : (i : Input) (es : List Entry) (e : Entry) (act : ℕ) → IsKept (unwrap_or (says_state act e.what) (state act es)) (state act (block_of i es e))
state-block i es e act =
    let now : ActState = unwrap_or (says_state act e.what) (state act es) in
    subst (IsKept now) (sym (fold-append (λ s f. unwrap_or (says_state act f.what) s) Waiting es (e ∷ forced i es e)))
    (kept-forced i act (es ++ e ∷ []) e.hand e.what now)

-- an act that its event leaves cancelled is so after the block
pub cancelled-block : (i : Input) (es : List Entry) (e : Entry) (act : ℕ) → unwrap_or (says_state act e.what) (state act es) ≡ Cancelled → state act (block_of i es e) ≡ Cancelled
cancelled-block i es e act h = elim (state-block i es e act) [ inl s ↦ s ∙ h | inr s ↦ s ]

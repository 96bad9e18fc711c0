-- Once a run was opened it stays so.
use Rattle.std.proofs.Common.{◌≡◌, ℕ, ◌||◌, Bool, true, false, List, [], ◌∷◌, Option, Some, None, refl, ap, ◌∙◌}
use Rattle.std.specs.Option.{option_map_or, unwrap_or}
use Rattle.std.proofs.Math.Bool.{or-false, or-true}
use Rattle.ps_machine.specs.declared.inputs.Input.{Input}
use Rattle.ps_machine.specs.declared.journal.Outcome.{Outcome}
use Rattle.ps_machine.specs.declared.journal.Event.{Event}
use Rattle.ps_machine.specs.declared.journal.Event.TheVariants as event
use Rattle.ps_machine.specs.declared.journal.Entry.{Entry}
use Rattle.ps_rules.specs.Reading.{latest, read}
use Rattle.ps_rules.specs.Runs.{has_run, is_running, opens, says_open}
use Rattle.ps_rules.specs.Choices.{with_block}
use Rattle.ps_rules.proofs.Pushed.{read-block}

-- ---- a run that is open was opened

still : (h : Bool) → h ≡ true → (h || false) ≡ true
still h e = or-false h ∙ e

opened-by : (e : Event) (is has : Bool) → (is ≡ true → has ≡ true) → unwrap_or (says_open e) is ≡ true → (has || opens e) ≡ true
opened-by (event.Run for acts) is has so now = or-true has
opened-by (event.Over how) is has so now = absurd (cc)
opened-by e is has so now = still has (so now)

open-opened : (es : List Entry) (is has : Bool) → (is ≡ true → has ≡ true) → latest says_open is es ≡ true → read (λ found e. found || opens e) has es ≡ true
open-opened [] is has so now = so now
open-opened (e ∷ es) is has so now =
    open-opened es (unwrap_or (says_open e.what) is) (has || opens e.what) (opened-by e.what is has so) now

pub running-ran : (es : List Entry) → is_running es ≡ true → has_run es ≡ true
running-ran es now = open-opened es false false (λ e. e) now

-- ---- blocks

pub ran-block : (i : Input) (hand : ℕ) (es : List Entry) (e : Event) → has_run es ≡ true → has_run (with_block i hand es e) ≡ true
ran-block i hand es e ran =
    read-block (λ found f. found || opens f) false i es (record { hand = hand; what = e }) (λ a act why. or-false a)
    ∙ ap (λ b. b || opens e) ran

-- after what was done in a turn, if something was
pub ran-turn : (i : Input) (hand : ℕ) (es : List Entry) (done : Option Event) → has_run es ≡ true → has_run (option_map_or (with_block i hand es) done es) ≡ true
ran-turn i hand es None ran = ran
ran-turn i hand es (Some e) ran = ran-block i hand es e ran

-- the end of a run closes it
pub over-closes : (i : Input) (hand : ℕ) (es : List Entry) (how : Outcome) → is_running (with_block i hand es (event.Over how)) ≡ false
over-closes i hand es how = read-block (λ a f. unwrap_or (says_open f) a) false i es (record { hand = hand; what = event.Over how }) (λ a act why. refl)

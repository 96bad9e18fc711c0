-- What workers add to a journal.
use Rattle.std.proofs.Common.{◌≡◌, ℕ, ◌<◌, ◌≤◌, ◌||◌, ◌==◌, ◌&&◌, nat_le, Bool, true, false, Option, Some, None, if◌then◌else◌, List, [], ◌∷◌, ◌++◌, IsTrue, refl, arith, ap, sym, ◌∙◌, subst, append_assoc, append-nil}
use Rattle.std.specs.List.{AllByRecursion}
use Rattle.std.specs.Option.{option_map_or, unwrap_or}
use Rattle.std.proofs.lemmas.Bool.{true≢false}
use Rattle.std.proofs.lemmas.Bool.Decides.{nat_tests}
use Rattle.std.proofs.lemmas.Grind.{fold-append}
use Rattle.std.proofs.lemmas.List.Elements.{All-from_recursion, All-nil, All-weaker, recursion_from_All}
use Rattle.ps_machine.specs.declared.inputs.Input.{Input}
use Rattle.ps_machine.specs.declared.journal.Event.{Event}
use Rattle.ps_machine.specs.declared.journal.Event.TheVariants as event
use Rattle.ps_machine.specs.declared.journal.Entry.{Entry}
use Rattle.ps_rules.specs.Reading.{latest, read}
use Rattle.ps_rules.specs.Runs.{has_run, is_running, opens, says_open}
use Rattle.ps_rules.specs.Lines.{answers_line}
use Rattle.ps_rules.specs.Laws.{is_cancel}
use Rattle.ps_rules.specs.History.{forced, IsHistory}
use Rattle.ps_rules.specs.Choices.{with_block}
use Rattle.ps_rules.proofs.Prefixes.{lead-next, lead-owed}
use Rattle.ps_progress_laws.proofs.Picking.{by_test}
use Rattle.ps_good_plan_laws.specs.Segments.{NoneIs}
use Rattle.ps_turn.specs.Hands.{GoesOnBy, GoesOnByHands}
use Rattle.ps_pool.specs.Courses.{GrowsInRun}
use Rattle.ps_pool.specs.Workers.{EndedBy, EndsWithOver, WorkedBy}
use Rattle.ps_pool.proofs.Forcing.{each-forced}
use Rattle.ps_pool.proofs.Ways.{ends-last, EndsLast, is_over, over-so, step, Way, way-from}

-- ---- what is done with a hand

-- nothing was added
pub nothing-by : (hand : ℕ) (es new : List Entry) → new ≡ es → GoesOnBy hand es new
nothing-by hand es new same = ([], same ∙ sym (append-nil es), All-nil (λ (e : Entry). e.hand ≡ hand))

-- the block of what is done has the hand
pub done-by : (i : Input) (hand : ℕ) (es : List Entry) (done : Option Event) → GoesOnBy hand es (option_map_or (with_block i hand es) done es)
done-by i hand es None = nothing-by hand es es refl
done-by i hand es (Some e) =
    let entry : Entry = record { hand = hand; what = e } in (
      entry ∷ forced i es entry,
      refl,
      All-from_recursion (λ (c : Entry). c.hand ≡ hand) (entry ∷ forced i es entry)
          (refl, each-forced (λ (c : Entry). c.hand ≡ hand) hand (λ why act. refl) i (es ++ entry ∷ []) e),
    )

pub did-by : (i : Input) (hand : ℕ) (es new : List Entry) (done : Option Event) → new ≡ option_map_or (with_block i hand es) done es → GoesOnBy hand es new
did-by i hand es new done is = subst (GoesOnBy hand es) (sym is) (done-by i hand es done)

-- ---- a run that was opened stays so

ran-on : (more : List Entry) (b : Bool) → b ≡ true → read (λ found e. found || opens e) b more ≡ true
ran-on [] b is = is
ran-on (e ∷ more) b is = ran-on more (b || opens e.what) (ap (λ x. x || opens e.what) is)

pub ran-still : (es new more : List Entry) → new ≡ es ++ more → has_run es ≡ true → has_run new ≡ true
ran-still es new more is ran = ap has_run is ∙ fold-append (λ b f. b || opens f.what) false es more ∙ ran-on more (has_run es) ran

-- ---- entries of workers answer no line

no-zero : (b c : Bool) (hand : ℕ) → 0 < hand → b ≡ true → IsTrue (if b then hand == 0 else c) → ⊥
no-zero true c hand live t is = let zero : hand ≡ 0 = grind (arith, nat_tests) in omega (arith, zero)
no-zero false c hand live t is = true≢false (sym t)

cancel-answers-none : (e : Event) → is_cancel e ≡ true → answers_line e ≡ false
cancel-answers-none (event.Cancel act why) h = refl
cancel-answers-none e h = absurd (true≢false (sym h))

first-answers-none : (i : Input) (past due es : List Entry) (e : Entry) → Way i past due (e ∷ es) → 0 < e.hand → answers_line e.what ≡ false
first-answers-none i past [] es e w live =
    by_test (answers_line e.what)
    (λ t. absurd (no-zero (answers_line e.what) (nat_le 1 e.hand && nat_le e.hand 16) e.hand live t (lead-next i past es [] e w.leads).1))
    (λ t. t)
first-answers-none i past (c ∷ due) es e w live =
    cancel-answers-none e.what (ap (λ x. is_cancel x.what) (lead-owed i past due es [] c e w.leads).0 ∙ w.cancels.0)

-- a worker's entries answer no line
pub none-answer : (i : Input) (past due es : List Entry) → Way i past due es → AllByRecursion (λ (e : Entry). 0 < e.hand) es → NoneIs answers_line es
none-answer i past due [] w live = tt
none-answer i past due (e ∷ es) w live =
    let s = step i past due es e w in
    (first-answers-none i past due es e w live.0, none-answer i (past ++ e ∷ []) s.due es s.way live.1)

-- ---- the end of a run is its last entry

stays-open : (e : Event) (live : Bool) → is_over e ≡ false → live ≡ true → unwrap_or (says_open e) live ≡ true
stays-open (event.Run for acts) live h is = refl
stays-open (event.Over how) live h is = absurd (true≢false h)
stays-open e live h is = is

closes : (live : Bool) (es : List Entry) → EndsLast es → live ≡ true → latest says_open live es ≡ false → EndsWithOver es
closes live [] one is shut = absurd (true≢false (sym is ∙ shut))
closes live (e ∷ es) one is shut =
    by_test (is_over e.what)
    (λ t. let how = over-so e.what t in record { before = []; last = e; how = how.0; all = ap (λ (more : List Entry). e ∷ more) (one.0 t); is = how.1 })
    (λ t.
    let c = closes (unwrap_or (says_open e.what) live) es one.1 (stays-open e.what live t is) shut in
    record { before = e ∷ c.before; last = c.last; how = c.how; all = ap (λ (more : List Entry). e ∷ more) c.all; is = c.is })

over-last : (i : Input) (old new since : List Entry) → new ≡ old ++ since → IsHistory i new → is_running old ≡ true → is_running new ≡ false → NoneIs answers_line since
    → EndsWithOver new
over-last i old new since is h live shut none =
    let way = way-from i old since (subst (IsHistory i) is h) in
    let c = closes (is_running old) since (ends-last i old way.0 since way.1 none) live
    (sym (fold-append (λ b f. unwrap_or (says_open f.what) b) false old since) ∙ ap is_running (sym is) ∙ shut) in
    record {
      before = old ++ c.before;
      last = c.last;
      how = c.how;
      all = is ∙ ap (λ (more : List Entry). old ++ more) c.all ∙ sym (append_assoc old c.before (c.last ∷ []));
      is = c.is;
    }

-- ---- what workers made

in-run : (workers : ℕ) (i : Input) (old new : List Entry) → IsHistory i new → GoesOnByHands workers old new → GrowsInRun old new
in-run workers i old new h g =
    let way = way-from i old g.0 (subst (IsHistory i) g.1 h) in
    record {
      since = g.0;
      all = g.1;
      no_line = none-answer i old way.0 g.0 way.1
          (recursion_from_All (λ (e : Entry). 0 < e.hand) g.0 (All-weaker (λ (e : Entry). (0 < e.hand) × (e.hand ≤ workers)) (λ (e : Entry). 0 < e.hand) (λ e by. by.0) g.0 g.2));
    }

pub worked : (workers : ℕ) (i : Input) (old new : List Entry) → IsHistory i new → GoesOnByHands workers old new → WorkedBy workers i old new
worked workers i old new h g = record { by_hands = g; in_run = in-run workers i old new h g; history = h }

-- they did nothing yet
pub unworked : (workers : ℕ) (i : Input) (es : List Entry) → IsHistory i es → WorkedBy workers i es es
unworked workers i es h = worked workers i es es h ([], sym (append-nil es), All-nil (λ (e : Entry). (0 < e.hand) × (e.hand ≤ workers)))

pub ended : (workers : ℕ) (i : Input) (old new : List Entry) → IsHistory i new → GoesOnByHands workers old new → is_running old ≡ true → is_running new ≡ false
    → EndedBy workers i old new
ended workers i old new h g live shut =
    let w = worked workers i old new h g in
    record { worked = w; closed = shut; over = over-last i old new w.in_run.since w.in_run.all h live shut w.in_run.no_line }

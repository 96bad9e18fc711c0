-- What a round of turns comes to.
use Rattle.std.proofs.Common.{◌≡◌, ℕ, suc, ◌+◌, ◌<◌, true, false, Some, None, option_and_then, if◌then◌else◌, List, length, map, slice_get, refl, add-one, ap, sym, subst, ◌∙◌}
use Rattle.std.specs.Option.{option_map_or}
use Rattle.std.proofs.lemmas.Option.{slice_get_within}
use Rattle.std.proofs.Math.Nat.{zero-mod}
use Rattle.ps_machine.specs.declared.inputs.Input.{Input}
use Rattle.ps_machine.specs.declared.journal.Entry.{Entry}
use Rattle.ps_machine.specs.declared.members.Member.{Member}
use Rattle.ps_machine.specs.declared.members.Member.TheVariants as member
use Rattle.ps_machine.specs.declared.members.Observer.{Observer}
use Rattle.ps_machine.specs.declared.members.Performer.{Performer}
use Rattle.ps_rules.specs.Runs.{has_run, is_running}
use Rattle.ps_rules.specs.Members.{as_observer, as_performer, observers, performers}
use Rattle.ps_rules.specs.Choices.{actor_of, actors, after_turn, observer_turn, performer_turn, Says, turn, with_block}
use Rattle.ps_board.specs.Grants.{performer_names}
use Rattle.ps_pool.specs.Ordered.{EndsAs, ReachesBy, StopsAs}
use Rattle.ps_pool.specs.Rounds.{after_observer, after_performer, after_ticker, IsTurnOf, LeadsTo, passed_before, StopsFrom}
use Rattle.ps_pool.specs.Courses.{GrowsInRun}
use Rattle.ps_pool.specs.declared.ordered.Passed.{Passed}
use Rattle.ps_pool.proofs.OwnTurns.{grown}
use Rattle.ps_pool.proofs.Ran.{ran-turn}
use Rattle.ps_pool.proofs.TickerTurns.{ticker-leads}
use Rattle.ps_pool.proofs.Turns.{before-none, before-one, given-at, member-turn, next-turn, observer-at, observers_before, performer-at, performers_before}

pub performer-within : (i : Input) (k : ℕ) (p : Performer) → slice_get i.members k ≡ Some (member.Performer p) → performers_before i k < length (performers i)
performer-within i k p at = slice_get_within (performers i) (performers_before i k) p (given-at as_performer i.members k (member.Performer p) p at refl)

pub observer-within : (i : Input) (k : ℕ) (o : Observer) → slice_get i.members k ≡ Some (member.Observer o) → observers_before i k < length (observers i)
observer-within i k o at = slice_get_within (observers i) (observers_before i k) o (given-at as_observer i.members k (member.Observer o) o at refl)

-- one turn more
led : (i : Input) (k : ℕ) (m : Member) (old new : List Entry) → slice_get i.members k ≡ Some m
    → ((says : Says) → new ≡ option_map_or (with_block i 1 old) (turn says i old (Some (actor_of m))) old) → (says : Says) → LeadsTo says i k old (k + 1) new
led i k m old new at is says es t =
    let within = slice_get_within i.members k m at in
    record {
      turns = suc t.turns;
      all = is says ∙ sym (member-turn says i t.turns k m old t.next at) ∙ ap (after_turn says i t.turns) t.all;
      next = next-turn i t.turns k t.next within;
    }

pub performer-leads : (i : Input) (k : ℕ) (p : Performer) (old new : List Entry) → slice_get i.members k ≡ Some (member.Performer p)
    → new ≡ after_performer i (performers_before i k) old → (says : Says) → LeadsTo says i k old (k + 1) new
performer-leads i k p old new at is =
    led i k (member.Performer p) old new at (λ says.
    is ∙ ap (λ o. option_map_or (with_block i 1 old) (if is_running old then option_and_then (λ name. performer_turn i name old) o else None) old) (performer-at i k p at))

pub observer-leads : (i : Input) (k : ℕ) (o : Observer) (old new : List Entry) → slice_get i.members k ≡ Some (member.Observer o)
    → new ≡ after_observer i (observers_before i k) old → (says : Says) → LeadsTo says i k old (k + 1) new
observer-leads i k o old new at is =
    led i k (member.Observer o) old new at (λ says.
    is ∙ ap (λ n. option_map_or (with_block i 1 old) (if is_running old then option_and_then (λ name. observer_turn i name old) n else None) old) (observer-at i k o at))

-- ---- how many have had their turn

abbrev passed_of : ℕ → ℕ → Passed
passed_of p o = record { performers = p; observers = o }

both-counts : (p o q r : ℕ) → p ≡ q → o ≡ r → passed_of p o ≡ passed_of q r
both-counts p o q r e f = ap (λ n. passed_of n o) e ∙ ap (passed_of q) f

pub performer-passes : (i : Input) (k : ℕ) (p : Performer) (passed : Passed) → slice_get i.members k ≡ Some (member.Performer p) → passed ≡ passed_before i k
    → passed_of (passed.performers + 1) passed.observers ≡ passed_before i (k + 1)
performer-passes i k p passed at is =
    both-counts (passed.performers + 1) passed.observers (performers_before i (suc k)) (observers_before i (suc k))
    (add-one passed.performers ∙ ap (λ q. suc q.performers) is ∙ sym (before-one as_performer i.members k (member.Performer p) p at refl))
    (ap (λ q. q.observers) is ∙ sym (before-none as_observer i.members k (member.Performer p) at refl))
    ∙ ap (passed_before i) (sym (add-one k))

pub observer-passes : (i : Input) (k : ℕ) (o : Observer) (passed : Passed) → slice_get i.members k ≡ Some (member.Observer o) → passed ≡ passed_before i k
    → passed_of passed.performers (passed.observers + 1) ≡ passed_before i (k + 1)
observer-passes i k o passed at is =
    both-counts passed.performers (passed.observers + 1) (performers_before i (suc k)) (observers_before i (suc k))
    (ap (λ q. q.performers) is ∙ sym (before-none as_performer i.members k (member.Observer o) at refl))
    (add-one passed.observers ∙ ap (λ q. suc q.observers) is ∙ sym (before-one as_observer i.members k (member.Observer o) o at refl))
    ∙ ap (passed_before i) (sym (add-one k))

pub ran-performer : (i : Input) (p : ℕ) (old new : List Entry) → new ≡ after_performer i p old → has_run old ≡ true → has_run new ≡ true
ran-performer i p old new is ran = ap has_run is ∙ ran-turn i 1 old (if is_running old then option_and_then (λ name. performer_turn i name old) (slice_get (performer_names i) p) else None) ran

pub ran-observer : (i : Input) (o : ℕ) (old new : List Entry) → new ≡ after_observer i o old → has_run old ≡ true → has_run new ≡ true
ran-observer i o old new is ran =
    ap has_run is ∙ ran-turn i 1 old (if is_running old then option_and_then (λ name. observer_turn i name old) (slice_get (map (λ w. w.name) (observers i)) o) else None) ran

-- ---- rounds

-- the ticker's turn ends a round
pub round-leads : (says : Says) (i j : Input) (old mid new : List Entry) → j ≡ i → LeadsTo says i 0 old (length i.members) mid → new ≡ after_ticker says j mid → LeadsTo says i 0 old 0 new
round-leads says i j old mid new same leads is es t = ticker-leads says i mid new (is ∙ ap (λ k. after_ticker says k mid) same) es (leads es t)

-- rounds from the beginning of a run
pub rounds-lead : (says : Says) (i j : Input) (old mid new : List Entry) → j ≡ i → LeadsTo says i 0 old 0 mid → LeadsTo says j 0 mid 0 new → LeadsTo says i 0 old 0 new
rounds-lead says i j old mid new same leads on es t = subst (λ k. LeadsTo says k 0 mid 0 new) same on es (leads es t)

pub rounds-stop : (says : Says) (i j : Input) (old mid new : List Entry) → j ≡ i → LeadsTo says i 0 old 0 mid → StopsFrom says j 0 mid new → StopsFrom says i 0 old new
rounds-stop says i j old mid new same leads stops es t = subst (λ k. StopsFrom says k 0 mid new) same stops es (leads es t)

beginning : (says : Says) (i : Input) (es : List Entry) → IsTurnOf says i es 0 es
beginning says i es = record { turns = 0; all = refl; next = zero-mod (length (actors i)) }

pub reaches : (says : Says) (i : Input) (es new : List Entry) → LeadsTo says i 0 es 0 new → ReachesBy says i es new
reaches says i es new leads = let t = leads es (beginning says i es) in record { turns = t.turns; all = t.all }

pub stops : (says : Says) (i : Input) (es new : List Entry) → StopsFrom says i 0 es new → ReachesBy says i es new
stops says i es new stopped = stopped es (beginning says i es)

pub ends : (says : Says) (i : Input) (es new : List Entry) → ReachesBy says i es new → is_running new ≡ false → EndsAs says i es new
ends says i es new r over = record { turns = r.turns; all = r.all; over = over }

pub stops-running : (says : Says) (i : Input) (es new : List Entry) → ReachesBy says i es new → is_running new ≡ true → StopsAs says i es new
stops-running says i es new r running = record { turns = r.turns; all = r.all; running = running }

pub reached-in-run : (says : Says) (i : Input) (es new : List Entry) → ReachesBy says i es new → GrowsInRun es new
reached-in-run says i es new r = subst (GrowsInRun es) (sym r.all) (grown says i es r.turns)

-- ---- turns that don't go on

pub stops-at : (says : Says) (i : Input) (k l : ℕ) (old mid new : List Entry) → LeadsTo says i k old l mid → new ≡ mid → StopsFrom says i k old new
stops-at says i k l old mid new leads same es t = let u = leads es t in record { turns = u.turns; all = same ∙ u.all }

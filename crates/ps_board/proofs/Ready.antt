-- What holds where the block of an event is due.
use Rattle.std.proofs.Common.{◌≡◌, ℕ, ◌≤◌, None, Result, Ok, Err, OnErr, IsTrue, List, [], length, refl, ap, sym, subst, arith, ◌∙◌}
use Rattle.std.specs.Option.{unwrap_or}
use Rattle.std.specs.Global.{Vec}
use Rattle.std.specs.Vec.{vec_capacity}
use Rattle.ps_world.specs.declared.domains.Domain.{Domain}
use Rattle.ps_world.specs.declared.known.Knowledge.{Knowledge}
use Rattle.ps_world.specs.declared.edits.Edit.{Edit}
use Rattle.ps_world.specs.declared.edits.EditRefusal.{EditRefusal}
use Rattle.ps_world.specs.Knowledge.{edited}
use Rattle.ps_action.specs.declared.acts.Act.{Act}
use Rattle.ps_machine.specs.declared.journal.By.{By}
use Rattle.ps_machine.specs.declared.journal.Event.{Event}
use Rattle.ps_machine.specs.declared.journal.Event.TheVariants as event
use Rattle.ps_machine.specs.declared.journal.Entry.{Entry}
use Rattle.ps_machine.specs.declared.journal.Refusal.TheVariants as refusal
use Rattle.ps_rules.specs.Runs.{plan, says_plan, says_state, state}
use Rattle.ps_rules.specs.Known.{grounds, know}
use Rattle.ps_rules.specs.Legal.{has_hand, is_legal}
use Rattle.ps_rules.specs.Lines.{edit_refusal}
use Rattle.ps_rules.specs.History.{IsHistory}
use Rattle.ps_rules.specs.History.IsHistory.{nothing}
use Rattle.ps_rules.specs.Sound.{IsSound}
use Rattle.ps_rules.specs.Choices.{edit_event, edit_outcome, with_block}
use Rattle.ps_ledger.specs.Ledger.{KeepsSpare}
use Rattle.ps_monitor.specs.Watched.{watched}
use Rattle.ps_state.specs.State.{Stands}
use Rattle.ps_state.specs.Awaiting.{IsAhead, KeepsAwaiting, MayBegin}
use Rattle.ps_state.specs.declared.state.State.{State}
use Rattle.ps_state.proofs.Awaiting.{keeps-standing}
use Rattle.ps_state.proofs.Grounded.{as-many}
use Rattle.ps_board.specs.declared.whole.Parts.{Parts}
use Rattle.ps_board.specs.Parts.{BoardStands, edit_of, HasPlaces, HasSpare, IsDue, IsGrown, MayCome, most_entries, state_in, watch_for}
use Rattle.ps_board.specs.Watching.{IsWatchedAs}
use Rattle.ps_board.proofs.Lengths.{block-space}

-- ---- what stands doesn't rest on how much memory there is

-- the watches by the states that the entries tell
pub watching-told : (c : Parts) → BoardStands c → (act : ℕ) → watched c.monitor act ≡ watch_for c.state.grounds.items act (state act c.entries.items)
watching-told c s act = s.watching act ∙ ap (watch_for c.state.grounds.items act) (sym (s.kept.told.acts.states act))

pub stands-again : (c new : Parts) → BoardStands c → new.input ≡ c.input → new.entries.items ≡ c.entries.items → Stands c.input c.entries.items new.state
    → IsWatchedAs new.monitor (watched c.monitor) → HasSpare new.spare new → BoardStands new
stands-again c new s input entries stood watching room =
    let same : new.state.grounds.items ≡ c.state.grounds.items = stood.grounds ∙ sym s.kept.grounds in
    record {
      sound = subst IsSound (sym input) s.sound;
      history = subst (λ i. IsHistory i new.entries.items) (sym input) (subst (IsHistory c.input) (sym entries) s.history);
      kept = subst (λ i. Stands i new.entries.items new.state) (sym input) (subst (λ es. Stands c.input es new.state) (sym entries) stood);
      watching = λ act.
          watching act ∙ watching-told c s act ∙ ap (watch_for c.state.grounds.items act) (stood.told.acts.states act)
          ∙ ap (λ gs. watch_for gs act (state_in new.state.ledger act)) (sym same);
      all = ap length same ∙ s.all ∙ ap (λ es. length (plan es)) (sym entries);
      spare = room;
    }

-- where there is more memory for what is kept and for entries
pub stands-roomy : (c new : Parts) → BoardStands c → IsGrown c new → HasSpare new.spare new → BoardStands new
stands-roomy c new s grown room =
    stands-again c new s grown.input grown.entries (keeps-standing c.input c.entries.items c.state new.state grown.kept s.kept) (λ act. ap (λ m. watched m act) grown.monitor) room

pub room-grown : (c new : Parts) → HasSpare c.spare c → IsGrown c new → new.spare ≡ c.spare → HasSpare new.spare new
room-grown c new room grown spare = subst (λ n. HasSpare n new) (sym spare) (grown.room c.spare room)

pub stands-grown : (c new : Parts) → BoardStands c → IsGrown c new → new.spare ≡ c.spare → BoardStands new
stands-grown c new s grown spare = stands-roomy c new s grown (room-grown c new s.spare grown spare)

pub grown-by : (c : Parts) (p : State) (es : Vec Entry) (s : ℕ) → es.items ≡ c.entries.items → vec_capacity c.entries ≤ vec_capacity es → KeepsAwaiting c.state p → KeepsSpare c.state.ledger p.ledger
    → IsGrown c (record { input = c.input; entries = es; state = p; monitor = c.monitor; spare = s })
grown-by c p es s items grows kept spare = record {
  input = refl;
  entries = items;
  monitor = refl;
  kept = kept;
  room = λ n h. let long = ap length items in let room = h.entries in record { entries = omega (arith, long, room, grows); ledger = spare n h.ledger };
}

-- what may come, and what an edit comes to, doesn't either
pub edit-grown : (c new : Parts) → IsGrown c new → (whose : By) (edit : Edit) → edit_of new whose edit ≡ edit_of c whose edit
edit-grown c new grown whose edit =
    ap (λ i. edit_event i new.entries.items whose edit) grown.input ∙ ap (λ es. edit_event c.input es whose edit) grown.entries

pub legal-grown : (c new : Parts) → IsGrown c new → (e : Event) → MayCome c e → MayCome new e
legal-grown c new grown e legal =
    subst (λ i. IsTrue (is_legal i new.entries.items e)) (sym grown.input) (subst (λ es. IsTrue (is_legal c.input es e)) (sym grown.entries) legal)

pub block-grown : (c new : Parts) → IsGrown c new → (hand : ℕ) (e : Event) → with_block new.input hand new.entries.items e ≡ with_block c.input hand c.entries.items e
block-grown c new grown hand e =
    ap (λ i. with_block i hand new.entries.items e) grown.input ∙ ap (λ es. with_block c.input hand es e) grown.entries

-- on an error this holds
pub on-err : {A E P : Type 0} (r : Result A E) → P → OnErr r P
on-err (Ok a) h = tt
on-err (Err e) h = h

-- ---- how many ground actions there are

all-for : (d : Domain) (k : Knowledge) (acts : List Act) (e : Event) (p : State) → p.expert ≡ d → MayBegin e p → length (grounds d acts) ≡ length acts
    → length (grounds d (unwrap_or (says_plan e) acts)) ≡ length (unwrap_or (says_plan e) acts)
all-for d k acts (event.Run for new) p same may all =
    ap (λ x. length (grounds x new)) (sym same) ∙ as-many p.expert p.problem.instances new may.grounded
all-for d k acts (event.Replan new) p same may all =
    ap (λ x. length (grounds x new)) (sym same) ∙ as-many p.expert p.problem.instances new may.grounded
all-for d k acts e p same may all = all

-- ---- a block is due

-- where all but the ledger has gone on
pub due : (c new : Parts) (hand : ℕ) (e : Event) → BoardStands c → new.input ≡ c.input → new.entries.items ≡ c.entries.items
    → IsTrue (is_legal c.input c.entries.items e) → IsTrue (has_hand e hand) → MayBegin e c.state → IsAhead c.input c.entries.items e new.state
    → ((act : ℕ) → watched new.monitor act ≡ watch_for new.state.grounds.items act (unwrap_or (says_state act e) (state act c.entries.items)))
    → HasPlaces e (most_entries c.state.ledger e) new → HasSpare new.spare new → IsDue new hand e
due c new hand e s input entries legal by may ahead watching places room =
    let es : List Entry = c.entries.items in
    let many : length c.state.grounds.items ≡ length (grounds c.input.domain (plan es)) = ap length s.kept.grounds in
    let long = block-space c.input es hand e c.state.ledger s.history s.kept.told.acts legal ahead.few in
    let longer = ap length entries in
    let space = places.entries in
    let fits_in : length (with_block c.input hand es e) ≤ vec_capacity new.entries = omega (arith, long, longer, space) in
    record {
      sound = subst IsSound (sym input) s.sound;
      history = subst (λ i. IsHistory i new.entries.items) (sym input) (subst (IsHistory c.input) (sym entries) s.history);
      kept = subst (λ i. IsAhead i new.entries.items e new.state) (sym input) (subst (λ xs. IsAhead c.input xs e new.state) (sym entries) ahead);
      watching = λ act. watching act ∙ ap (λ xs. watch_for new.state.grounds.items act (unwrap_or (says_state act e) (state act xs))) (sym entries);
      all = ap length ahead.grounds ∙ all-for c.input.domain (know c.input es) (plan es) e c.state s.kept.domain may (sym many ∙ s.all)
          ∙ ap (λ xs. length (unwrap_or (says_plan e) (plan xs))) (sym entries);
      legal = subst (λ i. IsTrue (is_legal i new.entries.items e)) (sym input) (subst (λ xs. IsTrue (is_legal c.input xs e)) (sym entries) legal);
      by = by;
      room = places.ledger;
      short = places.short;
      space = subst (λ i. length (with_block i hand new.entries.items e) ≤ vec_capacity new.entries) (sym input)
          (subst (λ xs. length (with_block c.input hand xs e) ≤ vec_capacity new.entries) (sym entries) fits_in);
      spare = room;
    }

-- where an event changes neither the plan nor a state of its acts, and so no watch
pub due-still : (c new : Parts) (hand : ℕ) (e : Event) → BoardStands c → new.input ≡ c.input → new.entries.items ≡ c.entries.items
    → IsTrue (is_legal c.input c.entries.items e) → IsTrue (has_hand e hand) → MayBegin e c.state → IsAhead c.input c.entries.items e new.state
    → says_plan e ≡ None → ((act : ℕ) → says_state act e ≡ None) → new.monitor ≡ c.monitor
    → HasPlaces e (most_entries c.state.ledger e) new → HasSpare new.spare new → IsDue new hand e
due-still c new hand e s input entries legal by may ahead plans states monitor places room =
    let es : List Entry = c.entries.items in
    let same : c.state.grounds.items ≡ new.state.grounds.items =
    s.kept.grounds ∙ ap (λ o. grounds c.input.domain (unwrap_or o (plan es))) (sym plans) ∙ sym ahead.grounds in
    due c new hand e s input entries legal by may ahead
    (λ act. ap (λ m. watched m act) monitor ∙ watching-told c s act ∙ ap (λ gs. watch_for gs act (state act es)) same
    ∙ ap (λ o. watch_for new.state.grounds.items act (unwrap_or o (state act es))) (sym (states act)))
    places room

-- ---- edits

edited-is : (c : Parts) (edit : Edit) → BoardStands c → edited c.input.domain (know c.input c.entries.items) edit ≡ edited c.state.expert c.state.problem edit
edited-is c edit s = ap (λ d. edited d (know c.input c.entries.items) edit) (sym s.kept.domain) ∙ ap (λ k. edited c.state.expert k edit) (sym s.kept.known)

-- what records an edit that is accepted, and one that is refused
pub event-accepted : (c : Parts) (k : Knowledge) (whose : By) (edit : Edit) → BoardStands c → edited c.state.expert c.state.problem edit ≡ Ok k
    → edit_event c.input c.entries.items whose edit ≡ event.Edit whose edit
event-accepted c k whose edit s made = ap (λ r. edit_outcome whose edit (edit_refusal r)) (edited-is c edit s ∙ made)

pub event-refused : (c : Parts) (why : EditRefusal) (whose : By) (edit : Edit) → BoardStands c → edited c.state.expert c.state.problem edit ≡ Err why
    → edit_event c.input c.entries.items whose edit ≡ event.Refused whose (refusal.Edit why)
event-refused c why whose edit s made = ap (λ r. edit_outcome whose edit (edit_refusal r)) (edited-is c edit s ∙ made)

-- ---- nothing yet

none-spare : (c : Parts) → c.entries.items ≡ [] → HasSpare 0 c
none-spare c entries =
    let none = ap length entries in
    record {
      entries = omega (arith, none);
      ledger = record { requests = omega arith; work = omega arith; answers = omega arith; offers = omega arith };
    }

pub stands-open : (c : Parts) → IsSound c.input → c.entries.items ≡ [] → Stands c.input [] c.state → ((act : ℕ) → watched c.monitor act ≡ None) → c.spare ≡ 0 → BoardStands c
stands-open c sound entries stood off none = record {
  sound = sound;
  history = subst (IsHistory c.input) (sym entries) nothing;
  kept = subst (λ es. Stands c.input es c.state) (sym entries) stood;
  watching = λ act. off act ∙ ap (watch_for c.state.grounds.items act) (stood.told.acts.states act);
  all = ap length stood.grounds ∙ ap (λ es. length (plan es)) (sym entries);
  spare = subst (λ n. HasSpare n c) (sym none) (none-spare c entries);
}

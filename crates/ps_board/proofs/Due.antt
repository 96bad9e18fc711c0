-- What holds where the block of an event is due, and after it.
use Rattle.std.proofs.Common.{◌≡◌, ℕ, ◌≤◌, ◌<◌, ◌||◌, Bool, false, if◌then◌else◌, List, [], ◌∷◌, ◌++◌, length, map, slice_index_or, refl, ap, sym, subst, ◌∙◌}
use Rattle.std.specs.Option.{unwrap_or}
use Rattle.ps_machine.specs.declared.journal.Event.{Event}
use Rattle.ps_machine.specs.declared.journal.Entry.{Entry}
use Rattle.ps_machine.specs.declared.journal.CancelWhy.TheVariants as cancel
use Rattle.ps_action.specs.declared.states.ActState.TheVariants.{Waiting}
use Rattle.ps_rules.specs.Runs.{plan, says_plan, says_state, state}
use Rattle.ps_rules.specs.Known.{grounds, know}
use Rattle.ps_rules.specs.History.{any_of, broken as broken_after, cancels, IsHistory, is_fail, unbroken}
use Rattle.ps_rules.specs.History.IsHistory.{block}
use Rattle.ps_rules.specs.Choices.{with_block}
use Rattle.ps_rules.proofs.Pushed.{know-block, know-push, read-block, read-push}
use Rattle.ps_ledger.specs.declared.ledger.Ledger.{Ledger}
use Rattle.ps_ledger.specs.Ledger.{TellsAll}
use Rattle.ps_ledger.specs.Legal.{HasMembersOf}
use Rattle.ps_rules.specs.Sound.{IsSound}
use Rattle.ps_action.specs.Arcs.{arcs_of}
use Rattle.ps_action.specs.Trees.{waits_of}
use Rattle.ps_state.specs.State.{Stands}
use Rattle.ps_monitor.specs.declared.acts.Acts.{Acts}
use Rattle.ps_monitor.specs.Watched.{broken, is_false, marked, others, watched}
use Rattle.ps_board.specs.declared.whole.Parts.{Parts}
use Rattle.ps_board.specs.Parts.{BoardStands, HasSpare, IsDue, IsWatching, watch_for}
use Rattle.ps_board.proofs.Forced.{block-told, broken-told, IsAt, others-told, Watches}

-- the entries with this one
abbrev pub after : Parts → ℕ → Event → List Entry
after c hand e = c.entries.items ++ record { hand = hand; what = e } ∷ []

pub plan-after : (c : Parts) (hand : ℕ) (e : Event) → plan (after c hand e) ≡ unwrap_or (says_plan e) (plan c.entries.items)
plan-after c hand e = read-push (λ a f. unwrap_or (says_plan f) a) [] c.entries.items (record { hand = hand; what = e })

state-after : (c : Parts) (hand : ℕ) (e : Event) (act : ℕ) → state act (after c hand e) ≡ unwrap_or (says_state act e) (state act c.entries.items)
state-after c hand e act = read-push (λ a f. unwrap_or (says_state act f) a) Waiting c.entries.items (record { hand = hand; what = e })

pub due-at : (c : Parts) (hand : ℕ) (e : Event) → IsDue c hand e → IsAt c.input (after c hand e) c.state.expert c.state.problem c.state.grounds.items
due-at c hand e d = record {
  domain = d.kept.domain;
  known = d.kept.known ∙ sym (know-push c.input c.entries.items (record { hand = hand; what = e }));
  acts = d.kept.grounds ∙ ap (grounds c.input.domain) (sym (plan-after c hand e));
}

pub due-watches : (c : Parts) (hand : ℕ) (e : Event) → IsDue c hand e → Watches c.monitor c.state.grounds.items (after c hand e)
due-watches c hand e d = λ act. d.watching act ∙ ap (watch_for c.state.grounds.items act) (sym (state-after c hand e act))

pub due-few : (c : Parts) (hand : ℕ) (e : Event) → IsDue c hand e → length (plan (after c hand e)) ≤ 256
due-few c hand e d = subst (λ acts. length acts ≤ 256) (sym (plan-after c hand e)) d.kept.few

-- the broken acts that were found are those
pub due-broken : (c : Parts) (hand : ℕ) (e : Event) (b : Ledger) (brk : Acts) → IsDue c hand e → TellsAll (after c hand e) b
    → ((n : ℕ) → n ≤ 256 → marked brk n ≡ broken c.state.expert c.state.problem c.monitor n)
    → marked brk (length b.acts.states.items) ≡ broken_after c.input (after c hand e)
due-broken c hand e b brk d t found =
    ap (marked brk) (t.acts.many ∙ ap length (sym t.acts.acts))
    ∙ found (length (plan (after c hand e))) (due-few c hand e d)
    ∙ broken-told c.input (after c hand e) c.state.expert c.state.problem c.state.grounds.items c.monitor (due-at c hand e d) (due-watches c hand e d)

-- and so are those that are stopped
pub due-stopped : (c : Parts) (hand : ℕ) (e : Event) (b : Ledger) (n : ℕ) (brk oth stp : Acts) (fails any : Bool) → IsDue c hand e → TellsAll (after c hand e) b
    → ((act : ℕ) → act < 256 → slice_index_or brk.marks act false ≡ is_false c.state.expert c.state.problem (watched c.monitor act))
    → ((m : ℕ) → m ≤ 256 → marked oth m ≡ others c.monitor brk m)
    → ((m : ℕ) → marked stp m ≡ (if fails || any then marked oth m else []))
    → fails ≡ is_fail e → any ≡ any_of (marked brk (length b.acts.states.items)) → n ≡ length b.acts.states.items
    → marked stp n ≡ (if is_fail e || any_of (marked brk (length b.acts.states.items)) then unbroken c.input (after c hand e) else [])
due-stopped c hand e b n brk oth stp fails any d t each rest stopped fail some same =
    let m : ℕ = length (plan (after c hand e)) in
    ap (marked stp) (same ∙ t.acts.many ∙ ap length (sym t.acts.acts))
    ∙ stopped m
    ∙ ap (λ xs. if fails || any then xs else []) (rest m (due-few c hand e d) ∙ others-told c.input (after c hand e) c.state.expert c.state.problem c.state.grounds.items c.monitor brk (due-at c hand e d) (due-watches c hand e d) (due-few c hand e d) each)
    ∙ ap (λ f. if f || any then unbroken c.input (after c hand e) else []) fail
    ∙ ap (λ s. if is_fail e || s then unbroken c.input (after c hand e) else []) some

-- the ledger watches what is watched
pub due-watching : (c : Parts) (hand : ℕ) (e : Event) (b : Ledger) → IsDue c hand e → TellsAll (after c hand e) b → IsWatching c.monitor b c.state.grounds.items
due-watching c hand e b d t = λ act. due-watches c hand e d act ∙ ap (watch_for c.state.grounds.items act) (t.acts.states act)

-- what stands after the block, where all but the entries, the ledger and the watches is as it was
pub stands-after : (c new : Parts) (hand : ℕ) (e : Event) → IsDue c hand e
    → new.input ≡ c.input → new.state ≡ record c.state { ledger = new.state.ledger }
    → new.entries.items ≡ with_block c.input hand c.entries.items e
    → TellsAll new.entries.items new.state.ledger
    → IsWatching new.monitor new.state.ledger c.state.grounds.items
    → HasMembersOf c.input new.state.ledger
    → HasSpare new.spare new
    → BoardStands new
stands-after c new hand e d input present entries told watching members spare =
    let x : Entry = record { hand = hand; what = e } in
    let planned : plan (with_block c.input hand c.entries.items e) ≡ unwrap_or (says_plan e) (plan c.entries.items) =
    read-block (λ a f. unwrap_or (says_plan f) a) [] c.input c.entries.items x (λ a act why. refl) in
    let plans : plan new.entries.items ≡ unwrap_or (says_plan e) (plan c.entries.items) = ap plan entries ∙ planned in
    let history : IsHistory c.input (with_block c.input hand c.entries.items e) = block c.entries.items x d.history d.legal d.by in
    let acts : new.state.grounds.items ≡ c.state.grounds.items = ap (λ p. p.grounds.items) present in
    let stood : Stands c.input new.entries.items new.state = record {
      domain = ap (λ p. p.expert) present ∙ d.kept.domain;
      due = ap (λ p. p.due) present ∙ d.kept.due;
      known = ap (λ p. p.problem) present ∙ d.kept.known ∙ sym (know-block c.input c.entries.items x) ∙ ap (know c.input) (sym entries);
      members = members;
      told = told;
      few = subst (λ xs. length xs ≤ 256) (sym plans) d.kept.few;
      grounds = acts ∙ d.kept.grounds ∙ ap (grounds c.input.domain) (sym plans);
      arcs = ap (λ p. p.arcs.pairs) present ∙ d.kept.arcs ∙ ap arcs_of (sym acts);
      acts = ap (λ p. p.arcs.acts) present ∙ d.kept.acts ∙ ap length (sym plans);
      tree = ap (λ p. p.tree.waits) present ∙ d.kept.tree ∙ ap (λ p. waits_of p.arcs) (sym present);
    } in
    record {
      sound = subst IsSound (sym input) d.sound;
      history = subst (λ i. IsHistory i new.entries.items) (sym input) (subst (IsHistory c.input) (sym entries) history);
      kept = subst (λ i. Stands i new.entries.items new.state) (sym input) stood;
      watching = subst (IsWatching new.monitor new.state.ledger) (sym acts) watching;
      all = ap length acts ∙ d.all ∙ ap length (sym plans);
      spare = spare;
    }

-- the entries as they are made, one stretch after another
pub block-made : (c : Parts) (hand : ℕ) (e : Event) (broke stopped : List ℕ) (one two three : List Entry)
    → one ≡ after c hand e → two ≡ one ++ map (cancels hand cancel.OverAll) broke → three ≡ two ++ map (cancels hand cancel.Stop) stopped
    → broke ≡ broken_after c.input (after c hand e)
    → stopped ≡ (if is_fail e || any_of broke then unbroken c.input (after c hand e) else [])
    → three ≡ with_block c.input hand c.entries.items e
block-made c hand e broke stopped one two three first second third broke_is stopped_is =
    third
    ∙ ap (λ xs. xs ++ map (cancels hand cancel.Stop) stopped) (second ∙ ap (λ xs. xs ++ map (cancels hand cancel.OverAll) broke) first)
    ∙ block-told c.input c.entries.items hand e broke stopped broke_is stopped_is

pub told-made : (c : Parts) (hand : ℕ) (e : Event) (broke stopped : List ℕ) (one two three : List Entry) (b1 b2 b3 : Ledger)
    → one ≡ after c hand e → two ≡ one ++ map (cancels hand cancel.OverAll) broke → three ≡ two ++ map (cancels hand cancel.Stop) stopped
    → TellsAll (after c hand e) b1
    → ((es : List Entry) → TellsAll es b1 → TellsAll (es ++ map (cancels hand cancel.OverAll) broke) b2)
    → ((es : List Entry) → TellsAll es b2 → TellsAll (es ++ map (cancels hand cancel.Stop) stopped) b3)
    → TellsAll three b3
told-made c hand e broke stopped one two three b1 b2 b3 first second third t f g =
    let t1 : TellsAll one b1 = subst (λ es. TellsAll es b1) (sym first) t in
    let t2 : TellsAll two b2 = subst (λ es. TellsAll es b2) (sym second) (f one t1) in
    subst (λ es. TellsAll es b3) (sym third) (g two t2)

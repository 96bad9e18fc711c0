-- What is kept, before an event is taken and after.
use Rattle.std.proofs.Common.{◌≡◌, ℕ, ◌≤◌, List, [], ◌∷◌, ◌++◌, length, refl, ap, sym, ◌∙◌, subst}
use Rattle.std.specs.Option.{unwrap_or}
use Rattle.std.proofs.lemmas.List.FromFn.{length-map-range_with_len}
use Rattle.ps_world.specs.Knowledge.{edited}
use Rattle.ps_world.specs.declared.domains.Domain.{Domain}
use Rattle.ps_world.specs.declared.edits.Edit.{Edit}
use Rattle.ps_world.specs.declared.known.Knowledge.{Knowledge}
use Rattle.ps_action.specs.Arcs.{arcs_of}
use Rattle.ps_action.specs.Trees.{waits_for, waits_of}
use Rattle.ps_action.specs.declared.acts.Act.{Act}
use Rattle.ps_machine.specs.declared.inputs.Input.{Input}
use Rattle.ps_machine.specs.declared.journal.By.{By}
use Rattle.ps_machine.specs.declared.journal.CancelWhy.{CancelWhy}
use Rattle.ps_machine.specs.declared.journal.Entry.{Entry}
use Rattle.ps_machine.specs.declared.journal.Event.{Event}
use Rattle.ps_machine.specs.declared.journal.Event.TheVariants as event
use Rattle.ps_rules.specs.History.{cancels}
use Rattle.ps_rules.specs.Known.{grounds, kept, know, known_after}
use Rattle.ps_rules.specs.Runs.{plan, says_plan}
use Rattle.ps_rules.proofs.Pushed.{know-push, read-push}
use Rattle.ps_ledger.specs.Kept.{Takes, TakesCancel}
use Rattle.ps_ledger.specs.Ledger.{HasSameMembers, TellsAll}
use Rattle.ps_ledger.specs.Legal.{HasMembersOf}
use Rattle.ps_ledger.specs.declared.ledger.Ledger.{Ledger}
use Rattle.ps_state.specs.State.{Stands}
use Rattle.ps_state.specs.Awaiting.{after_edit, Awaits, HasSameRest, IsAhead, KeepsAwaiting, MayBegin}
use Rattle.ps_state.specs.Taking.{acts_next, GoesOn, grounds_next, known_next}
use Rattle.ps_state.specs.declared.state.State.{State}

-- as many states of acts are kept as the tree has acts that wait for others
pub states-as-waits : (i : Input) (es : List Entry) (p : State) → Stands i es p → length p.ledger.acts.states.items ≡ length p.tree.waits
states-as-waits i es p s =
    s.told.acts.many ∙ sym (ap length s.told.acts.acts) ∙ sym s.acts ∙ sym (ap length s.tree ∙ length-map-range_with_len (waits_for p.arcs.pairs) 0 p.arcs.acts)

-- an event that was judged is awaited
pub awaits : (i : Input) (es : List Entry) (e : Event) (old new : State) → Stands i es old → HasSameRest old new → new.problem ≡ after_edit old.expert old.problem e → Awaits i es e new
awaits i es e old new s r m = record {
  domain = r.expert ∙ s.domain;
  due = r.due ∙ s.due;
  known = m ∙ ap (λ d. after_edit d old.problem e) s.domain ∙ ap (λ k. after_edit i.domain k e) s.known;
  members = subst (HasMembersOf i) (sym r.ledger) s.members;
  told = subst (TellsAll es) (sym r.ledger) s.told;
  few = s.few;
  grounds = ap (λ v. v.items) r.grounds ∙ s.grounds;
  arcs = ap (λ a. a.pairs) r.arcs ∙ s.arcs ∙ ap (λ v. arcs_of v.items) (sym r.grounds);
  acts = ap (λ a. a.acts) r.arcs ∙ s.acts;
  tree = ap (λ t. t.waits) r.tree ∙ s.tree ∙ ap waits_of (sym r.arcs);
}

-- the plan after one more entry
pub plan-push : (es : List Entry) (e : Entry) → plan (es ++ e ∷ []) ≡ unwrap_or (says_plan e.what) (plan es)
plan-push es e = read-push (λ a f. unwrap_or (says_plan f) a) [] es e

known-then : (d : Domain) (acts : List Act) (k : Knowledge) (e : Event) → known_next d (grounds d acts) (after_edit d k e) e ≡ known_after d acts k e
known-then d acts k (event.Edit by edit) = refl
known-then d acts k (event.Start act) = refl
known-then d acts k (event.End act) = refl
known-then d acts k e = refl

grounds-then : (d : Domain) (acts : List Act) (e : Event) → grounds_next d (grounds d acts) e ≡ grounds d (unwrap_or (says_plan e) acts)
grounds-then d acts (event.Run for new) = refl
grounds-then d acts (event.Replan new) = refl
grounds-then d acts e = refl

acts-then : (acts : List Act) (e : Event) → acts_next (length acts) e ≡ length (unwrap_or (says_plan e) acts)
acts-then acts (event.Run for new) = refl
acts-then acts (event.Replan new) = refl
acts-then acts e = refl

few-then : (acts : List Act) (e : Event) (p : State) → MayBegin e p → length acts ≤ 256 → length (unwrap_or (says_plan e) acts) ≤ 256
few-then acts (event.Run for new) p may few = may.few
few-then acts (event.Replan new) p may few = may.few
few-then acts e p may few = few

-- what awaited an event is ahead of the ledger where all else has gone on
pub goes-ahead : (i : Input) (es : List Entry) (what : Event) (old mid : State) → Awaits i es what old → MayBegin what old → GoesOn what old mid → IsAhead i es what mid
goes-ahead i es what old mid a may g =
    let d : old.expert ≡ i.domain = a.domain in
    record {
      domain = g.base.expert ∙ d;
      due = g.base.due ∙ a.due;
      known =
          g.known ∙ ap (λ x. known_next x old.grounds.items old.problem what) d ∙ ap (λ gs. known_next i.domain gs old.problem what) a.grounds
          ∙ ap (λ k. known_next i.domain (grounds i.domain (plan es)) k what) a.known ∙ known-then i.domain (plan es) (know i es) what;
      members = subst (HasMembersOf i) (sym g.base.ledger) a.members;
      told = subst (TellsAll es) (sym g.base.ledger) a.told;
      few = few-then (plan es) what old may a.few;
      grounds =
          g.grounds ∙ ap (λ x. grounds_next x old.grounds.items what) d ∙ ap (λ gs. grounds_next i.domain gs what) a.grounds
          ∙ grounds-then i.domain (plan es) what;
      arcs = g.arcs a.arcs;
      acts = g.acts ∙ ap (λ n. acts_next n what) a.acts ∙ acts-then (plan es) what;
      tree = g.tree a.tree;
    }

-- what is ahead of the ledger stands where the ledger has taken the event
pub catches-up : (i : Input) (es : List Entry) (e : Entry) (what : Event) (mid : State) (l : Ledger) → e.what ≡ what → IsAhead i es what mid
    → Takes TellsAll what mid.ledger l → HasSameMembers mid.ledger l → Stands i (es ++ e ∷ []) (record mid { ledger = l })
catches-up i es e what mid l is a t m =
    let pushed : plan (es ++ e ∷ []) ≡ unwrap_or (says_plan what) (plan es) = plan-push es e ∙ ap (λ f. unwrap_or (says_plan f) (plan es)) is in
    record {
      domain = a.domain;
      due = a.due;
      known = a.known ∙ ap (known_after i.domain (plan es) (know i es)) (sym is) ∙ sym (know-push i es e);
      members = record { performers = m.performers ∙ a.members.performers; observers = m.observers ∙ a.members.observers };
      told = t es e is a.told;
      few = subst (λ acts. length acts ≤ 256) (sym pushed) a.few;
      grounds = a.grounds ∙ ap (grounds i.domain) (sym pushed);
      arcs = a.arcs;
      acts = a.acts ∙ ap length (sym pushed);
      tree = a.tree;
    }

-- what stands after an event that was awaited
pub takes : (i : Input) (es : List Entry) (e : Entry) (what : Event) (old mid : State) (l : Ledger) → e.what ≡ what → Awaits i es what old → MayBegin what old → GoesOn what old mid
    → Takes TellsAll what mid.ledger l → HasSameMembers mid.ledger l → Stands i (es ++ e ∷ []) (record mid { ledger = l })
takes i es e what old mid l is a may g t m = catches-up i es e what mid l is (goes-ahead i es what old mid a may g) t m

-- nothing has gone on by an event that changes nothing but the ledger, or by an edit that has been made
pub stays : (e : Event) (p : State) → known_next p.expert p.grounds.items p.problem e ≡ p.problem → grounds_next p.expert p.grounds.items e ≡ p.grounds.items
    → acts_next p.arcs.acts e ≡ p.arcs.acts → GoesOn e p p
stays e p known gs acts = record { base = record { expert = refl; due = refl; ledger = refl }; known = sym known; grounds = sym gs; acts = sym acts; arcs = λ h. h; tree = λ h. h }

-- an edit that has been made is ahead
pub edit-ahead : (i : Input) (es : List Entry) (by : By) (edit : Edit) (old new : State) → Stands i es old → HasSameRest old new
    → new.problem ≡ kept old.problem (edited old.expert old.problem edit) → IsAhead i es (event.Edit by edit) new
edit-ahead i es by edit old new s r made =
    goes-ahead i es (event.Edit by edit) new new (awaits i es (event.Edit by edit) old new s r made) tt (stays (event.Edit by edit) new refl refl refl)

unedited : (d : Domain) (k : Knowledge) (e : Event) → ((by : By) (edit : Edit) → e ≡ event.Edit by edit → ⊥) → after_edit d k e ≡ k
unedited d k (event.Edit by edit) h = absurd (h by edit refl)
unedited d k e h = refl

-- any other event goes on from what stands
pub others-ahead : (i : Input) (es : List Entry) (e : Event) (old new : State) → ((by : By) (edit : Edit) → e ≡ event.Edit by edit → ⊥) → Stands i es old → MayBegin e old → GoesOn e old new
    → IsAhead i es e new
others-ahead i es e old new other s may g =
    goes-ahead i es e old new
    (awaits i es e old old s (record { expert = refl; due = refl; ledger = refl; grounds = refl; arcs = refl; tree = refl }) (sym (unedited old.expert old.problem e other))) may g

-- what keeps awaiting goes on standing
pub keeps-standing : (i : Input) (es : List Entry) (old new : State) → KeepsAwaiting old new → Stands i es old → Stands i es new
keeps-standing i es old new keeps s =
    let a = keeps i es event.Quit (awaits i es event.Quit old old s (record { expert = refl; due = refl; ledger = refl; grounds = refl; arcs = refl; tree = refl }) refl) in
    record {
      domain = a.domain;
      due = a.due;
      known = a.known;
      members = a.members;
      told = a.told;
      few = a.few;
      grounds = a.grounds;
      arcs = a.arcs;
      acts = a.acts;
      tree = a.tree;
    }

-- what stands after the cancel of an act
pub takes-cancel : (i : Input) (es : List Entry) (hand act : ℕ) (why : CancelWhy) (old : State) (l : Ledger) → Stands i es old
    → TakesCancel TellsAll act old.ledger l → HasSameMembers old.ledger l → Stands i (es ++ cancels hand why act ∷ []) (record old { ledger = l })
takes-cancel i es hand act why old l s t m =
    let c : Entry = cancels hand why act in
    let pushed : plan (es ++ c ∷ []) ≡ plan es = plan-push es c in
    record {
      domain = s.domain;
      due = s.due;
      known = s.known ∙ sym (know-push i es c);
      members = record { performers = m.performers ∙ s.members.performers; observers = m.observers ∙ s.members.observers };
      told = t es hand why s.told;
      few = subst (λ acts. length acts ≤ 256) (sym pushed) s.few;
      grounds = s.grounds ∙ ap (grounds i.domain) (sym pushed);
      arcs = s.arcs;
      acts = s.acts ∙ ap length (sym pushed);
      tree = s.tree;
    }

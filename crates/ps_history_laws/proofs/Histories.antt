-- The entries of histories are in form, and so they are read back.
use Rattle.std.proofs.Common.{◌≡◌, ℕ, false, Result, Ok, Err, List, [], ◌∷◌, ◌++◌, All, IsTrue, length, get_or, refl, sym, subst, MatchResult}
use Rattle.std.specs.Result.{IfOk}
use Rattle.std.proofs.lemmas.List.Elements.{All-nil, All-push}
use Rattle.ps_world.specs.Names.{Table}
use Rattle.ps_world.specs.Knowledge.{edited}
use Rattle.ps_world.specs.Tables.{IsEditRefusalOf}
use Rattle.ps_world.specs.declared.domains.Domain.{Domain}
use Rattle.ps_world.specs.declared.edits.EditRefusal.{EditRefusal}
use Rattle.ps_world.specs.declared.known.Knowledge.{Knowledge}
use Rattle.ps_action.specs.declared.acts.Act.{Act}
use Rattle.ps_machine.specs.declared.inputs.Input.{Input}
use Rattle.ps_machine.specs.declared.journal.Event.{Event}
use Rattle.ps_machine.specs.declared.journal.Event.TheVariants as event
use Rattle.ps_machine.specs.declared.journal.Entry.{Entry}
use Rattle.ps_rules.specs.Known.{changed, kept, know, known_after, part}
use Rattle.ps_rules.specs.Laws.{is_cancel}
use Rattle.ps_rules.specs.Legal.{is_legal}
use Rattle.ps_rules.specs.Runs.{plan}
use Rattle.ps_rules.specs.Sound.{IsSound}
use Rattle.ps_rules.proofs.Going.{by-entry}
use Rattle.ps_rules.proofs.Kept.{fits-legal}
use Rattle.ps_rules.proofs.Pushed.{know-push}
use Rattle.ps_history_laws.specs.Inputs.{IsSayableInput}
use Rattle.ps_history_laws.specs.Laws.{HistoriesAreInForm}
use Rattle.ps_history_laws.proofs.Faults.{AreInstancesOf, edited-gives, opening-of}
use Rattle.ps_history_laws.proofs.Held.{entry-of}
use Rattle.ps_history_laws.proofs.Instances.{effect-keeps, HasInstancesOf}
use Rattle.ps_history_laws.proofs.Legal.{fitting-said}
use Rattle.ps_history_laws.proofs.Said.{IsSaid, IsSaidEntry}

-- ---- what is known

kept-edited : (count : ℕ) (k : Knowledge) (outcome : Result Knowledge EditRefusal) → MatchResult outcome (λ new. AreInstancesOf count new.instances) (IsEditRefusalOf count)
    → AreInstancesOf count k.instances → AreInstancesOf count (kept k outcome).instances
kept-edited count k (Ok new) h named = h
kept-edited count k (Err r) h named = named

kept-changed : {R : Type 0} (count : ℕ) (k : Knowledge) (outcome : Result Knowledge R) → IfOk outcome (HasInstancesOf k)
    → AreInstancesOf count k.instances → AreInstancesOf count (kept k outcome).instances
kept-changed count k (Ok new) same named = subst (AreInstancesOf count) (sym same) named
kept-changed count k (Err r) same named = named

-- the instances that are known stay of the table
known-named : (names : Table) (d : Domain) (acts : List Act) (k : Knowledge) (e : Event) → IsSaid names e → AreInstancesOf (length names) k.instances
    → AreInstancesOf (length names) (known_after d acts k e).instances
known-named names d acts k (event.Edit who edit) said named = kept-edited (length names) k (edited d k edit) (edited-gives names d k edit said.1 named) named
known-named names d acts k (event.Start act) said named =
    kept-changed (length names) k (changed d k (part (λ g. g.effects.at_start) d acts act)) (effect-keeps d k (part (λ g. g.effects.at_start) d acts act)) named
known-named names d acts k (event.End act) said named =
    kept-changed (length names) k (changed d k (part (λ g. g.effects.at_end) d acts act)) (effect-keeps d k (part (λ g. g.effects.at_end) d acts act)) named
known-named names d acts k e said named = named

-- ---- histories

-- of entries all can be said, and so it can of the instances that are known after them
record AreSaid (names : Table) (i : Input) (es : List Entry) : Type 0 where
  said : All (IsSaidEntry names) es
  named : AreInstancesOf (length names) (know i es).instances

module _ (names : Table) (i : Input) (sound : IsSound i) (sayable : IsSayableInput names i) where
  event-said : (es : List Entry) → AreSaid names i es → (e : Event) → (is_cancel e ≡ false → IsTrue (is_legal i es e)) → IsSaid names e
  event-said es h (event.Cancel act why) legal = tt
  event-said es h e legal = fitting-said names i sound sayable es h.said h.named e (fits-legal i es e (legal refl))

  entry-said : (es : List Entry) (e : Entry) → AreSaid names i es → (is_cancel e.what ≡ false → IsTrue (is_legal i es e.what)) → AreSaid names i (es ++ e ∷ [])
  entry-said es e h legal =
      let here = event-said es h e.what legal in
      record {
        said = All-push (IsSaidEntry names) es e h.said here;
        named = subst (λ (k : Knowledge). AreInstancesOf (length names) k.instances) (sym (know-push i es e)) (known-named names i.domain (plan es) (know i es) e.what here h.named);
      }

  nothing-said : AreSaid names i []
  nothing-said = record { said = All-nil (IsSaidEntry names); named = opening-of (length names) i.domain sayable.domain.constants }

pub histories_are_in_form : HistoriesAreInForm
histories_are_in_form names i es h =
    let all = by-entry i (AreSaid names i) (nothing-said names i h.sound h.sayable) (entry-said names i h.sound h.sayable) es h.history in
    λ k d below. entry-of names (get_or es k d) (h.held k d below) (all.said k d below)

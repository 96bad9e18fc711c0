-- What the members of an input do next can be said.
use Rattle.std.proofs.Common.{ℕ, ◌-◌, ◌&&◌, true, false, Option, Some, None, IfSome, List, [], ◌∷◌, All, if◌then◌else◌, length, min, slice_get, option_and_then, sym, subst}
use Rattle.std.proofs.lemmas.Option.{IfSome_then}
use Rattle.ps_world.specs.Names.{Table, same_name}
use Rattle.ps_world.specs.CondViews.{cond_tree}
use Rattle.ps_world.specs.Tables.{IsOf}
use Rattle.ps_world.specs.declared.conditions.Cond.{Cond}
use Rattle.ps_world.specs.declared.edits.Edit.{Edit}
use Rattle.ps_world.specs.declared.known.Knowledge.{Knowledge}
use Rattle.ps_world.specs.declared.names.Name.{Name}
use Rattle.ps_action.proofs.Facts.{same_name-is}
use Rattle.ps_machine.specs.declared.inputs.Input.{Input}
use Rattle.ps_machine.specs.declared.members.Unit.{Unit as Task}
use Rattle.ps_machine.specs.declared.members.Unit.TheVariants as unit
use Rattle.ps_machine.specs.declared.members.Member.{Member}
use Rattle.ps_machine.specs.declared.members.Member.TheVariants as member
use Rattle.ps_machine.specs.declared.members.Performer.{Performer}
use Rattle.ps_machine.specs.declared.journal.Entry.{Entry}
use Rattle.ps_rules.specs.Auctions.{begins, is_for_active, is_working, units_done}
use Rattle.ps_rules.specs.Known.{hold, know}
use Rattle.ps_rules.specs.Members.{as_edit, as_observer, as_performer, edit_where, job, next_edit, next_seen, next_unit, observed, observer_of, observers, performer_of, performers, seen_by, unit_of}
use Rattle.ps_rules.specs.Sound.{IsSound, IsSoundPerformer, IsSoundUnit}
use Rattle.ps_rules.proofs.Notes.{got-has, then-has}
use Rattle.ps_script_laws.specs.Sayable.{IsEditOf}
use Rattle.ps_history_laws.specs.Inputs.{IsSayableInput, IsSayableMember, IsSayableObserver, IsSayablePerformer, IsSayableUnit}
use Rattle.ps_history_laws.proofs.Found.{found-has, mapped-have}

module _ (names : Table) (i : Input) (sayable : IsSayableInput names i) where
  -- ---- performers

  as-performer : (m : Member) → IsSayableMember names m → IfSome (as_performer m) (IsSayablePerformer names)
  as-performer (member.Performer p) h = h
  as-performer (member.Observer o) h = tt

  -- the performer of a name has that name, and its units can be said
  pub record IsWorker (p : Name) (performer : Performer) : Type 0 where
    pub named : IsOf (length names) p
    pub jobs : All (All (IsSayableUnit names)) performer.jobs

  pub performer-of : (p : Name) → IfSome (performer_of i p) (IsWorker p)
  performer-of p =
      IfSome_then (performer_of i p)
      (found-has (IsSayablePerformer names) (λ performer. same_name p performer.name) (performers i) (mapped-have (IsSayableMember names) (IsSayablePerformer names) as_performer as-performer i.members sayable.members))
      (λ performer h. record { named = subst (IsOf (length names)) (sym (same_name-is p performer.name h.1)) h.0.name; jobs = h.0.jobs })

  -- what holds of all units of a performer holds of its next one
  next-has : (P : Task → Type 0) (r : ℕ) (p : Name) (es : List Entry) → IfSome (performer_of i p) (λ performer. All (All P) performer.jobs) → IfSome (next_unit i r p es) P
  next-has P r p es h =
      let made : IfSome (option_and_then (λ performer. unit_of performer r p es) (performer_of i p)) P =
      then-has (λ performer. All (All P) performer.jobs) P (λ performer. unit_of performer r p es)
      (λ performer jobs.
      then-has (All P) P (λ units. slice_get units (units_done r p es)) (λ units g. got-has P units (units_done r p es) g)
      (job performer (begins p es)) (got-has (All P) performer.jobs (min (begins p es) (length performer.jobs) - 1) jobs))
      (performer_of i p) h in
      elim (is_working r p es && is_for_active r es) as (λ b. IfSome (if b then option_and_then (λ performer. unit_of performer r p es) (performer_of i p) else None) P) [
        | true ↦ made
        | false ↦ tt
      ]

  -- a performer's next unit can be said, and so can who it is
  pub next-said : (r : ℕ) (p : Name) (es : List Entry) → IfSome (next_unit i r p es) (λ u. IsOf (length names) p × IsSayableUnit names u)
  next-said r p es =
      next-has (λ u. IsOf (length names) p × IsSayableUnit names u) r p es
      (IfSome_then (performer_of i p) (performer-of p) (λ performer h k units below j u within. (h.named, h.jobs k units below j u within)))

  -- it is a sound one
  pub next-sound : (r : ℕ) (p : Name) (es : List Entry) → IsSound i → IfSome (next_unit i r p es) IsSoundUnit
  next-sound r p es sound =
      next-has IsSoundUnit r p es
      (IfSome_then (performer_of i p) (found-has (IsSoundPerformer i.domain) (λ performer. same_name p performer.name) (performers i) sound.each_performer)
      (λ performer h k units below. (h.0.jobs k units below).each))

  edit-said : (p : Name) (u : Task) → IsOf (length names) p × IsSayableUnit names u → IfSome (as_edit u) (λ edit. IsOf (length names) p × IsEditOf names edit)
  edit-said p unit.Work h = tt
  edit-said p (unit.Feedback percent text) h = tt
  edit-said p (unit.Edit edit) h = h
  edit-said p (unit.Finish ok) h = tt

  -- its next edit can be said
  pub next-edit : (r : ℕ) (p : Name) (es : List Entry) → IfSome (next_edit i r p es) (λ edit. IsOf (length names) p × IsEditOf names edit)
  next-edit r p es =
      then-has (λ u. IsOf (length names) p × IsSayableUnit names u) (λ edit. IsOf (length names) p × IsEditOf names edit) as_edit (edit-said p) (next_unit i r p es) (next-said r p es)

  -- ---- observers

  as-observer : (m : Member) → IsSayableMember names m → IfSome (as_observer m) (IsSayableObserver names)
  as-observer (member.Performer p) h = tt
  as-observer (member.Observer o) h = h

  where-said : (o : Name) (k : Knowledge) (item : Option Cond × Edit) → IsOf (length names) o × IsEditOf names item.1 → IfSome (edit_where i.domain k item) (λ edit. IsOf (length names) o × IsEditOf names edit)
  where-said o k (None, edit) h = h
  where-said o k (Some when, edit) h =
      elim (hold i.domain k (cond_tree when ∷ [])) as (λ b. IfSome (if b then Some edit else None) (λ edit. IsOf (length names) o × IsEditOf names edit)) [ true ↦ h | false ↦ tt ]

  -- an observer's next edit can be said, and so can who it is
  pub next-seen : (o : Name) (es : List Entry) → IfSome (next_seen i o es) (λ edit. IsOf (length names) o × IsEditOf names edit)
  next-seen o es =
      then-has (λ observer. All (λ item. IsOf (length names) o × IsEditOf names item.1) observer.units) (λ edit. IsOf (length names) o × IsEditOf names edit)
      (λ observer. seen_by i observer es)
      (λ observer h.
      then-has (λ item. IsOf (length names) o × IsEditOf names item.1) (λ edit. IsOf (length names) o × IsEditOf names edit) (edit_where i.domain (know i es)) (where-said o (know i es))
      (slice_get observer.units (observed observer.name es)) (got-has (λ item. IsOf (length names) o × IsEditOf names item.1) observer.units (observed observer.name es) h))
      (observer_of i o)
      (IfSome_then (observer_of i o)
      (found-has (IsSayableObserver names) (λ observer. same_name o observer.name) (observers i) (mapped-have (IsSayableMember names) (IsSayableObserver names) as_observer as-observer i.members sayable.members))
      (λ observer h k item below. (subst (IsOf (length names)) (sym (same_name-is o observer.name h.1)) h.0.name, h.0.units k item below)))

-- A line of a member that fits its form says something.
use Rattle.std.proofs.Common.{◌≡◌, ℕ, Bool, true, false, if◌then◌else◌, List, [], ◌∷◌, Option, None, Some, refl}
use Rattle.std.specs.List.{list_all}
use Rattle.std.specs.Option.{option_and_then, option_or}
use Rattle.std.proofs.lemmas.Bool.{and_parts}
use Rattle.ps_world.specs.declared.edits.Edit.{Edit as Change}
use Rattle.ps_world.specs.declared.edits.Edit.TheVariants as change
use Rattle.ps_machine.specs.declared.inputs.Command.TheVariants as command
use Rattle.ps_machine.specs.declared.members.Unit.TheVariants as unit
use Rattle.ps_lists.specs.Nested.{Nesteds}
use Rattle.ps_lists.specs.Places.{head, items_at, rest}
use Rattle.ps_script.specs.Commands.{after_two, command_of, fourth_name, stated}
use Rattle.ps_script.specs.Forms as script
use Rattle.ps_script.specs.Goals.{fact_of, first_condition}
use Rattle.ps_script.specs.declared.forms.Form.{Form as ScriptForm}
use Rattle.ps_script.specs.declared.forms.Form.TheVariants as edit
use Rattle.ps_members.specs.Forms.{begun, is_allowed, is_edit, may_edit}
use Rattle.ps_members.specs.Lines.{Says, is_plain}
use Rattle.ps_members.specs.declared.forms.Form.{Form}
use Rattle.ps_members.specs.declared.forms.Form.TheVariants as form
use Rattle.ps_members.specs.declared.places.Place.{Place}
use Rattle.ps_members.specs.declared.places.Said.{Said}
use Rattle.ps_members.specs.declared.places.Said.TheVariants.{Performer, Observer, Action, Job, When, End, Unit as Does}

-- ---- a form of the terminal that stands in a member's text is an edit

-- what holds of a form, if there is one
abbrev MayEdit : Option Form → Type 0
MayEdit None = Unit {0}
MayEdit (Some f) = may_edit f ≡ true

begun_may : (forms : List (List (List ℕ) × Form)) (ws : List (List ℕ)) → list_all (λ e. may_edit e.1) forms ≡ true → MayEdit (begun forms ws)
begun_may [] ws h = tt
begun_may ((fixed, f) ∷ more) ws h =
    let parts = and_parts (may_edit f) (list_all (λ e. may_edit e.1) more) h in
    elim (script.begins ws 0 fixed) as (λ b. MayEdit (if b then Some f else begun more ws)) [ true ↦ parts.0 | false ↦ begun_may more ws parts.1 ]

tested_may : (f : ScriptForm) (b : Bool) → is_edit f ≡ b → MayEdit (if b then Some (form.Edit f) else None)
tested_may f true e = e
tested_may f false e = tt

edit_may : (o : Option ScriptForm) → MayEdit (option_and_then (λ f. if is_edit f then Some (form.Edit f) else None) o)
edit_may None = tt
edit_may (Some f) = tested_may f (is_edit f) refl

or_may : (a b : Option Form) → MayEdit a → MayEdit b → MayEdit (option_or a b)
or_may None b p q = q
or_may (Some f) b p q = p

allowed_may : (at : Place) (o : Option Form) → MayEdit o → MayEdit (option_and_then (λ f. if is_allowed at f then Some f else None) o)
allowed_may at None h = tt
allowed_may at (Some f) h = elim (is_allowed at f) as (λ b. MayEdit (if b then Some f else None)) [ true ↦ h | false ↦ tt ]

-- ---- what a line says

-- an edit is one
edit_is : (f : ScriptForm) (ts : Nesteds) → is_edit f ≡ true → (e : Change) × (command_of f ts ≡ command.Edit e)
edit_is edit.SetInstance ts h = (change.AddInstance (head (after_two ts)).name (fourth_name ts), refl)
edit_is edit.SetPredicate ts h = (change.AddFact (stated ts), refl)
edit_is edit.SetFunction ts h =
    let us : Nesteds = items_at (after_two ts) in
    (change.SetValue (fact_of (items_at (rest us))) (head (rest (rest us))).number, refl)
edit_is edit.SetGoal ts h = (change.SetGoal (first_condition (after_two ts)), refl)
edit_is edit.RemoveInstance ts h = (change.RemoveInstance (head (after_two ts)).name, refl)
edit_is edit.RemovePredicate ts h = (change.RemoveFact (stated ts), refl)
edit_is edit.RemoveFunction ts h = (change.RemoveValue (stated ts), refl)
edit_is edit.RemoveGoal ts h = (change.RemoveGoal, refl)
edit_is _ ts h = absurd (cc)

pub says : (f : Form) (ts : Nesteds) → is_plain f ≡ true → may_edit f ≡ true → (said : Said) × Says f ts said
says form.Performer ts plain may = (Performer (head (rest ts)).name, refl)
says form.Observer ts plain may = (Observer (head (rest ts)).name, refl)
says form.Action ts plain may = (Action (head (rest ts)).name, refl)
says form.Job ts plain may = (Job, refl)
says form.When ts plain may = (When (first_condition (rest ts)), refl)
says form.End ts plain may = (End, refl)
says form.Work ts plain may = (Does unit.Work, refl)
says form.FinishOk ts plain may = (Does (unit.Finish true), refl)
says form.FinishFail ts plain may = (Does (unit.Finish false), refl)
says (form.Edit f) ts plain may =
    let e = edit_is f ts may in
    (Does (unit.Edit e.0), (e.0, e.1, refl))
says form.Args ts plain may = absurd (cc)
says form.Feedback ts plain may = absurd (cc)

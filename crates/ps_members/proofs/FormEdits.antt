-- A form of the terminal that may stand in a member script is an edit.
use Rattle.std.proofs.Common.{◌≡◌, ℕ, Bool, true, false, if◌then◌else◌, List, [], ◌∷◌, Option, None, Some, refl, subst}
use Rattle.std.specs.List.{list_all}
use Rattle.std.specs.Option.{option_and_then, option_or}
use Rattle.std.proofs.lemmas.Bool.{and_parts}
use Rattle.ps_script.specs.Forms as script
use Rattle.ps_script.specs.declared.forms.Form.{Form as ScriptForm}
use Rattle.ps_members.specs.Forms.{begun, edit_form, form_at, form_of, is_allowed, is_edit, may_edit, own_forms}
use Rattle.ps_members.specs.declared.forms.Form.{Form}
use Rattle.ps_members.specs.declared.forms.Form.TheVariants.{Edit}
use Rattle.ps_members.specs.declared.places.Place.{Place}

-- what holds of a form, if there is one
abbrev Right : Option Form → Type 0
Right None = Unit {0}
Right (Some f) = may_edit f ≡ true

begun_right : (forms : List (List (List ℕ) × Form)) (ws : List (List ℕ)) → list_all (λ e. may_edit e.1) forms ≡ true → Right (begun forms ws)
begun_right [] ws h = tt
begun_right ((fixed, f) ∷ more) ws h =
    let parts = and_parts (may_edit f) (list_all (λ e. may_edit e.1) more) h in
    elim (script.begins ws 0 fixed) as (λ b. Right (if b then Some f else begun more ws)) [ true ↦ parts.0 | false ↦ begun_right more ws parts.1 ]

edit_here : (f : ScriptForm) (b : Bool) → is_edit f ≡ b → Right (if b then Some (Edit f) else None)
edit_here f true e = e
edit_here f false e = tt

edit_right : (o : Option ScriptForm) → Right (option_and_then (λ f. if is_edit f then Some (Edit f) else None) o)
edit_right None = tt
edit_right (Some f) = edit_here f (is_edit f) refl

or_right : (a b : Option Form) → Right a → Right b → Right (option_or a b)
or_right None b p q = q
or_right (Some f) b p q = p

allowed_right : (at : Place) (o : Option Form) → Right o → Right (option_and_then (λ f. if is_allowed at f then Some f else None) o)
allowed_right at None h = tt
allowed_right at (Some f) h = elim (is_allowed at f) as (λ b. Right (if b then Some f else None)) [ true ↦ h | false ↦ tt ]

pub form_edits : (at : Place) (ws : List (List ℕ)) (f : Form) → form_at at ws ≡ Some f → may_edit f ≡ true
form_edits at ws f e =
    subst Right e (allowed_right at (form_of ws) (or_right (begun own_forms ws) (edit_form ws) (begun_right own_forms ws refl) (edit_right (script.form_of ws))))

-- Edits that are asked for, and edits that are refused.
use Rattle.std.proofs.Common.{◌≡◌, ℕ, ◌+◌, ◌==◌, ◌&&◌, Bool, true, false, Option, Some, None, is_none, is_ok, Result, Ok, Err, List, option_and_then, refl, ap, sym, ◌∙◌}
use Rattle.ps_world.specs.Knowledge.{edited}
use Rattle.ps_world.specs.declared.domains.Domain.{Domain}
use Rattle.ps_world.specs.declared.edits.Edit.{Edit}
use Rattle.ps_world.specs.declared.edits.EditRefusal.{EditRefusal}
use Rattle.ps_world.specs.declared.known.Knowledge.{Knowledge}
use Rattle.ps_world.proofs.Truths.{and_assoc}
use Rattle.ps_machine.specs.declared.inputs.Input.{Input}
use Rattle.ps_machine.specs.declared.journal.By.{By}
use Rattle.ps_machine.specs.declared.journal.By.TheVariants.{Terminal, Performer, Observer}
use Rattle.ps_machine.specs.declared.journal.Entry.{Entry}
use Rattle.ps_machine.specs.declared.journal.Event.TheVariants as event
use Rattle.ps_machine.specs.declared.journal.Refusal.{Refusal}
use Rattle.ps_rules.specs.Known.{kept, know}
use Rattle.ps_rules.specs.Legal.{is_edit, line_edit, row_allows}
use Rattle.ps_rules.specs.Lines.{answered, edit_refusal, next_line}
use Rattle.ps_state.specs.State.{Stands}
use Rattle.ps_state.specs.declared.state.State.{State}
use Rattle.ps_legal.specs.Lines.{Refuses}
use Rattle.ps_legal.specs.Table.{is_asked, refusal_of_edit}

-- what is known in the domain is what the entries say
pub edit-as : {A : Type 0} (f : Domain → Knowledge → A) (i : Input) (es : List Entry) (p : State) → Stands i es p → f p.expert p.problem ≡ f i.domain (know i es)
edit-as f i es p s = ap (λ d. f d p.problem) s.domain ∙ ap (f i.domain) s.known

and-not : (a b : Bool) → a ≡ false → false ≡ (a && b)
and-not a b e = rw e refl

and-so : (a b : Bool) → a ≡ true → b ≡ (a && b)
and-so a b e = rw e refl

fits-edit : (i : Input) (es : List Entry) (by : By) (edit : Edit) → (is_asked i es by edit && is_ok (edited i.domain (know i es) edit)) ≡ row_allows i es (event.Edit by edit)
fits-edit i es (Terminal n) edit = and_assoc (n == answered es + 1) (is_edit edit (line_edit (next_line i es))) (is_ok (edited i.domain (know i es) edit))
fits-edit i es (Performer r p) edit = refl
fits-edit i es (Observer o) edit = refl

-- an edit that isn't asked for doesn't fit
pub edit-not-asked : (i : Input) (es : List Entry) (by : By) (edit : Edit) → is_asked i es by edit ≡ false → false ≡ row_allows i es (event.Edit by edit)
edit-not-asked i es by edit e = and-not (is_asked i es by edit) (is_ok (edited i.domain (know i es) edit)) e ∙ fits-edit i es by edit

-- one that is fits where it is accepted
pub edit-asked : (i : Input) (es : List Entry) (by : By) (edit : Edit) → is_asked i es by edit ≡ true → is_ok (edited i.domain (know i es) edit) ≡ row_allows i es (event.Edit by edit)
edit-asked i es by edit e = and-so (is_asked i es by edit) (is_ok (edited i.domain (know i es) edit)) e ∙ fits-edit i es by edit

-- What a performer records after its unit is what it does in its turn.
use Rattle.std.proofs.Common.{◌≡◌, ℕ, ◌&&◌, true, Some, None, option_map, if◌then◌else◌, List, ap, sym, ◌∙◌}
use Rattle.std.specs.Option.{option_or}
use Rattle.std.proofs.lemmas.Bool.{and_parts}
use Rattle.ps_world.specs.declared.names.Name.{Name}
use Rattle.ps_world.proofs.Optionals.{none_not_some}
use Rattle.ps_machine.specs.declared.inputs.Input.{Input}
use Rattle.ps_machine.specs.declared.members.Unit.{Unit as Task}
use Rattle.ps_machine.specs.declared.journal.Event.TheVariants as event
use Rattle.ps_machine.specs.declared.journal.Entry.{Entry}
use Rattle.ps_rules.specs.Auctions.{is_for_active, is_working}
use Rattle.ps_rules.specs.Members.{next_unit}
use Rattle.ps_rules.specs.Choices.{all_requests, performed, performer_turn, unit_event, work_of}
use Rattle.ps_progress_laws.specs.Working.{recorded, unit_due}
use Rattle.ps_progress_laws.proofs.Picking.{by_test}
use Rattle.ps_rules.proofs.Choosing.{worked-on}

-- whose next unit is there, its act is active, and the unit is due
next-due : (i : Input) (r : ℕ) (p : Name) (es : List Entry) (u : Task) → next_unit i r p es ≡ Some u → (is_for_active r es ≡ true) × (unit_due i r p es ≡ Some u)
next-due i r p es u e =
    by_test (is_working r p es && is_for_active r es)
    (λ t. ((and_parts (is_working r p es) (is_for_active r es) t).1, sym (ap (λ b. if b then unit_due i r p es else None) t) ∙ e))
    (λ t. none_not_some u (sym (ap (λ b. if b then unit_due i r p es else None) t) ∙ e))

pub work-recorded : (i : Input) (es : List Entry) (p : Name) (w : ℕ × Task) → performed i p es ≡ None → work_of i p es ≡ Some w → recorded i es w.0 p ≡ performer_turn i p es
work-recorded i es p w idle works =
    let n = next-due i w.0 p es w.1 (worked-on i p es (all_requests es) w works) in
    ap (λ b. if b then option_map (unit_event i es w.0 p) (unit_due i w.0 p es) else Some (event.Stopped w.0 p)) n.0
    ∙ ap (option_map (unit_event i es w.0 p)) n.1
    ∙ sym (ap (λ o. option_or o (option_map (λ w. unit_event i es w.0 p w.1) (work_of i p es))) idle ∙ ap (option_map (λ w. unit_event i es w.0 p w.1)) works)

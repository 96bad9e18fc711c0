use Rattle.std.proofs.Common.{ap, sym, ◌∙◌}
use Rattle.std.specs.Option.{option_copied}
use Rattle.ps_world.proofs.Optionals.{none_not_some}
use Rattle.ps_progress_laws.proofs.Recording.{who_works_can_record}
use Rattle.ps_board.specs.declared.whole.Parts.{Parts}
use Rattle.ps_board.proofs.whole.Parts.copy_due.Goals as goal

pub unreachable-requires : goal.unreachable-requires
unreachable-requires c =
    let parts : Parts = c.args.self.now in
    let can = who_works_can_record parts.input parts.entries.items c.requires.stands.sound c.requires.stands.history c.args.r c.args.by c.requires.works in
    none_not_some can.next (ap option_copied (sym c.in-None.is) ∙ c.unit_due.ensures ∙ can.due)

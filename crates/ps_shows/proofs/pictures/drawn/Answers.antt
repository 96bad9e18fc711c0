use Rattle.std.proofs.Common.{subst}
use Rattle.ps_world.specs.Names.{Table}
use Rattle.ps_entries.specs.Journals.{IsText}
use Rattle.ps_shows.proofs.pictures.drawn.Goals as goal

pub returns-in-Ok-draw_journal : goal.returns-in-Ok-draw_journal
returns-in-Ok-draw_journal c =
    let after = c.read_journal.new.names in (
      c.in-Ok.journal,
      after,
      subst (λ (before : Table). IsText before c.args.text.now c.in-Ok.journal after) c.requires.first c.in-Ok.ensures.text,
      c.in-Ok-draw_journal.ensures,
    )

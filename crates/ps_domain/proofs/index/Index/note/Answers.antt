use Rattle.std.proofs.Common.{sym, ◌∙◌}
use Rattle.ps_domain.proofs.Indexes.{notes_new}
use Rattle.ps_domain.proofs.index.Index.note.Goals as goal

pub returns-in_ok-insert-clause-ok : goal.returns-in_ok-insert-clause-ok
returns-in_ok-insert-clause-ok c =
    rw (← c.self.view_is)
    (notes_new c.self.inside.places.entries c.insert.new.self.entries c.args.name c.args.place (sym c.contains_key.ensures ∙ c.if-not-contains_key.true) c.in_ok-insert.ensures.updates.0)

use Rattle.ps_undo.proofs.Undoing.{undo_takes}
use Rattle.ps_undo.proofs.undo.Undo.undo.Goals as goal

pub returns : goal.returns
returns c =
    undo_takes c.args.self.now c.self.inside.problem c.self.inside.past.items c.self.inside.future.items c.go-taken.result c.go-taken.new.problem c.go-taken.new.from.items c.go-taken.new.to.items c.answer.result c.self.view_is c.requires.now.rises c.go-taken.ensures c.answer.ensures

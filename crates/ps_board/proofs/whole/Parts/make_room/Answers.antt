use Rattle.ps_board.proofs.Ready.{grown-by}
use Rattle.ps_board.proofs.whole.Parts.make_room.Goals as goal

pub returns-clause-grown : goal.returns-clause-grown
returns-clause-grown c =
    grown-by c.args.self.now c.make_room.new.self c.reserve.new.entries c.args.self.now.spare c.reserve.ensures.items c.reserve.ensures.capacity c.make_room.ensures.kept c.make_room.ensures.spare

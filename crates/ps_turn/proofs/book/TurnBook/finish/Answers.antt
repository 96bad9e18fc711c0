use Rattle.std.proofs.Common.{ap}
use Rattle.ps_turn.specs.Seats.{founded_on}
use Rattle.ps_turn.proofs.Joined.{is_there, ended}
use Rattle.ps_turn.proofs.book.TurnBook.finish.Goals as goal

pub unreachable-requires : goal.unreachable-requires
unreachable-requires g c =
    let key = c.self.inside.table.shared.key in
    let t = is_there g.V.Grows.history g.V.Grows.input record { seats = key.seats; base = g.V.Grows.history key.opened.value; input = g.V.Grows.input key.opened.value } c.args.self _ c.args.keeper.me.0 _ _
    (ap founded_on c.self.view_is) c.close_with-closed.ensures.values.2 c.requires.live c.requires.aside c.requires.all c.take-slot.result c.take-slot.ensures.value in
    c.in_default.not-Some t.0 t.1

pub returns-clause-of_input : goal.returns-clause-of_input
returns-clause-of_input g c =
    let key = c.self.inside.table.shared.key in
    let e = ended g.V.Grows.history g.V.Grows.input record { seats = key.seats; base = g.V.Grows.history key.opened.value; input = g.V.Grows.input key.opened.value } c.args.self _ c.args.keeper.me.0 _ _
    (ap founded_on c.self.view_is) c.close_with-closed.ensures.values.2 c.requires.live c.requires.aside c.requires.all c.take-slot.result c.take-slot.ensures.value c.in-Some.value c.in-Some.is in
    e.of_input

pub returns-clause-grows : goal.returns-clause-grows
returns-clause-grows g c =
    let key = c.self.inside.table.shared.key in
    let e = ended g.V.Grows.history g.V.Grows.input record { seats = key.seats; base = g.V.Grows.history key.opened.value; input = g.V.Grows.input key.opened.value } c.args.self _ c.args.keeper.me.0 _ _
    (ap founded_on c.self.view_is) c.close_with-closed.ensures.values.2 c.requires.live c.requires.aside c.requires.all c.take-slot.result c.take-slot.ensures.value c.in-Some.value c.in-Some.is in
    e.grows

pub returns-clause-tells : goal.returns-clause-tells
returns-clause-tells g c =
    let key = c.self.inside.table.shared.key in
    let e = ended g.V.Grows.history g.V.Grows.input record { seats = key.seats; base = g.V.Grows.history key.opened.value; input = g.V.Grows.input key.opened.value } c.args.self _ c.args.keeper.me.0 _ _
    (ap founded_on c.self.view_is) c.close_with-closed.ensures.values.2 c.requires.live c.requires.aside c.requires.all c.take-slot.result c.take-slot.ensures.value c.in-Some.value c.in-Some.is in
    e.tells

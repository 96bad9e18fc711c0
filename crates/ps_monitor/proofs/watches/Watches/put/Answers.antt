use Rattle.std.proofs.Common.{refl}
use Rattle.ps_action.specs.Touching.{read_by_list}
use Rattle.ps_monitor.proofs.Indexing.{indexed_grown, indexed_same, indexed_set}
use Rattle.ps_monitor.proofs.watches.Watches.put.Goals as goal

pub invariant_of-self-in_err-enter : goal.invariant_of-self-in_err-enter
invariant_of-self-in_err-enter c =
    let same = indexed_same c.self.inside.places.items c.make_place.new.places.items c.self.inside.readers c.self.invariant c.make_place.ensures.same in
    indexed_grown c.make_place.new.places.items c.self.inside.readers c.enter.new.readers c.args.act c.enter.ensures.more same

pub invariant_of-self-2 : goal.invariant_of-self-2
invariant_of-self-2 c =
    let same = indexed_same c.self.inside.places.items c.make_place.new.places.items c.self.inside.readers c.self.invariant c.make_place.ensures.same in
    indexed_set c.make_place.new.places.items c.self.inside.readers c.enter.new.readers c.args.act c.args.watch (read_by_list c.args.watch) c.in_ok-make_place.ensures.ok
    refl c.enter.ensures.more c.in_ok-enter.ensures.ok same

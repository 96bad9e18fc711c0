use Rattle.ps_domain.proofs.Indexes.{indexed_more}
use Rattle.ps_domain.proofs.index.Index.of.Goals as goal

pub loop-place-preserved : goal.loop-place-preserved
loop-place-preserved g c =
    indexed_more g.T.Named.name_of c.args.list.now c.loop-place.place c.index-list-place.result c.name.result c.loop-place.index c.note.new.self c.loop-place-test.true c.index-list-place.is c.name.ensures c.loop-place.invariant c.in_ok-note.ensures.ok

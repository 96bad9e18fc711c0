use Rattle.std.proofs.Common.{◌≡◌, fold, take}
use Rattle.std.specs.BTreeSet.{insert_key}
use Rattle.ps_world.specs.Facts.{fact_cmp}
use Rattle.ps_marks.proofs.candidates.insert_all.Given as goal

abbrev pub invariant-loop-fact : goal.invariant-loop-fact
invariant-loop-fact l = l.found.keys ≡ fold (insert_key fact_cmp) l.fn.found.keys (take l.fact-index l.facts)

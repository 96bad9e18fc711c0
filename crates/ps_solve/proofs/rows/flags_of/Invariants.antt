use Rattle.std.proofs.Common.{◌≡◌, [], drop, fold, length}
use Rattle.std.specs.BTreeSet.{insert_key}
use Rattle.ps_world.specs.Facts.{fact_cmp}
use Rattle.ps_ground.specs.Atoms.{AreAtoms}
use Rattle.ps_solve.specs.Rows.{facts_of}
use Rattle.ps_solve.proofs.rows.flags_of.Given as goal

-- the flags of the facts so far are set, and those that are left are atoms
abbrev pub invariant-loop-fact : goal.invariant-loop-fact
invariant-loop-fact l = record {
  facts : fold (insert_key fact_cmp) (facts_of l.atoms l.flags) (drop l.fact-index l.facts) ≡ fold (insert_key fact_cmp) [] l.facts;
  wide : length l.flags ≡ length l.atoms;
  left : AreAtoms l.atoms (drop l.fact-index l.facts);
}

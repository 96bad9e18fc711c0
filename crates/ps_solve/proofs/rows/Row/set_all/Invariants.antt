use Rattle.std.proofs.Common.{◌≡◌, drop, fold, length}
use Rattle.ps_ground.specs.Prepared.{with_at}
use Rattle.ps_solve.specs.Rows.{facts_of}
use Rattle.ps_solve.proofs.rows.Row.set_all.Given as goal

abbrev pub invariant-loop-place : goal.invariant-loop-place
invariant-loop-place l = record {
  facts : fold (with_at l.atoms) (facts_of l.atoms l.self.flags) (drop l.place-index l.places) ≡ fold (with_at l.atoms) (facts_of l.atoms l.initial.self.flags) l.places;
  values : l.self.values ≡ l.initial.self.values;
  wide : length l.self.flags ≡ length l.initial.self.flags;
}

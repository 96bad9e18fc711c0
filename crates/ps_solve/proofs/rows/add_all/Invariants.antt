use Rattle.std.proofs.Common.{◌≡◌, fold, filter_map, length, drop}
use Rattle.std.specs.BTreeSet.{insert_key}
use Rattle.ps_world.specs.Facts.{fact_cmp}
use Rattle.ps_action.specs.Effects.{added_by}
use Rattle.ps_ground.specs.Atoms.{AddAtoms}
use Rattle.ps_solve.specs.Rows.{facts_of}
use Rattle.ps_solve.proofs.rows.add_all.Given as goal

-- what the effects that are left add to what is there, all of it atoms
abbrev pub invariant-loop-effect : goal.invariant-loop-effect
invariant-loop-effect l = record {
  facts : fold (insert_key fact_cmp) (facts_of l.atoms l.flags) (filter_map added_by (drop l.effect-index l.effects)) ≡ fold (insert_key fact_cmp) (facts_of l.atoms l.initial.flags) (filter_map added_by l.effects);
  wide : length l.flags ≡ length l.initial.flags;
  left : AddAtoms l.atoms (drop l.effect-index l.effects);
}

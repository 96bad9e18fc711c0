use Rattle.std.proofs.Common.{rules, sym}
use Rattle.std.specs.Ordering.{is_gt}
use Rattle.std.proofs.lemmas.List.Sorted.{IsPartitionPoint-from_clause}
use Rattle.ps_world.specs.Names.{name_cmp}
use Rattle.ps_problem.proofs.NamePlaces.{parted, place_is}
use Rattle.ps_problem.proofs.problem.instances.place_of.Goals as goal

pub returns : goal.returns
returns c =
    let n = c.args.name in
    let es = c.args.all.now in
    let point = IsPartitionPoint-from_clause (λ e. is_gt (name_cmp n e.0)) _ _ c.partition_point.ensures.partitioned (parted n es c.requires) (λ a r q k. search rules) in
    sym (place_is n es c.partition_point.result c.partition_point.ensures.bound point)

use Rattle.std.proofs.Common.{◌≡◌, drop, length, map, rules}
use Rattle.std.proofs.lemmas.List.{take_rest}
use Rattle.ps_lists.specs.Nested.{nesteds}
use Rattle.ps_lists.specs.NestedViews.{nested}
use Rattle.ps_pddl.specs.declared.meaning.lists.Listing.TheVariants.{Bound}
use Rattle.ps_pddl.proofs.BoundLists.{few_bound, listed_longer}
use Rattle.ps_pddl.proofs.meaning.lists.binding.Goals as goal

pub slice_bounds-extend_from_slice-count : goal.slice_bounds-extend_from_slice-count
slice_bounds-extend_from_slice-count c =
    rw c.as_slice-listed.ensures.value (listed_longer c.args.d.now (Bound c.args.most) (nesteds (map nested c.args.trees.now)) c.args.params.now c.in_ok-all.all.items c.in_ok-all.ensures)

pub slice_bounds-extend_from_slice-start : goal.slice_bounds-extend_from_slice-start
slice_bounds-extend_from_slice-start c =
    rw c.as_slice-listed.ensures.value (listed_longer c.args.d.now (Bound c.args.most) (nesteds (map nested c.args.trees.now)) c.args.params.now c.in_ok-all.all.items c.in_ok-all.ensures)

pub of-requires : goal.of-requires
of-requires c =
    let rest = take_rest c.as_slice-listed.result.now (length c.args.params.now) in
    let own : c.extend_from_slice.new.self.items ≡ drop (length c.args.params.now) c.in_ok-all.all.items = search rules in
    rw own (few_bound c.args.d.now c.args.most (nesteds (map nested c.args.trees.now)) c.args.params.now c.in_ok-all.all.items c.requires.new c.requires.in_force c.requires.before c.in_ok-all.ensures).0

pub returns-clause-few : goal.returns-clause-few
returns-clause-few c =
    let rest = take_rest c.as_slice-listed.result.now (length c.args.params.now) in
    let own : c.of.result ≡ drop (length c.args.params.now) c.in_ok-all.all.items = search rules in
    rw own (few_bound c.args.d.now c.args.most (nesteds (map nested c.args.trees.now)) c.args.params.now c.in_ok-all.all.items c.requires.new c.requires.in_force c.requires.before c.in_ok-all.ensures).1

use Rattle.std.proofs.Common.{◌≡◌, ap, arith, rules, is_some, true, false, option_map, map}
use Rattle.std.specs.Option.{option_copied}
use Rattle.ps_world.specs.CondViews.{cond_tree}
use Rattle.ps_world.specs.Trees.{conds_rank}
use Rattle.ps_world.proofs.CondRanks.{rank_in}
use Rattle.ps_places.specs.Parts.{first_false, first_false_of}
use Rattle.ps_places.proofs.FalseParts.{copied_some, first_more, found_here, goes_on}
use Rattle.ps_places.proofs.parts.+parts.Goals as goal

pub first_false_of-first_false-found-requires : goal.first_false_of-first_false-found-requires
first_false_of-first_false-found-requires g t c κs within =
    let slice = c.as_slice-cond-items in
    (omega (arith, rank_in slice.result.now c.loop-cond.cond-index c.cond-item.result (omega arith) c.cond-item.is, ap conds_rank slice.ensures), within)

pub first_false_of-returns-then-is_some : goal.first_false_of-returns-then-is_some
first_false_of-returns-then-is_some g t c =
    let d = g.T.Types.types c.args.types.now in
    let k = g.K.Known.known c.args.known.now in
    let found = c.first_false-found in
    let there : is_some (option_map cond_tree (option_copied found.result)) ≡ true = copied_some cond_tree (option_copied found.result) true (search rules) in
    found_here (λ cs. first_false_of d k (map cond_tree cs)) (λ x. first_false d k (cond_tree x)) (λ x cs. first_more d k (cond_tree x) (map cond_tree cs))
    c.as_slice-cond-items.result.now c.loop-cond.cond-index c.cond-item.result (option_map cond_tree (option_copied found.result)) (first_false_of d k c.args.conds.now)
    (omega arith) c.cond-item.is found.ensures there c.loop-cond.invariant

pub first_false_of-loop-cond-preserved : goal.first_false_of-loop-cond-preserved
first_false_of-loop-cond-preserved g t c =
    let d = g.T.Types.types c.args.types.now in
    let k = g.K.Known.known c.args.known.now in
    let found = c.first_false-found in
    let gone : is_some (option_map cond_tree (option_copied found.result)) ≡ false = copied_some cond_tree (option_copied found.result) false (search rules) in
    goes_on (λ cs. first_false_of d k (map cond_tree cs)) (λ x. first_false d k (cond_tree x)) (λ x cs. first_more d k (cond_tree x) (map cond_tree cs))
    c.as_slice-cond-items.result.now c.loop-cond.cond-index c.cond-item.result (option_map cond_tree (option_copied found.result)) (first_false_of d k c.args.conds.now)
    (omega arith) c.cond-item.is found.ensures gone c.loop-cond.invariant

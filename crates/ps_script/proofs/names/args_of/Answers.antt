use Rattle.std.proofs.Common.{◌≡◌, ◌∙◌, ap, arith, map, subst, take, ℕ}
use Rattle.std.proofs.Math.ListN.{length-set}
use Rattle.ps_lists.specs.NestedViews.{nested}
use Rattle.ps_lists.specs.Places.{word_of}
use Rattle.ps_script.proofs.Lists.{first_names, name_more}
use Rattle.ps_script.proofs.names.args_of.Goals as goal

pub loop-i-preserved : goal.loop-i-preserved
loop-i-preserved c = record {
  six = length-set c.loop-i.names c.loop-i.i c.word_of.result.name ∙ c.loop-i.invariant.six;
  filled = name_more c.args.trees.now c.loop-i.i c.index-trees-i.result c.loop-i.names c.word_of.result.name (omega arith) (omega arith) c.index-trees-i.is (ap (λ w. w.name) c.word_of.ensures) c.loop-i.invariant.filled;
}

pub returns : goal.returns
returns c =
    let all : c.loop-i.i ≡ c.min-count.result = omega arith in
    first_names c.args.trees.now c.min-count.result c.in-Some.args c.loop-i.names c.min-count.ensures c.in-Some.ensures.1
    (subst (λ (n : ℕ). take n c.loop-i.names ≡ map (λ t. (word_of (nested t)).name) (take n c.args.trees.now)) all c.loop-i.invariant.filled)

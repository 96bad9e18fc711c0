use Rattle.std.proofs.Common.{◌≡◌, ◌∙◌, ap, arith, map, subst, take, ℕ}
use Rattle.std.proofs.Math.ListN.{length-set}
use Rattle.ps_lists.specs.NestedViews.{nested}
use Rattle.ps_lists.specs.Places.{word_of}
use Rattle.ps_script.specs.Goals.{term}
use Rattle.ps_script.proofs.Lists.{first_terms, term_more}
use Rattle.ps_script.proofs.names.lifted.Goals as goal

pub loop-i-preserved : goal.loop-i-preserved
loop-i-preserved c = record {
  six = length-set c.loop-i.terms c.loop-i.i c.term.result ∙ c.loop-i.invariant.six;
  filled = term_more c.args.params.now c.args.trees.now c.loop-i.i c.index-trees-i.result c.loop-i.terms c.term.result (omega arith) (omega arith) c.index-trees-i.is (c.term.ensures ∙ ap (term c.args.params.now) c.word_of.ensures) c.loop-i.invariant.filled;
}

pub returns : goal.returns
returns c =
    let all : c.loop-i.i ≡ c.min-count.result = omega arith in
    ap (λ ts. record { head = c.args.head.name; terms = ts }) (first_terms c.args.params.now c.args.trees.now c.min-count.result c.in-Some.terms c.loop-i.terms c.min-count.ensures c.in-Some.ensures.1
    (subst (λ (n : ℕ). take n c.loop-i.terms ≡ map (λ t. term c.args.params.now (word_of (nested t))) (take n c.args.trees.now)) all c.loop-i.invariant.filled))

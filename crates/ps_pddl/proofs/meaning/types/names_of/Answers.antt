use Rattle.std.proofs.Common.{◌≡◌, true, rules, sym, ◌∙◌}
use Rattle.ps_grammar.specs.Marks.{is}
use Rattle.ps_grammar.specs.declared.marks.Mark.TheVariants.{Minus}
use Rattle.ps_lists.specs.NestedViews.{nested}
use Rattle.ps_lists.specs.Places.{word_of}
use Rattle.ps_pddl.proofs.Parents.{names-minus}
use Rattle.ps_pddl.proofs.meaning.types.names_of.Goals as goal

pub loop-i-preserved-then-eq : goal.loop-i-preserved-then-eq
loop-i-preserved-then-eq c =
    let minus : is Minus (word_of (nested c.index-trees-i.result)).mark ≡ true = search rules in
    sym (names-minus c.args.trees.now c.loop-i.i c.index-trees-i.result c.loop-i.all.items c.loop-i-test.true c.index-trees-i.is minus) ∙ c.loop-i.invariant

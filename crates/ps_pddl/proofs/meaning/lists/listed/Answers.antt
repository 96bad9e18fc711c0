use Rattle.std.proofs.Common.{◌≡◌, false, rules}
use Rattle.std.proofs.lemmas.Result.{err_from_is_err_and}
use Rattle.ps_grammar.specs.Marks.{is}
use Rattle.ps_grammar.specs.declared.marks.Mark.TheVariants.{Minus}
use Rattle.ps_pddl.proofs.Listings.{run-name, listed-added, listed-fault}
use Rattle.ps_pddl.proofs.meaning.lists.listed.Goals as goal

pub loop-i-preserved : goal.loop-i-preserved
loop-i-preserved c =
    let name : is Minus c.word_of-word.result.mark ≡ false = search rules in
    record {
      run = run-name c.args.trees.now c.loop-i.i c.index-trees-i.result c.loop-i-test.true c.index-trees-i.is c.args.d.now c.args.listing c.word_of-word.result c.loop-i.kind c.loop-i.all.items c.word_of-word.ensures name c.loop-i.invariant.run;
      whole = rw (← c.loop-i.invariant.whole) (listed-added c.args.trees.now c.loop-i.i c.index-trees-i.result c.loop-i-test.true c.index-trees-i.is c.args.d.now c.args.listing c.word_of-word.result c.loop-i.kind c.loop-i.all.items c.word_of-word.ensures name c.loop-i.invariant.run c.add_name.new.before.items c.in_ok-add_name.ensures);
    }

pub returns-in_err-add_name : goal.returns-in_err-add_name
returns-in_err-add_name c =
    let p = err_from_is_err_and c.from_residual-in_err-add_name.result c.from_residual-in_err-add_name.ensures.1 in
    let name : is Minus c.word_of-word.result.mark ≡ false = search rules in
    rw (p.1, p.2, ← c.loop-i.invariant.whole) (listed-fault c.args.trees.now c.loop-i.i c.index-trees-i.result c.loop-i-test.true c.index-trees-i.is c.args.d.now c.args.listing c.word_of-word.result c.loop-i.kind c.loop-i.all.items c.word_of-word.ensures name c.loop-i.invariant.run c.in_err-add_name.field-0.0 c.in_err-add_name.ensures)

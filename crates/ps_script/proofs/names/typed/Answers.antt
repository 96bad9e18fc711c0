use Rattle.std.proofs.Common.{◌≡◌, false, true, rules, arith, ◌∙◌, sym, ap}
use Rattle.ps_grammar.specs.Marks.{is}
use Rattle.ps_grammar.specs.declared.marks.Mark.TheVariants.{Minus}
use Rattle.ps_script.proofs.Typed.{listed_type, listed_variable, run_on}
use Rattle.ps_script.proofs.names.typed.Goals as goal

pub loop-i-preserved-then-eq : goal.loop-i-preserved-then-eq
loop-i-preserved-then-eq c =
    let minus : is Minus c.word_of-word.result.mark ≡ true = search rules in
    record {
      few = c.loop-i.invariant.few;
      run = c.kind_ahead-kind-then-eq.ensures;
      whole = listed_type c.args.trees.now c.loop-i.i c.index-trees-i.result c.loop-i-test.true c.index-trees-i.is c.loop-i.all.items c.args.most _ (ap (λ l. is Minus l.mark) (sym c.word_of-word.ensures) ∙ minus) c.loop-i.invariant.whole;
    }

pub loop-i-preserved : goal.loop-i-preserved
loop-i-preserved c =
    let name : is Minus c.word_of-word.result.mark ≡ false = search rules in
    record {
      few = omega (arith, c.if-len-most.true);
      run = run_on c.args.trees.now c.loop-i.i c.index-trees-i.result c.loop-i-test.true c.index-trees-i.is c.word_of-word.result c.loop-i.kind c.word_of-word.ensures name c.loop-i.invariant.run;
      whole = listed_variable c.args.trees.now c.loop-i.i c.index-trees-i.result c.loop-i-test.true c.index-trees-i.is c.word_of-word.result c.loop-i.kind c.word_of-word.ensures name c.loop-i.invariant.run c.loop-i.all.items _ c.args.most _ (omega (arith, c.if-len-most.true)) c.in_ok-push.ensures.items c.loop-i.invariant.whole;
    }

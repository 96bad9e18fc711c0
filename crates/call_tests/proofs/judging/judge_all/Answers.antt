use Rattle.std.proofs.Common.{◌≡◌, ◌+◌, ◌++◌, [], ◌∷◌, List, take, ap, sym, ◌∙◌, arith}
use Rattle.std.proofs.lemmas.List.{take_more}
use Rattle.ps_machine.specs.declared.journal.Entry.{Entry}
use Rattle.ps_replay.proofs.Leading.{reached-as}
use Rattle.call_tests.proofs.judging.judge_all.Goals as goal

pub loop-at-preserved : goal.loop-at-preserved
loop-at-preserved c =
    let es : List Entry = c.args.entries.now in
    let at = c.loop-at.at in
    let e : Entry = c.index-entries-at.result in
    let more : take (at + 1) es ≡ take at es ++ e ∷ [] = take_more es at e (omega arith) ∙ ap (λ x. take at es ++ x ∷ []) (sym c.index-entries-at.is) in
    reached-as c.args.input.now _ _ _ (sym more) (c.in_ok-comes.ensures.comes c.if-not-comes.false).reaches

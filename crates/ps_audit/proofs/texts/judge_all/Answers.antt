use Rattle.std.proofs.Common.{◌≡◌, ◌+◌, ◌++◌, [], ◌∷◌, List, drop, length, take, ap, sym, ◌∙◌, arith}
use Rattle.std.proofs.lemmas.List.{length-map, take_more}
use Rattle.ps_machine.specs.Texts.{entry_line}
use Rattle.ps_machine.specs.declared.journal.Entry.{Entry}
use Rattle.ps_rules.specs.Prefixes.{good_length}
use Rattle.ps_replay.specs.Judge.{still_due}
use Rattle.ps_replay.proofs.Leading.{judged-bad, judged-on, reached-as}
use Rattle.ps_audit.proofs.AddedTexts.{text-more}
use Rattle.ps_audit.proofs.PrintedLines.{line-at}
use Rattle.ps_audit.proofs.texts.judge_all.Goals as goal

pub line-line-requires : goal.line-line-requires
line-line-requires g c = omega (arith, ap length c.requires.lines, length-map c.args.entries.now (entry_line c.args.names.now))

pub judge_one-requires-clause-line : goal.judge_one-requires-clause-line
judge_one-requires-clause-line g c =
    line-at c.args.names.now c.args.lines.now c.args.entries.now c.loop-at.at c.index-entries-at.result c.line-line.result.now c.requires.lines (omega arith) c.index-entries-at.is c.line-line.ensures

pub returns-then-not-comes-clause-verdict : goal.returns-then-not-comes-clause-verdict
returns-then-not-comes-clause-verdict g c =
    let at = c.loop-at.at in
    let e : Entry = c.index-entries-at.result in
    judged-bad c.args.input.now c.args.entries.now (still_due c.loop-at.judge) e at (omega arith) c.loop-at.invariant.counted (sym c.index-entries-at.is) (sym c.in_ok-comes.ensures.answer ∙ c.if-not-comes.true)

pub loop-at-preserved : goal.loop-at-preserved
loop-at-preserved g c =
    let i = c.args.input.now in
    let es : List Entry = c.args.entries.now in
    let at = c.loop-at.at in
    let e : Entry = c.index-entries-at.result in
    let due : List Entry = still_due c.loop-at.judge in
    let on = judged-on i es due e at (omega arith) c.loop-at.invariant.counted (sym c.index-entries-at.is) (sym c.in_ok-comes.ensures.answer ∙ c.if-not-comes.false) in
    let went = c.in_ok-comes.ensures.comes c.if-not-comes.false in
    let more : take (at + 1) es ≡ take at es ++ e ∷ [] = take_more es at e (omega arith) ∙ ap (λ x. take at es ++ x ∷ []) (sym c.index-entries-at.is) in
    record {
      reached = reached-as i _ _ _ (sym more) went.reaches;
      counted = on ∙ ap (λ d. (at + 1) + good_length i (take (at + 1) es) d (drop (at + 1) es)) (sym went.due);
      told = text-more c.args.names.now i es c.args.out.now.items at e c.loop-at.out.items _ (omega arith) (sym c.index-entries-at.is) c.loop-at.invariant.told (c.in_ok-comes.ensures.text c.if-not-comes.false);
    }

use Rattle.std.proofs.Common.{◌∙◌, List, map, ap, subst, sym, arith}
use Rattle.std.proofs.lemmas.List.{take_all}
use Rattle.ps_text.specs.Words.{AreWithin, pieces}
use Rattle.ps_text.specs.declared.spans.Span.{Span}
use Rattle.ps_audit.specs.EntryLines.{span_numbered}
use Rattle.ps_audit.proofs.NumberedLines.{all-numbered, all-within}
use Rattle.ps_audit.proofs.entry_lines.EntryLines.of.Goals as goal

pub invariant_of-result : goal.invariant_of-result
invariant_of-result c =
    let all : List Span = c.in_ok-all.all.items in
    let numbers = c.args.numbers.now in
    let found = c.loop-n.invariant.spans ∙ ap (map (span_numbered all)) (take_all _ numbers (omega arith)) in
    subst (AreWithin c.args.text.now) (sym found) (all-within c.args.text.now all c.in_ok-all.ensures.lines c.in_ok-all.ensures.within numbers)

pub returns : goal.returns
returns c =
    let all : List Span = c.in_ok-all.all.items in
    let numbers = c.args.numbers.now in
    let found = c.loop-n.invariant.spans ∙ ap (map (span_numbered all)) (take_all _ numbers (omega arith)) in
    ap (pieces c.args.text.now) found ∙ all-numbered c.args.text.now all c.in_ok-all.ensures.lines c.in_ok-all.ensures.within numbers

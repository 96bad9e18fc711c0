use Rattle.std.proofs.Common.{◌∷◌, ◌+◌, suc, drop, sym, ap, ◌∙◌, arith, add-one}
use Rattle.std.proofs.lemmas.List.{drop_all, take_all, take_rest}
use Rattle.ps_world.specs.Lines.{lines_of}
use Rattle.ps_text.proofs.Pieces.{lines_of-first}
use Rattle.ps_plan.proofs.lines.first_line.Goals as goal

pub returns-then-end-text-clause-lines : goal.returns-then-end-text-clause-lines
returns-then-end-text-clause-lines c =
    rw (take_rest c.args.text.now (c.line_end-end.result + 1), add-one) (lines_of-first c.args.text.now c.line_end-end.result (sym c.line_end-end.ensures.end) c.requires)

pub returns-else-end-text-clause-lines : goal.returns-else-end-text-clause-lines
returns-else-end-text-clause-lines c =
    let text = c.args.text.now in
    let end = c.line_end-end.result in
    lines_of-first text end (sym c.line_end-end.ensures.end) c.requires
    ∙ ap (λ l. l ∷ lines_of (drop (suc end) text)) (take_all end text (omega arith))
    ∙ ap (λ l. text ∷ lines_of l) (drop_all (suc end) text (omega arith) ∙ sym (take_rest text end ∙ drop_all end text (omega arith)))

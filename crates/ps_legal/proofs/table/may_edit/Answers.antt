use Rattle.std.proofs.Common.{is_ok, sym, ◌∙◌}
use Rattle.ps_world.specs.Knowledge.{edited}
use Rattle.ps_legal.proofs.Editing.{edit-as, edit-asked, edit-not-asked}
use Rattle.ps_legal.proofs.table.may_edit.Goals as goal

pub returns-then-not-is_asked-clause-fits : goal.returns-then-not-is_asked-clause-fits
returns-then-not-is_asked-clause-fits c = λ es s.
    edit-not-asked c.args.input.now es c.args.by c.args.edit.now (sym (c.is_asked.ensures es s) ∙ c.if-not-is_asked.true)

pub returns-clause-fits : goal.returns-clause-fits
returns-clause-fits c = λ es s.
    let i = c.args.input.now in
    let edit = c.args.edit.now in
    c.in_ok-made.ensures.accepts ∙ edit-as (λ d k. is_ok (edited d k edit)) i es c.args.state.now s ∙ edit-asked i es c.args.by edit (sym (c.is_asked.ensures es s) ∙ c.if-not-is_asked.false)

use Rattle.std.proofs.Common.{ap, sym, ◌∙◌}
use Rattle.ps_rules.specs.Legal.{row_allows}
use Rattle.ps_legal.proofs.table.fits.Goals as goal

pub returns-in-Request-clause-fits : goal.returns-in-Request-clause-fits
returns-in-Request-clause-fits g c = λ es s. c.may_request.ensures es s ∙ ap (row_allows c.args.input.now es) (sym c.in-Request.is)

pub returns-in-Reject-clause-fits : goal.returns-in-Reject-clause-fits
returns-in-Reject-clause-fits g c = λ es s. c.may_reject.ensures c.args.input.now es s ∙ ap (row_allows c.args.input.now es) (sym c.in-Reject.is)

pub returns-in-Begin-clause-fits : goal.returns-in-Begin-clause-fits
returns-in-Begin-clause-fits g c = λ es s. c.may_begin.ensures c.args.input.now es s ∙ ap (row_allows c.args.input.now es) (sym c.in-Begin.is)

pub returns-in-UnitWork-clause-fits : goal.returns-in-UnitWork-clause-fits
returns-in-UnitWork-clause-fits g c = λ es s. c.may_work.ensures es s ∙ ap (row_allows c.args.input.now es) (sym c.in-UnitWork.is)

pub returns-in-Feedback-clause-fits : goal.returns-in-Feedback-clause-fits
returns-in-Feedback-clause-fits g c = λ es s. c.may_report.ensures es s ∙ ap (row_allows c.args.input.now es) (sym c.in-Feedback.is)

pub returns-in-Finish-clause-fits : goal.returns-in-Finish-clause-fits
returns-in-Finish-clause-fits g c = λ es s. c.may_finish.ensures es s ∙ ap (row_allows c.args.input.now es) (sym c.in-Finish.is)

pub returns-in-Stopped-clause-fits : goal.returns-in-Stopped-clause-fits
returns-in-Stopped-clause-fits g c = λ es s. c.may_stop.ensures c.args.input.now es s ∙ ap (row_allows c.args.input.now es) (sym c.in-Stopped.is)

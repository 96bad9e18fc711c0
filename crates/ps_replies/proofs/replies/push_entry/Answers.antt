use Rattle.std.proofs.Common.{◌∙◌}
use Rattle.ps_replies.proofs.Telling.{asked-text, line-added, on-ok}
use Rattle.ps_replies.proofs.replies.push_entry.Goals as goal

pub returns-in_ok-text-in-Ask : goal.returns-in_ok-text-in-Ask
returns-in_ok-text-in-Ask c = λ i es replies.
    let e = c.args.entry.now in
    on-ok c.extend_from_slice.result c.args.out.now.items c.deref.result.now _ c.extend_from_slice.new.self.items
    (c.deref.ensures.value
    ∙ asked-text i es c.args.expert.now c.args.problem.now c.args.plan.now _ c.args.names.now e c.in-Ask.query c.in_ok-told-in-Ask.told c.in_ok-text-in-Ask.text.items
    c.in-Ask.is replies c.in_ok-told-in-Ask.ensures c.in_ok-text-in-Ask.ensures)
    c.extend_from_slice.ensures.items

pub returns-in_ok-push-in_default : goal.returns-in_ok-push-in_default
returns-in_ok-push-in_default c = λ i es replies.
    line-added c.args.names.now i es c.args.entry.now c.args.out.now.items c.print.new.out.items c.push.new.self.items
    c.in_default.not-Ask c.in_ok-print-in_default.ensures c.in_ok-push-in_default.ensures.items

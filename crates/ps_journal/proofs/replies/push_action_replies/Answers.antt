use Rattle.std.proofs.Common.{◌++◌, ◌∙◌, ap}
use Rattle.ps_world.specs.Lines.{lines_of}
use Rattle.ps_rules.specs.Journal.{reply_text}
use Rattle.ps_journal.proofs.ReplyLines.{lines_of-action}
use Rattle.ps_journal.proofs.replies.push_action_replies.Goals as goal

pub returns : goal.returns
returns c =
    let block = c.as_slice.ensures.value ∙ (rw c.new-block.ensures.items at c.in_ok-push_action.ensures) in
    c.in_ok-push_indented.ensures ∙ ap (λ lines. c.args.out.now.items ++ reply_text lines) (ap lines_of block ∙ lines_of-action c.args.names.now c.args.action.now c.len-count.ensures.names)

use Rattle.ps_members.proofs.SaidLines.{feedback_said, no_note_said}
use Rattle.ps_members.proofs.lines.read_feedback.Goals as goal

pub returns-in-Err-clause-read : goal.returns-in-Err-clause-read
returns-in-Err-clause-read c =
    no_note_said c.args.names.now c.args.bytes.now c.args.tokens.items _ _ c.feedback_of.ensures c.in-Err.is

pub returns-in_ok-_words-in-Ok-clause-read : goal.returns-in_ok-_words-in-Ok-clause-read
returns-in_ok-_words-in-Ok-clause-read c =
    feedback_said c.args.names.now _ c.args.bytes.now c.args.part.now c.args.tokens.items _ _ _ c.requires.part c.feedback_of.ensures c.in-Ok.is c.in_ok-_words-in-Ok.ensures.ok

use Rattle.std.proofs.Common.{take, ap, ◌∙◌}
use Rattle.ps_text.proofs.Kept.{kept_front}
use Rattle.ps_entries.proofs.journals.read_journal.Goals as goal

pub returns-in-Err-OutOfMemory-clause-starved : goal.returns-in-Err-OutOfMemory-clause-starved
returns-in-Err-OutOfMemory-clause-starved c _ =
    c.cut_back.ensures ∙ (ap (λ k. take k c.read_known-read.new.names) c.len-known.ensures.count
    ∙ kept_front c.args.names.now c.read_known-read.new.names c.read_known-read.ensures.kept)

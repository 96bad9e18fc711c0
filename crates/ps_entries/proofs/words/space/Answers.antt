use Rattle.std.proofs.Common.{ap, ◌∙◌, length}
use Rattle.std.specs.Option.{unwrap_or}
use Rattle.ps_text.proofs.Pieces.{unwrap_or-position}
use Rattle.ps_entries.specs.Words.{is_space}
use Rattle.ps_entries.proofs.words.space.Goals as goal

pub returns-clause-place : goal.returns-clause-place
returns-clause-place c =
    c.unwrap_or.ensures
    ∙ ap (λ o. unwrap_or o (length c.args.text.now)) c.first_space.ensures
    ∙ unwrap_or-position is_space c.args.text.now

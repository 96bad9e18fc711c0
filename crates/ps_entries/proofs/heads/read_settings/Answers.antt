use Rattle.std.proofs.Common.{◌∙◌, sym, ap}
use Rattle.ps_entries.specs.Heads.{settings_at}
use Rattle.ps_entries.proofs.HeadLines.{said_answer, said_nothing}
use Rattle.ps_entries.proofs.heads.read_settings.Goals as goal

pub returns-in-Some : goal.returns-in-Some
returns-in-Some c =
    said_answer c.args.line.now c.in-Some.settings c.believed.result (ap settings_at (sym c.in_ok-words.ensures) ∙ (sym c.settings_at.ensures ∙ c.in-Some.is))
    c.believed.ensures

pub returns : goal.returns
returns c = said_nothing c.args.line.now (ap settings_at (sym c.in_ok-words.ensures) ∙ (sym c.settings_at.ensures ∙ c.in-None.is))

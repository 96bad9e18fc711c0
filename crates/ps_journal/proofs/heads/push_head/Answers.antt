use Rattle.std.proofs.Common.{◌++◌, ◌∷◌, []}
use Rattle.ps_rules.specs.Heads.{settings_line, title}
use Rattle.ps_journal.proofs.HeadTexts.{three-joined}
use Rattle.ps_journal.proofs.heads.push_head.Goals as goal

pub returns-in_ok-extend_from_slice-in-Some-2 : goal.returns-in_ok-extend_from_slice-in-Some-2
returns-in_ok-extend_from_slice-in-Some-2 c =
    rw c.in-Some.is
    (three-joined c.args.text.now.items (title ++ 10 ∷ []) (settings_line c.in-Some.settings) (10 ∷ []) _ _ _
    c.in_ok-extend_from_slice-in-Some.ensures.items c.in_ok-push_settings-in-Some.ensures c.in_ok-extend_from_slice-in-Some-2.ensures.items)

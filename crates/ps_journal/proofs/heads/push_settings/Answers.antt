use Rattle.std.proofs.Common.{codes}
use Rattle.ps_journal.proofs.HeadTexts.{numbers-joined, ok-weaker}
use Rattle.ps_journal.proofs.heads.push_settings.Goals as goal

pub returns : goal.returns
returns c =
    ok-weaker c.push_number-2.result
    (λ last. numbers-joined c.args.text.now.items (codes "settings budget ") (codes " replans ") _ _ _ _ c.from.result c.from-2.result c.args.settings.0 c.args.settings.1
    c.in_ok-extend_from_slice.ensures.items c.in_ok-push_number.ensures c.from.ensures c.in_ok-extend_from_slice-2.ensures.items last c.from-2.ensures)
    c.push_number-2.ensures

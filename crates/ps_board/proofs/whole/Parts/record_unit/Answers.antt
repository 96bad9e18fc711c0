use Rattle.std.proofs.Common.{IsTrue, subst}
use Rattle.ps_rules.specs.Choices.{unit_event}
use Rattle.ps_rules.specs.Legal.{is_legal}
use Rattle.ps_board.specs.declared.whole.Parts.{Parts}
use Rattle.ps_board.proofs.Keeping.{unit-legal}
use Rattle.ps_board.proofs.whole.Parts.record_unit.Goals as goal

pub put-requires-clause-legal : goal.put-requires-clause-legal
put-requires-clause-legal c =
    let parts : Parts = c.args.self.now in
    subst (λ u. IsTrue (is_legal parts.input parts.entries.items (unit_event parts.input parts.entries.items c.args.r c.args.by u))) c.in-Work.is
    (unit-legal parts.input parts.entries.items c.requires.stands.sound c.requires.stands.history c.args.r c.args.by c.requires.works c.requires.active c.args.unit c.requires.next)

pub put-requires-in-Feedback-clause-legal : goal.put-requires-in-Feedback-clause-legal
put-requires-in-Feedback-clause-legal c =
    let parts : Parts = c.args.self.now in
    subst (λ u. IsTrue (is_legal parts.input parts.entries.items (unit_event parts.input parts.entries.items c.args.r c.args.by u))) c.in-Feedback.is
    (unit-legal parts.input parts.entries.items c.requires.stands.sound c.requires.stands.history c.args.r c.args.by c.requires.works c.requires.active c.args.unit c.requires.next)

pub record-requires-clause-legal : goal.record-requires-clause-legal
record-requires-clause-legal c =
    let parts : Parts = c.args.self.now in
    subst (λ u. IsTrue (is_legal parts.input parts.entries.items (unit_event parts.input parts.entries.items c.args.r c.args.by u))) c.in-Edit.is
    (unit-legal parts.input parts.entries.items c.requires.stands.sound c.requires.stands.history c.args.r c.args.by c.requires.works c.requires.active c.args.unit c.requires.next)

pub put-requires-in-Finish-clause-legal : goal.put-requires-in-Finish-clause-legal
put-requires-in-Finish-clause-legal c =
    let parts : Parts = c.args.self.now in
    subst (λ u. IsTrue (is_legal parts.input parts.entries.items (unit_event parts.input parts.entries.items c.args.r c.args.by u))) c.in-Finish.is
    (unit-legal parts.input parts.entries.items c.requires.stands.sound c.requires.stands.history c.args.r c.args.by c.requires.works c.requires.active c.args.unit c.requires.next)

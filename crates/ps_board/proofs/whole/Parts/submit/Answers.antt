use Rattle.std.proofs.Common.{subst, sym, ◌∙◌}
use Rattle.ps_action.specs.Search.{Fits}
use Rattle.ps_stale_plan_laws.specs.Asked.{IsStillAsked}
use Rattle.ps_stale_plan_laws.proofs.Walking.{still_asked}
use Rattle.ps_board.specs.declared.whole.Parts.{Parts}
use Rattle.ps_board.specs.Submits.{IsFirstFrom}
use Rattle.ps_board.proofs.whole.Parts.submit.Goals as goal

pub follow-requires-clause-asked : goal.follow-requires-clause-asked
follow-requires-clause-asked c =
    let parts : Parts = c.args.self.now in
    (still_asked parts.input parts.entries.items c.args.snapshot.at c.requires.stands.history c.requires.asked
    (subst (IsFirstFrom parts.input parts.entries.items c.args.snapshot.at) c.in-None.is c.in_ok-at.ensures.first)).asks

pub follow-requires-clause-fits : goal.follow-requires-clause-fits
follow-requires-clause-fits c =
    let parts : Parts = c.args.self.now in
    let still : IsStillAsked parts.input parts.entries.items c.args.snapshot.at =
    still_asked parts.input parts.entries.items c.args.snapshot.at c.requires.stands.history c.requires.asked
    (subst (IsFirstFrom parts.input parts.entries.items c.args.snapshot.at) c.in-None.is c.in_ok-at.ensures.first) in
    subst (λ k. Fits parts.input.domain k parts.input.budget c.args.answer) (c.requires.known ∙ sym still.known) c.requires.fits

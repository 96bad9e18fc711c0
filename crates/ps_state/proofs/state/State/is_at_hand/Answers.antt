use Rattle.std.proofs.Common.{not, ap, sym, ◌∙◌}
use Rattle.ps_rules.specs.Auctions.{is_engaged}
use Rattle.ps_rules.specs.Legal.{matches_act}
use Rattle.ps_state.proofs.Rest.{and-true}
use Rattle.ps_state.proofs.state.State.is_at_hand.Goals as goal

pub returns-then-matches : goal.returns-then-matches
returns-then-matches c = λ i es s.
    let p = c.args.performer.now in
    ap not (c.is_engaged-engaged.ensures es s.told.performers)
    ∙ sym (and-true (matches_act p c.args.act es) (not (is_engaged p.name es)) (sym (c.matches_act-matches.ensures i es s) ∙ c.if-matches.true))

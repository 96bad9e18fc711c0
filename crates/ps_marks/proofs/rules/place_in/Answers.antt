use Rattle.std.proofs.Common.{sym, ◌∙◌}
use Rattle.ps_marks.proofs.Bridge.{at_place}
use Rattle.ps_marks.proofs.Members.{no_both}
use Rattle.ps_marks.proofs.Placed.{no_place}
use Rattle.ps_marks.proofs.rules.place_in.Goals as goal

pub returns : goal.returns
returns c = at_place c.args.places.now c.args.fact.now c.in-Some.place (sym c.place_of.ensures ∙ c.in-Some.is)

pub unreachable-requires : goal.unreachable-requires
unreachable-requires c = no_both _ c.requires (no_place c.args.places.now c.args.fact.now (sym c.place_of.ensures ∙ c.in_default.is))

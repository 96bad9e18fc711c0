use Rattle.ps_members.proofs.SaidLines.{no_place_said, places_said}
use Rattle.ps_members.proofs.lines.read_args.Goals as goal

pub returns-in-Some-clause-read : goal.returns-in-Some-clause-read
returns-in-Some-clause-read c =
    no_place_said c.args.names.now c.args.bytes.now c.args.part.now c.args.tokens.now _ _ _ c.requires.part c.first_other.ensures c.in-Some.is c.place.ensures

pub returns-in_ok-pattern_of-in-None-clause-read : goal.returns-in_ok-pattern_of-in-None-clause-read
returns-in_ok-pattern_of-in-None-clause-read c =
    places_said c.args.names.now _ c.args.bytes.now c.args.tokens.now _ _ c.first_other.ensures c.in-None.is c.in_ok-pattern_of-in-None.ensures.ok

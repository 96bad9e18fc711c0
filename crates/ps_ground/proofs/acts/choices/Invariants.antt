use Rattle.std.proofs.Common.{◌≡◌, take}
use Rattle.ps_world.specs.Knowledge.{is_below}
use Rattle.ps_domain.specs.Listing.{choices_in}
use Rattle.ps_ground.proofs.acts.choices.Given as goal

-- the names so far that may stand for it, and whether those of the type that was last looked at may
abbrev pub invariant-loop-name : goal.invariant-loop-name
invariant-loop-name l = record {
  names : l.names ≡ choices_in l.expert (take l.name-index l.sorted) l.param;
  last : l.may_stand ≡ is_below l.expert l.last l.param.kind;
}

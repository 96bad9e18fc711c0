use Rattle.std.proofs.Common.{rules}
use Rattle.ps_world.specs.Same.{is_same_lists}
use Rattle.ps_world.proofs.schemas.TermsPartialEq.eq.Goals as goal

pub returns : goal.returns
returns c = search (rules, is_same_lists)

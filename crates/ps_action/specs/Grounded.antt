-- A law of conditions with arguments put in.
use Rattle.std.specs.Prelude.{◌≡◌, List, ◌++◌}
use Rattle.ps_world.specs.Trees.{CondTree}
use Rattle.ps_world.specs.declared.names.Name.{Name}
use Rattle.ps_world.specs.declared.domains.Domain.{Domain}
use Rattle.ps_world.specs.declared.known.Knowledge.{Knowledge}
use Rattle.ps_action.specs.Grounding.{put_cond}
use Rattle.ps_action.specs.Truth.{is_true_with}

-- a condition with arguments put in holds just where it does with its first variables standing for them
abbrev pub GroundedHoldsAsWell : Type 0
GroundedHoldsAsWell = (d : Domain) (k : Knowledge) (args e : List Name) (c : CondTree) → is_true_with d k e (put_cond args c) ≡ is_true_with d k (args ++ e) c

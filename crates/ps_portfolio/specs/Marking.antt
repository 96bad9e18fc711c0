-- The marks that a greedy search goes by.
use Rattle.std.specs.Prelude.{List}
use Rattle.ps_world.specs.declared.domains.Domain.{Domain}
use Rattle.ps_world.specs.declared.facts.Fact.{Fact}
use Rattle.ps_world.specs.declared.known.Knowledge.{Knowledge}
use Rattle.ps_marks.specs.Landmarks.{goal_marks, landmarks}
use Rattle.ps_portfolio.specs.declared.greedy.Marks.{Marks}
use Rattle.ps_portfolio.specs.declared.greedy.Marks.TheVariants.{Landmarks, Goals}

-- the marks of this kind
abbrev pub marks_of : Marks → Domain → Knowledge → List Fact
marks_of Landmarks d k = landmarks d k
marks_of Goals d k = goal_marks k

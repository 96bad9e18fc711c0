-- What a solver answers, and what replies tell.
use Rattle.std.specs.Prelude.{◌≡◌, ℕ, List, [], Option, Some}
use Rattle.std.specs.Option.{option_map_or}
use Rattle.ps_world.specs.declared.domains.Domain.{Domain}
use Rattle.ps_world.specs.declared.known.Knowledge.{Knowledge}
use Rattle.ps_action.specs.Plans.{timed}
use Rattle.ps_action.specs.Search.{answer}
use Rattle.ps_action.specs.Trees.{tree_text, TreeView}
use Rattle.ps_action.specs.declared.acts.Act.{Act}
use Rattle.ps_action.specs.declared.answers.Answer.{Answer}
use Rattle.ps_action.specs.declared.answers.Answer.TheVariants.{Plan}
use Rattle.ps_machine.specs.declared.inputs.Input.{Input}
use Rattle.ps_machine.specs.declared.inputs.Query.{Query}
use Rattle.ps_machine.specs.declared.inputs.Query.TheVariants as query
use Rattle.ps_machine.specs.declared.journal.Event.{Event}
use Rattle.ps_machine.specs.declared.journal.Event.TheVariants as event
use Rattle.ps_machine.specs.declared.journal.Entry.{Entry}
use Rattle.ps_rules.specs.Journal.{tree_of}
use Rattle.ps_rules.specs.Known.{know}
use Rattle.ps_journal.specs.declared.replies.Told.{Told}

-- a solver gives the defined answer to every question: the least of the shortest good plans, or why none is told
abbrev pub GivesLeast : (Domain → Knowledge → ℕ → Answer) → Type 0
GivesLeast says = (d : Domain) (k : Knowledge) (budget : ℕ) → says d k budget ≡ answer d k budget

-- what the reply to a query tells, where this is the plan that it may ask for, and this the tree
abbrev pub told_of : Domain → Knowledge → List Act → Option TreeView → Query → Told
told_of d k plan tree query.Plan = record { steps = timed d k plan; tree = [] }
told_of d k plan tree query.Tree = record { steps = []; tree = option_map_or tree_text tree [] }
told_of d k plan tree q = record { steps = []; tree = [] }

-- the reply to a query after these entries tells of this: what is declared and known then, the plan that is due, if it asks for one, and the
-- tree of the last run's plan, if it asks for that
pub record RepliesToQuery (i : Input) (es : List Entry) (q : Query) (d : Domain) (k : Knowledge) (plan : List Act) (tree : Option TreeView) : Type 0 where
  pub domain : d ≡ i.domain
  pub known : k ≡ know i es
  pub due : q ≡ query.Plan → answer i.domain (know i es) i.budget ≡ Plan plan
  pub shown : q ≡ query.Tree → tree ≡ Some (tree_of i es)

-- the same of an event, which asks, or has no reply
abbrev pub RepliesTo : Input → List Entry → Event → Domain → Knowledge → List Act → Option TreeView → Type 0
RepliesTo i es (event.Ask q) d k plan tree = RepliesToQuery i es q d k plan tree
RepliesTo i es e d k plan tree = Unit {0}

-- What the reply to an entry tells beside what is declared and known.
use Rattle.std.specs.Prelude.{◌≡◌, ℕ, List, [], ◌∷◌, map}
use Rattle.std.specs.Option.{option_map_or}
use Rattle.ps_world.specs.Names.{Table, name_text}
use Rattle.ps_world.specs.DomainTexts.{action_lines, decl_text, domain_lines}
use Rattle.ps_world.specs.Knowledge.{action_of, predicate_of}
use Rattle.ps_world.specs.Texts.{fact_text, value_text}
use Rattle.ps_world.specs.declared.domains.Domain.{Domain}
use Rattle.ps_world.specs.declared.known.Knowledge.{Knowledge}
use Rattle.ps_action.specs.Plans.{timed}
use Rattle.ps_action.specs.Search.{answer as answered_by}
use Rattle.ps_action.specs.Trees.{tree_text}
use Rattle.ps_action.specs.declared.acts.PlanStep.{PlanStep}
use Rattle.ps_action.specs.declared.answers.Answer.{Answer}
use Rattle.ps_action.specs.declared.answers.Answer.TheVariants.{Plan}
use Rattle.ps_machine.specs.declared.inputs.Input.{Input}
use Rattle.ps_machine.specs.declared.inputs.Query.{Query}
use Rattle.ps_machine.specs.declared.inputs.Query.TheVariants as query
use Rattle.ps_machine.specs.declared.journal.Event.{Event}
use Rattle.ps_machine.specs.declared.journal.Event.TheVariants as event
use Rattle.ps_machine.specs.declared.journal.Entry.{Entry}
use Rattle.ps_rules.specs.Known.{know}
use Rattle.ps_rules.specs.Journal.{goal_line, in_order, instance_text, tree_of}
use Rattle.ps_journal.specs.declared.replies.Told.{Told}

-- the lines that answer a query of what is declared, or of what is known where that is this; what is known stands in the order of the
-- lines' bytes, what is declared in that of the domain
abbrev pub known_lines : Table → Domain → Knowledge → Query → List (List ℕ)
known_lines names d k query.ModelTypes = map (λ p. name_text names p.name) d.types
known_lines names d k query.ModelPredicates = map (decl_text names) d.predicates
known_lines names d k query.ModelFunctions = map (decl_text names) d.functions
known_lines names d k query.ModelActions = map (λ a. name_text names a.name) d.actions
known_lines names d k (query.ModelPredicate n) = option_map_or (λ decl. decl_text names decl ∷ []) (predicate_of d n) []
known_lines names d k (query.ModelAction n) = option_map_or (action_lines names) (action_of d n) []
known_lines names d k query.Domain = domain_lines names d
known_lines names d k query.ProblemInstances = in_order (map (instance_text names) k.instances)
known_lines names d k query.ProblemPredicates = in_order (map (fact_text names) k.facts)
known_lines names d k query.ProblemFunctions = in_order (map (λ v. value_text names v.0 v.1) k.values)
known_lines names d k query.ProblemGoal = goal_line names k.goal ∷ []
known_lines names d k query.Plan = []
known_lines names d k query.Tree = []

-- the steps of a solver's answer, if it is a plan
abbrev pub planned : Domain → Knowledge → Answer → List PlanStep
planned d k (Plan acts) = timed d k acts
planned d k other = []

-- the steps of the plan that a query asks for after these entries, if it asks for one
abbrev pub asked_steps : Input → List Entry → Query → List PlanStep
asked_steps i es query.Plan = planned i.domain (know i es) (answered_by i.domain (know i es) i.budget)
asked_steps i es q = []

-- the text of the tree that a query asks for after these entries, if it asks for one
abbrev pub asked_tree : Input → List Entry → Query → List ℕ
asked_tree i es query.Tree = tree_text (tree_of i es)
asked_tree i es q = []

-- the steps of the plan that an event after these entries tells, if it tells one
abbrev pub told_steps : Input → List Entry → Event → List PlanStep
told_steps i es (event.Ask q) = asked_steps i es q
told_steps i es e = []

-- the text of the tree that an event after these entries tells, if it tells one
abbrev pub told_tree : Input → List Entry → Event → List ℕ
told_tree i es (event.Ask q) = asked_tree i es q
told_tree i es e = []

-- this is what the reply to an event after these entries tells
pub record IsTold (i : Input) (es : List Entry) (e : Event) (told : Told) : Type 0 where
  pub steps : told.steps ≡ told_steps i es e
  pub tree : told.tree ≡ told_tree i es e

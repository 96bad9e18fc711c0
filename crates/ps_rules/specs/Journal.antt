-- The text of a journal, and the entries that a text has.
use Rattle.std.specs.Prelude.{◌≡◌, ℕ, not, Option, Some, None, List, [], ◌∷◌, ◌++◌, codes, fold, length, map, filter, drop, nat_eq}
use Rattle.std.specs.List.{flat_map, range_with_len, starts_with}
use Rattle.std.specs.Option.{option_map_or}
use Rattle.std.specs.BTreeSet.{insert_key}
use Rattle.std.specs.Ordering.{nat_cmp}
use Rattle.std.specs.Cmp.Lexicographic.{slice_cmp}
use Rattle.ps_world.specs.Names.{Table, name_text}
use Rattle.ps_world.specs.DomainTexts.{action_lines, decl_text, domain_lines}
use Rattle.ps_world.specs.Knowledge.{action_of, predicate_of}
use Rattle.ps_world.specs.Lines.{line_end, lines_of}
use Rattle.ps_world.specs.Texts.{fact_text, goal_text, value_text}
use Rattle.ps_machine.specs.Texts.{entry_line}
use Rattle.ps_action.specs.Plans.{timed}
use Rattle.ps_action.specs.Search.{answer as answered_by}
use Rattle.ps_action.specs.Texts.{step_line}
use Rattle.ps_action.specs.declared.answers.Answer.{Answer}
use Rattle.ps_action.specs.declared.answers.Answer.TheVariants as answer
use Rattle.ps_action.specs.Arcs.{is_arc}
use Rattle.ps_rules.specs.Heads.{Head, head_lines, head_text, settings_of}
use Rattle.ps_rules.specs.Known.{grounds, know}
use Rattle.ps_rules.specs.Runs.{plan, state}
use Rattle.ps_rules.specs.Settled.{places}
use Rattle.ps_action.specs.Trees.{TreeView, tree_text}
use Rattle.ps_world.specs.declared.names.Name.{Name}
use Rattle.ps_world.specs.declared.conditions.Cond.{Cond}
use Rattle.ps_world.specs.declared.domains.Domain.{Domain}
use Rattle.ps_world.specs.declared.known.Knowledge.{Knowledge}
use Rattle.ps_machine.specs.declared.inputs.Input.{Input}
use Rattle.ps_machine.specs.declared.inputs.Query.{Query}
use Rattle.ps_machine.specs.declared.inputs.Query.TheVariants as query
use Rattle.ps_machine.specs.declared.journal.Event.{Event}
use Rattle.ps_machine.specs.declared.journal.Event.TheVariants as event
use Rattle.ps_machine.specs.declared.journal.Entry.{Entry}

-- the lines in the order of their bytes, each once
abbrev pub in_order : List (List ℕ) → List (List ℕ)
in_order lines = fold (insert_key (slice_cmp nat_cmp)) [] lines

-- an instance with its type, as leia - robot
abbrev pub instance_text : Table → Name × Name → List ℕ
instance_text names i = name_text names i.0 ++ (codes " - " ++ name_text names i.1)

-- the line of the goal, or of none
abbrev pub goal_line : Table → Option Cond → List ℕ
goal_line names None = codes "none"
goal_line names (Some goal) = goal_text names goal

-- the lines of an answer that is a plan, each step with its time; none of another answer
abbrev pub plan_lines : Table → Domain → Knowledge → Answer → List (List ℕ)
plan_lines names d k (answer.Plan acts) = map (step_line names) (timed d k acts)
plan_lines names d k other = []

-- the tree of the plan: what each act waits for, and the states
abbrev pub tree_of : Input → List Entry → TreeView
tree_of i es = record {
  waits = map (λ j. filter (λ k. is_arc (grounds i.domain (plan es)) k j) (range_with_len 0 j)) (places es);
  states = map (λ j. state j es) (places es);
}

-- the lines that answer a query after these entries; what is known stands in the order of the lines' bytes, what is declared in that of
-- the domain
abbrev pub answer_lines : Table → Input → List Entry → Query → List (List ℕ)
answer_lines names i es query.ModelTypes = map (λ p. name_text names p.name) i.domain.types
answer_lines names i es query.ModelPredicates = map (decl_text names) i.domain.predicates
answer_lines names i es query.ModelFunctions = map (decl_text names) i.domain.functions
answer_lines names i es query.ModelActions = map (λ a. name_text names a.name) i.domain.actions
answer_lines names i es (query.ModelPredicate n) = option_map_or (λ decl. decl_text names decl ∷ []) (predicate_of i.domain n) []
answer_lines names i es (query.ModelAction n) = option_map_or (action_lines names) (action_of i.domain n) []
answer_lines names i es query.Domain = domain_lines names i.domain
answer_lines names i es query.ProblemInstances = in_order (map (instance_text names) (know i es).instances)
answer_lines names i es query.ProblemPredicates = in_order (map (fact_text names) (know i es).facts)
answer_lines names i es query.ProblemFunctions = in_order (map (λ v. value_text names v.0 v.1) (know i es).values)
answer_lines names i es query.ProblemGoal = goal_line names (know i es).goal ∷ []
answer_lines names i es query.Plan = plan_lines names i.domain (know i es) (answered_by i.domain (know i es) i.budget)
answer_lines names i es query.Tree = lines_of (tree_text (tree_of i es))

-- the reply lines of an event after these entries; no event but a query has any
abbrev pub reply_lines : Table → Input → List Entry → Event → List (List ℕ)
reply_lines names i es (event.Ask q) = answer_lines names i es q
reply_lines names i es e = []

-- what stands before a reply line
abbrev pub reply_mark : List ℕ
reply_mark = codes "  "

-- reply lines, each after two spaces and with its end
abbrev pub reply_text : List (List ℕ) → List ℕ
reply_text lines = flat_map (λ line. reply_mark ++ (line ++ line_end)) lines

-- an entry's line and its reply lines, where it comes after these entries
abbrev pub entry_text : Table → Input → List Entry → Entry → List ℕ
entry_text names i es e = entry_line names e ++ (line_end ++ reply_text (reply_lines names i es e.what))

-- the text of entries that come after those before them
abbrev pub text_after : Table → Input → List Entry → List Entry → List ℕ
text_after names i before [] = []
text_after names i before (e ∷ es) = entry_text names i before e ++ text_after names i (before ++ e ∷ []) es

-- the text of a journal with this head
abbrev pub text_with : Head → Table → Input → List Entry → List ℕ
text_with head names i es = head_text head ++ text_after names i [] es

-- the text of a journal, which begins with the settings of its input
abbrev pub journal_text : Table → Input → List Entry → List ℕ
journal_text names i es = text_with (Some (settings_of i)) names i es

-- its text in version 1, which doesn't say them
abbrev pub bare_text : Table → Input → List Entry → List ℕ
bare_text names i es = text_with None names i es

-- the entry lines of a text with this head: all lines but those of the head and those that begin with two spaces
abbrev pub entry_lines : Head → List ℕ → List (List ℕ)
entry_lines head text = filter (λ line. not (starts_with nat_eq line reply_mark)) (drop (length (head_lines head)) (lines_of text))

-- These are the entries of the text with this head: its entry lines are their lines, one for one.
abbrev pub AreEntriesIn : Head → Table → List ℕ → List Entry → Type 0
AreEntriesIn head names text es = entry_lines head text ≡ map (entry_line names) es

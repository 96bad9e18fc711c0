-- The forms of a line: the words that each begins with, and what each wants.
use Rattle.std.specs.Prelude.{ℕ, suc, Bool, true, ◌&&◌, if◌then◌else◌, List, [], ◌∷◌, codes, Option, None, Some}
use Rattle.std.specs.Option.{option_or}
use Rattle.ps_text.specs.Words.{reads_as, word_at}
use Rattle.ps_grammar.specs.declared.marks.Mark.TheVariants as mark
use Rattle.ps_grammar.specs.declared.symbols.Symbol.{Symbol}
use Rattle.ps_grammar.specs.declared.symbols.Symbol.TheVariants.{The, AnyName, InGoal}
use Rattle.ps_grammar.specs.declared.symbols.GoalPart.TheVariants as goal
use Rattle.ps_script.specs.declared.forms.Form.{Form}
use Rattle.ps_script.specs.declared.forms.Form.TheVariants.{SetInstance, SetPredicate, SetFunction, SetGoal, RemoveInstance, RemovePredicate, RemoveFunction, RemoveGoal, ModelTypes, ModelPredicates, ModelFunctions, ModelActions, ModelPredicate, ModelAction, Domain, ProblemInstances, ProblemPredicates, ProblemFunctions, ProblemGoal, Plan, Quit, Tree, Run, RunAction}

-- the forms of three words
abbrev pub three_words : List (List (List ℕ) × Form)
three_words =
    (codes "get" ∷ codes "model" ∷ codes "types" ∷ [], ModelTypes) ∷ (codes "get" ∷ codes "model" ∷ codes "predicates" ∷ [], ModelPredicates)
    ∷ (codes "get" ∷ codes "model" ∷ codes "functions" ∷ [], ModelFunctions) ∷ (codes "get" ∷ codes "model" ∷ codes "actions" ∷ [], ModelActions)
    ∷ (codes "get" ∷ codes "model" ∷ codes "predicate" ∷ [], ModelPredicate) ∷ (codes "get" ∷ codes "model" ∷ codes "action" ∷ [], ModelAction)
    ∷ (codes "get" ∷ codes "problem" ∷ codes "instances" ∷ [], ProblemInstances) ∷ (codes "get" ∷ codes "problem" ∷ codes "predicates" ∷ [], ProblemPredicates)
    ∷ (codes "get" ∷ codes "problem" ∷ codes "functions" ∷ [], ProblemFunctions) ∷ (codes "get" ∷ codes "problem" ∷ codes "goal" ∷ [], ProblemGoal) ∷ []

-- the forms of two words
abbrev pub two_words : List (List (List ℕ) × Form)
two_words =
    (codes "set" ∷ codes "instance" ∷ [], SetInstance) ∷ (codes "set" ∷ codes "predicate" ∷ [], SetPredicate)
    ∷ (codes "set" ∷ codes "function" ∷ [], SetFunction) ∷ (codes "set" ∷ codes "goal" ∷ [], SetGoal)
    ∷ (codes "remove" ∷ codes "instance" ∷ [], RemoveInstance) ∷ (codes "remove" ∷ codes "predicate" ∷ [], RemovePredicate)
    ∷ (codes "remove" ∷ codes "function" ∷ [], RemoveFunction) ∷ (codes "remove" ∷ codes "goal" ∷ [], RemoveGoal)
    ∷ (codes "get" ∷ codes "domain" ∷ [], Domain) ∷ (codes "get" ∷ codes "plan" ∷ [], Plan)
    ∷ (codes "get" ∷ codes "tree" ∷ [], Tree) ∷ (codes "run" ∷ codes "action" ∷ [], RunAction) ∷ []

-- the forms of one word
abbrev pub one_word : List (List (List ℕ) × Form)
one_word = (codes "quit" ∷ [], Quit) ∷ (codes "run" ∷ [], Run) ∷ []

-- whether the words from a place on begin with these fixed words, in any case of their letters
abbrev pub begins : List (List ℕ) → ℕ → List (List ℕ) → Bool
begins ws i [] = true
begins ws i (fixed ∷ more) = reads_as (word_at ws i) fixed && begins ws (suc i) more

-- the first form of a table whose words these begin with
abbrev pub form_in : List (List (List ℕ) × Form) → List (List ℕ) → Option Form
form_in [] ws = None
form_in ((fixed, f) ∷ more) ws = if begins ws 0 fixed then Some f else form_in more ws

-- the longest form whose words a line's words begin with
abbrev pub form_of : List (List ℕ) → Option Form
form_of ws = option_or (form_in three_words ws) (option_or (form_in two_words ws) (form_in one_word ws))

-- what each form is, from its first word on: its fixed words are names, and then comes what it wants
abbrev pub start_of : Form → List Symbol
start_of SetInstance = AnyName ∷ AnyName ∷ AnyName ∷ AnyName ∷ []
start_of SetPredicate = AnyName ∷ AnyName ∷ InGoal goal.Atom ∷ []
start_of SetFunction = AnyName ∷ AnyName ∷ The mark.Open ∷ The mark.Equal ∷ InGoal goal.Atom ∷ The mark.Number ∷ The mark.Close ∷ []
start_of SetGoal = AnyName ∷ AnyName ∷ InGoal goal.Condition ∷ []
start_of RemoveInstance = AnyName ∷ AnyName ∷ AnyName ∷ []
start_of RemovePredicate = AnyName ∷ AnyName ∷ InGoal goal.Atom ∷ []
start_of RemoveFunction = AnyName ∷ AnyName ∷ InGoal goal.Atom ∷ []
start_of RemoveGoal = AnyName ∷ AnyName ∷ []
start_of ModelPredicate = AnyName ∷ AnyName ∷ AnyName ∷ AnyName ∷ []
start_of ModelAction = AnyName ∷ AnyName ∷ AnyName ∷ AnyName ∷ []
start_of Domain = AnyName ∷ AnyName ∷ []
start_of Plan = AnyName ∷ AnyName ∷ []
start_of Quit = AnyName ∷ []
start_of Tree = AnyName ∷ AnyName ∷ []
start_of Run = AnyName ∷ []
start_of RunAction = AnyName ∷ AnyName ∷ InGoal goal.Atom ∷ []
start_of _ = AnyName ∷ AnyName ∷ AnyName ∷ []

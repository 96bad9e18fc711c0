-- Lines that say a fact or an instance in plain names, as most do.
use Rattle.std.specs.Prelude.{◌≡◌, ℕ, ◌-◌, nat_lt, Bool, true, false, ◌&&◌, ◌||◌, if◌then◌else◌, List, [], ◌∷◌, None, ℤ, drop, length, map, min, take}
use Rattle.std.specs.List.{list_all}
use Rattle.ps_world.specs.Names.{object}
use Rattle.ps_world.specs.declared.facts.Fact.{Fact}
use Rattle.ps_world.specs.declared.names.Name.{Name as NameNumber}
use Rattle.ps_machine.specs.declared.inputs.Command.{Command}
use Rattle.ps_grammar.specs.Marks.{is}
use Rattle.ps_grammar.specs.Rules.{most_names}
use Rattle.ps_grammar.specs.declared.marks.Mark.{Mark}
use Rattle.ps_grammar.specs.declared.marks.Mark.TheVariants.{Open, Close, At, Equal, Name, Number}
use Rattle.ps_lists.specs.Lexemes.{marks}
use Rattle.ps_lists.specs.Nested.{Nesteds}
use Rattle.ps_lists.specs.Spelling.{SpellAll}
use Rattle.ps_lists.specs.declared.lexemes.Lexeme.{Lexeme}
use Rattle.ps_script.specs.Commands.{command_of}
use Rattle.ps_script.specs.Forms.{start_of}
use Rattle.ps_script.specs.Judged.{Fits}
use Rattle.ps_script.specs.Scopes.{strays}
use Rattle.ps_script.specs.declared.forms.Form.{Form}

-- nothing follows
abbrev pub is_last : List Mark → Bool
is_last [] = true
is_last (m ∷ ms) = false

-- at most so many plain names, and the parenthesis that ends the list and the line
abbrev pub are_names : ℕ → List Mark → Bool
are_names most [] = false
are_names most (m ∷ ms) = if is Close m then is_last ms else (nat_lt 0 most && is Name m && are_names (most - 1) ms)

-- a fact's name and its arguments in parentheses; many a domain calls a predicate `at`
abbrev pub is_fact : List Mark → Bool
is_fact (left ∷ head ∷ ms) = is Open left && (is Name head || is At head) && are_names most_names ms
is_fact _ = false

-- two words, and then a fact
abbrev pub says_fact : List Mark → Bool
says_fact (first ∷ second ∷ ms) = is Name first && is Name second && is_fact ms
says_fact _ = false

-- ---- what such a line says

-- the names of words but the last, of which there are 6 at most
abbrev pub args_said : List Lexeme → List NameNumber
args_said ls = map (λ l. l.name) (take (min (length ls - 1) 6) ls)

-- the fact between two parentheses: its name and its arguments
abbrev pub fact_said : List Lexeme → Fact
fact_said (left ∷ head ∷ ls) = record { head = head.name; args = args_said ls }
fact_said _ = record { head = object; args = [] }

-- words say this fact in plain names after two words
abbrev pub SaysFact : List Lexeme → Fact → Type 0
SaysFact ls fact = (says_fact (marks ls) ≡ true) × (fact ≡ fact_said (drop 2 ls))

-- two words, a parenthesis and `=`
abbrev pub begins_value : List Mark → Bool
begins_value (first ∷ second ∷ left ∷ equal ∷ []) = (is Name first && is Name second) && (is Open left && is Equal equal)
begins_value _ = false

-- words are this number and a parenthesis
abbrev pub EndsValue : List Lexeme → ℤ → Type 0
EndsValue (number ∷ right ∷ []) n = (number.mark ≡ Number) × (right.mark ≡ Close) × (n ≡ number.number)
EndsValue _ n = ⊥

-- plain names alone
abbrev pub are_plain : List Lexeme → Bool
are_plain ls = list_all (λ l. is Name l.mark) ls

-- words fit a form, have no variable out of its scope, and are this command
abbrev pub Means : Form → List Lexeme → Command → Type 0
Means form ls command = (ts : Nesteds) × Fits (start_of form) (marks ls) None × SpellAll ts ls × (strays [] ts ≡ None) × (command_of form ts ≡ command)

-- What is said of a text that is no domain. A text is a list of bytes.
use Rattle.std.specs.Prelude.{ℕ, List, ◌++◌, codes}
use Rattle.std.specs.Fmt.{decimal}
use Rattle.ps_world.specs.Names.{Table, name_text}
use Rattle.ps_grammar.specs.declared.faults.Form.{Form}
use Rattle.ps_grammar.specs.declared.faults.Form.TheVariants as form
use Rattle.ps_pddl.specs.declared.refusals.Cap.{Cap}
use Rattle.ps_pddl.specs.declared.refusals.Cap.TheVariants as cap
use Rattle.ps_pddl.specs.declared.refusals.DomainRefusal.{DomainRefusal}
use Rattle.ps_pddl.specs.declared.refusals.DomainRefusal.TheVariants.{Lex, Unexpected, Unsupported, Unknown, Twice, Arity, Kind, Cycle, Limit}

-- the word for a form that isn't supported
abbrev pub form_text : Form → List ℕ
form_text form.Action = codes "Action"
form_text form.Derived = codes "Derived"
form_text form.Constraints = codes "Constraints"
form_text form.Problem = codes "Problem"
form_text form.Duration = codes "Duration"
form_text form.DurationUse = codes "DurationUse"
form_text form.Continuous = codes "Continuous"
form_text form.Either = codes "Either"
form_text form.Preference = codes "Preference"
form_text form.Quantified = codes "Quantified"

-- the word for what there are too many of
abbrev pub cap_text : Cap → List ℕ
cap_text cap.Depth = codes "Depth"
cap_text cap.Types = codes "Types"
cap_text cap.Predicates = codes "Predicates"
cap_text cap.Functions = codes "Functions"
cap_text cap.Actions = codes "Actions"
cap_text cap.Params = codes "Params"
cap_text cap.Bound = codes "Bound"
cap_text cap.Instances = codes "Instances"

-- a fault's word with its byte
abbrev pub at_place : List ℕ → ℕ → List ℕ
at_place word at = word ++ (codes " " ++ decimal at)

-- the same with one word more
abbrev pub at_place_with : List ℕ → ℕ → List ℕ → List ℕ
at_place_with word at more = at_place word at ++ (codes " " ++ more)

-- why a text is no domain, with the byte, counted from 0, and the names of the table after reading
abbrev pub cause_text : Table → DomainRefusal → List ℕ
cause_text names (Lex at) = at_place (codes "Lex") at
cause_text names (Unexpected at) = at_place (codes "Unexpected") at
cause_text names (Unsupported at what) = at_place (codes "Unsupported " ++ form_text what) at
cause_text names (Unknown at name) = at_place_with (codes "Unknown") at (name_text names name)
cause_text names (Twice at name) = at_place_with (codes "Twice") at (name_text names name)
cause_text names (Arity at) = at_place (codes "Arity") at
cause_text names (Kind at) = at_place (codes "Kind") at
cause_text names (Cycle name) = codes "Cycle " ++ name_text names name
cause_text names (Limit at which) = at_place_with (codes "Limit") at (cap_text which)

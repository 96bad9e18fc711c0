-- Which of some events come first in an open run, where none of them answers a line.
use Rattle.std.proofs.Common.{◌≡◌, ◌&&◌, not, true, false, Option, Some, if◌then◌else◌, List, ◌∷◌, find, ap, sym, ◌∙◌}
use Rattle.ps_machine.specs.declared.inputs.Input.{Input}
use Rattle.ps_machine.specs.declared.journal.Event.{Event}
use Rattle.ps_machine.specs.declared.journal.Entry.{Entry}
use Rattle.ps_rules.specs.Legal.{is_legal, row_allows, same_flag}
use Rattle.ps_rules.specs.Lines.{answers_line}
use Rattle.ps_rules.specs.Runs.{is_running}
use Rattle.ps_actors.specs.Turns.{first_legal}

-- in an open run an event that answers no line may come where it fits
pub legal-fits : (i : Input) (es : List Entry) (e : Event) → is_running es ≡ true → answers_line e ≡ false → is_legal i es e ≡ row_allows i es e
legal-fits i es e live own = ap (λ a. same_flag a (not (is_running es)) && row_allows i es e) own ∙ ap (λ b. not (not b) && row_allows i es e) live

-- one that fits is the first of the events that it stands before
pub first-is : (i : Input) (es : List Entry) (e : Event) (xs : List Event) → is_running es ≡ true → answers_line e ≡ false → true ≡ row_allows i es e
    → Some e ≡ first_legal i es (e ∷ xs)
first-is i es e xs live own may = ap (λ t. if t then Some e else find (is_legal i es) xs) (may ∙ sym (legal-fits i es e live own))

-- where it doesn't fit the first of them is the first
pub first-later : (i : Input) (es : List Entry) (e : Event) (xs : List Event) (o : Option Event) → is_running es ≡ true → answers_line e ≡ false → false ≡ row_allows i es e
    → o ≡ first_legal i es xs → o ≡ first_legal i es (e ∷ xs)
first-later i es e xs o live own not later =
    later ∙ ap (λ t. if t then Some e else find (is_legal i es) xs) (not ∙ sym (legal-fits i es e live own))

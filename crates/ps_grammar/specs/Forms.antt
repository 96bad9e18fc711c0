-- The forms that aren't supported, by what is wanted and the mark that doesn't fit there.
use Rattle.std.specs.Prelude.{ℕ, ◌+◌, ◌-◌, Bool, true, false, not, Option, None, Some, if◌then◌else◌}
use Rattle.std.specs.Option.{option_or}
use Rattle.ps_grammar.specs.Marks.{is, is_quantified}
use Rattle.ps_grammar.specs.declared.marks.Mark.{Mark}
use Rattle.ps_grammar.specs.declared.marks.Mark.TheVariants as mark
use Rattle.ps_grammar.specs.declared.symbols.Symbol.{Symbol}
use Rattle.ps_grammar.specs.declared.symbols.Symbol.TheVariants.{InText, InList, InAction, InCondition, InEffect}
use Rattle.ps_grammar.specs.declared.symbols.TextPart.TheVariants as text
use Rattle.ps_grammar.specs.declared.symbols.ListPart.TheVariants as list
use Rattle.ps_grammar.specs.declared.symbols.ActionPart.TheVariants as action
use Rattle.ps_grammar.specs.declared.symbols.ConditionPart.TheVariants as condition
use Rattle.ps_grammar.specs.declared.symbols.EffectPart.TheVariants as effect
use Rattle.ps_grammar.specs.declared.faults.Form.{Form}
use Rattle.ps_grammar.specs.declared.faults.Form.TheVariants.{Action, Derived, Constraints, Problem, Duration, DurationUse, Continuous, Either, Preference, Quantified}

-- a keyword that only an unsupported form has
abbrev pub form_of_keyword : Mark → Option Form
form_of_keyword mark.Action = Some Action
form_of_keyword mark.Derived = Some Derived
form_of_keyword mark.Constraints = Some Constraints
form_of_keyword _ = None

-- a form in place of a type's name
abbrev pub form_of_type : Mark → Option Mark → Option Form
form_of_type mark.Open (Some mark.Either) = Some Either
form_of_type _ _ = None

-- the head of an effect, with a time or without
abbrev pub form_of_effect : Mark → Option Form
form_of_effect m = if is_quantified m then Some Quantified else None

-- the head of a condition, with a time or without
abbrev pub form_of_condition : Mark → Option Form
form_of_condition mark.Preference = Some Preference
form_of_condition m = form_of_effect m

-- a form in place of this symbol; the last argument is the mark after it
abbrev pub form_at : Symbol → Mark → Option Mark → Option Form
form_at (InText text.TitleWord) mark.Problem next = Some Problem
form_at (InAction action.DurationHead) mark.Open next = None
form_at (InAction action.DurationHead) m next = Some Duration
form_at (InList list.TypeName) m next = form_of_type m next
form_at (InList list.FunctionType) m next = form_of_type m next
form_at (InCondition condition.FormHead) m next = form_of_condition m
form_at (InCondition condition.TimedHead) m next = form_of_condition m
form_at (InCondition condition.Head) m next = form_of_condition m
form_at (InEffect effect.FormHead) m next = form_of_effect m
form_at (InEffect effect.TimedHead) m next = form_of_effect m
form_at (InEffect (effect.Head reach)) m next = form_of_effect m
form_at (InEffect (effect.BodyHead reach)) m next = form_of_effect m
form_at _ _ _ = None

-- a form in place of what is wanted, or after the text's end
abbrev pub form_where : Option Symbol → Mark → Option Mark → Option Form
form_where None m next = None
form_where (Some s) m next = form_at s m next

-- a mark that only unsupported forms have in such a place
abbrev pub form_anywhere : Mark → Option Form
form_anywhere mark.Duration = Some DurationUse
form_anywhere mark.Continuous = Some Continuous
form_anywhere _ = None

-- the form that a mark begins which doesn't fit
abbrev pub unsupported : Option Symbol → Mark → Option Mark → Option Form
unsupported wanted m next = option_or (option_or (form_of_keyword m) (form_where wanted m next)) (form_anywhere m)

-- the place of the mark that tells the form: `either` tells it after its parenthesis
abbrev pub told_at : Form → ℕ → ℕ
told_at Either at = at + 1
told_at _ at = at

-- where this symbol is wanted, the mark opens a level of parentheses: a parenthesis does, and so does the word that begins one effect alone
-- in a `forall` or a `when`, as if it stood in an `and`
abbrev pub opens : Option Symbol → Mark → Bool
opens wanted mark.Open = true
opens wanted mark.Close = false
opens (Some (InEffect (effect.BodyHead reach))) m = not (is mark.And m)
opens wanted m = false

-- the place of the parenthesis that opens a level, by the mark that does: such a word follows it
abbrev pub opened_at : Option Symbol → ℕ → ℕ
opened_at (Some (InEffect (effect.BodyHead reach))) at = at - 1
opened_at wanted at = at

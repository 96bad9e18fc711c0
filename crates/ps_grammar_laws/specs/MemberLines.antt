-- The grammar of a line of each form of a member's text, over its nested lists, from its first word on.
use Rattle.std.specs.Prelude.{◌≡◌, true, List}
use Rattle.ps_grammar.specs.Shape.{Derives, IsShallowFrom}
use Rattle.ps_lists.specs.Lexemes.{marks}
use Rattle.ps_lists.specs.Nested.{Nesteds}
use Rattle.ps_lists.specs.Spelling.{SpellAll}
use Rattle.ps_lists.specs.declared.lexemes.Lexeme.{Lexeme}
use Rattle.ps_members.specs.Forms.{start_of}
use Rattle.ps_members.specs.Lines.{is_plain}
use Rattle.ps_members.specs.declared.forms.Form.{Form}
use Rattle.ps_members.specs.declared.forms.Form.TheVariants.{Performer, Observer, Action, Args, Job, When, End, Work, Feedback, FinishOk, FinishFail, Edit}
use Rattle.ps_grammar_laws.specs.LineForms.{IsEnd, IsGoal, IsLineForm, IsOne, Names}

-- A line of a form of a member's text: its fixed words, which are names, and a name or a condition after them, or all of an edit. What
-- stands after `args` and `feedback` isn't read by its lists.
abbrev pub IsMemberLine : Form → Nesteds → Type 0
-- performer NAME
IsMemberLine Performer ts = Names 2 IsEnd ts
-- observer NAME
IsMemberLine Observer ts = Names 2 IsEnd ts
-- action NAME
IsMemberLine Action ts = Names 2 IsEnd ts
IsMemberLine Args ts = ⊥
-- job
IsMemberLine Job ts = Names 1 IsEnd ts
-- when GOAL
IsMemberLine When ts = Names 1 (IsOne IsGoal) ts
-- end
IsMemberLine End ts = Names 1 IsEnd ts
-- work
IsMemberLine Work ts = Names 1 IsEnd ts
IsMemberLine Feedback ts = ⊥
-- finish ok
IsMemberLine FinishOk ts = Names 2 IsEnd ts
-- finish fail
IsMemberLine FinishFail ts = Names 2 IsEnd ts
-- a line of the terminal
IsMemberLine (Edit f) ts = IsLineForm f ts

-- The lists of a line of a member's text whose words fit a form that is read by its lists are a line of that form.
abbrev pub JudgedMemberLinesAreGrammatical : Type 0
JudgedMemberLinesAreGrammatical = (f : Form) (ts : Nesteds) (ls : List Lexeme) → is_plain f ≡ true → SpellAll ts ls → Derives (start_of f) (marks ls) → IsShallowFrom (start_of f) (marks ls) → IsMemberLine f ts

-- The words of a line of a form of a member's text fit it.
abbrev pub GrammaticalMemberLinesAreJudged : Type 0
GrammaticalMemberLinesAreJudged = (f : Form) (ts : Nesteds) (ls : List Lexeme) → SpellAll ts ls → IsMemberLine f ts → Derives (start_of f) (marks ls) × IsShallowFrom (start_of f) (marks ls)

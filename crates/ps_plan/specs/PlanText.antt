-- The text of a plan: what each of its lines says, the steps of all of them in the order of time, and its first fault.
use Rattle.std.specs.Prelude.{◌≡◌, ℕ, ◌+◌, ◌-◌, ℤ, pos, negsuc, Bool, false, not, ◌&&◌, ◌||◌, ◌==◌, nat_le, nat_lt, int_lt, if◌then◌else◌, Option, Some, None, is_some, Result, Ok, Err, IfOk, IfErr, OnErr, List, [], ◌∷◌, ◌++◌, length, take, drop, insert, flat_map, filter_map, All}
use Rattle.std.specs.Global.{Vec}
use Rattle.std.specs.List.{list_all, position_or_len}
use Rattle.std.specs.Option.{option_map, option_zip}
use Rattle.ps_world.specs.Lines.{lengthened, line_end, lines_of, same_text}
use Rattle.ps_world.specs.Names.{Table}
use Rattle.ps_world.specs.Tables.{IsOf}
use Rattle.ps_world.specs.declared.failures.Failure.{Failure}
use Rattle.ps_world.specs.declared.failures.Failure.TheVariants.{Refused, OutOfMemory}
use Rattle.ps_world.specs.declared.names.Name.{Name}
use Rattle.ps_world.specs.declared.numbers.Num.{Num}
use Rattle.ps_text.specs.Decimals.{number_of}
use Rattle.ps_text.specs.Names.{folded, interned, is_name, place_of}
use Rattle.ps_text.specs.Words.{is_blank, word_at}
use Rattle.ps_text.specs.declared.decimals.NumRefusal.{NumRefusal}
use Rattle.ps_action.specs.Texts.{step_line}
use Rattle.ps_action.specs.declared.acts.PlanStep.{PlanStep}
use Rattle.ps_action.specs.declared.refusals.PlanTextRefusal.{PlanTextRefusal}
use Rattle.ps_action.specs.declared.refusals.PlanTextRefusal.TheVariants.{Line, Long}

-- ---- the parts of a line

-- `:`, `(`, `)`, `[` or `]`, which stands alone
abbrev pub is_mark : ℕ → Bool
is_mark b = (b == 58 || (b == 40 || b == 41)) || (b == 91 || b == 93)

-- a byte of a word: no blank and no mark
abbrev pub is_word_byte : ℕ → Bool
is_word_byte b = not (is_blank b || is_mark b)

-- whether a text begins with a byte of a word
abbrev pub goes_on : List ℕ → Bool
goes_on [] = false
goes_on (b ∷ bs) = is_word_byte b

-- the parts of a line: each mark, and each longest run of other bytes that are no blanks
abbrev pub parts_of : List ℕ → List (List ℕ)
parts_of [] = []
parts_of (b ∷ bs) = if is_blank b then parts_of bs else (if is_word_byte b && goes_on bs then lengthened b (parts_of bs) else (b ∷ []) ∷ parts_of bs)

-- ---- what a line says

-- what a line says: a time, an action, its arguments and a duration
pub record Said : Type 0 where
  pub time : Num
  pub action : List ℕ
  pub args : List (List ℕ)
  pub duration : Num

-- whether this mark is the part at a place
abbrev pub is_mark_at : List (List ℕ) → ℕ → ℕ → Bool
is_mark_at parts i mark = same_text (word_at parts i) (mark ∷ [])

-- the parts from a place on, up to the last four
abbrev pub names_from : List (List ℕ) → ℕ → List (List ℕ)
names_from parts i = drop i (take (length parts - 4) parts)

-- the most parts of a line: a time, an action, six arguments, a duration and five marks
abbrev pub most_parts : ℕ
most_parts = 14

-- whether each mark of a step is at its place: `:` and `(` after the time, `)` and `[` before the duration, and `]` after it
abbrev pub has_marks : List (List ℕ) → Bool
has_marks parts =
    (is_mark_at parts 1 58 && is_mark_at parts 2 40)
    && ((is_mark_at parts (length parts - 4) 41 && is_mark_at parts (length parts - 3) 91) && is_mark_at parts (length parts - 1) 93)

-- whether parts are those of a step, but for its numbers: one to seven names stand between the parentheses
abbrev pub fits : List (List ℕ) → Bool
fits parts = (nat_le 8 (length parts) && nat_le (length parts) most_parts) && (has_marks parts && list_all is_name (names_from parts 3))

-- a number, if it isn't negative
abbrev pub not_negative : Result ℤ NumRefusal → Option ℤ
not_negative (Ok (pos n)) = Some (pos n)
not_negative (Ok (negsuc n)) = None
not_negative (Err why) = None

-- the number that a text is, if it isn't negative
abbrev pub amount_of : List ℕ → Option ℤ
amount_of text = not_negative (number_of text)

-- the time and the duration of a line with these parts, if it is in the grammar
unfoldable pub times_of : List (List ℕ) → Option (ℤ × ℤ)
times_of parts = if fits parts then option_zip (amount_of (word_at parts 0)) (amount_of (word_at parts (length parts - 2))) else None

-- what parts with this time and this duration say
abbrev pub said_of : List (List ℕ) → ℤ × ℤ → Said
said_of parts times = record { time = times.0; action = word_at parts 3; args = names_from parts 4; duration = times.1 }

-- what a line says, if it is in the grammar
abbrev pub line_of : List ℕ → Option Said
line_of line = option_map (said_of (parts_of line)) (times_of (parts_of line))

-- whether a text begins with `;`
abbrev pub begins_comment : List ℕ → Bool
begins_comment [] = false
begins_comment (b ∷ bs) = b == 59

-- whether a line says nothing: it is blank, or its first byte is `;`
abbrev pub is_skipped : List ℕ → Bool
is_skipped line = begins_comment line || list_all is_blank line

-- what a line says that isn't skipped
abbrev pub says : List ℕ → Option Said
says line = if is_skipped line then None else line_of line

-- what the lines of a text say, in their order
abbrev pub said_by : List ℕ → List Said
said_by bytes = filter_map says (lines_of bytes)

-- ---- the first fault

-- the most steps of a plan
abbrev pub most_steps : ℕ
most_steps = 256

-- the first fault of lines, of which the first has this number, after so many steps
abbrev pub fault_from : ℕ → ℕ → List (List ℕ) → Option PlanTextRefusal
fault_from n count [] = None
fault_from n count (line ∷ lines) =
    if is_skipped line then fault_from (n + 1) count lines
    else (if is_some (line_of line) then (if nat_lt count most_steps then fault_from (n + 1) (count + 1) lines else Some (Long n))
    else Some (Line n))

-- the first line of a text that is out of the grammar or has one step too many
unfoldable pub plan_fault : List ℕ → Option PlanTextRefusal
plan_fault bytes = fault_from 1 0 (lines_of bytes)

-- ---- the steps

-- the names that texts are, put into a table one after another, and the table after them
abbrev pub named_all : Table → List (List ℕ) → List Name × Table
named_all table [] = ([], table)
named_all table (text ∷ texts) =
    let more = named_all (interned table (folded text)) texts in
    (record { 0 = place_of table (folded text) } ∷ more.0, more.1)

-- the names of an action's arguments, which stand after it in the text, and the table after them
abbrev pub args_of : Table → Said → List Name × Table
args_of table said = named_all (interned table (folded said.action)) said.args

-- the step that a line says, with the table before it
abbrev pub step_of : Table → Said → PlanStep
step_of table said =
    record {
      time = said.time;
      act = record { action = record { 0 = place_of table (folded said.action) }; args = (args_of table said).0 };
      duration = said.duration;
    }

-- the table after a line
abbrev pub table_after : Table → Said → Table
table_after table said = (args_of table said).1

-- steps in the order of time with one more, which stands after those of its own time
abbrev pub placed : PlanStep → List PlanStep → List PlanStep
placed step steps = insert steps (position_or_len (λ other. int_lt step.time other.time) steps) step

-- these steps with those that more lines say, each at its place, and the table after the lines
abbrev pub planned : Table → List PlanStep → List Said → List PlanStep × Table
planned table steps [] = (steps, table)
planned table steps (said ∷ more) = planned (table_after table said) (placed (step_of table said) steps) more

-- A text is this plan, with a table before it and the table after it: it has no fault, and its steps stand in the order of time, and
-- in the order of the text where their times are equal.
pub record IsPlan (table : Table) (bytes : List ℕ) (steps : List PlanStep) (after : Table) : Type 0 where
  pub faultless : plan_fault bytes ≡ None
  pub steps_are : planned table [] (said_by bytes) ≡ (steps, after)

-- the fault that a failure says, which is none where memory ran out
abbrev pub fault_in : Failure PlanTextRefusal → Option PlanTextRefusal
fault_in (Refused fault) = Some fault
fault_in OutOfMemory = None

-- The answer to a text, with a table before it and the table after it: the plan that it is, or its first fault, unless memory ran out,
-- which it does only for a text without a fault.
pub record ReadsPlan (table : Table) (bytes : List ℕ) (r : Result (Vec PlanStep) (Failure PlanTextRefusal)) (after : Table) : Type 0 where
  pub plan : IfOk r (λ steps. IsPlan table bytes steps.items after)
  pub refused : IfErr r (λ failure. plan_fault bytes ≡ fault_in failure)
  pub kept : OnErr r (after ≡ table)

-- a step's names are among so many
abbrev pub IsStepOf : ℕ → PlanStep → Type 0
IsStepOf count step = IsOf count step.act.action × All (IsOf count) step.act.args

-- ---- the printed text

-- a step, on a line of its own
abbrev pub step_text : Table → PlanStep → List ℕ
step_text names step = step_line names step ++ line_end

-- steps, one after another
abbrev pub plan_text : Table → List PlanStep → List ℕ
plan_text names steps = flat_map (step_text names) steps

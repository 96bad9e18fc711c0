-- The text of what an editor does. A text is a list of bytes.
use Rattle.std.specs.Prelude.{ℕ, List, [], ◌++◌, codes, map}
use Rattle.std.specs.Fmt.{decimal}
use Rattle.ps_world.specs.Lines.{line_end}
use Rattle.ps_world.specs.Names.{Table}
use Rattle.ps_world.specs.Texts.{edit_text}
use Rattle.ps_world.specs.declared.domains.Domain.{Domain}
use Rattle.ps_world.specs.declared.known.Knowledge.{Knowledge}
use Rattle.ps_machine.specs.Texts.{query_text, refusal_text}
use Rattle.ps_rules.specs.Journal.{reply_text}
use Rattle.ps_journal.specs.Told.{known_lines}
use Rattle.ps_editing.specs.declared.answers.Answer.{Answer}
use Rattle.ps_editing.specs.declared.answers.Answer.TheVariants.{Made, Undone, Redone, Asked, Saved, Ended, Refused}
use Rattle.ps_editing.specs.declared.answers.Why.{Why}
use Rattle.ps_editing.specs.declared.answers.Why.TheVariants.{Known, NotHere, NothingToUndo, NothingToRedo}

-- the cause for which a line is refused
abbrev pub why_text : Table → Why → List ℕ
why_text names (Known why) = refusal_text names why
why_text names NotHere = codes "NotHere"
why_text names NothingToUndo = codes "NothingToUndo"
why_text names NothingToRedo = codes "NothingToRedo"

-- an answer, after the line's number
abbrev pub answer_text : Table → Answer → List ℕ
answer_text names (Made x) = codes "ok " ++ edit_text names x
answer_text names (Undone x) = codes "undo " ++ edit_text names x
answer_text names (Redone x) = codes "redo " ++ edit_text names x
answer_text names (Asked q) = codes "ask " ++ query_text names q
answer_text names (Saved edits) = codes "save"
answer_text names Ended = codes "quit"
answer_text names (Refused why) = codes "refused " ++ why_text names why

-- the reply lines of an answer where this is known: those of a query, and edits that make what is known
abbrev pub replies : Table → Domain → Knowledge → Answer → List (List ℕ)
replies names d k (Asked q) = known_lines names d k q
replies names d k (Saved edits) = map (edit_text names) edits
replies names d k a = []

-- the text of an answer to the line with this number, where this is known: its line, and its reply lines
abbrev pub line_text : Table → Domain → ℕ → Answer → Knowledge → List ℕ
line_text names d n a k = decimal n ++ (codes " " ++ (answer_text names a ++ (line_end ++ reply_text (replies names d k a))))

-- the line that the text begins with
abbrev pub title : List ℕ
title = codes "plansys-edit 1" ++ line_end

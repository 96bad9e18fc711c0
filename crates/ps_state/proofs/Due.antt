-- The lines that are due are the first ones.
use Rattle.std.proofs.Common.{◌≡◌, ℕ, zero, suc, ◌<◌, ◌≤◌, Some, List, [], ◌∷◌, length, slice_get, refl, ap, ◌∙◌, arith}
use Rattle.ps_machine.specs.declared.inputs.Command.TheVariants as command
use Rattle.ps_machine.specs.declared.inputs.Line.{Line}
use Rattle.ps_machine.specs.declared.inputs.Line.TheVariants.{Good, Bad}
use Rattle.ps_rules.specs.Lines.{due_lines}

abbrev AreFirst : List Line → List Line → Type 0
AreFirst due lines = (n : ℕ) → n < length due → slice_get due n ≡ slice_get lines n

one-more : (line : Line) (due lines : List Line) → AreFirst due lines → AreFirst (line ∷ due) (line ∷ lines)
one-more line due lines h zero lt = refl
one-more line due lines h (suc n) lt = h n (omega (arith, lt))

-- a line that is due is that of its place
pub due-first : (lines : List Line) → AreFirst (due_lines lines) lines
due-first [] = λ n lt. refl
due-first (Good (command.Edit edit) ∷ lines) = one-more (Good (command.Edit edit)) (due_lines lines) lines (due-first lines)
due-first (Good (command.Ask query) ∷ lines) = one-more (Good (command.Ask query)) (due_lines lines) lines (due-first lines)
due-first (Good command.Run ∷ lines) = one-more (Good command.Run) (due_lines lines) lines (due-first lines)
due-first (Good (command.RunAction act) ∷ lines) = one-more (Good (command.RunAction act)) (due_lines lines) lines (due-first lines)
due-first (Good (command.RunPlan plan) ∷ lines) = one-more (Good (command.RunPlan plan)) (due_lines lines) lines (due-first lines)
due-first (Good command.Quit ∷ lines) = one-more (Good command.Quit) [] lines (λ n lt. absurd (omega (arith, lt)))
due-first (Bad cause ∷ lines) = one-more (Bad cause) (due_lines lines) lines (due-first lines)

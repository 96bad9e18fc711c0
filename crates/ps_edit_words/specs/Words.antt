-- The words that begin a line of an editor alone.
use Rattle.std.specs.Prelude.{ℕ, ◌-◌, Bool, true, ◌==◌, if◌then◌else◌, Option, Some, None, List, [], ◌∷◌, codes, length}
use Rattle.ps_text.specs.Words.{reads_as}
use Rattle.ps_script.specs.Files.{after_run, first_run, trimmed}
use Rattle.ps_edit_words.specs.declared.words.EditWord.{EditWord}
use Rattle.ps_edit_words.specs.declared.words.EditWord.TheVariants.{Undo, Redo, Save, More}

-- whether nothing is here, or a comment
abbrev pub begins_end : List ℕ → Bool
begins_end [] = true
begins_end (b ∷ bs) = b == 59

-- what a word says to an editor alone, in any case of its letters
abbrev pub word_named : List ℕ → Option EditWord
word_named word = if reads_as word (codes "undo") then Some Undo
    else (if reads_as word (codes "redo") then Some Redo
    else (if reads_as word (codes "save") then Some Save else None))

-- what a word says with this rest of its line, which has so many bytes: the word alone, or that more stands there
abbrev pub before_rest : ℕ → List ℕ → Option EditWord → Option EditWord
before_rest count rest None = None
before_rest count rest (Some word) = if begins_end rest then Some word else Some (More (count - length rest))

-- what a line says to an editor alone, where its first word is one that no session knows
abbrev pub edit_word : List ℕ → Option EditWord
edit_word line = before_rest (length line) (trimmed (after_run line)) (word_named (first_run line))

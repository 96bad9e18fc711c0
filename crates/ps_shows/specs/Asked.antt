-- What the words ask for.
use Rattle.std.specs.Prelude.{ℕ, Bool, not, ◌&&◌, nat_eq, if◌then◌else◌, ◌==◌, Option, Some, None, List, [], ◌∷◌, codes, length, map, string_bytes}
use Rattle.std.specs.List.{starts_with}
use Rattle.std.specs.declared.string.String.{String}
use Rattle.std.specs.declared.alloc.Global.{Global}
use Rattle.ps_world.specs.Lines.{same_text}
use Rattle.ps_shows.specs.declared.asked.Form.{Form}
use Rattle.ps_shows.specs.declared.asked.Form.TheVariants.{Svg, Text}

-- the bytes of each word
abbrev pub word_texts : List (String Global) → List (List ℕ)
word_texts ws = map string_bytes ws

-- a word may be the name of a file: it isn't empty and doesn't begin with -
abbrev pub is_file : List ℕ → Bool
is_file word = not (length word == 0) && not (starts_with nat_eq word (codes "-"))

-- a picture in this form of the file of this name, if it may be one
abbrev pub asked_in : Form → List ℕ → Option (Form × List ℕ)
asked_in form file = if is_file file then Some (form, file) else None

-- what the words after `picture` ask for: FILE or --text FILE
abbrev pub picture_asked : List (List ℕ) → Option (Form × List ℕ)
picture_asked (file ∷ []) = asked_in Svg file
picture_asked (option ∷ file ∷ []) = if same_text option (codes "--text") then asked_in Text file else None
picture_asked words = None

-- what words ask for: a picture, in a form, of the journal in a file
abbrev pub asked_of : List (List ℕ) → Option (Form × List ℕ)
asked_of [] = None
asked_of (mode ∷ words) = if same_text mode (codes "picture") then picture_asked words else None

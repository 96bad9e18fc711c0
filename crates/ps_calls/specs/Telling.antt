-- What the program says of itself.
use Rattle.std.specs.Prelude.{◌≡◌, ℕ, Bool, false, ◌||◌, List, [], ◌∷◌, Result, Ok, Err, codes}
use Rattle.ps_world.specs.Lines.{same_text}
use Rattle.ps_text.specs.Outside.{Puts, SinkView}
use Rattle.ps_text.specs.declared.sinks.SinkRefusal.{SinkRefusal}
use Rattle.ps_calls.specs.Headline.{GivesUp}

-- whether a word asks how the program is used, or for its version
abbrev pub is_about_itself : List ℕ → Bool
is_about_itself word = same_text word (codes "--help") || same_text word (codes "--version")

-- whether these words are one such word
abbrev pub asks_of_itself : List (List ℕ) → Bool
asks_of_itself (word ∷ []) = is_about_itself word
asks_of_itself words = false

-- a text was told with status 0, and `err` hears nothing; or `err` hears why it wasn't, with the status of that
abbrev pub EndsTelling : Result (Unit {0}) SinkRefusal → SinkView → SinkView → ℕ → Type 0
EndsTelling (Ok told) old new status = (status ≡ 0) × (new ≡ old)
EndsTelling (Err why) old new status = GivesUp why old new status

-- Telling a text: `out` takes all of it, or, where a write is refused, a prefix of it, and the call ends so.
pub record Tells (text : List ℕ) (out out' err err' : SinkView) (status : ℕ) : Type 0 where
  pub answer : Result (Unit {0}) SinkRefusal
  pub puts : Puts text out out' answer
  pub ends : EndsTelling answer err err' status

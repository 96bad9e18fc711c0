-- What a page tells of a place.
use Rattle.std.specs.Prelude.{◌≡◌, ℕ, List, ◌++◌, codes, decimal}
use Rattle.ps_places.specs.Places.{IsPlace}
use Rattle.ps_places.specs.declared.places.Place.{Place}

-- FILE:LINE:COLUMN
abbrev pub place_text : List ℕ → Place → List ℕ
place_text file p = file ++ (codes ":" ++ (decimal p.line ++ (codes ":" ++ decimal p.column)))

-- a page goes on with the place of a byte of a file's text and one sentence, and then shows something, which is the line with a caret
pub record Marks (file text : List ℕ) (at : ℕ) (sentence old new : List ℕ) : Type 0 where
  pub place : Place
  pub stands : IsPlace text at place
  pub shown : List ℕ
  pub told : new ≡ old ++ (place_text file place ++ (codes ": " ++ (sentence ++ (codes "\n" ++ shown))))

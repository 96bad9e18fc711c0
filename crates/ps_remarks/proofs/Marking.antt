-- What is told of a place, piece by piece.
use Rattle.std.proofs.Common.{◌≡◌, ℕ, List, ◌++◌, codes, ap, ◌∙◌, append_assoc}
use Rattle.ps_places.specs.Places.{IsPlace}
use Rattle.ps_places.specs.declared.places.Place.{Place}
use Rattle.ps_remarks.specs.Pages.{Marks, place_text}

-- the place, a colon, the sentence, the end of its line, and what is shown
pub marked : (file text : List ℕ) (at : ℕ) (sentence old : List ℕ) (p : Place) → IsPlace text at p → (a b d e new shown : List ℕ)
    → a ≡ old ++ place_text file p → b ≡ a ++ codes ": " → d ≡ b ++ sentence → e ≡ d ++ codes "\n" → new ≡ e ++ shown
    → Marks file text at sentence old new
marked file text at sentence old p stands a b d e new shown placed parted said ended told = record {
  place = p;
  stands = stands;
  shown = shown;
  told =
      told ∙ ap (λ xs. xs ++ shown) (ended ∙ ap (λ xs. xs ++ codes "\n") (said ∙ ap (λ xs. xs ++ sentence) (parted ∙ ap (λ xs. xs ++ codes ": ") placed)))
      ∙ append_assoc (((old ++ place_text file p) ++ codes ": ") ++ sentence) (codes "\n") shown
      ∙ append_assoc ((old ++ place_text file p) ++ codes ": ") sentence (codes "\n" ++ shown)
      ∙ append_assoc (old ++ place_text file p) (codes ": ") (sentence ++ (codes "\n" ++ shown))
      ∙ append_assoc old (place_text file p) (codes ": " ++ (sentence ++ (codes "\n" ++ shown)));
}

-- The lines of a text by their numbers.
use Rattle.std.proofs.Common.{◌≡◌, ℕ, ◌-◌, List, [], ◌∷◌, map, slice_get, slice_range, unwrap_or, Option, Some, None, refl, ap, sym, subst, ◌∙◌, arith}
use Rattle.std.specs.Option.{option_map}
use Rattle.std.proofs.lemmas.Option.{get_or_from_slice_get, slice_get-map, slice_get_within}
use Rattle.std.proofs.lemmas.List.Elements.{All-nil, All-cons, All-get_or}
use Rattle.ps_world.specs.Lines.{lines_of}
use Rattle.ps_text.specs.Words.{AreWithin, IsWithin, pieces}
use Rattle.ps_text.specs.declared.spans.Span.{Span}
use Rattle.ps_audit.specs.EntryLines.{line_numbered, span_numbered}

module _ (text : List ℕ) where
  abbrev piece : Span → List ℕ
  piece s = slice_range text s.from s.to

  piece-of : (o : Option Span) → piece (unwrap_or o (record { from = 0; to = 0 })) ≡ unwrap_or (option_map piece o) []
  piece-of None = refl
  piece-of (Some s) = refl

  within-of : (o : Option Span) → ((s : Span) → o ≡ Some s → IsWithin text s) → IsWithin text (unwrap_or o (record { from = 0; to = 0 }))
  within-of None h = (omega arith, omega arith)
  within-of (Some s) h = h s refl

  within-got : (spans : List Span) (k : ℕ) (s : Span) → AreWithin text spans → slice_get spans k ≡ Some s → IsWithin text s
  within-got spans k s h e = subst (IsWithin text) (get_or_from_slice_get spans k s s e) (All-get_or (IsWithin text) spans k s (slice_get_within spans k s e) h)

  module _ (spans : List Span) (are : pieces text spans ≡ lines_of text) (within : AreWithin text spans) where
    numbered : (n : ℕ) → piece (span_numbered spans n) ≡ line_numbered text n
    numbered n = piece-of (slice_get spans (n - 1)) ∙ ap (λ o. unwrap_or o []) (sym (slice_get-map piece spans (n - 1)) ∙ ap (λ ls. slice_get ls (n - 1)) are)

    pub all-numbered : (ns : List ℕ) → pieces text (map (span_numbered spans) ns) ≡ map (line_numbered text) ns
    all-numbered [] = refl
    all-numbered (n ∷ ns) = ap (λ l. l ∷ pieces text (map (span_numbered spans) ns)) (numbered n) ∙ ap (λ ls. line_numbered text n ∷ ls) (all-numbered ns)

    pub all-within : (ns : List ℕ) → AreWithin text (map (span_numbered spans) ns)
    all-within [] = All-nil (IsWithin text)
    all-within (n ∷ ns) =
        All-cons (IsWithin text) (span_numbered spans n) (map (span_numbered spans) ns) (within-of (slice_get spans (n - 1)) (λ s e. within-got spans (n - 1) s within e)) (all-within ns)

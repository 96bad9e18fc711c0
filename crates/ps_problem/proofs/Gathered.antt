-- What is gathered from a list, item by item.
use Rattle.std.proofs.Common.{◌≡◌, ℕ, ◌+◌, ◌<◌, List, [], ◌∷◌, ◌++◌, Option, Some, None, filter_map, get_or, take, length, refl, ap, sym, ◌∙◌}
use Rattle.std.proofs.lemmas.List.{take_more, append-nil}
use Rattle.std.proofs.lemmas.List.Elements.{filter_map-append}

module _ {X Y : Type 0} (h : X → Option Y) (es : List X) (i : ℕ) (e : X) (below : i < length es) (at : e ≡ get_or es i e) where
  one_more : take (i + 1) es ≡ take i es ++ e ∷ []
  one_more = take_more es i e below ∙ ap (λ x. take i es ++ x ∷ []) (sym at)

  -- an item that gives something adds it
  pub gathered_some : (y : Y) → h e ≡ Some y → filter_map h (take (i + 1) es) ≡ filter_map h (take i es) ++ y ∷ []
  gathered_some y s = ap (filter_map h) one_more ∙ filter_map-append h (take i es) (e ∷ []) ∙ rw s refl

  -- and one that gives nothing adds nothing
  pub gathered_none : h e ≡ None → filter_map h (take (i + 1) es) ≡ filter_map h (take i es)
  gathered_none s = ap (filter_map h) one_more ∙ filter_map-append h (take i es) (e ∷ []) ∙ rw s (append-nil (filter_map h (take i es)))

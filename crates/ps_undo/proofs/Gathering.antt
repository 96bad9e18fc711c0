-- One more item of a list is gone over, and what it gives is put after what was there.
use Rattle.std.proofs.Common.{◌≡◌, ℕ, ◌+◌, ◌<◌, List, [], ◌∷◌, ◌++◌, Option, Some, None, append_assoc, filter_map, get_or, take, length, ap, sym, ◌∙◌}
use Rattle.std.proofs.lemmas.List.Elements.{filter_map-append}
use Rattle.ps_problem.proofs.Gathered.{gathered_some, gathered_none}

module _ {X Y : Type 0} (h : X → Option Y) (es : List X) (i : ℕ) (e : X) (below : i < length es) (at : e ≡ get_or es i e) (before out new : List Y) (was : out ≡ before ++ filter_map h (take i es)) where
  pub put_some : (y : Y) → h e ≡ Some y → new ≡ out ++ y ∷ [] → new ≡ before ++ filter_map h (take (i + 1) es)
  put_some y s n =
      n ∙ ap (λ (l : List Y). l ++ y ∷ []) was ∙ append_assoc before (filter_map h (take i es)) (y ∷ [])
      ∙ ap (λ (l : List Y). before ++ l) (sym (gathered_some h es i e below at y s))

  pub put_none : h e ≡ None → new ≡ out → new ≡ before ++ filter_map h (take (i + 1) es)
  put_none s n = n ∙ was ∙ ap (λ (l : List Y). before ++ l) (sym (gathered_none h es i e below at s))

-- what one list gives and then another
pub put_both : {X Y : Type 0} (h : X → Option Y) (xs ys : List X) (old mid new : List Y) → old ≡ [] → mid ≡ old ++ filter_map h xs → new ≡ mid ++ filter_map h ys → new ≡ filter_map h (xs ++ ys)
put_both h xs ys old mid new e f g =
    g ∙ ap (λ (l : List _). l ++ filter_map h ys) (f ∙ ap (λ (l : List _). l ++ filter_map h xs) e) ∙ sym (filter_map-append h xs ys)

-- A filter of what is left of a list, one item on.
use Rattle.std.proofs.Common.{◌≡◌, ℕ, ◌+◌, ◌<◌, Bool, cond, List, ◌∷◌, filter, drop, get_or, length, ap, sym, ◌∙◌}
use Rattle.std.proofs.lemmas.List.{at_drop_more}

pub filter-drop : {X : Type 0} (p : X → Bool) (xs : List X) (i : ℕ) (x : X) (b : Bool) → i < length xs → x ≡ get_or xs i x → p x ≡ b → filter p (drop i xs) ≡ cond b (x ∷ filter p (drop (i + 1) xs)) (filter p (drop (i + 1) xs))
filter-drop p xs i x b h at e =
    let rest = filter p (drop (i + 1) xs) in
    at_drop_more (filter p) xs i x h ∙ ap (λ y. filter p (y ∷ drop (i + 1) xs)) (sym at) ∙ ap (λ v. cond v (x ∷ rest) rest) e

-- The places of a line, one word after another.
use Rattle.std.proofs.Common.{◌≡◌, ℕ, ◌+◌, ◌<◌, List, [], ◌∷◌, ◌++◌, Option, drop, length, sym, ◌∙◌, ap, append_assoc}
use Rattle.std.proofs.lemmas.List.{drop_more}
use Rattle.ps_world.specs.Names.{Table}
use Rattle.ps_world.specs.declared.names.Name.{Name}
use Rattle.ps_text.specs.Words.{word_at}
use Rattle.ps_members.specs.Args.{place_in, places_of}

-- the places and the table are those of the words that are left, before one more of these and after it
abbrev pub Placed : Table → Table → List (List ℕ) → ℕ → List (Option Name) → List (Option Name) → Type 0
Placed t u ws i before after =
    (before ++ (places_of t (drop i ws)).0 ≡ after ++ (places_of u (drop (i + 1) ws)).0) × ((places_of t (drop i ws)).1 ≡ (places_of u (drop (i + 1) ws)).1)

pub place_more : (t u : Table) (ws : List (List ℕ)) (i : ℕ) (before after : List (Option Name)) (p : Option Name) → i < length ws → place_in t (word_at ws i) ≡ (p, u) → after ≡ before ++ p ∷ [] → Placed t u ws i before after
place_more t u ws i before after p lt e more =
    let rest : List (List ℕ) = drop (i + 1) ws in
    let cut = drop_more ws i [] lt in
    let names : (places_of t (drop i ws)).0 ≡ p ∷ (places_of u rest).0 = ap (λ x. (places_of t x).0) cut ∙ ap (λ (h : Option Name × Table). h.0 ∷ (places_of h.1 rest).0) e in
    let table : (places_of t (drop i ws)).1 ≡ (places_of u rest).1 = ap (λ x. (places_of t x).1) cut ∙ ap (λ (h : Option Name × Table). (places_of h.1 rest).1) e in
    (ap (λ x. before ++ x) names ∙ sym (append_assoc before (p ∷ []) (places_of u rest).0) ∙ ap (λ (x : List (Option Name)). x ++ (places_of u rest).0) (sym more), table)

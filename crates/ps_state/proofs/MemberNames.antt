-- The names of the members of one kind.
use Rattle.std.proofs.Common.{◌≡◌, ℕ, ◌+◌, ◌<◌, Option, List, [], ◌∷◌, ◌++◌, filter_map, get_or, length, map, take, ap, ◌∙◌}
use Rattle.std.proofs.lemmas.List.{map-append, take_more}
use Rattle.std.proofs.lemmas.List.Elements.{filter_map-append}
use Rattle.ps_world.specs.declared.names.Name.{Name}
use Rattle.ps_machine.specs.declared.members.Member.{Member}

-- the names of the first so many members, and of one more
pub names-more : {A : Type 0} (f : Member → Option A) (name : A → Name) (xs : List Member) (k : ℕ) (x : Member) → k < length xs → get_or xs k x ≡ x
    → map name (filter_map f (take (k + 1) xs)) ≡ map name (filter_map f (take k xs)) ++ map name (filter_map f (x ∷ []))
names-more f name xs k x h same =
    ap (λ ys. map name (filter_map f ys)) (take_more xs k x h ∙ ap (λ y. take k xs ++ y ∷ []) same)
    ∙ ap (map name) (filter_map-append f (take k xs) (x ∷ [])) ∙ map-append name (filter_map f (take k xs)) (filter_map f (x ∷ []))

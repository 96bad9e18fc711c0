-- The words of a list of types mean them.
use Rattle.std.proofs.Common.{◌≡◌, ◌||◌, Bool, All, true, false, List, [], ◌∷◌, ◌++◌, length, map, find, get_or, None, Ok, refl, ap, ◌∙◌, append_assoc, append-nil}
use Rattle.std.specs.List.{list_any}
use Rattle.std.proofs.lemmas.Bool.{or_parts}
use Rattle.std.proofs.lemmas.List.Elements.{All-head, All-tail}
use Rattle.ps_world.specs.Names.{same_name, object}
use Rattle.ps_world.specs.Knowledge.{is_type}
use Rattle.ps_world.specs.declared.names.Name.{Name}
use Rattle.ps_world.specs.declared.domains.Param.{Param}
use Rattle.ps_world.specs.declared.domains.Domain.{Domain}
use Rattle.ps_lists.specs.Nested.{Nesteds}
use Rattle.ps_pddl.specs.Lists.{kept, listed}
use Rattle.ps_pddl.specs.Meaning.{bare}
use Rattle.ps_pddl.specs.Types.{is_cyclic, leads_to, names_of, with_types}
use Rattle.ps_pddl.specs.WellFormed.{AreTyped}
use Rattle.ps_pddl.specs.declared.meaning.lists.Listing.TheVariants.{Types}
use Rattle.ps_pddl.proofs.MeanLists.{AreListed, none_listed, more_listed, listed-means}
use Rattle.ps_pddl.proofs.Sound.{whole, leads_whole}

-- these names with the parent `object`
abbrev rooted : List Param → List Param
rooted ps = map (λ p. record { name = p.name; kind = object }) ps

names_of-means : (ps before : List Param) (ts : Nesteds) → AreListed ps ts → names_of ts before ≡ before ++ rooted ps
names_of-means _ before _ none_listed = rw append-nil refl
names_of-means _ before _ (more_listed p ps l m k ts e n v t rest) =
    let one : Param = record { name = p.name; kind = object } in
    rw (e, v, n, names_of-means ps (before ++ one ∷ []) ts rest, append_assoc before (one ∷ []) (rooted ps)) refl

rooted_any : (n : Name) (ps : List Param) → list_any (λ p. same_name n p.name) (rooted ps) ≡ list_any (λ p. same_name n p.name) ps
rooted_any n [] = refl
rooted_any n (p ∷ ps) = ap (λ b. same_name n p.name || b) (rooted_any n ps)

-- all that aren't `object` count
kept_all : (ps : List Param) → All (λ p. same_name p.name object ≡ false) ps → kept Types ps ≡ ps
kept_all [] h = refl
kept_all (p ∷ ps) h =
    rw (All-head (λ p. same_name p.name object ≡ false) p ps h, kept_all ps (All-tail (λ p. same_name p.name object ≡ false) p ps h)) refl

-- where none passes, none is found
nothing_found : {A : Type 0} (test : A → Bool) (xs : List A) → All (λ x. test x ≡ false) xs → find test xs ≡ None
nothing_found test [] h = refl
nothing_found test (x ∷ xs) h =
    rw (All-head (λ x. test x ≡ false) x xs h) (nothing_found test xs (All-tail (λ x. test x ≡ false) x xs h))

module _ (d : Domain) (ts : Nesteds) (types : AreTyped d 256 d.types) (no_cycle : All (λ p. is_cyclic d p ≡ false) d.types) (words : AreListed d.types ts) where
  -- the domain with the types alone
  abbrev typed : Domain
  typed = whole d [] [] [] []

  -- the domain with the names of the types
  abbrev named : Domain
  named = record (bare d.name) { types = names_of ts [] }

  known : (n : Name) → is_type d n ≡ true → is_type named n ≡ true
  known n h = rw (names_of-means d.types [] ts words, rooted_any n d.types) h

  types_listed : listed named Types ts [] ≡ Ok d.types
  types_listed = listed-means named Types d.types [] ts types.few types.apart (λ k p lt. known (get_or d.types k p).kind (types.kinds k p lt)) words

  all_count : kept Types d.types ≡ d.types
  all_count =
      kept_all d.types (λ k p lt.
      let here = get_or d.types k p in
      (or_parts (same_name here.name object) (leads_to (length d.types) d here.kind here.name) (no_cycle k p lt)).0)

  none_cyclic : find (is_cyclic typed) d.types ≡ None
  none_cyclic =
      nothing_found (is_cyclic typed) d.types (λ k p lt.
      let here = get_or d.types k p in
      ap (λ b. same_name here.name object || b) (leads_whole d [] [] [] [] (length d.types) here.kind here.name) ∙ no_cycle k p lt)

  pub types-mean : with_types (bare d.name) ts ≡ Ok (whole d [] [] [] [])
  types-mean = rw (types_listed, all_count, none_cyclic) refl

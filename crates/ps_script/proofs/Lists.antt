-- Names and terms that are filled in, one by one, and conditions of lines.
use Rattle.std.proofs.Common.{◌≡◌, ◌<◌, ◌+◌, ℕ, List, [], ◌∷◌, ◌++◌, length, map, min, take, slice_index_or, slice_set, refl, sym, ◌∙◌, ap, arith, Ok}
use Rattle.std.proofs.lemmas.List.{map_more, take-map, take_min, take_more_set}
use Rattle.std.specs.declared.convert.Infallible.{Infallible}
use Rattle.ps_world.specs.declared.domains.Param.{Param}
use Rattle.ps_world.specs.declared.names.Name.{Name}
use Rattle.ps_world.specs.declared.schemas.Term.{Term}
use Rattle.ps_lists.specs.Nested.{Nested, nesteds}
use Rattle.ps_lists.specs.NestedViews.{nested}
use Rattle.ps_lists.specs.Places.{word_of}
use Rattle.ps_lists.specs.declared.trees.Tree.{Tree}
use Rattle.ps_conditions.specs.Conditions as meant
use Rattle.ps_conditions.specs.Steps.{refusable}
use Rattle.ps_conditions.specs.Words.{unrefused_scopes}
use Rattle.ps_conditions.proofs.Certain.{condition_ok}
use Rattle.ps_script.specs.Goals.{args_of, condition, line_scopes, names_of, term, terms_of}

-- the names of words, one by one
pub names_map : (ts : List Tree) → map (λ t. (word_of (nested t)).name) ts ≡ names_of (nesteds (map nested ts))
names_map [] = refl
names_map (t ∷ ts) = ap (λ ns. (word_of (nested t)).name ∷ ns) (names_map ts)

-- one name more is filled
pub name_more : (ts : List Tree) (i : ℕ) (t : Tree) (ns : List Name) (n : Name) → i < length ts → i < length ns → t ≡ slice_index_or ts i t → n ≡ (word_of (nested t)).name → take i ns ≡ map (λ t. (word_of (nested t)).name) (take i ts) → take (i + 1) (slice_set ns i n) ≡ map (λ t. (word_of (nested t)).name) (take (i + 1) ts)
name_more ts i t ns n lt room is named filled =
    take_more_set ns i n room
    ∙ ap (λ l. l ++ n ∷ []) filled
    ∙ ap (λ x. map (λ t. (word_of (nested t)).name) (take i ts) ++ x ∷ []) (named ∙ ap (λ u. (word_of (nested u)).name) is)
    ∙ sym (map_more (λ t. (word_of (nested t)).name) ts i t lt)

-- all names that count are filled
pub first_names : (ts : List Tree) (count : ℕ) (args ns : List Name) → count ≡ min (length ts) 6 → args ≡ take count ns → take count ns ≡ map (λ t. (word_of (nested t)).name) (take count ts) → args ≡ args_of (nesteds (map nested ts))
first_names ts count args ns few is filled =
    let all : count ≡ min 6 (length ts) = omega (arith, few) in
    is ∙ filled
    ∙ ap (λ n. map (λ t. (word_of (nested t)).name) (take n ts)) all
    ∙ ap (map (λ t. (word_of (nested t)).name)) (take_min 6 ts)
    ∙ sym (take-map (λ t. (word_of (nested t)).name) 6 ts)
    ∙ ap (take 6) (names_map ts)

-- the terms of words, one by one
pub terms_map : (ps : List Param) (ts : List Tree) → map (λ t. term ps (word_of (nested t))) ts ≡ terms_of ps (nesteds (map nested ts))
terms_map ps [] = refl
terms_map ps (t ∷ ts) = ap (λ ns. term ps (word_of (nested t)) ∷ ns) (terms_map ps ts)

-- one term more is filled
pub term_more : (ps : List Param) (ts : List Tree) (i : ℕ) (t : Tree) (ns : List Term) (n : Term) → i < length ts → i < length ns → t ≡ slice_index_or ts i t → n ≡ term ps (word_of (nested t)) → take i ns ≡ map (λ t. term ps (word_of (nested t))) (take i ts) → take (i + 1) (slice_set ns i n) ≡ map (λ t. term ps (word_of (nested t))) (take (i + 1) ts)
term_more ps ts i t ns n lt room is named filled =
    take_more_set ns i n room
    ∙ ap (λ l. l ++ n ∷ []) filled
    ∙ ap (λ x. map (λ t. term ps (word_of (nested t))) (take i ts) ++ x ∷ []) (named ∙ ap (λ u. term ps (word_of (nested u))) is)
    ∙ sym (map_more (λ t. term ps (word_of (nested t))) ts i t lt)

-- all terms that count are filled
pub first_terms : (ps : List Param) (ts : List Tree) (count : ℕ) (args ns : List Term) → count ≡ min (length ts) 6 → args ≡ take count ns → take count ns ≡ map (λ t. term ps (word_of (nested t))) (take count ts) → args ≡ take 6 (terms_of ps (nesteds (map nested ts)))
first_terms ps ts count args ns few is filled =
    let all : count ≡ min 6 (length ts) = omega (arith, few) in
    is ∙ filled
    ∙ ap (λ n. map (λ t. term ps (word_of (nested t))) (take n ts)) all
    ∙ ap (map (λ t. term ps (word_of (nested t)))) (take_min 6 ts)
    ∙ sym (take-map (λ t. term ps (word_of (nested t))) 6 ts)
    ∙ ap (take 6) (terms_map ps ts)

-- no condition of a line is refused
pub names_mean : (t : Nested) → meant.condition (refusable Infallible) (unrefused_scopes Infallible line_scopes) [] t ≡ Ok (condition t)
names_mean t = condition_ok Infallible line_scopes [] t

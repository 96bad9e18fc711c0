-- Flags that tell which ground actions are tied.
use Rattle.std.proofs.Common.{◌≡◌, ℕ, ◌<◌, Bool, true, false, ◌&&◌, ◌||◌, List, [], ◌∷◌, Option, Some, None, get_or, length, refl, ap, sym, ◌∙◌, arith}
use Rattle.std.specs.Prelude.{nat_lt, slice_get}
use Rattle.std.specs.List.{list_any}
use Rattle.std.specs.Option.{option_map_or}
use Rattle.std.proofs.lemmas.Bool.Decides.{nat_tests}
use Rattle.ps_action.specs.declared.acts.GroundAction.{GroundAction}
use Rattle.ps_action.specs.declared.touched.Touched.{Touched}
use Rattle.ps_action.specs.Arcs.{are_tied, changes, is_arc, meet, reads, meets}
use Rattle.ps_arcs.specs.Listing.{are_met, touching}
use Rattle.ps_users.specs.Users.{Marks, Users, uses}
use Rattle.ps_arcs.specs.Indexed.{AreTied, AreUses, is_tied}

-- ---- which acts use one of several things

none_passes : (things : List Touched) → list_any (λ t. false) things ≡ false
none_passes [] = refl
none_passes (t ∷ ts) = none_passes ts

any_at : (listed : GroundAction → List Touched) (things : List Touched) (o : Option GroundAction) → list_any (λ t. option_map_or (λ a. list_any (meets t) (listed a)) o false) things ≡ option_map_or (λ a. meet things (listed a)) o false
any_at listed things (Some a) = refl
any_at listed things None = none_passes things

any_uses : (listed : GroundAction → List Touched) (gs : List GroundAction) (users : Users) → AreUses listed gs users → (things : List Touched) (j : ℕ)
    → list_any (λ t. uses users t j) things ≡ option_map_or (λ a. meet things (listed a)) (slice_get gs j) false
any_uses listed gs users are things j = (λ k. list_any (λ t. are t j k) things) ∙ any_at listed things (slice_get gs j)

-- ---- flags

met_at : (s : List Touched × List Touched) (o : Option GroundAction) → (option_map_or (λ a. meet s.0 (changes a)) o false || (option_map_or (λ a. meet s.1 (reads a)) o false || option_map_or (λ a. meet s.1 (changes a)) o false)) ≡ option_map_or (λ a. are_met s (touching a)) o false
met_at s (Some a) = refl
met_at s None = refl

or_three : (a b c d : Bool) → (((a || b) || c) || d) ≡ (a || (b || (c || d)))
or_three true b c d = refl
or_three false true c d = refl
or_three false false c d = refl

module _ (gs : List GroundAction) (s : List Touched × List Touched) (readers changers : Users) (first second third fourth : List Bool)
    (read : AreUses reads gs readers) (changed : AreUses changes gs changers)
    (one : Marks first (λ j. list_any (λ t. uses changers t j) s.0) second)
    (two : Marks second (λ j. list_any (λ t. uses readers t j) s.1) third)
    (three : Marks third (λ j. list_any (λ t. uses changers t j) s.1) fourth) where
  tied_at : (j : ℕ) → (list_any (λ t. uses changers t j) s.0 || (list_any (λ t. uses readers t j) s.1 || list_any (λ t. uses changers t j) s.1)) ≡ is_tied gs s j
  tied_at j =
      (λ k. any_uses changes gs changers changed s.0 j k || (any_uses reads gs readers read s.1 j k || any_uses changes gs changers changed s.1 j k))
      ∙ met_at s (slice_get gs j)

  -- the flags of those that are tied are set
  pub tied_marked : Marks first (is_tied gs s) fourth
  tied_marked = (
    three.0 ∙ two.0 ∙ one.0,
    λ j within.
        three.1 j (omega (arith, within, one.0, two.0))
        ∙ ap (λ b. b || list_any (λ t. uses changers t j) s.1) (two.1 j (omega (arith, within, one.0)) ∙ ap (λ b. b || list_any (λ t. uses readers t j) s.1) (one.1 j within))
        ∙ or_three (get_or first j false) (list_any (λ t. uses changers t j) s.0) (list_any (λ t. uses readers t j) s.1) (list_any (λ t. uses changers t j) s.1)
        ∙ ap (λ b. get_or first j false || b) (tied_at j),
  )

-- ---- arcs

-- whether there is an arc to a later place
arc_at : (gs : List GroundAction) (i j : ℕ) (a : GroundAction) → slice_get gs i ≡ Some a → i < j → is_tied gs (touching a) j ≡ is_arc gs i j
arc_at gs i j a e below =
    let lower : nat_lt i j ≡ true = grind (arith, nat_tests, below) in
    sym (λ k. lower k && option_map_or (λ a. option_map_or (λ b. are_tied a b) (slice_get gs j) false) (e k) false)

-- flags of which none was set tell of the arcs from a place, once those that are tied to it are marked
pub tied_told : (gs : List GroundAction) (i : ℕ) (a : GroundAction) (s : List Touched × List Touched) (old new : List Bool) → slice_get gs i ≡ Some a → s ≡ touching a
    → length old ≡ length gs → ((j : ℕ) → j < length gs → get_or old j false ≡ false) → Marks old (is_tied gs s) new → AreTied gs i new
tied_told gs i a s old new e is long unset marks = (
  marks.0 ∙ long,
  λ j below within.
      marks.1 j (omega (arith, within, long)) ∙ ap (λ b. b || is_tied gs s j) (unset j within)
      ∙ ap (λ x. is_tied gs x j) is ∙ arc_at gs i j a e below,
)

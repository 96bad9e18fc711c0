-- Tests over what is left of a list.
use Rattle.std.proofs.Common.{◌≡◌, ℕ, ◌+◌, ◌<◌, ◌&&◌, ◌||◌, Bool, true, false, Option, Some, None, List, [], ◌∷◌, drop, filter_map, get_or, length, map, refl, ap, ◌∙◌}
use Rattle.std.specs.List.{cons_option, list_all, list_any}
use Rattle.std.specs.Option.{option_map_or}
use Rattle.std.proofs.lemmas.List.{drop_more}
use Rattle.std.proofs.lemmas.Bool.{or_left, and_left}

or-false : (a b : Bool) → a ≡ false → (a || b) ≡ b
or-false a b e = rw e refl

pub and-true : (a b : Bool) → a ≡ true → (a && b) ≡ b
and-true a b e = rw e refl

module _ {X : Type 0} (p : X → Bool) (xs : List X) (k : ℕ) (x : X) (h : k < length xs) where
  -- the next one passes, or doesn't
  pub all-on : p (get_or xs k x) ≡ true → list_all p (drop k xs) ≡ list_all p (drop (k + 1) xs)
  all-on e = ap (list_all p) (drop_more xs k x h) ∙ and-true (p (get_or xs k x)) (list_all p (drop (k + 1) xs)) e

  pub all-off : p (get_or xs k x) ≡ false → list_all p (drop k xs) ≡ false
  all-off e = ap (list_all p) (drop_more xs k x h) ∙ and_left (p (get_or xs k x)) (list_all p (drop (k + 1) xs)) e

  pub any-on : p (get_or xs k x) ≡ false → list_any p (drop k xs) ≡ list_any p (drop (k + 1) xs)
  any-on e = ap (list_any p) (drop_more xs k x h) ∙ or-false (p (get_or xs k x)) (list_any p (drop (k + 1) xs)) e

  pub any-off : p (get_or xs k x) ≡ true → list_any p (drop k xs) ≡ true
  any-off e = ap (list_any p) (drop_more xs k x h) ∙ or_left (p (get_or xs k x)) (list_any p (drop (k + 1) xs)) e

-- ---- what is picked of a list

pick-all-on : {A : Type 0} (p : A → Bool) (o : Option A) (ys : List A) → option_map_or p o true ≡ true → list_all p (cons_option o ys) ≡ list_all p ys
pick-all-on p None ys e = refl
pick-all-on p (Some y) ys e = and-true (p y) (list_all p ys) e

pick-all-off : {A : Type 0} (p : A → Bool) (o : Option A) (ys : List A) → option_map_or p o true ≡ false → list_all p (cons_option o ys) ≡ false
pick-all-off p None ys e = absurd (cc)
pick-all-off p (Some y) ys e = and_left (p y) (list_all p ys) e

pick-any-on : {A : Type 0} (p : A → Bool) (o : Option A) (ys : List A) → option_map_or p o false ≡ false → list_any p (cons_option o ys) ≡ list_any p ys
pick-any-on p None ys e = refl
pick-any-on p (Some y) ys e = or-false (p y) (list_any p ys) e

pick-any-off : {A : Type 0} (p : A → Bool) (o : Option A) (ys : List A) → option_map_or p o false ≡ true → list_any p (cons_option o ys) ≡ true
pick-any-off p None ys e = absurd (cc)
pick-any-off p (Some y) ys e = or_left (p y) (list_any p ys) e

module _ {X A : Type 0} (f : X → Option A) (p : A → Bool) (xs : List X) (k : ℕ) (x : X) (h : k < length xs) where
  next-pick : filter_map f (drop k xs) ≡ cons_option (f (get_or xs k x)) (filter_map f (drop (k + 1) xs))
  next-pick = ap (filter_map f) (drop_more xs k x h)

  -- what is picked of the next one passes, or doesn't
  pub picked-all-on : option_map_or p (f (get_or xs k x)) true ≡ true → list_all p (filter_map f (drop k xs)) ≡ list_all p (filter_map f (drop (k + 1) xs))
  picked-all-on e = ap (list_all p) next-pick ∙ pick-all-on p (f (get_or xs k x)) (filter_map f (drop (k + 1) xs)) e

  pub picked-all-off : option_map_or p (f (get_or xs k x)) true ≡ false → list_all p (filter_map f (drop k xs)) ≡ false
  picked-all-off e = ap (list_all p) next-pick ∙ pick-all-off p (f (get_or xs k x)) (filter_map f (drop (k + 1) xs)) e

  pub picked-any-on : option_map_or p (f (get_or xs k x)) false ≡ false → list_any p (filter_map f (drop k xs)) ≡ list_any p (filter_map f (drop (k + 1) xs))
  picked-any-on e = ap (list_any p) next-pick ∙ pick-any-on p (f (get_or xs k x)) (filter_map f (drop (k + 1) xs)) e

  pub picked-any-off : option_map_or p (f (get_or xs k x)) false ≡ true → list_any p (filter_map f (drop k xs)) ≡ true
  picked-any-off e = ap (list_any p) next-pick ∙ pick-any-off p (f (get_or xs k x)) (filter_map f (drop (k + 1) xs)) e

-- a test of some of what a list is mapped to
pub list_any-map : {X Y : Type 0} (p : X → Bool) (f : Y → X) (ys : List Y) → list_any p (map f ys) ≡ list_any (λ y. p (f y)) ys
list_any-map p f [] = refl
list_any-map p f (y ∷ ys) = ap (λ b. p (f y) || b) (list_any-map p f ys)

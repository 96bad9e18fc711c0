-- Facts that effects change, one effect after another.
use Rattle.std.proofs.Common.{◌≡◌, Bool, true, false, not, cond, ◌||◌, List, [], ◌∷◌, Option, Some, None, filter, fold, option_to_list, refl, ap}
use Rattle.std.specs.List.{cons_option}

module _ {A : Type 0} where
  pub filter_all : (xs : List A) → filter (λ x. true) xs ≡ xs
  filter_all [] = refl
  filter_all (x ∷ xs) = ap (λ l. x ∷ l) (filter_all xs)

  -- two filters, one after another
  pub filter_either : (p q : A → Bool) (xs : List A) → filter (λ x. not (q x)) (filter (λ x. not (p x)) xs) ≡ filter (λ x. not (p x || q x)) xs
  filter_either p q [] = refl
  filter_either p q (x ∷ xs) =
      elim (p x) as (λ b. filter (λ x. not (q x)) (cond (not b) (x ∷ filter (λ x. not (p x)) xs) (filter (λ x. not (p x)) xs)) ≡ cond (not (b || q x)) (x ∷ filter (λ x. not (p x || q x)) xs) (filter (λ x. not (p x || q x)) xs)) [
        | true ↦ filter_either p q xs
        | false ↦ ap (λ (l : List A). cond (not (q x)) (x ∷ l) l) (filter_either p q xs)
      ]

module _ {A B : Type 0} where
  -- a fold over what may begin a list
  pub fold_option : (f : B → A → B) (b : B) (o : Option A) (xs : List A) → fold f (fold f b (option_to_list o)) xs ≡ fold f b (cons_option o xs)
  fold_option f b None xs = refl
  fold_option f b (Some x) xs = refl

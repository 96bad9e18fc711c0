-- Several acts that are noted one after another, with the things that they use.
use Rattle.std.proofs.Common.{◌≡◌, ℕ, zero, suc, ◌+◌, ◌<◌, ◌≤◌, nat_eq, Bool, true, false, ◌&&◌, ◌||◌, List, [], ◌∷◌, ◌++◌, get_or, length, take, refl, ap, sym, ◌∙◌, arith}
use Rattle.std.specs.Prelude.{slice_get}
use Rattle.std.specs.List.{list_any}
use Rattle.std.specs.Option.{option_map_or}
use Rattle.std.proofs.lemmas.Bool.Decides.{nat_tests}
use Rattle.std.proofs.lemmas.Grind.{common_steps}
use Rattle.std.proofs.lemmas.List.{take_all, take_more}
use Rattle.ps_action.specs.declared.acts.GroundAction.{GroundAction}
use Rattle.ps_action.specs.declared.touched.Touched.{Touched}
use Rattle.ps_action.specs.Arcs.{meets}
use Rattle.ps_users.specs.Users.{Enters, Users}
use Rattle.ps_arcs.specs.Indexed.{AreUses}

module _ {A : Type 0} (p : A → Bool) where
  -- what passes at a place of a list with one more
  push_at : (xs : List A) (a : A) (i k : ℕ) → length xs ≡ k → (option_map_or p (slice_get xs i) false || (nat_eq i k && p a)) ≡ option_map_or p (slice_get (xs ++ a ∷ []) i) false
  push_at [] a zero k e =
      let here : nat_eq 0 k ≡ true = grind (arith, nat_tests, e) in
      rw here refl
  push_at [] a (suc i) k e =
      let away : nat_eq (suc i) k ≡ false = grind (arith, nat_tests, e) in
      rw away refl
  push_at (x ∷ xs) a zero k e =
      let away : nat_eq 0 k ≡ false = grind (arith, nat_tests, e) in
      rw away (as_is (p x))
    where
      as_is : (b : Bool) → (b || false) ≡ b
      as_is true = refl
      as_is false = refl
  push_at (x ∷ xs) a (suc i) k e =
      let less : nat_eq (suc i) k ≡ nat_eq i (length xs) = grind (arith, nat_tests, e) in
      ap (λ b. option_map_or p (slice_get xs i) false || (b && p a)) less ∙ push_at xs a i (length xs) refl

pub one_used : (listed : GroundAction → List Touched) (gs : List GroundAction) (k : ℕ) (a : GroundAction) (old new : Users) → k < length gs → a ≡ get_or gs k a
    → AreUses listed (take k gs) old → Enters old (listed a) k new → AreUses listed (take (k + 1) gs) new
one_used listed gs k a old new within is before entered t i =
    let p : GroundAction → Bool = λ b. list_any (meets t) (listed b) in
    let long : length (take k gs) ≡ k = grind (arith, common_steps) in
    let more : take k gs ++ a ∷ [] ≡ take (k + 1) gs = ap (λ b. take k gs ++ b ∷ []) is ∙ sym (take_more gs k a within) in
    entered t i ∙ ap (λ b. b || (nat_eq i k && p a)) (before t i) ∙ push_at p (take k gs) a i k long
    ∙ ap (λ l. option_map_or p (slice_get l i) false) more

pub all_used : (listed : GroundAction → List Touched) (gs : List GroundAction) (k : ℕ) (users : Users) → length gs ≤ k → AreUses listed (take k gs) users → AreUses listed gs users
all_used listed gs k users all are t i =
    are t i ∙ ap (λ l. option_map_or (λ a. list_any (meets t) (listed a)) (slice_get l i) false) (take_all k gs all)

-- What holds of the items of a list holds of those that are found in it.
use Rattle.std.proofs.Common.{◌≡◌, Bool, true, false, Option, Some, None, IfSome, List, [], ◌∷◌, All, if◌then◌else◌, find, filter, filter_map, map, refl}
use Rattle.std.specs.List.{cons_option}
use Rattle.std.proofs.lemmas.List.Elements.{All-nil, All-cons, All-head, All-tail}

-- what is found holds what all items hold, and passes the test
pub found-has : {A : Type 0} (P : A → Type 0) (test : A → Bool) (xs : List A) → All P xs → IfSome (find test xs) (λ x. P x × (test x ≡ true))
found-has P test [] h = tt
found-has P test (x ∷ xs) h =
    let cases : (b : Bool) → test x ≡ b → IfSome (if b then Some x else find test xs) (λ x. P x × (test x ≡ true)) = λ b. elim b as (λ b. test x ≡ b → IfSome (if b then Some x else find test xs) (λ x. P x × (test x ≡ true))) [
      | true ↦ λ e. (All-head P x xs h, e)
      | false ↦ λ e. found-has P test xs (All-tail P x xs h)
    ] in
    cases (test x) refl

-- what holds of the views of all items holds of those of the items that are left
pub left-have : {A B : Type 0} (P : B → Type 0) (view : A → B) (test : A → Bool) (xs : List A) → All P (map view xs) → All P (map view (filter test xs))
left-have P view test [] h = h
left-have P view test (x ∷ xs) h =
    let rest = left-have P view test xs (All-tail P (view x) (map view xs) h) in
    elim (test x) as (λ b. All P (map view (if b then x ∷ filter test xs else filter test xs))) [
      | true ↦ All-cons P (view x) (map view (filter test xs)) (All-head P (view x) (map view xs) h) rest
      | false ↦ rest
    ]

-- what holds of whatever comes of the items holds of all that comes of them
pub mapped-have : {A B : Type 0} (P : A → Type 0) (Q : B → Type 0) (f : A → Option B) → ((x : A) → P x → IfSome (f x) Q) → (xs : List A) → All P xs → All Q (filter_map f xs)
mapped-have P Q f step [] h = All-nil Q
mapped-have P Q f step (x ∷ xs) h =
    let rest = mapped-have P Q f step xs (All-tail P x xs h) in
    let cases : (o : Option _) → IfSome o Q → All Q (cons_option o (filter_map f xs)) = λ o. elim o as (λ o. IfSome o Q → All Q (cons_option o (filter_map f xs))) [
      | None ↦ λ q. rest
      | Some y ↦ λ q. All-cons Q y (filter_map f xs) q rest
    ] in
    cases (f x) (step x (All-head P x xs h))

-- Values that may be missing, and lists of them.
use Rattle.std.proofs.Common.{◌≡◌, Bool, true, false, Option, Some, None, is_some, is_none, [], option_map, option_to_list, refl}
use Rattle.std.specs.List.{cons_option}
use Rattle.std.specs.Option.{option_or, option_map_or}

pub is_none-none : {A : Type 0} (o : Option A) → is_none o ≡ true → o ≡ None
is_none-none None e = refl
is_none-none (Some x) e = absurd (cc)

pub some_same : {A : Type 0} (x y : A) → Some x ≡ Some y → x ≡ y
some_same x y e = cc

pub none_not_some : {A B : Type 0} (x : A) → None ≡ Some x → B
none_not_some x e = absurd (cc)

pub or_none : {A : Type 0} (o p : Option A) → option_or o p ≡ None → (o ≡ None) × (p ≡ None)
or_none None p e = (refl, e)
or_none (Some x) p e = absurd (cc)

pub map_none : {A B : Type 0} (f : A → B) (o : Option A) → option_map f o ≡ None → o ≡ None
map_none f None e = refl
map_none f (Some x) e = absurd (cc)

-- an option on whose value a test is passed has one
pub some_passed : {A : Type 0} (test : A → Bool) (o : Option A) → option_map_or test o false ≡ true → is_some o ≡ true
some_passed test None e = absurd (cc)
some_passed test (Some x) e = refl

pub cons_option-nil : {A : Type 0} (o : Option A) → cons_option o [] ≡ option_to_list o
cons_option-nil None = refl
cons_option-nil (Some x) = refl

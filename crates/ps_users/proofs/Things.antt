-- What meets itself, and what holds of each of several.
use Rattle.std.proofs.Common.{◌≡◌, true, List, [], ◌∷◌, ◌++◌, All, Option, Some, None, refl}
use Rattle.std.proofs.lemmas.List.Elements.{All-nil, All-cons, All-head, All-tail}
use Rattle.std.proofs.lemmas.Bool.{and_from}
use Rattle.ps_world.specs.declared.names.Name.{Name}
use Rattle.ps_world.proofs.SameTexts.{name_itself}
use Rattle.ps_action.proofs.Contained.{fact_itself}
use Rattle.ps_action.specs.declared.places.Place.{Place}
use Rattle.ps_action.specs.declared.touched.Touched.{Touched}
use Rattle.ps_action.specs.declared.touched.Touched.TheVariants.{Fact, Value, Instance, Facts, Values, Instances}
use Rattle.ps_action.specs.Arcs.{meets}
use Rattle.ps_action.specs.Places.{hole_meets, holes_meet, places_meet}

-- ---- meeting itself

hole_itself : (h : Option Name) → hole_meets h h ≡ true
hole_itself None = refl
hole_itself (Some n) = name_itself n

holes_itself : (hs : List (Option Name)) → holes_meet hs hs ≡ true
holes_itself [] = refl
holes_itself (h ∷ hs) = and_from _ _ (hole_itself h) (holes_itself hs)

place_itself : (p : Place) → places_meet p p ≡ true
place_itself p = and_from _ _ (name_itself p.head) (holes_itself p.args)

pub meets_itself : (t : Touched) → meets t t ≡ true
meets_itself (Fact f) = fact_itself f
meets_itself (Value f) = fact_itself f
meets_itself (Instance n) = name_itself n
meets_itself (Facts p) = place_itself p
meets_itself (Values p) = place_itself p
meets_itself Instances = refl

-- ---- what holds of each

-- what holds of each of two lists in a row
module _ {A : Type 0} (P : A → Type 0) where
  pub in_front : (xs ys : List A) → All P (xs ++ ys) → All P xs
  in_front [] ys h = All-nil P
  in_front (x ∷ xs) ys h = All-cons P x xs (All-head P x (xs ++ ys) h) (in_front xs ys (All-tail P x (xs ++ ys) h))

  pub in_rest : (xs ys : List A) → All P (xs ++ ys) → All P ys
  in_rest [] ys h = h
  in_rest (x ∷ xs) ys h = in_rest xs ys (All-tail P x (xs ++ ys) h)

-- what holds of each where something else does
pub all_so : {A : Type 0} (P Q : A → Type 0) → ((x : A) → P x → Q x) → (xs : List A) → All P xs → All Q xs
all_so P Q so [] h = All-nil Q
all_so P Q so (x ∷ xs) h = All-cons Q x xs (so x (All-head P x xs h)) (all_so P Q so xs (All-tail P x xs h))

-- Terms with names in place of variables, and the places at which they stand.
use Rattle.std.proofs.Common.{◌≡◌, true, false, ◌&&◌, Option, Some, None, List, [], ◌∷◌, map, refl, arith}
use Rattle.std.specs.Cmp.{first_so, second_so}
use Rattle.std.specs.List.{list_any}
use Rattle.std.proofs.lemmas.Bool.{and_from, or_parts}
use Rattle.std.proofs.lemmas.Bool.Decides.{nat_tests}
use Rattle.ps_world.specs.Bound.{ground_in, name_in}
use Rattle.ps_world.specs.Knowledge.{ground, name_of}
use Rattle.ps_world.specs.Names.{same_name}
use Rattle.ps_world.specs.declared.names.Name.{Name}
use Rattle.ps_world.specs.declared.facts.Fact.{Fact}
use Rattle.ps_world.specs.declared.schemas.Term.{Term}
use Rattle.ps_world.specs.declared.schemas.Term.TheVariants.{Var, Const}
use Rattle.ps_world.specs.declared.schemas.Lifted.{Lifted}
use Rattle.ps_world.proofs.SameTexts.{name_itself}
use Rattle.ps_action.specs.declared.places.Place.{Place}
use Rattle.ps_action.specs.Places.{closed, has_var, hole_meets, hole_of, holes_meet, is_var, place_of, places_meet}

-- ---- a term stands at its place, whatever its variables stand for

hole_in : (env : List Name) (t : Term) → hole_meets (hole_of t) (Some (name_in env t)) ≡ true
hole_in env (Var i) = refl
hole_in env (Const n) = name_itself n

holes_in : (env : List Name) (ts : List Term) → holes_meet (map hole_of ts) (map Some (map (name_in env) ts)) ≡ true
holes_in env [] = refl
holes_in env (t ∷ ts) = and_from _ _ (hole_in env t) (holes_in env ts)

pub in_place : (env : List Name) (l : Lifted) → places_meet (place_of l) (closed (ground_in env l)) ≡ true
in_place env l = and_from _ _ (name_itself l.head) (holes_in env l.terms)

-- and where it has no variable, it is what it is
name_alone : (env : List Name) (t : Term) → is_var t ≡ false → name_in env t ≡ name_of t
name_alone env (Var i) e = absurd (cc)
name_alone env (Const n) e = refl

names_alone : (env : List Name) (ts : List Term) → list_any is_var ts ≡ false → map (name_in env) ts ≡ map name_of ts
names_alone env [] e = refl
names_alone env (t ∷ ts) e =
    let parts = or_parts (is_var t) (list_any is_var ts) e in
    let first = name_alone env t parts.0 in
    let rest = names_alone env ts parts.1 in
    λ i. first i ∷ rest i

pub alone : (env : List Name) (l : Lifted) → has_var l ≡ false → ground_in env l ≡ ground l
alone env l e = λ i. record { head = l.head; args = names_alone env l.terms e i }

-- ---- two places at which one fact stands meet

name_both : (m l n : Name) → same_name m n ≡ true → same_name l n ≡ true → same_name m l ≡ true
name_both m l n e f = grind (arith, nat_tests, e, f)

hole_both : (h g : Option Name) (n : Name) → hole_meets h (Some n) ≡ true → hole_meets g (Some n) ≡ true → hole_meets h g ≡ true
hole_both None g n e f = refl
hole_both (Some m) None n e f = refl
hole_both (Some m) (Some l) n e f = name_both m l n e f

holes_both : (hs gs : List (Option Name)) (ns : List Name) → holes_meet hs (map Some ns) ≡ true → holes_meet gs (map Some ns) ≡ true → holes_meet hs gs ≡ true
holes_both [] [] ns e f = refl
holes_both [] (g ∷ gs) [] e f = absurd (cc)
holes_both [] (g ∷ gs) (n ∷ ns) e f = absurd (cc)
holes_both (h ∷ hs) [] [] e f = absurd (cc)
holes_both (h ∷ hs) [] (n ∷ ns) e f = absurd (cc)
holes_both (h ∷ hs) (g ∷ gs) [] e f = absurd (cc)
holes_both (h ∷ hs) (g ∷ gs) (n ∷ ns) e f =
    and_from _ _
    (hole_both h g n (first_so (hole_meets h (Some n)) _ e) (first_so (hole_meets g (Some n)) _ f))
    (holes_both hs gs ns (second_so (hole_meets h (Some n)) _ e) (second_so (hole_meets g (Some n)) _ f))

pub places_both : (p q : Place) (f : Fact) → places_meet p (closed f) ≡ true → places_meet q (closed f) ≡ true → places_meet p q ≡ true
places_both p q f e g =
    and_from _ _
    (name_both p.head q.head f.head (first_so (same_name p.head f.head) _ e) (first_so (same_name q.head f.head) _ g))
    (holes_both p.args q.args f.args (second_so (same_name p.head f.head) _ e) (second_so (same_name q.head f.head) _ g))

-- ---- meeting goes both ways

name_turned : (m n : Name) → same_name m n ≡ same_name n m
name_turned m n = grind (arith, nat_tests)

hole_turned : (h g : Option Name) → hole_meets h g ≡ hole_meets g h
hole_turned None None = refl
hole_turned None (Some n) = refl
hole_turned (Some m) None = refl
hole_turned (Some m) (Some n) = name_turned m n

holes_turned : (hs gs : List (Option Name)) → holes_meet hs gs ≡ holes_meet gs hs
holes_turned [] [] = refl
holes_turned [] (g ∷ gs) = refl
holes_turned (h ∷ hs) [] = refl
holes_turned (h ∷ hs) (g ∷ gs) = λ i. hole_turned h g i && holes_turned hs gs i

pub places_turned : (p q : Place) → places_meet p q ≡ places_meet q p
places_turned p q = λ i. name_turned p.head q.head i && holes_turned p.args q.args i

-- Knowledges that steps have led to are the same only where they are equal.
use Rattle.std.proofs.Common.{◌≡◌, ◌⊎◌, Bool, true, false, ◌||◌, ◌&&◌, List, [], ◌∷◌, ◌++◌, map, inl, inr, refl, ap, sym, ◌∙◌}
use Rattle.std.specs.Cmp.{first_so, second_so, signed_Decides}
use Rattle.std.specs.Cmp.Lexicographic.{pointwise}
use Rattle.std.specs.List.{list_any}
use Rattle.std.specs.Ordering.{int_eq}
use Rattle.std.proofs.lemmas.Bool.{and_from, or_left, or_right}
use Rattle.ps_world.specs.Knowledge.{same_fact}
use Rattle.ps_world.specs.declared.numbers.Num.{Num}
use Rattle.ps_world.specs.declared.facts.Fact.{Fact}
use Rattle.ps_world.specs.declared.known.Knowledge.{Knowledge}
use Rattle.ps_action.specs.Search.{is_there, same_known, same_value}
use Rattle.ps_action.proofs.Contained.{fact_itself, fact_same, or_cases}

module _ {X : Type 0} (E : X → X → Bool) where
  each_itself : ((x : X) → E x x ≡ true) → (xs : List X) → pointwise E xs xs ≡ true
  each_itself h [] = refl
  each_itself h (x ∷ xs) = and_from (E x x) (pointwise E xs xs) (h x) (each_itself h xs)

  each_same : ((x y : X) → E x y ≡ true → x ≡ y) → (xs ys : List X) → pointwise E xs ys ≡ true → xs ≡ ys
  each_same h [] [] e = refl
  each_same h [] (y ∷ ys) e = absurd (cc)
  each_same h (x ∷ xs) [] e = absurd (cc)
  each_same h (x ∷ xs) (y ∷ ys) e =
      let first = h x y (first_so (E x y) (pointwise E xs ys) e) in
      let rest = each_same h xs ys (second_so (E x y) (pointwise E xs ys) e) in
      λ i. first i ∷ rest i

value_itself : (v : Fact × Num) → same_value v v ≡ true
value_itself v = and_from (same_fact v.0 v.0) (int_eq v.1 v.1) (fact_itself v.0) ((signed_Decides v.1 v.1).1 refl)

value_same : (v w : Fact × Num) → same_value v w ≡ true → v ≡ w
value_same v w e =
    let first = fact_same v.0 w.0 (first_so (same_fact v.0 w.0) (int_eq v.1 w.1) e) in
    let second = (signed_Decides v.1 w.1).0 (second_so (same_fact v.0 w.0) (int_eq v.1 w.1) e) in
    λ i. (first i, second i)

pub known_itself : (k : Knowledge) → same_known k k ≡ true
known_itself k = and_from (pointwise same_fact k.facts k.facts) (pointwise same_value k.values k.values) (each_itself same_fact fact_itself k.facts) (each_itself same_value value_itself k.values)

pub known_same : (k l : Knowledge) → k.instances ≡ l.instances → k.goal ≡ l.goal → same_known k l ≡ true → k ≡ l
known_same k l instances goal e =
    let facts = each_same same_fact fact_same k.facts l.facts (first_so (pointwise same_fact k.facts l.facts) (pointwise same_value k.values l.values) e) in
    let values = each_same same_value value_same k.values l.values (second_so (pointwise same_fact k.facts l.facts) (pointwise same_value k.values l.values) e) in
    λ i. record { instances = instances i; facts = facts i; values = values i; goal = goal i }

pub there_first : (ks ls : List Knowledge) (k : Knowledge) → is_there ks k ≡ true → is_there (ks ++ ls) k ≡ true
there_first [] ls k e = absurd (cc)
there_first (m ∷ ks) ls k e =
    elim (or_cases (same_known k m) (is_there ks k) e) [
      | inl here ↦ or_left (same_known k m) (is_there (ks ++ ls) k) here
      | inr later ↦ or_right (same_known k m) (is_there (ks ++ ls) k) (there_first ks ls k later)
    ]

pub there_later : (ks ls : List Knowledge) (k : Knowledge) → is_there ls k ≡ true → is_there (ks ++ ls) k ≡ true
there_later [] ls k e = e
there_later (m ∷ ks) ls k e = or_right (same_known k m) (is_there (ks ++ ls) k) (there_later ks ls k e)

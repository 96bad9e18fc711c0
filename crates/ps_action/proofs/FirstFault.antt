-- The fault of effects is the first one, and of the effect at its place.
use Rattle.std.proofs.Common.{◌≡◌, ℕ, ◌+◌, ◌<◌, zero, suc, Bool, true, false, if◌then◌else◌, ℤ, List, [], ◌∷◌, ◌++◌, Option, Some, None, length, take, get_or, refl, ap, sym, subst, ◌∙◌, arith}
use Rattle.std.specs.List.{list_any}
use Rattle.std.specs.Option.{option_or}
use Rattle.std.proofs.lemmas.List.{append-nil, append_assoc, length_push}
use Rattle.ps_world.specs.ExprViews.{expr_tree}
use Rattle.ps_world.specs.Knowledge.{ground}
use Rattle.ps_world.specs.declared.numbers.Num.{Num}
use Rattle.ps_world.specs.declared.actions.Effect.{Effect}
use Rattle.ps_world.specs.declared.actions.Effect.TheVariants.{Add, Delete, Number}
use Rattle.ps_world.specs.declared.known.Knowledge.{Knowledge}
use Rattle.ps_action.specs.declared.refusals.EffectRefusal.{EffectRefusal}
use Rattle.ps_action.specs.declared.refusals.EffectRefusal.TheVariants.{Clash, Undefined, Range}
use Rattle.ps_action.specs.Values.{in_range}
use Rattle.ps_action.specs.Effects.{count_after, count_fault, range_fault, fault_of_effect, faults_from, fault_of_flat, sets}
use Rattle.ps_action.specs.Laws.{IsOfPlace, IsFirstFault}

-- ---- the place that a fault has

at_place : (i : ℕ) (q r : EffectRefusal) → Some q ≡ Some r → IsOfPlace i q → IsOfPlace i r
at_place i q r e p = let same : q ≡ r = cc in subst (IsOfPlace i) same p

range_place : (at : ℕ) (n : Option Num) (r : EffectRefusal) → range_fault at n ≡ Some r → IsOfPlace at r
range_place at None r e = at_place at (Range at) r e refl
range_place at (Some n) r e = absurd (cc)

count_place : (at : ℕ) (z : Option ℤ) (r : EffectRefusal) → count_fault at z ≡ Some r → IsOfPlace at r
count_place at None r e = at_place at (Undefined at) r e refl
count_place at (Some z) r e = range_place at (in_range z) r e

number_place : (b : Bool) (at : ℕ) (z : Option ℤ) (r : EffectRefusal) → (if b then Some (Clash at) else count_fault at z) ≡ Some r → IsOfPlace at r
number_place true at z r e = at_place at (Clash at) r e refl
number_place false at z r e = count_place at z r e

pub fault_place : (k : Knowledge) (before : List Effect) (at : ℕ) (e : Effect) (r : EffectRefusal) → fault_of_effect k before at e ≡ Some r → IsOfPlace at r
fault_place k before at (Add l) r p = absurd (cc)
fault_place k before at (Delete l) r p = absurd (cc)
fault_place k before at (Number how l x) r p = number_place (list_any (sets (ground l)) before) at (count_after k how (ground l) (expr_tree x)) r p

-- ---- the first

-- the fault of the effect at this place of a list, after others
abbrev fault_at : Knowledge → List Effect → List Effect → ℕ → Effect → Option EffectRefusal
fault_at k before es i e = fault_of_effect k (before ++ take i es) (length before + i) (get_or es i e)

record IsFirst (k : Knowledge) (before es : List Effect) (r : EffectRefusal) : Type 0 where
  i : ℕ
  place : IsOfPlace (length before + i) r
  within : i < length es
  fault : (e : Effect) → fault_at k before es i e ≡ Some r
  none : (j : ℕ) (e : Effect) → j < i → fault_at k before es j e ≡ None

none_on : (before : List Effect) → length before + 0 ≡ length before
none_on before = omega arith

here : (k : Knowledge) (before : List Effect) (first : Effect) (es : List Effect) (e : Effect) → fault_at k before (first ∷ es) 0 e ≡ fault_of_effect k before (length before) first
here k before first es e = rw (append-nil before) (ap (λ at. fault_of_effect k before at first) (none_on before))

one_on : (before : List Effect) (first : Effect) (i : ℕ) → length (before ++ first ∷ []) + i ≡ length before + suc i
one_on before first i = omega (arith, length_push before first)

later : (k : Knowledge) (before : List Effect) (first : Effect) (es : List Effect) (i : ℕ) (e : Effect) → fault_at k before (first ∷ es) (suc i) e ≡ fault_at k (before ++ first ∷ []) es i e
later k before first es i e =
    rw (append_assoc before (first ∷ []) (take i es)) (ap (λ at. fault_of_effect k (before ++ first ∷ take i es) at (get_or es i e)) (sym (one_on before first i)))

none_before : (k : Knowledge) (before : List Effect) (first : Effect) (es : List Effect) (i : ℕ) → fault_of_effect k before (length before) first ≡ None → ((j : ℕ) (e : Effect) → j < i → fault_at k (before ++ first ∷ []) es j e ≡ None) → (j : ℕ) (e : Effect) → j < suc i → fault_at k before (first ∷ es) j e ≡ None
none_before k before first es i s rest zero e h = here k before first es e ∙ s
none_before k before first es i s rest (suc j) e h = later k before first es j e ∙ rest j e (omega arith)

first_at : (k : Knowledge) (before : List Effect) (first : Effect) (es : List Effect) (r : EffectRefusal) (o : Option EffectRefusal) → fault_of_effect k before (length before) first ≡ o → option_or o (faults_from k (before ++ first ∷ []) es) ≡ Some r → (faults_from k (before ++ first ∷ []) es ≡ Some r → IsFirst k (before ++ first ∷ []) es r) → IsFirst k before (first ∷ es) r
first_at k before first es r (Some q) s e rest =
    record {
      i = 0;
      place = subst (λ at. IsOfPlace at r) (sym (none_on before)) (fault_place k before (length before) first r (s ∙ e));
      within = omega arith;
      fault = λ d. here k before first es d ∙ s ∙ e;
      none = λ j d h. absurd (omega arith);
    }
first_at k before first es r None s e rest =
    let w = rest e in
    record {
      i = suc w.i;
      place = subst (λ at. IsOfPlace at r) (one_on before first w.i) w.place;
      within = omega (arith, w.within);
      fault = λ d. later k before first es w.i d ∙ w.fault d;
      none = none_before k before first es w.i s w.none;
    }

first_of : (k : Knowledge) (before es : List Effect) (r : EffectRefusal) → faults_from k before es ≡ Some r → IsFirst k before es r
first_of k before [] r e = absurd (cc)
first_of k before (first ∷ es) r e =
    first_at k before first es r (fault_of_effect k before (length before) first) refl e (first_of k (before ++ first ∷ []) es r)

from_none : (i : ℕ) → 0 + i ≡ i
from_none i = omega arith

from_start : (k : Knowledge) (es : List Effect) (i : ℕ) (e : Effect) → fault_at k [] es i e ≡ fault_of_effect k (take i es) i (get_or es i e)
from_start k es i e = ap (λ at. fault_of_effect k (take i es) at (get_or es i e)) (from_none i)

pub first_fault : (k : Knowledge) (es : List Effect) (r : EffectRefusal) → fault_of_flat k es ≡ Some r → IsFirstFault k es r
first_fault k es r e =
    let w = first_of k [] es r e in
    record {
      at = w.i;
      place = subst (λ at. IsOfPlace at r) (from_none w.i) w.place;
      within = w.within;
      fault = λ d. sym (from_start k es w.i d) ∙ w.fault d;
      before = λ i d h. sym (from_start k es i d) ∙ w.none i d h;
    }

-- What there is: something or nothing, an answer or a refusal, this mark or another.
use Rattle.std.proofs.Common.{◌≡◌, ◌⊎◌, Bool, true, false, Option, None, Some, Result, Ok, Err, inl, inr, refl, sym, ◌∙◌}
use Rattle.std.proofs.lemmas.Bool.{cases_Bool}
use denote.Enum.Bare.{true_same}
use Rattle.ps_grammar.specs.contracts.marks.Mark.{the_type}
use Rattle.ps_grammar.specs.Marks.{is}
use Rattle.ps_grammar.specs.declared.marks.Mark.{Mark}
use Rattle.ps_grammar.proofs.SameMarks.{mark_is}

pub found : {A : Type 0} (o : Option A) → ((x : A) × (o ≡ Some x)) ⊎ (o ≡ None)
found None = inr refl
found (Some x) = inl (x, refl)

pub answered : {A E : Type 0} (r : Result A E) → ((x : A) × (r ≡ Ok x)) ⊎ ((e : E) × (r ≡ Err e))
answered (Ok x) = inl (x, refl)
answered (Err e) = inr (e, refl)

other_mark : (wanted m : Mark) → is wanted m ≡ false → m ≡ wanted → ⊥
other_mark wanted m other same =
    let clash : ◌≡◌ {A = Bool} true false = sym (true_same the_type m wanted same) ∙ other in
    absurd (cc)

pub this_or_other : (wanted m : Mark) → (m ≡ wanted) ⊎ (m ≡ wanted → ⊥)
this_or_other wanted m =
    elim (cases_Bool (is wanted m)) [
      | inl same ↦ inl (mark_is wanted m same)
      | inr other ↦ inr (other_mark wanted m other)
    ]

-- A fault is told by the marks up to it, and where a mark fits nothing by the one after it too.
use Rattle.std.proofs.Common.{◌≡◌, ℕ, ◌+◌, ◌<◌, ◌≤◌, List, length, take, Option, None, Some, slice_get, sym, ◌∙◌, ap, subst, inl, inr, arith}
use Rattle.std.proofs.lemmas.Bool.{cases_lt}
use Rattle.std.proofs.lemmas.List.{take_all, take-take, length-take}
use Rattle.std.proofs.lemmas.Option.{slice_get_past, slice_get_within, slice_get-get_or}
use Rattle.std.specs.Option.{option_and_then}
use Rattle.ps_grammar.specs.Fronts.{IsFront, IsFirstMisfit}
use Rattle.ps_grammar.specs.Forms.{unsupported, opened_at}
use Rattle.ps_grammar.specs.Laws.{FaultsAreTold}
use Rattle.ps_grammar.specs.Shape.{IsDomainShape, IsShallow, OpensTooMany, IsUnsupported, IsUnexpected, form_here, wanted}
use Rattle.ps_grammar.specs.declared.marks.Mark.{Mark}
use Rattle.ps_grammar.specs.declared.marks.Mark.TheVariants as mark
use Rattle.ps_grammar.specs.declared.symbols.Symbol.{Symbol}
use Rattle.ps_grammar.specs.declared.symbols.Symbol.TheVariants.{InText, InList, InAction, InCondition, InEffect}
use Rattle.ps_grammar.specs.declared.symbols.TextPart.TheVariants as text
use Rattle.ps_grammar.specs.declared.symbols.ListPart.TheVariants as list
use Rattle.ps_grammar.specs.declared.symbols.ActionPart.TheVariants as action
use Rattle.ps_grammar.specs.declared.symbols.ConditionPart.TheVariants as condition
use Rattle.ps_grammar.specs.declared.symbols.EffectPart.TheVariants as effect
use Rattle.ps_grammar.specs.declared.faults.Form.{Form}
use Rattle.ps_grammar.specs.declared.faults.Form.TheVariants.{Either}
use Rattle.ps_grammar.specs.declared.faults.ShapeFault.TheVariants.{Unsupported, Depth, Unexpected}
use Rattle.ps_grammar.proofs.Places.{slice_get-take}

-- two lists that begin alike have the same shorter beginnings
alike_take : (n k : ℕ) (ms others : List Mark) → k ≤ n → take n ms ≡ take n others → take k ms ≡ take k others
alike_take n k ms others h e = sym (take-take k n ms h) ∙ ap (λ x. take k x) e ∙ take-take k n others h

-- and the same items there
alike_get : (n k : ℕ) (ms others : List Mark) → k < n → take n ms ≡ take n others → slice_get ms k ≡ slice_get others k
alike_get n k ms others h e = sym (slice_get-take n ms k h) ∙ ap (λ x. slice_get x k) e ∙ slice_get-take n others k h

shallow_alike : (ms others : List Mark) → ms ≡ others → IsShallow ms → IsShallow others
shallow_alike ms others e = subst (λ (x : List Mark). IsShallow x) e

misfit_alike : (n at : ℕ) (ms others : List Mark) → at < n → at < length ms → take n ms ≡ take n others → IsFirstMisfit IsDomainShape ms at → IsFirstMisfit IsDomainShape others at
misfit_alike n at ms others h inside e bad =
    let there : at < length others = slice_get_within others at _ (sym (alike_get n at ms others h e) ∙ slice_get-get_or ms at mark.Open inside) in
    record {
      within = omega arith;
      before = subst (λ (x : List Mark). IsFront IsDomainShape x) (alike_take n at ms others (omega arith) e) bad.before;
      here = λ _ f. bad.here inside (subst (λ (x : List Mark). IsFront IsDomainShape x) (sym (alike_take n (at + 1) ms others (omega arith) e)) f);
      end = λ same _. omega arith;
    }

-- what a mark tells but `either` it tells whatever follows it
told_alone : (w : Option Symbol) (m : Mark) (after other : Option Mark) (what : Form) → (what ≡ Either → ⊥) → unsupported w m after ≡ Some what → unsupported w m other ≡ Some what
told_alone None m after other what plain e = e
told_alone (Some (InText text.TitleWord)) mark.Problem after other what plain e = e
told_alone (Some (InAction action.DurationHead)) mark.Open after other what plain e = e
told_alone (Some (InList list.TypeName)) mark.Open (Some mark.Either) other what plain e = absurd (plain (cc))
told_alone (Some (InList list.FunctionType)) mark.Open (Some mark.Either) other what plain e = absurd (plain (cc))
told_alone (Some (InList list.TypeName)) mark.Open after other what plain e = absurd (cc)
told_alone (Some (InList list.FunctionType)) mark.Open after other what plain e = absurd (cc)
told_alone (Some (InCondition condition.Head)) m after other what plain e = e
told_alone (Some (InEffect (effect.Head reach))) m after other what plain e = e
told_alone (Some (InEffect (effect.BodyHead reach))) m after other what plain e = e
told_alone (Some s) m after other what plain e = e

told_alone_by : (here : Option Mark) (w : Option Symbol) (after other : Option Mark) (what : Form) → (what ≡ Either → ⊥) → option_and_then (λ m. unsupported w m after) here ≡ Some what → option_and_then (λ m. unsupported w m other) here ≡ Some what
told_alone_by None w after other what plain e = absurd (cc)
told_alone_by (Some m) w after other what plain e = told_alone w m after other what plain e

-- what lists that begin alike tell, with this mark after the place
told_alike : (n at : ℕ) (ms others : List Mark) (after : Option Mark) → at < n → take n ms ≡ take n others → option_and_then (λ m. unsupported (slice_get (wanted (take at ms)) 0) m after) (slice_get ms at) ≡ option_and_then (λ m. unsupported (slice_get (wanted (take at others)) 0) m after) (slice_get others at)
told_alike n at ms others after h e =
    ap (λ x. option_and_then (λ m. unsupported (slice_get (wanted x) 0) m after) (slice_get ms at)) (alike_take n at ms others (omega arith) e)
    ∙ ap (λ o. option_and_then (λ m. unsupported (slice_get (wanted (take at others)) 0) m after) o) (alike_get n at ms others h e)

form_alone : (n at : ℕ) (ms others : List Mark) (what : Form) → at < n → take n ms ≡ take n others → (what ≡ Either → ⊥) → form_here ms at ≡ Some what → form_here others at ≡ Some what
form_alone n at ms others what h e plain form =
    sym (told_alike n at ms others (slice_get others (at + 1)) h e) ∙ told_alone_by (slice_get ms at) (slice_get (wanted (take at ms)) 0) (slice_get ms (at + 1)) (slice_get others (at + 1)) what plain form

form_alike : (n at : ℕ) (ms others : List Mark) → at + 1 < n → take n ms ≡ take n others → form_here ms at ≡ form_here others at
form_alike n at ms others h e =
    ap (λ after. option_and_then (λ m. unsupported (slice_get (wanted (take at ms)) 0) m after) (slice_get ms at)) (alike_get n (at + 1) ms others h e) ∙ told_alike n at ms others (slice_get others (at + 1)) (omega arith) e

inside_of_form : (ms : List Mark) (at : ℕ) (what : Form) → form_here ms at ≡ Some what → at < length ms
inside_of_form ms at what form =
    elim (cases_lt at (length ms)) [
      | inl h ↦ h
      | inr h ↦
          let none : form_here ms at ≡ None = ap (λ o. option_and_then (λ m. unsupported (slice_get (wanted (take at ms)) 0) m (slice_get ms (at + 1))) o) (slice_get_past ms at h) in
          absurd (cc)
    ]

unsupported_alike : (n at : ℕ) (ms others : List Mark) (what : Form) → at < n → take n ms ≡ take n others → form_here others at ≡ Some what → IsUnsupported ms at what → IsUnsupported others at what
unsupported_alike n at ms others what h e form x = record {
  misfit = misfit_alike n at ms others h (inside_of_form ms at what x.form) e x.misfit;
  shallow = shallow_alike _ _ (alike_take n (at + 1) ms others (omega arith) e) x.shallow;
  form = form;
}

unexpected_inside : (at : ℕ) (ms others : List Mark) → at < length ms → take (at + 2) ms ≡ take (at + 2) others → IsUnexpected ms at → IsUnexpected others at
unexpected_inside at ms others inside e x = record {
  misfit = misfit_alike (at + 2) at ms others (omega arith) inside e x.misfit;
  shallow = shallow_alike _ _ (alike_take (at + 2) (at + 1) ms others (omega arith) e) x.shallow;
  supported = sym (form_alike (at + 2) at ms others (omega arith) e) ∙ x.supported;
}

-- a list that is as short as its beginning is the whole other list
alike_whole : (n : ℕ) (ms others : List Mark) → length ms < n → take n ms ≡ take n others → ms ≡ others
alike_whole n ms others h e =
    let lengths : length (take n ms) ≡ length (take n others) = ap (λ x. length x) e in
    let short : length others ≤ n = omega (arith, length-take n ms, length-take n others) in
    sym (take_all n ms (omega arith)) ∙ e ∙ take_all n others short

-- the mark that opens a level stands at its parenthesis or right after it
opened_near : (w : Option Symbol) (n at : ℕ) → at ≡ opened_at w n → n ≤ at + 1
opened_near (Some (InEffect (effect.BodyHead reach))) n at e = omega (arith, e)
opened_near w n at e = omega (arith, e)

pub faults_are_told : FaultsAreTold
faults_are_told (Unsupported at Either) ms others e x =
    let two : take (x.0 + 2) ms ≡ take (x.0 + 2) others = alike_take (at + 1) (x.0 + 2) ms others (omega (arith, x.1)) e in
    (x.0, x.1, unsupported_alike (x.0 + 2) x.0 ms others Either (omega arith) two (sym (form_alike (x.0 + 2) x.0 ms others (omega arith) two) ∙ x.2.form) x.2)
faults_are_told (Unsupported at what) ms others e x =
    let one : take (x.0 + 1) ms ≡ take (x.0 + 1) others = alike_take (at + 1) (x.0 + 1) ms others (omega (arith, x.1)) e in
    (x.0, x.1, unsupported_alike (x.0 + 1) x.0 ms others what (omega arith) one (form_alone (x.0 + 1) x.0 ms others what (omega arith) one (λ same. cc) x.2.form) x.2)
faults_are_told (Depth at) ms others e x =
    let near : x.0 ≤ at + 1 = opened_near (slice_get (wanted (take x.0 ms)) 0) x.0 at x.1 in
    let before : take x.0 ms ≡ take x.0 others = alike_take (at + 2) x.0 ms others (omega (arith, near)) e in
    let here : slice_get ms x.0 ≡ slice_get others x.0 = alike_get (at + 2) x.0 ms others (omega (arith, near)) e in (
      x.0,
      x.1 ∙ ap (λ y. opened_at (slice_get (wanted y) 0) x.0) before,
      record {
        before = subst (λ (y : List Mark). IsFront IsDomainShape y) before x.2.before;
        shallow = shallow_alike _ _ before x.2.shallow;
        deep = subst (λ (o : Option Mark). OpensTooMany (wanted (take x.0 others)) o) here (subst (λ (y : List Mark). OpensTooMany (wanted y) (slice_get ms x.0)) before x.2.deep);
      },
    )
faults_are_told (Unexpected at) ms others e x =
    elim (cases_lt at (length ms)) [
      | inl h ↦ unexpected_inside at ms others h e x
      | inr h ↦ subst (λ (y : List Mark). IsUnexpected y at) (alike_whole (at + 2) ms others (omega arith) e) x
    ]

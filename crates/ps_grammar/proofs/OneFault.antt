-- A text's fault is the only one, is told by the marks up to it, and is none of a domain's text.
use Rattle.std.proofs.Common.{◌≡◌, ℕ, ◌+◌, ◌<◌, ◌≤◌, List, [], ◌++◌, length, take, drop, None, Some, slice_get, sym, ◌∙◌, ap, subst, inl, inr, append_assoc, append-nil, arith}
use Rattle.std.proofs.lemmas.Bool.{cases_lt}
use Rattle.std.proofs.lemmas.List.{take_all, take-take, take-append-drop}
use Rattle.ps_grammar.specs.Fronts.{IsFront, IsFirstMisfit}
use Rattle.ps_grammar.specs.Forms.{told_at, opened_at}
use Rattle.ps_grammar.specs.Laws.{FaultsAreFirst, FaultsAreReal, FirstFaultsAreOne, FirstFaultsAreReal}
use Rattle.ps_grammar.specs.Shape.{Derives, IsDomainShape, IsShallow, IsDepth, IsFirstFaultFrom, form_here, text_start, wanted}
use Rattle.ps_grammar.specs.declared.marks.Mark.{Mark}
use Rattle.ps_grammar.specs.declared.symbols.Symbol.{Symbol}
use Rattle.ps_grammar.specs.declared.faults.ShapeFault.TheVariants.{Unsupported, Depth, Unexpected}
use Rattle.ps_grammar.proofs.FirstFaults.{deep_in, inside_of_deep}

-- a beginning of a front is a front
front_take : {T : Type 0} (L : List T → Type 0) (k n : ℕ) (ts : List T) → k ≤ n → IsFront L (take n ts) → IsFront L (take k ts)
front_take L k n ts h f =
    let split : take k ts ++ drop k (take n ts) ≡ take n ts = ap (λ x. x ++ drop k (take n ts)) (sym (take-take k n ts h)) ∙ take-append-drop k (take n ts) in
    let whole = append_assoc (take k ts) (drop k (take n ts)) f.0 in
    (drop k (take n ts) ++ f.0, subst L (ap (λ x. x ++ f.0) (sym split) ∙ whole) f.1)

-- there is one first misfit
first_at_or_after : {T : Type 0} (L : List T → Type 0) (ts : List T) (a b : ℕ) → IsFront L (take b ts) → b ≤ length ts → IsFirstMisfit L ts a → b ≤ a
first_at_or_after L ts a b f within bad =
    elim (cases_lt a b) [
      | inl h ↦ absurd (bad.here (omega arith) (front_take L (a + 1) b ts (omega arith) f))
      | inr h ↦ h
    ]

misfit_after_depth : (ms : List Mark) (deep at : ℕ) → IsDepth ms deep → IsFirstMisfit IsDomainShape ms at → IsShallow (take (at + 1) ms) → ⊥
misfit_after_depth ms deep at d bad shallow =
    let inside : deep < length ms = inside_of_deep text_start ms deep d.deep in
    let after : deep ≤ at = first_at_or_after IsDomainShape ms at deep d.before (omega arith) bad in
    shallow deep (deep_in text_start ms (at + 1) deep (omega arith) d.deep)

same_misfit : (ms : List Mark) (a b : ℕ) → IsFirstMisfit IsDomainShape ms a → IsFirstMisfit IsDomainShape ms b → a ≡ b
same_misfit ms a b x y =
    let h : a ≤ b = first_at_or_after IsDomainShape ms b a x.before x.within y in
    let k : b ≤ a = first_at_or_after IsDomainShape ms a b y.before y.within x in
    omega arith

depth_order : (ms : List Mark) (a b : ℕ) → IsDepth ms a → IsDepth ms b → b ≤ a
depth_order ms a b x y =
    elim (cases_lt a b) [
      | inl h ↦ absurd (y.shallow a (deep_in text_start ms b a h x.deep))
      | inr h ↦ h
    ]

pub faults_are_first : FaultsAreFirst
faults_are_first (Unsupported at what) (Unsupported there other) ms x y =
    let same : x.0 ≡ y.0 = same_misfit ms x.0 y.0 x.2.misfit y.2.misfit in
    let form : form_here ms x.0 ≡ Some other = subst (λ (k : ℕ). form_here ms k ≡ Some other) (sym same) y.2.form in
    let one : Some what ≡ Some other = sym x.2.form ∙ form in
    let what_is : what ≡ other = cc in
    let here : at ≡ there = x.1 ∙ ap (λ f. told_at f x.0) what_is ∙ ap (λ k. told_at other k) same ∙ sym y.1 in
    cc
faults_are_first (Unsupported at what) (Depth there) ms x y = absurd (misfit_after_depth ms y.0 x.0 y.2 x.2.misfit x.2.shallow)
faults_are_first (Unsupported at what) (Unexpected there) ms x y =
    let same : x.0 ≡ there = same_misfit ms x.0 there x.2.misfit y.misfit in
    let form : form_here ms there ≡ Some what = subst (λ (k : ℕ). form_here ms k ≡ Some what) same x.2.form in
    let none : form_here ms there ≡ None = y.supported in
    cc
faults_are_first (Depth at) (Unsupported there other) ms x y = absurd (misfit_after_depth ms x.0 y.0 x.2 y.2.misfit y.2.shallow)
faults_are_first (Depth at) (Depth there) ms x y =
    let h : y.0 ≤ x.0 = depth_order ms x.0 y.0 x.2 y.2 in
    let k : x.0 ≤ y.0 = depth_order ms y.0 x.0 y.2 x.2 in
    let same : x.0 ≡ y.0 = omega arith in
    let here : at ≡ there = x.1 ∙ ap (λ n. opened_at (slice_get (wanted (take n ms)) 0) n) same ∙ sym y.1 in
    ap Depth here
faults_are_first (Depth at) (Unexpected there) ms x y = absurd (misfit_after_depth ms x.0 there x.2 y.misfit y.shallow)
faults_are_first (Unexpected at) (Unsupported there other) ms x y =
    let same : at ≡ y.0 = same_misfit ms at y.0 x.misfit y.2.misfit in
    let form : form_here ms at ≡ Some other = subst (λ (k : ℕ). form_here ms k ≡ Some other) (sym same) y.2.form in
    let none : form_here ms at ≡ None = x.supported in
    cc
faults_are_first (Unexpected at) (Depth there) ms x y = absurd (misfit_after_depth ms y.0 at y.2 x.misfit x.shallow)
faults_are_first (Unexpected at) (Unexpected there) ms x y = ap Unexpected (same_misfit ms at there x.misfit y.misfit)

-- a list of the language has no misfit
no_misfit : (L : List Mark → Type 0) (ms : List Mark) (at : ℕ) → IsFirstMisfit L ms at → L ms → ⊥
no_misfit L ms at bad good =
    let all : take (length ms) ms ≡ ms = take_all (length ms) ms (omega arith) in
    let front : IsFront L (take (length ms) ms) = ([], subst L (sym (append-nil (take (length ms) ms) ∙ all)) good) in
    let here : at ≡ length ms = (let h : length ms ≤ at = first_at_or_after L ms at (length ms) front (omega arith) bad in let k : at ≤ length ms = bad.within in omega arith) in
    bad.end here good

pub faults_are_real : FaultsAreReal
faults_are_real (Unsupported at what) ms x good flat = no_misfit IsDomainShape ms x.0 x.2.misfit good
faults_are_real (Depth at) ms x good flat = flat x.0 x.2.deep
faults_are_real (Unexpected at) ms x good flat = no_misfit IsDomainShape ms at x.misfit good

-- ---- whatever is wanted

within_of_fault : (start : List Symbol) (ms : List Mark) (at : ℕ) → IsFirstFaultFrom start ms at → at ≤ length ms
within_of_fault start ms at x =
    elim x.here [
      | inl deep ↦ let inside : at < length ms = inside_of_deep start ms at deep in omega arith
      | inr bad ↦ bad.within
    ]

-- no first fault stands before another
fault_order : (start : List Symbol) (ms : List Mark) (a b : ℕ) → IsFirstFaultFrom start ms a → IsFirstFaultFrom start ms b → b ≤ a
fault_order start ms a b x y =
    elim x.here [
      | inl deep ↦
          elim (cases_lt a b) [
            | inl h ↦ absurd (y.shallow a (deep_in start ms b a h deep))
            | inr h ↦ h
          ]
      | inr bad ↦ first_at_or_after (Derives start) ms a b y.before (within_of_fault start ms b y) bad
    ]

pub first_faults_are_one : FirstFaultsAreOne
first_faults_are_one start ms a b x y =
    let h : b ≤ a = fault_order start ms a b x y in
    let k : a ≤ b = fault_order start ms b a y x in
    omega arith

pub first_faults_are_real : FirstFaultsAreReal
first_faults_are_real start ms at x good flat =
    elim x.here [
      | inl deep ↦ flat at deep
      | inr bad ↦ no_misfit (Derives start) ms at bad good
    ]

use Rattle.std.proofs.Common.{◌≡◌, ℕ, Bool, List, length, ap, sym, ◌∙◌, subst, arith}
use Rattle.std.specs.Int.{div_ceil}
use Rattle.ps_solve.specs.Flags.{ArePacked, flags_in, joined}
use Rattle.ps_solve.proofs.Packing.{length-flags_in}
use Rattle.ps_solve.proofs.Refilled.{refilled}
use Rattle.ps_solve.proofs.flags.Flags.set_to.Goals as goal

pub copy_from_slice-requires : goal.copy_from_slice-requires
copy_from_slice-requires c =
    let mine = length-flags_in c.self.inside.len (joined c.self.inside.words.items) in
    let theirs = length-flags_in c.other.inside.len (joined c.other.inside.words.items) in
    let seen = ap (λ (l : List Bool). length l) c.self.view_is in
    let given = ap (λ (l : List Bool). length l) c.other.view_is in
    let same : c.self.inside.len ≡ c.other.inside.len = omega (arith, mine, theirs, seen, given, c.requires) in
    ap (λ (l : List ℕ). length l) c.deref_mut.ensures.value ∙ c.self.invariant.count
    ∙ ap (λ (n : ℕ). div_ceil n 64) same ∙ sym c.other.invariant.count ∙ sym (ap (λ (l : List ℕ). length l) c.deref.ensures)

pub invariant_of-self : goal.invariant_of-self
invariant_of-self c =
    let mine = length-flags_in c.self.inside.len (joined c.self.inside.words.items) in
    let theirs = length-flags_in c.other.inside.len (joined c.other.inside.words.items) in
    let seen = ap (λ (l : List Bool). length l) c.self.view_is in
    let given = ap (λ (l : List Bool). length l) c.other.view_is in
    let same : c.self.inside.len ≡ c.other.inside.len = omega (arith, mine, theirs, seen, given, c.requires) in
    let new = c.copy_from_slice.ensures.after ∙ c.deref.ensures in
    let many : length c.copy_from_slice.new.self ≡ length c.self.inside.words.items =
    ap (λ (l : List ℕ). length l) new ∙ c.other.invariant.count ∙ sym (ap (λ (n : ℕ). div_ceil n 64) same) ∙ sym c.self.invariant.count in
    let P : List ℕ → Type 0 = λ l. ArePacked l c.self.inside.len in
    let Q : ℕ → Type 0 = ArePacked c.other.inside.words.items in
    subst P (sym (refilled c.self.inside.words.items c.copy_from_slice.new.self many ∙ new)) (subst Q (sym same) c.other.invariant)

pub returns : goal.returns
returns c =
    let mine = length-flags_in c.self.inside.len (joined c.self.inside.words.items) in
    let theirs = length-flags_in c.other.inside.len (joined c.other.inside.words.items) in
    let seen = ap (λ (l : List Bool). length l) c.self.view_is in
    let given = ap (λ (l : List Bool). length l) c.other.view_is in
    let same : c.self.inside.len ≡ c.other.inside.len = omega (arith, mine, theirs, seen, given, c.requires) in
    let new = c.copy_from_slice.ensures.after ∙ c.deref.ensures in
    let many : length c.copy_from_slice.new.self ≡ length c.self.inside.words.items =
    ap (λ (l : List ℕ). length l) new ∙ c.other.invariant.count ∙ sym (ap (λ (n : ℕ). div_ceil n 64) same) ∙ sym c.self.invariant.count in
    let words = refilled c.self.inside.words.items c.copy_from_slice.new.self many ∙ new in
    (λ j. flags_in (same j) (joined (words j))) ∙ c.other.view_is

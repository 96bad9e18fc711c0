use Rattle.std.proofs.Common.{◌≡◌, ◌/◌, ◌≤◌, ℕ, Bool, List, false, get_or, length, set, ap, sym, ◌∙◌, subst, arith}
use Rattle.std.proofs.lemmas.List.{set_past}
use Rattle.ps_solve.specs.Flags.{ArePacked, flags_in, joined}
use Rattle.ps_solve.proofs.Packing.{flag_cleared, length-flags_in}
use Rattle.ps_solve.proofs.Refilled.{refilled_at}
use Rattle.ps_solve.proofs.flags.Flags.clear.Goals as goal

pub invariant_of-self : goal.invariant_of-self
invariant_of-self c =
    let words = c.self.inside.words.items in
    let there = c.deref_mut.result.now in
    let i = c.args.place in
    let w = get_or there (i / 64) 0 in
    let is : w ≡ get_or words (i / 64) 0 = ap (λ (l : List ℕ). get_or l (i / 64) 0) c.deref_mut.ensures.value in
    let put = flag_cleared words c.self.inside.len c.self.invariant i w c.if-place-self.true is in
    let P : List ℕ → Type 0 = λ l. ArePacked l c.self.inside.len in
    subst P (sym (refilled_at words there (i / 64) _ c.deref_mut.ensures.value)) put.0

pub returns-then-place-self : goal.returns-then-place-self
returns-then-place-self c =
    let words = c.self.inside.words.items in
    let there = c.deref_mut.result.now in
    let i = c.args.place in
    let w = get_or there (i / 64) 0 in
    let is : w ≡ get_or words (i / 64) 0 = ap (λ (l : List ℕ). get_or l (i / 64) 0) c.deref_mut.ensures.value in
    let put = flag_cleared words c.self.inside.len c.self.invariant i w c.if-place-self.true is in
    ap (λ (l : List ℕ). flags_in c.self.inside.len (joined l)) (refilled_at words there (i / 64) _ c.deref_mut.ensures.value)
    ∙ put.1 ∙ ap (λ (l : List Bool). set l i false) c.self.view_is

pub returns-else-place-self : goal.returns-else-place-self
returns-else-place-self c =
    let flags = c.args.self.now in
    let size = ap (λ (l : List Bool). length l) c.self.view_is in
    let past : length flags ≤ c.args.place = omega (arith, size, length-flags_in c.self.inside.len (joined c.self.inside.words.items)) in
    sym (set_past flags c.args.place false past)

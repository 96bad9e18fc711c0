use Rattle.std.proofs.Common.{◌≡◌, ◌/◌, ◌%◌, ◌≤◌, ℕ, Bool, List, false, get_or, length, ap, sym, ◌∙◌, arith}
use Rattle.std.specs.Prelude.{nat_eq}
use Rattle.std.specs.Int.{bit_at}
use Rattle.std.proofs.lemmas.Bool.{ltb-false, ltb-true}
use Rattle.std.proofs.lemmas.List.{get_or_past, get_or_read}
use Rattle.std.proofs.lemmas.Nat.Bits.{bit_at-zero, shr_and_one}
use Rattle.ps_solve.proofs.Packing.{flag_of_word}
use Rattle.ps_solve.proofs.flags.Flags.get.Goals as goal

pub returns-in-Some : goal.returns-in-Some
returns-in-Some c =
    let words = c.self.inside.words.items in
    let i = c.args.place in
    let w = c.in-Some.word.now in
    let read : w ≡ get_or words (i / 64) 0 =
    get_or_read c.deref.result.now (i / 64) w (ltb-true (i / 64) (length c.deref.result.now) (sym c.in-Some.ensures.lookup.0)) c.in-Some.ensures.lookup.1 0
    ∙ ap (λ (l : List ℕ). get_or l (i / 64) 0) c.deref.ensures in
    ap (λ n. nat_eq n 1) (shr_and_one w (i % 64) ∙ ap (λ n. bit_at n (i % 64)) read)
    ∙ sym (flag_of_word words c.self.inside.len c.self.invariant i) ∙ ap (λ (l : List Bool). get_or l i false) c.self.view_is

pub returns-in-None : goal.returns-in-None
returns-in-None c =
    let words = c.self.inside.words.items in
    let i = c.args.place in
    let size = ap (λ (l : List ℕ). length l) c.deref.ensures in
    let past : length words ≤ i / 64 = omega (arith, size, ltb-false (i / 64) (length c.deref.result.now) (sym c.in-None.ensures.lookup.0)) in
    ap (λ n. nat_eq n 1) (sym (bit_at-zero (i % 64)) ∙ ap (λ n. bit_at n (i % 64)) (sym (get_or_past words (i / 64) 0 past)))
    ∙ sym (flag_of_word words c.self.inside.len c.self.invariant i) ∙ ap (λ (l : List Bool). get_or l i false) c.self.view_is

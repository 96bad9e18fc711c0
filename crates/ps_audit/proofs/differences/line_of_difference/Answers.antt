use Rattle.std.proofs.Common.{◌≡◌, ℕ, suc, nat_eq, [], ◌⊎◌, inl, inr, drop, length, take, ap, sym, ◌∙◌, arith}
use Rattle.std.proofs.lemmas.Slice.Zip.{Zip-so_far, either_empty_from_Zip}
use Rattle.std.specs.Iterator.Adapters.{zip_first, zip_second}
use Rattle.std.specs.Slice.Iter.{iter_rest}
use Rattle.std.specs.List.{common_prefix_len}
use Rattle.ps_audit.specs.Findings.{line_ends}
use Rattle.ps_audit.proofs.SameBytes.{none-same}
use Rattle.ps_audit.proofs.differences.line_of_difference.Goals as goal

pub returns : goal.returns
returns c =
    let text = c.args.text.now in
    let due = c.args.due.now in
    let n : ℕ = length c.loop-byte.yielded in
    let so_far = Zip-so_far c.loop-byte.yielded c.into_iter-byte-iterator.result c.loop-byte.byte-iterator c.loop-byte.yielded_by in
    let first : iter_rest (zip_first c.into_iter-byte-iterator.result) ≡ text = cc in
    let second : iter_rest (zip_second c.into_iter-byte-iterator.result) ≡ due = cc in
    let ended : (drop n text ≡ []) ⊎ (drop n due ≡ []) =
    elim (either_empty_from_Zip c.loop-byte.byte-iterator c.next.new.self c.next.result c.in-None.is c.next.ensures.steps) [
      | inl e ↦ inl (ap (drop n) (sym first) ∙ sym so_far.0 ∙ e)
      | inr e ↦ inr (ap (drop n) (sym second) ∙ sym so_far.1 ∙ e)
    ] in
    let none : common_prefix_len nat_eq (drop n text) (drop n due) ≡ 0 = none-same (drop n text) (drop n due) ended in
    let all : common_prefix_len nat_eq text due ≡ n = omega (arith, c.loop-byte.invariant.same, none) in
    c.loop-byte.invariant.ended ∙ ap (λ k. suc (line_ends (take k text))) (sym all)

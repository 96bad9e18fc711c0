use Rattle.std.proofs.Common.{◌≡◌, ℕ, List, ◌+◌, ◌-◌, length, ap, sym, arith, rules, append_assoc}
use Rattle.std.proofs.lemmas.Slice.{take-put_mid}
use Rattle.ps_print.proofs.writer.Writer.extend_from_slice.Goals as goal

pub returns : goal.returns
returns c =
    let w = c.self.inside in
    let bytes = c.args.bytes.now in
    let end = w.count + length bytes in
    let put = c.copy_from_slice.new.self in
    let same : end ≡ w.count + length put = ap (λ (l : List ℕ). w.count + length l) (sym c.copy_from_slice.ensures.after) in
    let written = take-put_mid w.count (end - w.count) w.held put end same (omega (arith, c.self.invariant)) in
    search (rules, written, append_assoc)

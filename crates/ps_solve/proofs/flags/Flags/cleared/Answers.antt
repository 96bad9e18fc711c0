use Rattle.std.proofs.Common.{◌≡◌, ℕ, List, replicate, ap, sym, ◌∙◌, subst, rules}
use Rattle.std.specs.Int.{div_ceil}
use Rattle.ps_solve.specs.Flags.{ArePacked, flags_in, joined}
use Rattle.ps_solve.proofs.Packing.{cleared_packed, joined_none, none_set}
use Rattle.ps_solve.proofs.flags.Flags.cleared.Goals as goal

pub invariant_of-result : goal.invariant_of-result
invariant_of-result c =
    let P : List ℕ → Type 0 = λ ws. ArePacked ws c.args.len in
    let items : c.in_ok-from_elem.field-0.items ≡ replicate (div_ceil c.args.len 64) 0 = search rules in
    subst P (sym items) (cleared_packed c.args.len)

pub returns : goal.returns
returns c =
    let items : c.in_ok-from_elem.field-0.items ≡ replicate (div_ceil c.args.len 64) 0 = search rules in
    ap (flags_in c.args.len) (ap joined items ∙ joined_none (div_ceil c.args.len 64)) ∙ none_set c.args.len

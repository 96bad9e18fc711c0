use Rattle.std.proofs.Common.{◌∙◌, ap, ◌++◌, ◌∷◌, [], drop, arith}
use Rattle.ps_text.proofs.Digits.{first_decimals-filled}
use Rattle.ps_text.proofs.decimals.first_decimals.Goals as goal

pub returns : goal.returns
returns c =
    ap (λ l. l ++ drop c.min-count.result (48 ∷ 48 ∷ 48 ∷ [])) c.copy_from_slice.ensures.after
    ∙ first_decimals-filled c.args.fraction.now c.min-count.result (omega arith)

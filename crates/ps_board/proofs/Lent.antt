-- What holds of a board with its parts in the box holds with the parts that the box lends.
use Rattle.std.proofs.Common.{◌≡◌, ℕ, Bool, Option, List, ap, sym, subst, ◌∙◌}
use Rattle.ps_board.specs.declared.board.Shown.{Shown}
use Rattle.ps_board.specs.declared.whole.Parts.{Parts}
use Rattle.ps_board.specs.Kept.{IsKept}

-- what contracts see of a board with these parts
abbrev pub shown : Parts → List (Option ℕ) → Bool → Shown
shown parts grants halted = record { input = parts.input; entries = parts.entries.items; grants = grants; halted = halted; spare = parts.spare }

pub kept-lent : {lent held : Parts} {grants : List (Option ℕ)} {heard : List ℕ} {halted : Bool} → lent ≡ held → IsKept held grants heard halted → IsKept lent grants heard halted
kept-lent {lent} {held} {grants} {heard} {halted} is kept = subst (λ parts. IsKept parts grants heard halted) (sym is) kept

pub view-lent : {lent held : Parts} {grants : List (Option ℕ)} {halted : Bool} {b : Shown} → lent ≡ held → shown held grants halted ≡ b → shown lent grants halted ≡ b
view-lent {lent} {held} {grants} {halted} is view = ap (λ parts. shown parts grants halted) is ∙ view

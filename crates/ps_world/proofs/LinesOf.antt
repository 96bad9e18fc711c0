-- A line in a text.
use Rattle.std.proofs.Common.{◌≡◌, ℕ, ◌==◌, true, not, List, [], ◌∷◌, ◌++◌, refl}
use Rattle.std.proofs.lemmas.Bool.{and_parts, not-true}
use Rattle.ps_world.specs.Lines.{is_line, lines_of}

pub lines_of-line : (line rest : List ℕ) → is_line line ≡ true → lines_of (line ++ 10 ∷ rest) ≡ line ∷ lines_of rest
lines_of-line [] rest h = refl
lines_of-line (b ∷ bs) rest h =
    let parts = and_parts (not (b == 10)) (is_line bs) h in
    rw (not-true (b == 10) parts.0, lines_of-line bs rest parts.1) refl

-- Where the first lines of a text end.
use Rattle.std.specs.Prelude.{ℕ, zero, suc, ◌==◌, if◌then◌else◌, List, [], ◌∷◌}

-- where so many first lines of a text end, each with its LF
abbrev pub lines_end : ℕ → List ℕ → ℕ
lines_end zero text = 0
lines_end (suc k) [] = 0
lines_end (suc k) (b ∷ bs) = if b == 10 then suc (lines_end k bs) else suc (lines_end (suc k) bs)

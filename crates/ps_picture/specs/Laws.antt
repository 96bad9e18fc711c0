-- Laws of pictures.
use Rattle.std.specs.Prelude.{◌≡◌, ℕ, ◌≤◌, List, [], ◌∷◌, All, length}
use Rattle.ps_action.specs.declared.acts.Act.{Act}
use Rattle.ps_picture.specs.Rows.{Placed, act_rows, bars_of}
use Rattle.ps_picture.specs.declared.rows.Bar.{Bar}
use Rattle.ps_picture.specs.declared.touches.Subject.{Subject}

-- Each act of a plan has one row.
abbrev pub ActsHaveRows : Type 0
ActsHaveRows =
    (last : ℕ) (es : List Placed) (place : ℕ) (acts : List Act) → length (act_rows last es place acts) ≡ length acts

-- the lines of entries don't fall, from one line to another
abbrev pub RiseTo : ℕ → ℕ → List Placed → Type 0
RiseTo from last [] = from ≤ last
RiseTo from last ((line, e) ∷ es) = (from ≤ line) × RiseTo line last es

-- No bar ends before it begins.
abbrev pub BarsGoForward : Type 0
BarsGoForward =
    (s : Subject) (from last : ℕ) (es : List Placed) → RiseTo from last es → All (λ (b : Bar). b.from ≤ b.to) (bars_of s last es)

-- No bar ends before it begins.
use Rattle.std.proofs.Common.{◌≡◌, ℕ, ◌≤◌, List, [], ◌∷◌, ◌++◌, Option, None, Some, arith, refl}
use Rattle.std.proofs.lemmas.List.Elements.{All-append, All-cons, All-nil}
use Rattle.std.specs.List.{All}
use Rattle.std.specs.Option.{unwrap_or}
use Rattle.ps_picture.specs.Laws.{BarsGoForward, RiseTo}
use Rattle.ps_picture.specs.Rows.{Placed, bars_by, bars_of, ended_by, ending_in}
use Rattle.ps_picture.specs.Touches.{touch_on}
use Rattle.ps_picture.specs.declared.rows.Bar.{Bar}
use Rattle.ps_picture.specs.declared.touches.Ending.{Ending}
use Rattle.ps_picture.specs.declared.touches.Subject.{Subject}
use Rattle.ps_picture.specs.declared.touches.Touch.{Touch}
use Rattle.ps_picture.specs.declared.touches.Touch.TheVariants.{Begins, Ends, Marks}

-- a bar goes forward
abbrev Forward : Bar → Type 0
Forward b = b.from ≤ b.to

-- an end by what is done at a later line, or else at a later one still
end-later : (from line : ℕ) (t : Option Touch) (rest : ℕ × Ending) → from ≤ line → from ≤ rest.0
    → from ≤ (unwrap_or (ended_by line t) rest).0
end-later from line None rest here later = later
end-later from line (Some Begins) rest here later = here
end-later from line (Some (Ends how)) rest here later = here
end-later from line (Some (Marks sign)) rest here later = later

-- a bar that is open at a line ends there or later
ends-later : (s : Subject) (from last : ℕ) (es : List Placed) → RiseTo from last es → from ≤ (ending_in s last es).0
ends-later s from last [] rise = rise
ends-later s from last ((line, e) ∷ es) rise =
    let later : line ≤ (ending_in s last es).0 = ends-later s line last es rise.1 in
    let before : from ≤ line = rise.0 in
    end-later from line (touch_on s e.what) (ending_in s last es) before (omega arith)

-- the bar that begins at a line, if one does
begins-forward : (line : ℕ) (t : Option Touch) (end : ℕ × Ending) → line ≤ end.0 → All Forward (bars_by line t end)
begins-forward line None end later = All-nil Forward
begins-forward line (Some Begins) end later = All-cons Forward _ [] later (All-nil Forward)
begins-forward line (Some (Ends how)) end later = All-nil Forward
begins-forward line (Some (Marks sign)) end later = All-nil Forward

pub bars-go-forward : BarsGoForward
bars-go-forward s from last [] rise = All-nil Forward
bars-go-forward s from last ((line, e) ∷ es) rise =
    All-append Forward (bars_by line (touch_on s e.what) (ending_in s last es)) (bars_of s last es)
    (begins-forward line (touch_on s e.what) (ending_in s last es) (ends-later s line last es rise.1))
    (bars-go-forward s line last es rise.1)

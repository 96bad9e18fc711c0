use Rattle.std.proofs.Common.{◌≡◌, ◌++◌, drop}
use Rattle.std.specs.List.{flat_map}
use Rattle.ps_drawing.specs.Vectors.{bar_svg}
use Rattle.ps_drawing.proofs.vectors.push_bars.Given as goal

-- what is added so far, and the texts of those left, are all
abbrev pub invariant-loop-bar : goal.invariant-loop-bar
invariant-loop-bar l =
    l.out.items ++ flat_map (bar_svg l.span l.y) (drop l.bar-index l.bars)
    ≡ l.initial.out.items ++ flat_map (bar_svg l.span l.y) l.bars

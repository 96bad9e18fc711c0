use Rattle.std.proofs.Common.{◌≡◌, ◌++◌, drop}
use Rattle.std.specs.List.{flat_map}
use Rattle.ps_drawing.specs.Vectors.{escaped_byte}
use Rattle.ps_drawing.proofs.elements.push_escaped.Given as goal

-- what is added so far, and the texts of those left, are all
abbrev pub invariant-loop-byte : goal.invariant-loop-byte
invariant-loop-byte l =
    l.out.items ++ flat_map escaped_byte (drop l.byte-index l.text)
    ≡ l.initial.out.items ++ flat_map escaped_byte l.text

use Rattle.std.proofs.Common.{take}
use Rattle.ps_gen.specs.Texts.{texts_of}
use Rattle.ps_inputs.specs.Parts.{ArePushed}
use Rattle.ps_inputs.proofs.reading.generated.push_all.Given as goal

-- the lines before this one are read
abbrev pub invariant-loop-line : goal.invariant-loop-line
invariant-loop-line l = ArePushed (texts_of (take l.line-index l.lines)) l.fn.script l.script

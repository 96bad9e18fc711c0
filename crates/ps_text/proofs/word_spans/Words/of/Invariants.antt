use Rattle.std.proofs.Common.{◌-◌, length}
use Rattle.ps_text.specs.Words.{words}
use Rattle.ps_text.proofs.Pieces.{Marked}
use Rattle.ps_text.proofs.word_spans.Words.of.Given as goal

abbrev pub invariant-loop-span : goal.invariant-loop-span
invariant-loop-span l = Marked words l.bytes l.spans.items l.from

abbrev pub decreases-loop-span : goal.decreases-loop-span
decreases-loop-span l = length l.bytes - l.from

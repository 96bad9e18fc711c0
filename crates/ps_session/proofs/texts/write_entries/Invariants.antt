use Rattle.std.proofs.Common.{◌≤◌, []}
use Rattle.ps_session.proofs.AddedTexts.{HasText}
use Rattle.ps_session.proofs.texts.write_entries.Given as goal

abbrev pub invariant-loop-k : goal.invariant-loop-k
invariant-loop-k g l = (l.from ≤ l.k) × HasText l.names l.board.input l.board.entries l.from [] l.k l.text.items

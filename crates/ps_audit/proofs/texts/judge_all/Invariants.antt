use Rattle.std.proofs.Common.{◌≡◌, ◌+◌, [], drop, take}
use Rattle.ps_rules.specs.Prefixes.{good_length}
use Rattle.ps_replay.specs.Judge.{Reaches, still_due}
use Rattle.ps_audit.proofs.AddedTexts.{HasText}
use Rattle.ps_audit.proofs.texts.judge_all.Given as goal

abbrev pub invariant-loop-at : goal.invariant-loop-at
invariant-loop-at g l = record {
  reached : Reaches l.input (take l.at l.entries) l.judge;
  counted : good_length l.input [] [] l.entries ≡ l.at + good_length l.input (take l.at l.entries) (still_due l.judge) (drop l.at l.entries);
  told : HasText l.names l.input l.entries l.fn.out.items l.at l.out.items;
}

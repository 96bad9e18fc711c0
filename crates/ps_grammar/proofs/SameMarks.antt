-- One mark or another.
use Rattle.std.proofs.Common.{◌≡◌, true}
use denote.Enum.Bare.{same_true}
use Rattle.ps_grammar.specs.contracts.marks.Mark.{the_type}
use Rattle.ps_grammar.specs.Marks.{is}
use Rattle.ps_grammar.specs.declared.marks.Mark.{Mark}

-- a mark that passes a test for it
pub mark_is : (wanted m : Mark) → is wanted m ≡ true → m ≡ wanted
mark_is wanted m e = same_true the_type tt m wanted e

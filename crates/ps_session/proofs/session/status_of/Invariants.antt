use Rattle.std.proofs.Common.{◌≡◌, take}
use Rattle.std.specs.List.{list_any}
use Rattle.ps_rules.specs.History.{is_mishap}
use Rattle.ps_session.proofs.session.status_of.Given as goal

abbrev pub invariant-loop-entry : goal.invariant-loop-entry
invariant-loop-entry l = l.mishap ≡ list_any (λ e. is_mishap e.what) (take l.entry-index l.entries)

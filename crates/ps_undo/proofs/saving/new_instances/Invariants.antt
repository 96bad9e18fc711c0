use Rattle.std.proofs.Common.{◌≡◌, filter, take}
use Rattle.ps_undo.specs.Saved.{is_new}
use Rattle.ps_undo.proofs.saving.new_instances.Given as goal

abbrev pub invariant-loop-instance : goal.invariant-loop-instance
invariant-loop-instance l = l.new.items ≡ filter (is_new l.expert) (take l.instance-index l.instances)

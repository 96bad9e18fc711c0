-- A failure is of an active act.
use Rattle.std.proofs.Common.{◌≡◌, ℕ, true, List}
use Rattle.std.proofs.lemmas.Bool.{and_parts}
use Rattle.ps_machine.specs.declared.inputs.Input.{Input}
use Rattle.ps_machine.specs.declared.journal.FailWhy.{FailWhy}
use Rattle.ps_machine.specs.declared.journal.FailWhy.TheVariants as fail
use Rattle.ps_machine.specs.declared.journal.Event.TheVariants as event
use Rattle.ps_machine.specs.declared.journal.Entry.{Entry}
use Rattle.ps_rules.specs.Legal.{is_act_active, row_allows}

-- a failure is of an active act
pub fail_active : (i : Input) (es : List Entry) (act : ℕ) (why : FailWhy) → row_allows i es (event.Fail act why) ≡ true → is_act_active es act ≡ true
fail_active i es act fail.NoPerformer f = (and_parts (is_act_active es act) _ f).0
fail_active i es act fail.Script f = (and_parts (is_act_active es act) _ f).0
fail_active i es act fail.AtEnd f = (and_parts (is_act_active es act) _ f).0
fail_active i es act fail.Effect f = (and_parts (is_act_active es act) _ f).0

-- Equality of what has a code.
use Rattle.std.specs.Prelude.{Bool, true, false, ◌&&◌, ◌==◌}
use Rattle.ps_world.specs.CondViews.{cond_tree}
use Rattle.ps_world.specs.Lines.{same_text}
use Rattle.ps_world.specs.Same.{is_same}
use Rattle.ps_world.specs.Trees.{cond_tree_code}
use Rattle.ps_world.specs.declared.conditions.Cond.{Cond}
use Rattle.ps_world.specs.contracts.edits.EditRefusal as an_edit_refusal
use Rattle.ps_world.specs.declared.edits.EditRefusal.{EditRefusal}
use Rattle.ps_action.specs.contracts.refusals.EffectRefusal as an_effect_refusal
use Rattle.ps_action.specs.contracts.refusals.GroundRefusal as a_ground_refusal
use Rattle.ps_action.specs.contracts.refusals.PlanRefusal as a_plan_refusal
use Rattle.ps_action.specs.contracts.refusals.PlanTextRefusal as a_text_refusal
use Rattle.ps_action.specs.declared.refusals.EffectRefusal.{EffectRefusal}
use Rattle.ps_action.specs.declared.refusals.GroundRefusal.{GroundRefusal}
use Rattle.ps_action.specs.declared.refusals.PlanRefusal.{PlanRefusal}
use Rattle.ps_action.specs.declared.refusals.PlanTextRefusal.{PlanTextRefusal}
use Rattle.ps_machine.specs.contracts.inputs.LineCause as a_line_cause
use Rattle.ps_machine.specs.contracts.journal.Refusal as a_refusal
use Rattle.ps_machine.specs.declared.inputs.LineCause.{LineCause}
use Rattle.ps_machine.specs.declared.members.Unit.{Unit as Task}
use Rattle.ps_machine.specs.declared.members.Unit.TheVariants as unit
use Rattle.ps_rules.specs.Legal.{same_flag}
use Rattle.ps_rules.specs.Same.{same_edit}
use Rattle.ps_machine.specs.declared.journal.Refusal.{Refusal}

-- whether two conditions are the same
abbrev pub same_cond : Cond → Cond → Bool
same_cond c d = is_same cond_tree_code (cond_tree c) (cond_tree d)

-- whether two causes of lines are equal
abbrev pub equal_line_causes : LineCause → LineCause → Bool
equal_line_causes = is_same a_line_cause.the_row.coded

-- whether two refusals of edits are equal
abbrev pub equal_edit_refusals : EditRefusal → EditRefusal → Bool
equal_edit_refusals = is_same an_edit_refusal.the_row.coded

-- whether two refusals of effects are equal
abbrev pub equal_effect_refusals : EffectRefusal → EffectRefusal → Bool
equal_effect_refusals = is_same an_effect_refusal.the_row.coded

-- whether two refusals of acts are equal
abbrev pub equal_ground_refusals : GroundRefusal → GroundRefusal → Bool
equal_ground_refusals = is_same a_ground_refusal.the_row.coded

-- whether two refusals of plans are equal
abbrev pub equal_plan_refusals : PlanRefusal → PlanRefusal → Bool
equal_plan_refusals = is_same a_plan_refusal.the_row.coded

-- whether two refusals of plans' texts are equal
abbrev pub equal_text_refusals : PlanTextRefusal → PlanTextRefusal → Bool
equal_text_refusals = is_same a_text_refusal.the_row.coded

-- whether two causes are equal
abbrev pub equal_causes : Refusal → Refusal → Bool
equal_causes = is_same a_refusal.the_row.coded

-- whether two units are the same
abbrev pub same_unit : Task → Task → Bool
same_unit unit.Work unit.Work = true
same_unit (unit.Feedback percent text) (unit.Feedback p t) = (percent == p) && same_text text t
same_unit (unit.Edit edit) (unit.Edit e) = same_edit edit e
same_unit (unit.Finish ok) (unit.Finish b) = same_flag ok b
same_unit u v = false

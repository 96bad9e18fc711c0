-- The command that a line of a form is, by its nested lists.
use Rattle.ps_world.specs.declared.names.Name.{Name}
use Rattle.ps_world.specs.declared.facts.Fact.{Fact}
use Rattle.ps_world.specs.declared.edits.Edit.TheVariants as edit
use Rattle.ps_action.specs.declared.acts.Act.{Act}
use Rattle.ps_machine.specs.declared.inputs.Query.TheVariants as query
use Rattle.ps_machine.specs.declared.inputs.Command.{Command}
use Rattle.ps_machine.specs.declared.inputs.Command.TheVariants.{Edit, Ask, Run, RunAction, Quit}
use Rattle.ps_lists.specs.Nested.{Nesteds}
use Rattle.ps_lists.specs.Places.{head, rest, items_at}
use Rattle.ps_script.specs.Goals.{fact_of, first_condition}
use Rattle.ps_script.specs.declared.forms.Form.{Form}
use Rattle.ps_script.specs.declared.forms.Form.TheVariants as form

-- what stands after the two fixed words of an edit
abbrev pub after_two : Nesteds → Nesteds
after_two ts = rest (rest ts)

-- the name after three words
abbrev pub fourth_name : Nesteds → Name
fourth_name ts = (head (rest (rest (rest ts)))).name

-- the fact after the two fixed words
abbrev pub stated : Nesteds → Fact
stated ts = fact_of (items_at (after_two ts))

-- the act after the two fixed words
abbrev pub acted : Nesteds → Act
acted ts = record { action = (stated ts).head; args = (stated ts).args }

-- (= (NAME NAME*) NUMBER)
abbrev pub valued : Nesteds → Command
valued ts = Edit (edit.SetValue (fact_of (items_at (rest ts))) (head (rest (rest ts))).number)

-- the command of a form
abbrev pub command_of : Form → Nesteds → Command
command_of form.SetInstance ts = Edit (edit.AddInstance (head (after_two ts)).name (fourth_name ts))
command_of form.SetPredicate ts = Edit (edit.AddFact (stated ts))
command_of form.SetFunction ts = valued (items_at (after_two ts))
command_of form.SetGoal ts = Edit (edit.SetGoal (first_condition (after_two ts)))
command_of form.RemoveInstance ts = Edit (edit.RemoveInstance (head (after_two ts)).name)
command_of form.RemovePredicate ts = Edit (edit.RemoveFact (stated ts))
command_of form.RemoveFunction ts = Edit (edit.RemoveValue (stated ts))
command_of form.RemoveGoal ts = Edit edit.RemoveGoal
command_of form.ModelTypes ts = Ask query.ModelTypes
command_of form.ModelPredicates ts = Ask query.ModelPredicates
command_of form.ModelFunctions ts = Ask query.ModelFunctions
command_of form.ModelActions ts = Ask query.ModelActions
command_of form.ModelPredicate ts = Ask (query.ModelPredicate (fourth_name ts))
command_of form.ModelAction ts = Ask (query.ModelAction (fourth_name ts))
command_of form.Domain ts = Ask query.Domain
command_of form.ProblemInstances ts = Ask query.ProblemInstances
command_of form.ProblemPredicates ts = Ask query.ProblemPredicates
command_of form.ProblemFunctions ts = Ask query.ProblemFunctions
command_of form.ProblemGoal ts = Ask query.ProblemGoal
command_of form.Plan ts = Ask query.Plan
command_of form.Quit ts = Quit
command_of form.Tree ts = Ask query.Tree
command_of form.Run ts = Run
command_of form.RunAction ts = RunAction (acted ts)

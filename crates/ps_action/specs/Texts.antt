-- The texts of acts and of the steps of plans. A text is a list of bytes.
use Rattle.std.specs.Prelude.{ℕ, List, ◌++◌, codes}
use Rattle.ps_world.specs.Names.{Table, name_text}
use Rattle.ps_world.specs.Numbers.{number_text}
use Rattle.ps_world.specs.Texts.{args_text}
use Rattle.ps_action.specs.declared.acts.PlanStep.{PlanStep}

-- a step's line without its end, as 0.000: (move leia entrance kitchen) [5.000]
abbrev pub step_line : Table → PlanStep → List ℕ
step_line names step =
    number_text step.time ++ (codes ": (" ++ (name_text names step.act.action ++ (args_text names step.act.args
    ++ (codes ") [" ++ (number_text step.duration ++ codes "]")))))

use Rattle.std.proofs.Common.{Bool, List, Some, None, option_map, cond, ap, sym, ◌∙◌}
use Rattle.ps_action.specs.declared.acts.Act.{Act}
use Rattle.ps_solve.specs.Nodes.{root}
use Rattle.ps_solve.specs.Spaces.{path_of}
use Rattle.ps_solve.proofs.store.RowsFrontier.first.Goals as goal

pub returns-then-is_true : goal.returns-then-is_true
returns-then-is_true c =
    let k = c.args.self.now.task.now.problem.now in
    ap (λ (acts : List Act). Some acts) c.new.ensures
    ∙ ap (λ (b : Bool). option_map path_of (cond b (Some (root k)) None)) (sym (sym c.is_true.ensures ∙ c.if-is_true.true))

pub returns : goal.returns
returns c =
    let k = c.args.self.now.task.now.problem.now in
    ap (λ (b : Bool). option_map path_of (cond b (Some (root k)) None)) (sym (sym c.is_true.ensures ∙ c.if-is_true.false))

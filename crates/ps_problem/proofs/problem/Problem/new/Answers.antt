use Rattle.std.proofs.Common.{List, [], get_or, ap, sym, ◌∙◌, arith}
use Rattle.std.proofs.lemmas.List.Sums.{fold_more}
use Rattle.ps_world.specs.Knowledge.{with_constant}
use Rattle.ps_world.specs.declared.names.Name.{Name}
use Rattle.ps_world.specs.declared.domains.Param.{Param}
use Rattle.ps_problem.proofs.problem.Problem.new.Goals as goal

pub loop-constant-preserved : goal.loop-constant-preserved
loop-constant-preserved c =
    let none : Param = record { name = record { 0 = 0 }; kind = record { 0 = 0 } } in
    let constants = c.as_slice-constant-items.result.now in
    let i = c.loop-constant.constant-index in
    c.in_ok-insert.ensures.ok ∙ ap (λ (es : List (Name × Name)). with_constant es (get_or constants i none)) c.loop-constant.invariant
    ∙ sym (fold_more with_constant [] constants i none (omega arith))

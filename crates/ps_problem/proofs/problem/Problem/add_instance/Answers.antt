use Rattle.std.proofs.Common.{refl, rules, ap, sym, ◌∙◌}
use Rattle.ps_world.specs.Knowledge.{kind_of}
use Rattle.ps_world.specs.declared.known.Knowledge.{Knowledge}
use Rattle.ps_problem.proofs.KindLists.{insert_differs}
use Rattle.ps_problem.proofs.problem.Problem.add_instance.Goals as goal

pub returns-in_ok-insert-in-None-2 : goal.returns-in_ok-insert-in-None-2
returns-in_ok-insert-in-None-2 c =
    let none = ap (λ (k : Knowledge). kind_of k c.args.name) c.self.view_is ∙ sym c.kind_of.ensures ∙ c.in-None-2.is in
    let differs = insert_differs c.self.inside.instances c.insert.new.self c.args.name c.args.kind c.in_ok-insert-in-None-2.ensures.ok none in
    (search rules, (λ t e. differs (ap (λ (k : Knowledge). k.instances) (e ∙ sym c.self.view_is)), λ d. refl))

use Rattle.std.proofs.Common.{[], ap, sym, ◌∙◌, fold}
use Rattle.ps_problem.specs.Patches.{instances_after, with_instance}
use Rattle.ps_problem.proofs.Patches.{all_out, none_out, nothing_in}
use Rattle.ps_problem.proofs.problem.instances.Instances.patched.Goals as goal

pub returns-then-is_empty-2 : goal.returns-then-is_empty-2
returns-then-is_empty-2 c =
    let goes = nothing_in c.args.goes.now (sym c.is_empty.ensures ∙ c.if-is_empty.true) in
    let comes = nothing_in c.args.comes.now (sym c.is_empty-then-is_empty.ensures ∙ c.if-is_empty-2.true) in
    rw (goes, comes) (sym (none_out c.args.self.now))

pub returns : goal.returns
returns c =
    c.in_ok-insert_all.ensures ∙ ap (λ es. fold with_instance es c.args.comes.now) (c.remove_all.ensures ∙ all_out c.args.goes.now _ ∙ ap (λ es. instances_after es c.args.goes.now []) c.in_ok-next.ensures)

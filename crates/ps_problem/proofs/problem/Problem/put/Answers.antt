use Rattle.std.proofs.Common.{[], ◌∙◌}
use Rattle.std.proofs.lemmas.Result.{on_ok_weaker}
use Rattle.ps_problem.specs.Patches.{facts_after, values_after}
use Rattle.ps_problem.proofs.Puts.{made_is}
use Rattle.ps_problem.proofs.problem.Problem.put.Goals as goal

pub returns-clause-ok : goal.returns-clause-ok
returns-clause-ok c =
    let k = c.args.self.now in
    let adds = c.deref.ensures.value ∙ c.in_ok-adds.ensures in
    let deletes = c.deref-2.ensures.value ∙ c.in_ok-deletes.ensures in
    on_ok_weaker c.put_known.result (λ e.
    e ∙ (λ i. record k { facts = facts_after k.facts (adds i) (deletes i); values = values_after k.values c.args.ready.now [] })
    ∙ made_is k c.args.effects.now c.args.ready.now) c.put_known.ensures.ok

use Rattle.std.proofs.Common.{◌≡◌, ◌++◌, List, ap, sym, ◌∙◌}
use Rattle.std.proofs.lemmas.List.{append_assoc}
use Rattle.std.proofs.lemmas.Result.{on_ok_weaker}
use Rattle.ps_world.specs.declared.facts.Fact.{Fact}
use Rattle.ps_ground.specs.Atoms.{may_add}
use Rattle.ps_ground.proofs.MayAdd.{adds_put}
use Rattle.ps_ground.proofs.atoms.push_adds.Goals as goal

pub returns : goal.returns
returns c =
    let d = c.args.expert.now in
    let k = c.args.problem.now in
    let a = c.args.action.now in
    let act = c.args.act.now in
    let old = c.args.facts.now.items in
    let env : c.of-env.result ≡ act.args = c.of-env.ensures ∙ c.as_slice.ensures in
    let first : c.push_list_adds.new.facts.items ≡ old ++ may_add d k act.args a.effects.at_start = c.in_ok-push_list_adds.ensures ∙ (λ i. old ++ may_add d k (env i) (c.as_slice-2.ensures i)) in
    let last : may_add d k c.of-env.result c.as_slice-3.result.now ≡ may_add d k act.args a.effects.at_end = λ i. may_add d k (env i) (c.as_slice-3.ensures i) in
    on_ok_weaker c.push_list_adds-2.result
    (λ more.
    more ∙ (λ i. first i ++ last i)
    ∙ append_assoc old (may_add d k act.args a.effects.at_start) (may_add d k act.args a.effects.at_end)
    ∙ ap (λ (fs : List Fact). old ++ fs) (sym (adds_put d k a act)))
    c.push_list_adds-2.ensures

use Rattle.std.proofs.Common.{filter, rules, ap, ◌∙◌}
use Rattle.std.proofs.lemmas.Fn.{filter_same}
use Rattle.ps_world.specs.declared.facts.Fact.{Fact}
use Rattle.ps_problem.proofs.Noted.{noted_are}
use Rattle.ps_problem.proofs.PutFacts.{known}
use Rattle.ps_problem.proofs.problem.facts.naming_noted.Goals as goal

pub returns : goal.returns
returns c =
    let all = c.args.all.now.keys in
    filter_same _ (λ (f : Fact). known f all) _ (λ x b f k. search rules) _ _ c.retain.ensures.filtered ∙ ap (filter (λ f. known f all)) c.in_ok-found.ensures.noted
    ∙ noted_are c.args.name all c.args.namings.now.keys c.requires c.len-count.ensures.ordered c.in_ok-found.ensures.rise

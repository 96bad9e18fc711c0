use Rattle.std.proofs.Common.{filter, is_some, rules, ap, ◌∙◌}
use Rattle.std.specs.Map.{keys_of, lookup}
use Rattle.std.proofs.lemmas.Fn.{filter_same}
use Rattle.std.proofs.lemmas.Map.Made.{is_some-lookup}
use Rattle.ps_world.specs.Knowledge.{same_fact}
use Rattle.ps_world.specs.declared.facts.Fact.{Fact}
use Rattle.ps_problem.proofs.Noted.{noted_are}
use Rattle.ps_problem.proofs.PutFacts.{known}
use Rattle.ps_problem.proofs.problem.values.naming_noted.Goals as goal

pub returns : goal.returns
returns c =
    let all = c.args.all.now.entries in
    filter_same _ (λ (f : Fact). is_some (lookup (same_fact f) all)) _ (λ x b f k. search rules) _ _ c.retain.ensures.filtered ∙ (λ i. filter (λ f. is_some-lookup (same_fact f) all i) c.in_ok-found.found.items)
    ∙ ap (filter (λ f. known f (keys_of all))) c.in_ok-found.ensures.noted ∙ noted_are c.args.name (keys_of all) c.args.namings.now.keys c.requires c.len-count.ensures.ordered c.in_ok-found.ensures.rise

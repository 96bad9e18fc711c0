use Rattle.std.proofs.Common.{◌++◌, Option, ap, ◌∙◌}
use Rattle.std.specs.Map.{keys_of, lookup}
use Rattle.std.specs.Option.{option_map}
use Rattle.ps_world.specs.Knowledge.{same_fact}
use Rattle.ps_world.specs.declared.facts.Fact.{Fact}
use Rattle.ps_world.specs.declared.numbers.Num.{Num}
use Rattle.ps_undo.specs.Changes.{values_at}
use Rattle.ps_undo.proofs.Gathering.{put_both}
use Rattle.ps_undo.proofs.changes.push_values_back.Goals as goal

pub returns-clause-come : goal.returns-clause-come
returns-clause-come c =
    let terms = keys_of c.args.values.now in
    let had : Fact → Option (Fact × Num) = λ f. option_map (λ x. (f, x)) (lookup (same_fact f) c.args.problem.now.values) in
    let named = c.as_slice.ensures ∙ c.in_ok-push_keys.ensures ∙ ap (λ l. l ++ terms) c.requires.gone in
    put_both had c.args.gone.now terms c.args.into.now c.push_values.new.out c.push_values-2.new.out c.requires.come c.in_ok-push_values.ensures (c.in_ok-push_values-2.ensures ∙ ap (λ fs. c.push_values.new.out ++ values_at c.args.problem.now.values fs) named)

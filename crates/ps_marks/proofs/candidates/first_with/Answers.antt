use Rattle.std.proofs.Common.{[], List, take, ap, sym, ◌∙◌}
use Rattle.ps_world.specs.declared.names.Name.{Name}
use Rattle.ps_domain.proofs.Listed.{picks_none}
use Rattle.ps_marks.specs.Candidates.{facts_from, unknown}
use Rattle.ps_marks.specs.Landmarks.{most_candidates}
use Rattle.ps_marks.proofs.candidates.first_with.Goals as goal

pub returns-then-has_empty : goal.returns-then-has_empty
returns-then-has_empty c =
    c.new-facts.ensures.items
    ∙ ap (λ (l : List (List Name)). take most_candidates (unknown c.args.problem.now (facts_from c.args.head [] l))) (sym (picks_none c.args.choices.now (sym c.has_empty.ensures ∙ c.if-has_empty.true)))

use Rattle.std.proofs.Common.{List, ap, sym, ◌∙◌}
use Rattle.std.specs.List.{list_any}
use Rattle.std.proofs.lemmas.List.{append-nil}
use Rattle.ps_world.specs.Knowledge.{same_fact}
use Rattle.ps_world.specs.declared.facts.Fact.{Fact}
use Rattle.ps_ground.proofs.fixed.atoms_of.Goals as goal

pub returns : goal.returns
returns c = λ f gone. ap (λ (l : List Fact). list_any (same_fact f) l) (sym (append-nil c.args.facts.now)) ∙ sym (c.in_ok-atoms.ensures f) ∙ gone

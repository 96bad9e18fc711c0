use Rattle.std.proofs.Common.{Bool, ◌||◌, Option, is_some, ap, ◌∙◌}
use Rattle.std.specs.List.{list_any}
use Rattle.ps_world.specs.Names.{same_name}
use Rattle.ps_world.specs.declared.names.Name.{Name}
use Rattle.ps_world.specs.declared.domains.Param.{Param}
use Rattle.ps_domain.proofs.Lookups.{is_some-find}
use Rattle.ps_domain.proofs.declared.Declared.is_type.Goals as goal

pub returns-else-eq : goal.returns-else-eq
returns-else-eq c =
    let types = c.args.self.now.types in
    let is_here : Param → Bool = λ p. same_name c.args.name p.name in
    c.is_some.ensures ∙ (ap (λ (o : Option Name). is_some o) c.parent_of.ensures ∙ (is_some-find is_here (λ p. p.kind) types ∙ ap (λ (b : Bool). b || list_any is_here types) c.if-eq.ensures))

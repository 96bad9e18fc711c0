use Rattle.std.proofs.Common.{sym, ap, ◌∙◌}
use Rattle.std.specs.Option.{option_copied}
use Rattle.ps_world.specs.Names.{same_name}
use Rattle.ps_domain.proofs.Lookups.{find_nowhere, find_there, got}
use Rattle.ps_domain.proofs.index.Index.find.Goals as goal

pub returns-in_err-place : goal.returns-in_err-place
returns-in_err-place g c =
    ap option_copied c.from_residual.ensures
    ∙ sym (find_nowhere (λ x. same_name c.args.name (g.T.Named.name_of x)) c.args.list.now (sym (c.requires c.args.name) ∙ (sym c.place.ensures ∙ c.in_err-place.was)))

pub returns : goal.returns
returns g c =
    got c.args.list.now c.in_ok-place.place c.get.result c.get.ensures.lookup
    ∙ sym (find_there (λ x. same_name c.args.name (g.T.Named.name_of x)) c.args.list.now c.in_ok-place.place (sym (c.requires c.args.name) ∙ (sym c.place.ensures ∙ c.in_ok-place.was)))

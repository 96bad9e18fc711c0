use Rattle.std.proofs.Common.{map, ap, ◌∙◌}
use Rattle.ps_entries.proofs.Numbering.{zip-firsts}
use Rattle.ps_entries.proofs.numbered.Numbered.lines.Goals as goal

pub returns : goal.returns
returns c =
    c.deref.ensures.value ∙ zip-firsts c.self.inside.lines.items c.self.inside.entries.items c.self.invariant ∙ ap (map (λ e. e.0)) c.self.view_is

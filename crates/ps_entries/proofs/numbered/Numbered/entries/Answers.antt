use Rattle.std.proofs.Common.{map, ap, ◌∙◌}
use Rattle.ps_entries.proofs.Numbering.{zip-seconds}
use Rattle.ps_entries.proofs.numbered.Numbered.entries.Goals as goal

pub returns : goal.returns
returns c =
    c.deref.ensures.value ∙ zip-seconds c.self.inside.lines.items c.self.inside.entries.items c.self.invariant ∙ ap (map (λ e. e.1)) c.self.view_is

use Rattle.std.proofs.Common.{◌∙◌}
use Rattle.ps_grammar.proofs.Levels.{set_last}
use Rattle.ps_grammar.proofs.wanted.Wanted.replace_by.Goals as goal

pub returns : goal.returns
returns c = set_last _ _ _ _ c.self.view_is (c.len-first.ensures ∙ c.self.inside.items.ok.0) c.requires

use Rattle.std.proofs.Common.{List, ℕ, ap, sym, ◌∙◌}
use Rattle.std.specs.List.{list_all}
use Rattle.ps_closing.specs.Closing.{has}
use Rattle.ps_closing.proofs.Growing.{ready_so}
use Rattle.ps_closing.proofs.rule.is_used.Goals as goal

pub returns : goal.returns
returns c = c.all_set.ensures ∙ ap (λ (l : List ℕ). list_all (has c.args.flags.now) l) c.deref.ensures.value ∙ sym (ready_so c.args.flags.now c.args.rule.now)

use Rattle.std.proofs.Common.{List, Bool, length, get_or, sym, ◌∙◌, subst}
use Rattle.ps_closing.specs.Closing.{FitsIn}
use Rattle.ps_closing.proofs.rules.Rules.close.Goals as goal

pub close_in-requires : goal.close_in-requires
close_in-requires c = λ k d l.
    let P : List Bool → Type 0 = λ fs. FitsIn (length fs) (get_or c.args.self.now k d) in
    subst P (sym (c.deref_mut.ensures.value ∙ c.in_ok-flags.ensures.items)) (c.requires k d l)

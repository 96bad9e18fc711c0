use Rattle.std.proofs.Common.{ℕ, List, Vec, Global, length, get_or, ap, sym, ◌∙◌, subst}
use Rattle.ps_closing.specs.Closing.{FitsIn}
use Rattle.ps_closing.specs.Users.{HaveNone}
use Rattle.ps_closing.proofs.users.users_of.Goals as goal

pub enter_rules-requires-clause-none : goal.enter_rules-requires-clause-none
enter_rules-requires-clause-none c =
    let P : List (Vec ℕ Global) → Type 0 = λ us. HaveNone us in
    subst P (sym c.deref_mut.ensures.value) c.in_ok-users.ensures.none

pub enter_rules-requires-clause-fits : goal.enter_rules-requires-clause-fits
enter_rules-requires-clause-fits c = λ k d l.
    let P : ℕ → Type 0 = λ n. FitsIn n (get_or c.args.rules.now k d) in
    subst P (sym (ap (λ (us : List (Vec ℕ Global)). length us) c.deref_mut.ensures.value ∙ c.in_ok-users.ensures.wide)) (c.requires k d l)

use Rattle.std.proofs.Common.{◌+◌, ℕ, List, Vec, Global, length, ap, sym, ◌∙◌, subst}
use Rattle.std.proofs.lemmas.List.{length_push}
use Rattle.ps_closing.specs.Users.{HaveNone}
use Rattle.ps_closing.proofs.Entered.{none_more}
use Rattle.ps_closing.proofs.users.no_users.Goals as goal

pub loop-place-preserved : goal.loop-place-preserved
loop-place-preserved c =
    let old = c.loop-place.users.items in
    let P : List (Vec ℕ Global) → Type 0 = λ us. HaveNone us in
    record {
      wide = ap (λ (us : List (Vec ℕ Global)). length us) c.in_ok-push.ensures.items ∙ length_push old c.new.result ∙ ap (λ n. n + 1) c.loop-place.invariant.wide;
      none = subst P (sym c.in_ok-push.ensures.items) (none_more old c.new.result c.loop-place.invariant.none c.new.ensures.items);
    }

use Rattle.std.proofs.Common.{◌≡◌, ℕ, [], ◌∷◌, List, length, get_or, refl, sym, subst, arith}
use Rattle.ps_closing.specs.declared.rule.Rule.{Rule}
use Rattle.ps_closing.specs.Closing.{FitsIn, Grows}
use Rattle.ps_closing.specs.Users.{AreSeen}
use Rattle.ps_closing.proofs.Growing.{grows_on}
use Rattle.ps_closing.proofs.Seen.{seen_closed}
use Rattle.ps_closing.proofs.rules.Rules.close_in.Goals as goal

empty : (xs : List ℕ) → length xs ≡ 0 → xs ≡ []
empty [] l = refl
empty (x ∷ xs) l = absurd (omega (arith, l))

pub loop-place-init : goal.loop-place-init
loop-place-init c =
    let P : List Rule → Type 0 = λ rs. AreSeen c.args.out rs c.apply_all.new.flags c.apply_all.new.queue.items in
    let Q : List Rule → Type 0 = λ rs. Grows c.args.out rs c.args.flags.now c.apply_all.new.flags in
    record {
      seen = subst P c.as_slice.ensures c.in_ok-apply_all.ensures.seen;
      grows = subst Q c.as_slice.ensures c.in_ok-apply_all.ensures.grows;
    }

pub look_at-requires-clause-fits : goal.look_at-requires-clause-fits
look_at-requires-clause-fits c = λ k d l.
    let P : ℕ → Type 0 = λ n. FitsIn n (get_or c.args.self.now k d) in
    subst P (sym c.loop-place.invariant.grows.wide) (c.requires k d l)

pub loop-place-preserved : goal.loop-place-preserved
loop-place-preserved c =
    let s = c.in_ok-look_at.ensures in
    record {
      seen = s.seen;
      grows = grows_on c.args.out c.args.self.now c.args.flags.now c.loop-place.flags c.look_at.new.flags c.loop-place.invariant.grows s.grows;
    }

pub returns : goal.returns
returns c =
    let rules = c.args.self.now in
    let flags = c.loop-place.flags in
    let done : c.loop-place.queue.items ≡ [] = empty c.loop-place.queue.items (omega (arith, c.loop-place.queue.ok, c.in_default.ensures.cases.0)) in
    let P : List ℕ → Type 0 = λ queue. AreSeen c.args.out rules flags queue in
    record { closed = seen_closed c.args.out rules flags (subst P done c.loop-place.invariant.seen); grows = c.loop-place.invariant.grows }

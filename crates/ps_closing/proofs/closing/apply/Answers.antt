use Rattle.std.proofs.Common.{◌≡◌, List, ℕ, true, false, ap, subst, sym, ◌∙◌}
use Rattle.std.specs.List.{list_all, list_any}
use Rattle.ps_closing.specs.Closing.{Gives, has, is_out}
use Rattle.ps_closing.proofs.Growing.{grows_given, ready_from}
use Rattle.ps_closing.proofs.closing.apply.Goals as goal

pub returns-in_ok-give-clause-grows : goal.returns-in_ok-give-clause-grows
returns-in_ok-give-clause-grows c =
    let out = c.args.out in
    let flags = c.args.flags.now in
    let r = c.args.rule.now in
    let needs : list_all (has flags) r.needs.items ≡ true = ap (λ (l : List ℕ). list_all (has flags) l) (sym c.deref.ensures.value) ∙ sym c.are_set.ensures ∙ c.if-are_set.true in
    let own : list_any (is_out out) r.own.items ≡ false = ap (λ (l : List ℕ). list_any (is_out out) l) (sym c.deref-then-are_set.ensures.value) ∙ sym c.has_out.ensures ∙ c.if-not-has_out.true in
    let P : List ℕ → Type 0 = λ l. Gives out l flags c.give.new.flags in
    grows_given out r flags c.give.new.flags (ready_from out flags r needs own) (subst P c.deref-then-not-has_out.ensures.value c.in_ok-give.ensures.gives)

use Rattle.std.proofs.Common.{◌≡◌, ◌&&◌, not, Bool, true, false, Option, Some, None, is_none, is_some, refl, ap, sym, ◌∙◌}
use Rattle.ps_machine.specs.declared.journal.Outcome.{Outcome}
use Rattle.ps_rules.specs.Settled.{is_settled, verdict}
use Rattle.ps_actors.proofs.overs.wants_idle.Goals as goal

none-so : (o : Option Outcome) (r : Bool) → is_some o ≡ not r → r ≡ is_none o
none-so None true e = refl
none-so None false e = absurd (cc)
none-so (Some how) true e = absurd (cc)
none-so (Some how) false e = refl

pub returns-then-settled : goal.returns-then-settled
returns-then-settled c = λ es o.
    none-so c.verdict-verdict.result c.is_none.result c.is_none.ensures ∙ ap is_none (c.verdict-verdict.ensures es o.kept)
    ∙ sym (ap (λ b. b && (is_settled c.args.input.now es && is_none (verdict c.args.input.now es))) o.live
    ∙ ap (λ b. b && is_none (verdict c.args.input.now es)) (sym (c.is_settled-settled.ensures es o.kept) ∙ c.if-settled.true))

pub returns-else-settled : goal.returns-else-settled
returns-else-settled c = λ es o.
    c.if-settled.false
    ∙ sym (ap (λ b. b && (is_settled c.args.input.now es && is_none (verdict c.args.input.now es))) o.live
    ∙ ap (λ b. b && is_none (verdict c.args.input.now es)) (sym (c.is_settled-settled.ensures es o.kept) ∙ c.if-settled.false))

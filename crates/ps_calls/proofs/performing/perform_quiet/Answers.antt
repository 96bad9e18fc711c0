use Rattle.std.proofs.Common.{subst, sym}
use Rattle.ps_inputs.specs.declared.works.Work.TheVariants.{Validation as AValidation}
use Rattle.ps_calls.specs.Headline.{Performs}
use Rattle.ps_calls.proofs.performing.perform_quiet.Goals as goal

pub returns-in-Validation : goal.returns-in-Validation
returns-in-Validation g c =
    let old = g.O.Sink.shown c.args.out.now in
    let new = g.O.Sink.shown c.validate.new.out in
    let judged : Performs (AValidation c.in-Validation.validation) old new c.validate.result =
    subst (λ v. Performs (AValidation v) old new c.validate.result) c.into_inner.ensures c.validate.ensures in
    subst (λ w. Performs w old new c.validate.result) (sym c.in-Validation.is) judged

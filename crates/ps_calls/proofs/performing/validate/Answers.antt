use Rattle.std.proofs.Common.{◌≡◌, ℕ, List, subst}
use Rattle.std.proofs.lemmas.Result.{err_from_is_err_and}
use Rattle.ps_calls.specs.Headline.{verdict_after}
use Rattle.ps_calls.proofs.Performed.{judged, unjudged}
use Rattle.ps_calls.proofs.performing.validate.Goals as goal

pub returns-in_err-wrong : goal.returns-in_err-wrong
returns-in_err-wrong g c =
    let p = err_from_is_err_and c.from_residual.result c.from_residual.ensures.1 in
    rw (p.1, p.2) (unjudged c.args.validation (g.O.Sink.shown c.args.out.now))

pub returns : goal.returns
returns g c =
    let v = c.args.validation in
    let wrong = c.in_ok-wrong.wrong in
    let after = c.judge.new.names in
    let same = subst (λ (plan : List ℕ). (wrong, after) ≡ verdict_after v.input.domain v.input.lines v.names plan) c.as_slice.ensures.value c.in_ok-wrong.ensures in
    judged v wrong after (g.O.Sink.shown c.args.out.now) (g.O.Sink.shown c.write_verdict.new.out) c.write_verdict.result same c.write_verdict.ensures

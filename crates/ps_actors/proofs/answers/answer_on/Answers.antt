use Rattle.std.proofs.Common.{◌≡◌, if◌then◌else◌, option_copied, Some, None, ap, sym, ◌∙◌}
use Rattle.ps_machine.specs.declared.members.Performer.{Performer}
use Rattle.ps_rules.specs.Auctions.{is_of_run}
use Rattle.ps_rules.specs.Legal.{pass_reason}
use Rattle.ps_rules.specs.Members.{performer_of}
use Rattle.ps_actors.specs.Turns.{answer_by}
use Rattle.ps_actors.proofs.Answering.{answers-by, nobody-answers}
use Rattle.ps_actors.proofs.Hearing.{no-answer}
use Rattle.ps_actors.proofs.answers.answer_on.Goals as goal

pub returns-then-has_answered-clause-first : goal.returns-then-has_answered-clause-first
returns-then-has_answered-clause-first c = λ es o.
    no-answer c.args.input.now es c.args.name c.args.r o.history o.live (λ now. sym (c.has_answered.ensures es o.kept.told) ∙ c.if-has_answered.true)

pub returns-in-Some-clause-first : goal.returns-in-Some-clause-first
returns-in-Some-clause-first c = λ es o.
    let q : Performer = c.in-Some.performer.now in
    let its : performer_of c.args.input.now c.args.name ≡ Some q = sym c.performer_of.ensures ∙ ap option_copied c.in-Some.is in
    c.answer_by.ensures.first
    ∙ ap (λ why. answer_by c.args.name c.args.r why c.is_of_run-of_run.result) (c.pass_reason-why.ensures c.args.input.now es o.kept)
    ∙ ap (answer_by c.args.name c.args.r (pass_reason q c.args.r es)) (c.is_of_run-of_run.ensures es o.kept.told.requests)
    ∙ sym (answers-by c.args.input.now es c.args.name c.args.r o.live q its
    ∙ ap (λ b. if b then None else answer_by c.args.name c.args.r (pass_reason q c.args.r es) (is_of_run c.args.r es))
    (sym (c.has_answered.ensures es o.kept.told) ∙ c.if-has_answered.false))

pub returns-in-None-clause-first : goal.returns-in-None-clause-first
returns-in-None-clause-first c = λ es o.
    sym (nobody-answers c.args.input.now es c.args.name c.args.r o.live (sym c.performer_of.ensures ∙ ap option_copied c.in-None.is))

use Rattle.std.proofs.Common.{refl, rules, true, Some, ap, sym, ◌∙◌}
use Rattle.ps_ledger.specs.Answers.{speaks_of_answers, with_answer}
use Rattle.ps_ledger.proofs.NewAnswers.{asked-now, no-answer-now, offered-now, passed-now, rejected-now}
use Rattle.ps_ledger.proofs.answers.Answers.take.Goals as goal

pub returns-in-Offer-clause-told : goal.returns-in-Offer-clause-told
returns-in-Offer-clause-told c =
    λ es e is t.
    offered-now c.args.names.now es e c.args.self.now c.change.new.self c.in-Offer.r c.in-Offer.by t (is ∙ c.in-Offer.is)
    (ap (speaks_of_answers c.args.names.now c.args.self.now.rows.items) (sym c.in-Offer.is) ∙ c.requires.speaks)
    (c.change.ensures.rows ∙ ap (λ x. with_answer c.args.names.now c.args.self.now.rows.items c.in-Offer.r c.in-Offer.by (record x { offered = true })) c.answer-answer.ensures)

pub returns-in-Pass-clause-told : goal.returns-in-Pass-clause-told
returns-in-Pass-clause-told c =
    λ es e is t.
    passed-now c.args.names.now es e c.args.self.now c.change-in-Pass.new.self c.in-Pass.r c.in-Pass.by c.in-Pass.why t (is ∙ c.in-Pass.is)
    (ap (speaks_of_answers c.args.names.now c.args.self.now.rows.items) (sym c.in-Pass.is) ∙ c.requires.speaks)
    (c.change-in-Pass.ensures.rows ∙ ap (λ x. with_answer c.args.names.now c.args.self.now.rows.items c.in-Pass.r c.in-Pass.by (record x { passed = Some c.in-Pass.why })) c.answer-answer-in-Pass.ensures)

pub returns-in-Reject-clause-told : goal.returns-in-Reject-clause-told
returns-in-Reject-clause-told c =
    λ es e is t.
    rejected-now c.args.names.now es e c.args.self.now c.change-in-Reject.new.self c.in-Reject.r c.in-Reject.by t (is ∙ c.in-Reject.is)
    (ap (speaks_of_answers c.args.names.now c.args.self.now.rows.items) (sym c.in-Reject.is) ∙ c.requires.speaks)
    (c.change-in-Reject.ensures.rows ∙ ap (λ x. with_answer c.args.names.now c.args.self.now.rows.items c.in-Reject.r c.in-Reject.by (record x { rejected = true })) c.answer-answer-in-Reject.ensures)

pub returns-in-Request-clause-told : goal.returns-in-Request-clause-told
returns-in-Request-clause-told c = λ es e is t. asked-now c.args.names.now es e c.args.self.now c.push.new.self c.in-Request.r c.in-Request.act t (is ∙ c.in-Request.is) c.push.ensures.rows

pub returns-in_default-clause-told : goal.returns-in_default-clause-told
returns-in_default-clause-told c = λ es e is t. no-answer-now c.args.names.now es e c.args.self.now c.args.self.now t (λ k p. search rules) (λ k p. search rules) (λ k p. search rules) (λ k p. search rules) (λ k. refl)

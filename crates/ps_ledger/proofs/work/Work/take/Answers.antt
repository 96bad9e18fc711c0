use Rattle.std.proofs.Common.{◌≡◌, ◌&&◌, nat_lt, length, true, refl, ap, sym, ◌∙◌}
use Rattle.std.proofs.lemmas.Bool.{and_parts}
use Rattle.ps_rules.specs.Auctions.{is_begin, says_confirm, says_working}
use Rattle.ps_ledger.specs.Work.{is_by, job_at, speaks_of_jobs, stopped_job}
use Rattle.ps_ledger.proofs.Jobs.{begun, begun-units, confirmed-now, confirmed-units, ended, stopped-units}
use Rattle.ps_ledger.proofs.work.Work.take.Goals as goal

pub returns-in-Confirm-clause-work : goal.returns-in-Confirm-clause-work
returns-in-Confirm-clause-work c = λ es e is t. confirmed-now es e c.args.self.now c.confirm.new.self c.in-Confirm.r c.in-Confirm.by t (is ∙ c.in-Confirm.is) c.confirm.ensures.jobs (ap (speaks_of_jobs c.args.self.now.jobs.items) (sym c.in-Confirm.is) ∙ c.requires.speaks)

pub returns-in-Confirm-clause-units : goal.returns-in-Confirm-clause-units
returns-in-Confirm-clause-units c = λ es e is t. confirmed-units es e c.args.self.now c.confirm.new.self c.in-Confirm.r c.in-Confirm.by t (is ∙ c.in-Confirm.is) c.confirm.ensures.jobs (ap (speaks_of_jobs c.args.self.now.jobs.items) (sym c.in-Confirm.is) ∙ c.requires.speaks)

pub returns-in-Begin-clause-work : goal.returns-in-Begin-clause-work
returns-in-Begin-clause-work c = λ es e is t. begun es e c.args.self.now c.begin.new.self c.in-Begin.r c.in-Begin.by t (is ∙ c.in-Begin.is) c.begin.ensures.jobs (ap (speaks_of_jobs c.args.self.now.jobs.items) (sym c.in-Begin.is) ∙ c.requires.speaks)

pub returns-in-Begin-clause-units : goal.returns-in-Begin-clause-units
returns-in-Begin-clause-units c = λ es e is t. begun-units es e c.args.self.now c.begin.new.self c.in-Begin.r c.in-Begin.by t (is ∙ c.in-Begin.is) c.begin.ensures.jobs (ap (speaks_of_jobs c.args.self.now.jobs.items) (sym c.in-Begin.is) ∙ c.requires.speaks)

pub returns-in-Stopped-clause-work : goal.returns-in-Stopped-clause-work
returns-in-Stopped-clause-work c = λ es e is t.
    let speaks : (nat_lt c.in-Stopped.r (length c.args.self.now.jobs.items) && is_by (job_at c.args.self.now.jobs.items c.in-Stopped.r).by c.in-Stopped.by) ≡ true = ap (speaks_of_jobs c.args.self.now.jobs.items) (sym c.in-Stopped.is) ∙ c.requires.speaks in
    let ok = and_parts (nat_lt c.in-Stopped.r (length c.args.self.now.jobs.items)) (is_by (job_at c.args.self.now.jobs.items c.in-Stopped.r).by c.in-Stopped.by) speaks in
    ended es e c.args.self.now c.end.new.self c.in-Stopped.r c.in-Stopped.by (stopped_job (job_at c.args.self.now.jobs.items c.in-Stopped.r)) t
    (λ k. ap (says_confirm k) (is ∙ c.in-Stopped.is)) (λ k p. ap (is_begin k p) (is ∙ c.in-Stopped.is)) (λ k p. ap (says_working k p) (is ∙ c.in-Stopped.is))
    c.end.ensures.jobs refl refl refl ok.0 ok.1

pub returns-in-Stopped-clause-units : goal.returns-in-Stopped-clause-units
returns-in-Stopped-clause-units c = λ es e is t. stopped-units es e c.args.self.now c.end.new.self c.in-Stopped.r c.in-Stopped.by t (is ∙ c.in-Stopped.is) c.end.ensures.jobs (ap (speaks_of_jobs c.args.self.now.jobs.items) (sym c.in-Stopped.is) ∙ c.requires.speaks)

-- The statuses of work and of faults.
use Rattle.std.proofs.Common.{◌≡◌, ℕ, ◌<◌, ◌⊎◌, Bool, true, false, if◌then◌else◌, Option, Some, None, List, Ok, slice_index_or, inl, inr, refl, sym, subst, arith}
use Rattle.std.specs.List.{list_any}
use Rattle.ps_rules.specs.History.{is_mishap}
use Rattle.ps_editing.specs.Lines.{is_refused}
use Rattle.ps_editing.specs.Runs.{Stage}
use Rattle.ps_text.specs.Outside.{SinkView}
use Rattle.ps_validate.specs.declared.verdicts.Invalid.{Invalid}
use Rattle.ps_inputs.specs.Faults.{fault_line, fault_status}
use Rattle.ps_inputs.specs.declared.faults.Fault.{Fault}
use Rattle.ps_inputs.specs.declared.faults.Fault.TheVariants.{Usage, NoDomain, NoMember, Crowd, Twice, TooLong, Lines, Unread}
use Rattle.ps_world.specs.Names.{Table}
use Rattle.ps_world.specs.declared.conditions.Cond.{Cond}
use Rattle.ps_world.specs.declared.domains.Domain.{Domain}
use Rattle.ps_world.specs.declared.known.Knowledge.{Knowledge}
use Rattle.ps_validate.specs.Verdicts.{known_after}
use Rattle.ps_greedy.specs.declared.found.Found.{Found}
use Rattle.ps_greedy.specs.declared.found.Found.TheVariants.{Plan, NoPlan, Spent, TooMany}
use Rattle.ps_portfolio.specs.Choosing.{best_of}
use Rattle.ps_planned.specs.Planned.{answers, found_status, plan_told, told_to}
use Rattle.ps_inputs.specs.declared.works.Planning.{Planning}
use Rattle.ps_inputs.specs.declared.works.Work.{Work}
use Rattle.ps_inputs.specs.declared.works.Work.TheVariants as work
use Rattle.ps_audit.specs.Findings.{finding_status}
use Rattle.ps_audit.specs.declared.findings.Finding.{Finding}
use Rattle.ps_audit.specs.declared.findings.Finding.TheVariants.{Legal, Illegal}
use Rattle.ps_calls.specs.Headline.{Informs, Performs, Reports, plan_of, verdict_of}
use Rattle.ps_calls.specs.Headline.Informs.{told, unwritten, starved, wordless}
use Rattle.ps_calls.specs.Laws.{IsBroken, IsOfFault, IsOfWork, IsStatusOf}
use Rattle.ps_calls.specs.Verdicts.{verdict_status}

flag_below : (b : Bool) → (if b then 1 else 0) < 2
flag_below true = omega arith
flag_below false = omega arith

-- finished work has a status of its kind
pub status-performed : (w : Work) (old new : SinkView) (status : ℕ) → Performs w old new (Ok status) → IsStatusOf w status
status-performed (work.Session s) old new status p = subst (λ n. n < 2) (sym p.done.2.answer) (flag_below (list_any (λ e. is_mishap e.what) p.done.2.journal))
status-performed (work.Generation g) old new status p = subst (λ n. n < 2) (sym p.done.2) (flag_below (list_any (λ e. is_mishap e.what) p.done.0))
status-performed (work.Check c) old new status p = p.done.0
status-performed (work.Validation v) old new status p = p.done.0
status-performed (work.Planning p) old new status d = d.done.0
status-performed (work.Replay r) old new status p = (p.done.0, p.done.2, p.done.4)
status-performed (work.Editing e) old new status p = (p.done.stages, p.done.last, p.done.run, p.done.is_status)

verdict_of_work : (wrong : Option Invalid) → IsOfWork (verdict_status wrong)
verdict_of_work None = inl (omega arith)
verdict_of_work (Some fault) = inr refl

finding_of_work : (f : Finding) → IsOfWork (finding_status f)
finding_of_work Legal = inl (omega arith)
finding_of_work (Illegal line) = inr refl

few_found : (f : Found) → found_status f < 2
few_found (Plan acts) = omega arith
few_found NoPlan = omega arith
few_found Spent = omega arith
few_found TooMany = omega arith

few_told : (d : Domain) (k : Knowledge) (names : Table) (budget : ℕ) (goal : Option Cond) → (told_to d k names budget goal).1 < 2
few_told d k names budget None = omega arith
few_told d k names budget (Some goal) = few_found (slice_index_or (answers d k budget) (best_of (answers d k budget)) Spent)

-- what planners tell has the status 0 or 1
pub few_planned : (p : Planning) → (plan_of p).1 < 2
unfolding plan_told
few_planned p =
    let k : Knowledge = known_after p.input.domain p.input.lines in
    few_told p.input.domain k p.names p.input.budget k.goal

pub status-of_work : (w : Work) (status : ℕ) → IsStatusOf w status → IsOfWork status
status-of_work (work.Session s) status h = inl h
status-of_work (work.Generation g) status h = inl h
status-of_work (work.Check c) status h = inl (omega arith)
status-of_work (work.Validation v) status h = subst IsOfWork (sym h) (verdict_of_work (verdict_of v).0)
status-of_work (work.Planning p) status h = inl (subst (λ n. n < 2) (sym h) (few_planned p))
status-of_work (work.Replay r) status h = subst IsOfWork (sym h.2) (finding_of_work h.0)
status-of_work (work.Editing e) status h = inl (subst (λ n. n < 2) (sym h.3) (flag_below (list_any (λ (s : Stage). is_refused s.answer) h.0)))

-- a text is told with its own status, or telling it failed
pub status-informed : (text : List ℕ) (done : ℕ) (old new : SinkView) (status : ℕ) → Informs text done old new status → (status ≡ done) ⊎ IsBroken status
status-informed text done old new _ (told p) = inl refl
status-informed text done old new _ (unwritten p) = inr (inl refl)
status-informed text done old new _ (starved p) = inr (inr refl)
status-informed text done old new _ (wordless p) = inr (inr refl)

-- so is a fault
pub status-reported : (f : Fault) (old new : SinkView) (status : ℕ) → Reports f old new status → (status ≡ fault_status f) ⊎ IsBroken status
status-reported f old new status h = status-informed (fault_line f) (fault_status f) old new status h

pub status-of_fault : (f : Fault) → IsOfFault (fault_status f)
status-of_fault Usage = (omega arith, omega arith)
status-of_fault (NoDomain cause) = (omega arith, omega arith)
status-of_fault (NoMember file cause) = (omega arith, omega arith)
status-of_fault Crowd = (omega arith, omega arith)
status-of_fault (Twice name) = (omega arith, omega arith)
status-of_fault (TooLong file) = (omega arith, omega arith)
status-of_fault Lines = (omega arith, omega arith)
status-of_fault (Unread file) = (omega arith, omega arith)

-- the three kinds of statuses are apart
pub no_work-broken : (status : ℕ) → IsOfWork status → IsBroken status → ⊥
no_work-broken status (inl a) (inl b) = omega arith
no_work-broken status (inl a) (inr b) = omega arith
no_work-broken status (inr a) (inl b) = omega arith
no_work-broken status (inr a) (inr b) = omega arith

pub no_work-fault : (status : ℕ) → IsOfWork status → IsOfFault status → ⊥
no_work-fault status (inl a) b = omega arith
no_work-fault status (inr a) b = omega arith

pub no_fault-broken : (status : ℕ) → IsOfFault status → IsBroken status → ⊥
no_fault-broken status a (inl b) = omega arith
no_fault-broken status a (inr b) = omega arith

use Rattle.std.proofs.Common.{◌≡◌, true, false, IsTrue, List, get_or, length, ap, sym, ◌∙◌, subst, arith}
use Rattle.ps_machine.specs.declared.journal.Entry.{Entry}
use Rattle.ps_rules.specs.Runs.{plan}
use Rattle.ps_state.specs.Awaiting.{TakesCancelOf}
use Rattle.ps_replay.proofs.Judges.{act-below, answers, due-rest, is-in, prefix-rest, stands-on, within-rest}
use Rattle.ps_replay.proofs.PlanQueries.{cancel-told}
use Rattle.ps_replay.proofs.judge.Judge.meet.Goals as goal

pub returns-then-not-is_due : goal.returns-then-not-is_due
returns-then-not-is_due c =
    let items : List Entry = c.args.self.now.forced.items in
    let met = c.args.self.now.met in
    let due = c.due_at-due.result.now in
    let first : get_or items met due ≡ due = sym (subst (λ (xs : List Entry). due ≡ get_or xs met due) c.deref.ensures.value c.due_at-due.ensures) in
    λ says. record {
      answer = answers c.args.input.now c.args.before.now c.args.entry.now due items met c.requires.due first false (sym c.if-not-is_due.true ∙ c.is_due.ensures);
      comes = λ h. absurd (cc);
      told = λ h. absurd (cc);
    }

pub cancel-requires : goal.cancel-requires
cancel-requires c =
    let items : List Entry = c.args.self.now.forced.items in
    let met = c.args.self.now.met in
    let es = c.args.before.now in
    let e = c.args.entry.now in
    let due = c.due_at-due.result.now in
    let first : get_or items met due ≡ due = sym (subst (λ (xs : List Entry). due ≡ get_or xs met due) c.deref.ensures.value c.due_at-due.ensures) in
    let acts = c.requires.reaches.stands.told.acts in
    let in_plan = is-in c.args.input.now es e due items met c.requires.due first c.requires.reaches.within (sym c.is_due.ensures ∙ c.if-not-is_due.false) in
    let below = act-below (length (plan es)) c.cancelled_act.result e.what in_plan c.cancelled_act.ensures in
    omega (arith, below, ap length acts.acts, acts.many)

pub returns : goal.returns
returns c =
    let i = c.args.input.now in
    let items : List Entry = c.args.self.now.forced.items in
    let met = c.args.self.now.met in
    let es = c.args.before.now in
    let e = c.args.entry.now in
    let due = c.due_at-due.result.now in
    let first : get_or items met due ≡ due = sym (subst (λ (xs : List Entry). due ≡ get_or xs met due) c.deref.ensures.value c.due_at-due.ensures) in
    let r = c.requires.reaches in
    let is = sym c.is_due.ensures ∙ c.if-not-is_due.false in
    let took = subst (λ a. TakesCancelOf a c.args.self.now.state c.cancel.new.self) c.cancelled_act.ensures c.cancel.ensures.told in
    λ says. record {
      answer = answers i es e due items met c.requires.due first true (sym is);
      told = λ h. cancel-told says i es (length (plan es)) e.what _ (is-in i es e due items met c.requires.due first r.within is);
      comes = λ h. record {
        reaches = record {
          stands = stands-on i es e due items met c.requires.due first c.args.self.now.state _ r.within is r.stands took;
          prefix = prefix-rest i es e due items met c.requires.due first r.prefix is;
          within = within-rest i es e due items met c.requires.due first r.within is;
          met = omega arith;
        };
        due = due-rest i es e due items met c.requires.due first;
      };
    }

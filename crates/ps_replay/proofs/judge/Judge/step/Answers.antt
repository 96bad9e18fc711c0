use Rattle.std.proofs.Common.{◌≡◌, ◌++◌, [], ◌∷◌, ◌≤◌, true, false, IsTrue, List, drop, length, ap, sym, ◌∙◌, subst, arith}
use Rattle.std.proofs.lemmas.List.{at_drop_all}
use Rattle.ps_machine.specs.declared.journal.Entry.{Entry}
use Rattle.ps_rules.specs.Prefixes.{IsPrefix}
use Rattle.ps_rules.specs.Runs.{plan}
use Rattle.ps_replay.specs.Judge.{AreInPlan, due_then, may_come}
use Rattle.ps_replay.proofs.Judges.{forced-in}
use Rattle.ps_replay.proofs.Leading.{comes-on, done-history}
use Rattle.ps_replay.proofs.judge.Judge.step.Goals as goal

pub judge_any-requires-clause-history : goal.judge_any-requires-clause-history
judge_any-requires-clause-history g c =
    let past : length c.args.self.now.forced.items ≤ c.args.self.now.met = omega arith in
    done-history c.args.input.now c.args.before.now _ c.requires.reaches.prefix (at_drop_all (λ x. x) c.args.self.now.forced.items c.args.self.now.met past)

pub returns-then-self-len : goal.returns-then-self-len
returns-then-self-len g c = c.meet.ensures (g.S.Solver.says c.args.solver.now)

pub returns-then-not-legal : goal.returns-then-not-legal
returns-then-not-legal g c =
    let past : length c.args.self.now.forced.items ≤ c.args.self.now.met = omega arith in
    let none = at_drop_all (λ (x : List Entry). x) c.args.self.now.forced.items c.args.self.now.met past in
    record {
      answer = sym c.if-not-legal.true ∙ c.in_ok-legal.ensures.legal ∙ ap (λ due. may_come c.args.input.now c.args.before.now due c.args.entry.now) (sym none);
      comes = λ h. absurd (cc);
      told = λ h. absurd (cc);
    }

pub returns : goal.returns
returns g c =
    let i = c.args.input.now in
    let es : List Entry = c.args.before.now in
    let e : Entry = c.args.entry.now in
    let old : List Entry = drop c.args.self.now.met c.args.self.now.forced.items in
    let past : length c.args.self.now.forced.items ≤ c.args.self.now.met = omega arith in
    let none : old ≡ [] = at_drop_all (λ x. x) c.args.self.now.forced.items c.args.self.now.met past in
    let may : true ≡ may_come i es old e = sym c.if-not-legal.false ∙ c.in_ok-legal.ensures.legal ∙ ap (λ due. may_come i es due e) (sym none) in
    let stands = c.in_ok-legal.ensures.stands c.if-not-legal.false in
    let history = done-history i es _ c.requires.reaches.prefix none in
    let forced = c.in_ok-forced.ensures i es history stands in
    let due = forced ∙ ap (λ due. due_then i es due e) (sym none) in
    record {
      answer = may;
      told = λ h. c.in_ok-legal.ensures.told c.if-not-legal.false;
      comes = λ h. record {
        reaches = record {
          stands = stands;
          prefix = subst (IsPrefix i (es ++ e ∷ [])) (sym due) (comes-on i es old e c.requires.reaches.prefix (sym may));
          within = subst (AreInPlan (length (plan (es ++ e ∷ [])))) (sym forced) (forced-in i (es ++ e ∷ []) e.hand e.what);
          met = omega arith;
        };
        due = due;
      };
    }

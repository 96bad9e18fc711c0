use Rattle.std.proofs.Common.{◌≡◌, ◌∷◌, [], Bool, Some, None, false, cond, ap, sym, ◌∙◌}
use Rattle.std.specs.List.{list_any}
use Rattle.std.proofs.lemmas.Result.{IfOk-weaker}
use Rattle.ps_solve.specs.Expansions.{kept, lead_to, leads_of, led_by, meets_goal}
use Rattle.ps_solve.specs.Queue.{Lead, with_lead}
use Rattle.ps_solve.specs.Rows.{plain_state}
use Rattle.ps_solve.specs.Reached.{rows_of}
use Rattle.ps_solve.proofs.Attempting.{nothing_led, one_good, one_kept}
use Rattle.ps_solve.proofs.Meeting.{wide_there}
use Rattle.ps_solve.proofs.expansion.Expansion.attempt.Goals as goal

pub step-requires-clause-wide : goal.step-requires-clause-wide
step-requires-clause-wide c =
    let e = c.args.self.now in
    wide_there e.task.now.grounds.atoms (rows_of c.args.reached.now) e.from e.here c.requires.expanding.wide c.requires.expanding.there

pub returns-then-leads-clause-good : goal.returns-then-leads-clause-good
returns-then-leads-clause-good c =
    let e = c.args.self.now in
    let t = e.task.now in
    let rs = c.args.reached.now in
    let next = c.step.new.next in
    let is = sym c.in_ok-leads.ensures.state ∙ ap (λ b. cond b (Some (plain_state t.grounds.atoms next)) None) c.if-leads.true in
    let Before : Bool → Type 0 = λ good. good ≡ meets_goal t (plain_state t.grounds.atoms next) in
    let After : Bool → Type 0 = λ good. good ≡ list_any (λ (l : Lead). meets_goal t l.state) (led_by e rs c.args.place (c.args.action.now ∷ [])) in
    IfOk-weaker c.meet.result Before After (λ good same. same ∙ one_good e rs c.args.place c.args.action.now next is) c.meet.ensures.good

pub returns-then-leads-clause-leads : goal.returns-then-leads-clause-leads
returns-then-leads-clause-leads c =
    let e = c.args.self.now in
    let t = e.task.now in
    let rs = c.args.reached.now in
    let next = c.step.new.next in
    let new = c.meet.new.reached in
    let is = sym c.in_ok-leads.ensures.state ∙ ap (λ b. cond b (Some (plain_state t.grounds.atoms next)) None) c.if-leads.true in
    let Before : Bool → Type 0 = λ good. good ≡ false → leads_of t new ≡ with_lead e.most (leads_of t rs) (lead_to e rs c.args.place next) in
    let After : Bool → Type 0 = λ good. good ≡ false → leads_of t new ≡ kept e rs (led_by e rs c.args.place (c.args.action.now ∷ [])) in
    IfOk-weaker c.meet.result Before After (λ good same bad. same bad ∙ one_kept e rs c.args.place c.args.action.now next is) c.meet.ensures.leads

pub returns-else-leads-clause-good : goal.returns-else-leads-clause-good
returns-else-leads-clause-good c =
    let e = c.args.self.now in
    let t = e.task.now in
    let next = c.step.new.next in
    let is = sym c.in_ok-leads.ensures.state ∙ ap (λ b. cond b (Some (plain_state t.grounds.atoms next)) None) c.if-leads.false in
    sym (ap (list_any (λ (l : Lead). meets_goal t l.state)) (nothing_led e c.args.reached.now c.args.place c.args.action.now is))

pub returns-else-leads-clause-leads : goal.returns-else-leads-clause-leads
returns-else-leads-clause-leads c =
    let e = c.args.self.now in
    let t = e.task.now in
    let next = c.step.new.next in
    let is = sym c.in_ok-leads.ensures.state ∙ ap (λ b. cond b (Some (plain_state t.grounds.atoms next)) None) c.if-leads.false in
    λ bad. sym (ap (kept e c.args.reached.now) (nothing_led e c.args.reached.now c.args.place c.args.action.now is))

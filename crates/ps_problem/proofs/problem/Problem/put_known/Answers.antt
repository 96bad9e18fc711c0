use Rattle.std.proofs.Common.{◌∙◌, Result, Ok, Err}
use Rattle.std.specs.Result.{OnOk, IfOk}
use Rattle.std.proofs.lemmas.Result.{on_ok_weaker, on_err_weaker}
use Rattle.ps_problem.proofs.Puts.{put_made, put_undone, put_changes}
use Rattle.ps_problem.proofs.problem.Problem.put_known.Goals as goal

-- what holds where there is a value serves to say more of the value
with_more : {A E : Type 0} (r : Result A E) {O : Type 0} {P Q : A → Type 0} → ((a : A) → O → P a → Q a) → OnOk r O → IfOk r P → IfOk r Q
with_more (Ok a) h o p = h a o p
with_more (Err e) h o p = tt

pub returns-clause-ok : goal.returns-clause-ok
returns-clause-ok c =
    let change = c.in_ok-found.found in
    let found = c.in_ok-found.ensures in
    on_ok_weaker c.make.result (λ e. e ∙ put_made c.args.self.now c.args.adds.now c.args.deletes.now c.args.ready.now c.args.gone.now change.fresh.items change.lost.items change.dropped.items change.held.items found.fresh found.lost found.held found.dropped found.facts_rise found.values_rise) c.make.ensures.ok

pub returns-clause-changed : goal.returns-clause-changed
returns-clause-changed c =
    let change = c.in_ok-found.found in
    let found = c.in_ok-found.ensures in
    with_more c.make.result (λ b e i. put_changes c.args.self.now c.args.adds.now c.args.deletes.now c.args.ready.now c.args.gone.now change.fresh.items change.lost.items change.dropped.items change.held.items found.fresh found.lost found.held found.dropped found.facts_rise found.values_rise c.make.new.self b e i) c.make.ensures.ok c.make.ensures.changed

pub returns-clause-err : goal.returns-clause-err
returns-clause-err c =
    let change = c.in_ok-found.found in
    let found = c.in_ok-found.ensures in
    on_err_weaker c.make.result (λ w. w.2 ∙ put_undone c.args.self.now c.args.adds.now c.args.deletes.now c.args.ready.now c.args.gone.now change.fresh.items change.lost.items change.dropped.items change.held.items found.fresh found.lost found.held found.dropped found.facts_rise found.values_rise w.0 w.1) c.make.ensures.err

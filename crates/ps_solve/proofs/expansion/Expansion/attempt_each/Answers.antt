use Rattle.std.proofs.Common.{◌<◌, ◌≤◌, ℕ, List, None, length, ap, sym, ◌∙◌, arith}
use Rattle.ps_ground.specs.declared.prepared.Prepared.{Prepared}
use Rattle.ps_solve.specs.Reached.{places_of}
use Rattle.ps_solve.specs.declared.rows.Row.{Row}
use Rattle.ps_solve.proofs.Attempting.{all_kept, attempted, begins_each, found_here, none_found, split_at, there_at}
use Rattle.ps_solve.proofs.Queues.{sound_there}
use Rattle.ps_solve.proofs.expansion.Expansion.attempt_each.Goals as goal

pub loop-i-init : goal.loop-i-init
loop-i-init c = record {
  tried = begins_each c.args.self.now c.args.reached.now c.requires.expanding;
  wide = c.requires.wide;
}

pub attempt-requires-clause-able : goal.attempt-requires-clause-able
attempt-requires-clause-able c =
    let t = c.args.self.now.task.now in
    let xs = c.as_slice-actions.result.now in
    let i = c.loop-i.i in
    let q = c.index-actions-i.result in
    let within : i < length xs = omega (arith, c.loop-i-test.true) in
    record {
      sound = sound_there t.expert.now t.problem.now t.grounds.atoms i t.grounds.actions.items q (there_at xs t.grounds.actions.items i q c.as_slice-actions.ensures.value within c.index-actions-i.is) t.prepared.grounded.sound;
      wide = c.loop-i.invariant.wide;
    }

pub loop-i-preserved : goal.loop-i-preserved
loop-i-preserved c =
    let xs = c.as_slice-actions.result.now in
    let ps = c.args.self.now.task.now.grounds.actions.items in
    let i = c.loop-i.i in
    let q = c.index-actions-i.result in
    let within : i < length xs = omega (arith, c.loop-i-test.true) in
    let split = split_at xs ps i q c.as_slice-actions.ensures.value within c.index-actions-i.is in
    record {
      tried = attempted c.args.self.now c.args.reached.now None c.loop-i.reached i q c.loop-i.invariant.tried split c.attempt.new.reached
          (sym c.in_ok-found.ensures.good ∙ c.if-found.false) (c.in_ok-found.ensures.leads c.if-found.false) c.in_ok-found.ensures.expanding;
      wide = c.in_ok-found.ensures.wide ∙ c.loop-i.invariant.wide;
    }

pub returns-then-found-clause-found : goal.returns-then-found-clause-found
returns-then-found-clause-found c =
    let xs = c.as_slice-actions.result.now in
    let ps = c.args.self.now.task.now.grounds.actions.items in
    let i = c.loop-i.i in
    let q = c.index-actions-i.result in
    let within : i < length xs = omega (arith, c.loop-i-test.true) in
    let split = split_at xs ps i q c.as_slice-actions.ensures.value within c.index-actions-i.is in
    found_here c.args.self.now c.args.reached.now None c.loop-i.reached i q c.loop-i.invariant.tried split (sym c.in_ok-found.ensures.good ∙ c.if-found.true)

pub returns-then-found-clause-places : goal.returns-then-found-clause-places
returns-then-found-clause-places c =
    ap (λ (l : List (Row × List ℕ)). places_of l c.args.self.now.from) (c.in_ok-found.ensures.same c.if-found.true) ∙ c.loop-i.invariant.tried.places

pub returns-clause-found : goal.returns-clause-found
returns-clause-found c =
    let same = ap (λ (l : List Prepared). length l) c.as_slice-actions.ensures.value in
    let past : length c.args.self.now.task.now.grounds.actions.items ≤ c.loop-i.i = omega (arith, c.loop-i-test.false, same) in
    none_found c.args.self.now c.args.reached.now None c.loop-i.reached c.loop-i.i c.loop-i.invariant.tried past

pub returns-clause-leads : goal.returns-clause-leads
returns-clause-leads c =
    let same = ap (λ (l : List Prepared). length l) c.as_slice-actions.ensures.value in
    let past : length c.args.self.now.task.now.grounds.actions.items ≤ c.loop-i.i = omega (arith, c.loop-i-test.false, same) in
    λ none. all_kept c.args.self.now c.args.reached.now None c.loop-i.reached c.loop-i.i c.loop-i.invariant.tried past

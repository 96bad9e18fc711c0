use Rattle.std.proofs.Common.{◌≡◌, ◌≤◌, ℕ, List, Some, None, length, ap, sym, ◌∙◌, subst, arith, add-one, IfOk, OnOk, Result, Ok, Err}
use Rattle.ps_solve.specs.Expansions.{IsExpanding}
use Rattle.ps_solve.specs.Reached.{rows_of}
use Rattle.ps_solve.specs.Rows.{AreWide}
use Rattle.ps_solve.specs.declared.expansion.Expansion.{Expansion}
use Rattle.ps_solve.specs.Stores.{IsStore}
use Rattle.ps_solve.specs.declared.rows.Row.{Row}
use Rattle.ps_solve.proofs.SameRows.{row_told}
use Rattle.ps_solve.proofs.Storing.{count, found_said, kept_said, none_meets, store_said}
use Rattle.ps_solve.proofs.store.RowsFrontier.expand.Goals as goal

wide_said : {A E : Type 0} (e : Expansion) (rs : List (Row × List ℕ)) (r : Result A E) → OnOk r (IsExpanding e rs) → OnOk r (AreWide e.task.now.grounds.atoms (rows_of rs))
wide_said e rs (Ok a) h = h.wide
wide_said e rs (Err w) h = tt

pub run-requires-clause-expanding : goal.run-requires-clause-expanding
run-requires-clause-expanding c = record {
  there = c.row.ensures ∙ ap (λ (r : Row). Some r) (sym (row_told c.in_ok-here.here c.row.result.now c.in_ok-here.ensures.flags c.in_ok-here.ensures.values));
  wide = c.requires.sound.wide;
  none = none_meets c.args.self.now.task.now c.args.self.now.reached c.requires.next.none;
}

pub run-requires-clause-next : goal.run-requires-clause-next
run-requires-clause-next c = c.requires.sound.queue

pub returns-clause-found : goal.returns-clause-found
returns-clause-found c =
    let t = c.args.self.now.task.now in
    let rs = c.args.self.now.reached in
    let there = c.row.ensures ∙ ap (λ (r : Row). Some r) (sym (row_told c.in_ok-here.here c.row.result.now c.in_ok-here.ensures.flags c.in_ok-here.ensures.values)) in
    found_said t rs c.run.new.reached c.args.self.now.expanded c.args.most c.in_ok-here.here there c.run.result c.run.ensures.found

pub returns-clause-nodes : goal.returns-clause-nodes
returns-clause-nodes c =
    let t = c.args.self.now.task.now in
    let rs = c.args.self.now.reached in
    let there = c.row.ensures ∙ ap (λ (r : Row). Some r) (sym (row_told c.in_ok-here.here c.row.result.now c.in_ok-here.ensures.flags c.in_ok-here.ensures.values)) in
    let many = count t rs in
    let few : length rs ≤ c.args.most = omega (arith, c.requires.next.room, many) in
    kept_said t rs c.run.new.reached c.args.self.now.expanded c.args.most c.in_ok-here.here there c.run.result few c.run.ensures.leads

pub returns-clause-sound : goal.returns-clause-sound
returns-clause-sound c =
    let t = c.args.self.now.task.now in
    let rs = c.args.self.now.reached in
    let i = c.args.self.now.expanded in
    let there = c.row.ensures ∙ ap (λ (r : Row). Some r) (sym (row_told c.in_ok-here.here c.row.result.now c.in_ok-here.ensures.flags c.in_ok-here.ensures.values)) in
    let e : Expansion = record { task = c.args.self.now.task; here = c.in_ok-here.here; from = i; most = c.args.most } in
    let P : ℕ → Type 0 = λ m. IfOk c.run.result (λ found. found ≡ None → IsStore t c.args.most m c.run.new.reached) in
    subst P (sym (add-one i))
    (store_said t rs c.run.new.reached i c.args.most c.in_ok-here.here there c.run.result c.as_slice-atoms.ensures.rise c.requires.sound c.run.ensures.found c.run.ensures.leads (wide_said e c.run.new.reached c.run.result c.run.ensures.expanding))

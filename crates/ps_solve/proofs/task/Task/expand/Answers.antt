use Rattle.std.proofs.Common.{◌≡◌, Some, ap, sym, refl, ◌∙◌}
use Rattle.ps_solve.specs.declared.expansion.Expansion.{Expansion}
use Rattle.ps_solve.specs.declared.rows.Row.{Row}
use Rattle.ps_solve.proofs.AnyRow.{expand_finds, expand_grows, expand_keeps}
use Rattle.ps_solve.proofs.SameRows.{row_told}
use Rattle.ps_solve.proofs.Storing.{none_meets}
use Rattle.ps_solve.proofs.task.Task.expand.Goals as goal

pub run_all-requires : goal.run_all-requires
run_all-requires c = record {
  there = c.row.ensures ∙ ap (λ (r : Row). Some r) (sym (row_told c.in_ok-here.here c.row.result.now c.in_ok-here.ensures.flags c.in_ok-here.ensures.values));
  wide = c.requires.kept.wide;
  none = none_meets c.args.self.now c.args.reached.now c.requires.kept.none;
}

pub returns-clause-found : goal.returns-clause-found
returns-clause-found c =
    let there = c.row.ensures ∙ ap (λ (r : Row). Some r) (sym (row_told c.in_ok-here.here c.row.result.now c.in_ok-here.ensures.flags c.in_ok-here.ensures.values)) in
    expand_finds c.args.self.now c.args.reached.now c.run_all.new.reached c.args.place c.args.most c.in_ok-here.here there c.run_all.result c.run_all.ensures.found

pub returns-clause-nodes : goal.returns-clause-nodes
returns-clause-nodes c =
    let there = c.row.ensures ∙ ap (λ (r : Row). Some r) (sym (row_told c.in_ok-here.here c.row.result.now c.in_ok-here.ensures.flags c.in_ok-here.ensures.values)) in
    expand_grows c.args.self.now c.args.reached.now c.run_all.new.reached c.args.place c.args.most c.in_ok-here.here there c.run_all.result c.requires.room c.run_all.ensures.leads

pub returns-clause-kept : goal.returns-clause-kept
returns-clause-kept c =
    let there = c.row.ensures ∙ ap (λ (r : Row). Some r) (sym (row_told c.in_ok-here.here c.row.result.now c.in_ok-here.ensures.flags c.in_ok-here.ensures.values)) in
    let e : Expansion = record { task = c.args.self; here = c.in_ok-here.here; from = c.args.place; most = c.args.most } in
    expand_keeps c.args.self.now c.args.reached.now c.run_all.new.reached c.args.place c.args.most c.in_ok-here.here there e c.run_all.result refl c.requires.room c.requires.kept.none c.run_all.ensures.found c.run_all.ensures.leads c.run_all.ensures.expanding

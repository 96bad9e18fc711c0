use Rattle.std.proofs.Common.{◌≡◌, ◌+◌, ℕ, take, sym, ap, ◌∙◌, arith}
use Rattle.std.specs.Prelude.{if◌then◌else◌}
use Rattle.std.proofs.lemmas.List.Sums.{fold_more}
use Rattle.ps_machine.specs.declared.journal.Entry.{Entry}
use Rattle.ps_rules.specs.Reading.{times}
use Rattle.ps_reports.specs.Audit.{is_recorded}
use Rattle.ps_reports.proofs.counting.count_recorded.Goals as goal

pub loop-entry-preserved : goal.loop-entry-preserved
loop-entry-preserved c =
    let f = λ (n : ℕ) (e : Entry). if is_recorded c.args.i.now e.what then n + 1 else n in
    let before = c.loop-entry.invariant in
    let x = c.entry-item.result in (
      c.count_one-count.ensures.counted ∙ (ap (λ n. f n x) before.0 ∙ (ap (λ e. f (times (is_recorded c.args.i.now) (take c.loop-entry.entry-index c.args.h.now)) e) c.entry-item.is ∙ sym (fold_more f 0 c.args.h.now c.loop-entry.entry-index x c.loop-entry-test.true))),
      (let few = c.count_one-count.ensures.few in let b = before.1 in omega arith),
    )

use Rattle.std.proofs.Common.{◌≤◌, length, arith, sym, ◌∙◌}
use Rattle.std.proofs.lemmas.Bool.{true≢false}
use Rattle.ps_stale_plan_laws.proofs.Counted.{none_to_end, one_more}
use Rattle.ps_stale_plan_laws.proofs.Walking.{only_edits_count}
use Rattle.ps_board.specs.declared.whole.Parts.{Parts}
use Rattle.ps_board.proofs.whole.Parts.first_to_count.Goals as goal

pub counts-requires-clause-may : goal.counts-requires-clause-may
counts-requires-clause-may c = λ e at.
    let parts : Parts = c.args.self.now in
    only_edits_count parts.input parts.entries.items c.args.at c.loop-k.k e c.requires.stands.history c.requires.asked c.loop-k.invariant.after at c.loop-k.invariant.none

pub loop-k-preserved : goal.loop-k-preserved
loop-k-preserved c =
    let parts : Parts = c.args.self.now in
    let after = c.loop-k.invariant.after in
    record {
      after = omega (arith, after);
      known = c.in_ok-counts.ensures.known;
      none = one_more parts.input parts.entries.items c.args.at c.loop-k.k c.loop-k.invariant.none (λ x. true≢false (sym (c.in_ok-counts.ensures.counts.1 x) ∙ c.if-branch.false));
    }

pub returns-then-branch-clause-first : goal.returns-then-branch-clause-first
returns-then-branch-clause-first c = record {
  after = c.loop-k.invariant.after;
  counts = c.in_ok-counts.ensures.counts.0 c.if-branch.true;
  none = c.loop-k.invariant.none;
}

pub returns-clause-first : goal.returns-clause-first
returns-clause-first c =
    let parts : Parts = c.args.self.now in
    let past : length parts.entries.items ≤ c.loop-k.k = omega (arith, c.loop-k-test.false, c.len-k-end.ensures) in
    none_to_end parts.input parts.entries.items c.args.at (λ j after lt. c.loop-k.invariant.none j after (omega (arith, lt, past)))

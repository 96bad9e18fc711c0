use Rattle.ps_good_plan_laws.proofs.Ordering.{journals_go_in_order}
use Rattle.ps_good_plan_laws.proofs.Walking.{journals_go_well}
use Rattle.ps_pool.proofs.laws.plans_go_well.Goals as goal

pub returns : goal.returns
returns c = record {
  well = journals_go_well c.args.board.now.input c.args.board.now.entries c.entries-history.ensures.history;
  in_order = journals_go_in_order c.args.board.now.input c.args.board.now.entries c.entries-history.ensures.history;
}

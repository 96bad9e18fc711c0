-- A board may go to another thread: a search for that from its type alone stops at its limits, so each type within it that holds
-- conditions has a lemma of its own.
use denote.Param.Send.{IsSend, sendable}
use Rattle.std.proofs.Crossing.{crosses}
use Rattle.std.proofs.MapsCrossing.{crosses as maps}
use Rattle.ps_world.proofs.names.Name.TheSendSync as name
use Rattle.ps_action.specs.contracts.acts.GroundAction as GroundAction
use Rattle.ps_action.proofs.acts.Act.TheSendSync as act
use Rattle.ps_action.proofs.arcs.Arcs.TheSendSync as arcs
use Rattle.ps_action.proofs.touched.Touched.TheSendSync as touched
use Rattle.ps_users.proofs.users.Users.TheSendSync as users
use Rattle.ps_domain.proofs.Sends.{expr_send, conds_send, conditions_send, effects_send, goal_send, expert_send, parts}
use Rattle.ps_problem.specs.contracts.problem.Problem as Problem
use Rattle.ps_problem.proofs.problem.facts.Facts.TheSendSync as facts
use Rattle.ps_problem.proofs.problem.values.Values.TheSendSync as values
use Rattle.ps_ledger.proofs.ledger.Ledger.TheSendSync as ledger
use Rattle.ps_tree.proofs.tree.Tree.TheSendSync as tree
use Rattle.ps_monitor.specs.contracts.monitor.Monitor as Monitor
use Rattle.ps_monitor.specs.contracts.watch.Watch as Watch
use Rattle.ps_monitor.specs.contracts.watches.Watches as Watches
use Rattle.ps_state.specs.contracts.state.State as State
use Rattle.ps_board.specs.contracts.board.Board as Board
use Rattle.ps_board.specs.contracts.whole.Parts as Parts
use Rattle.ps_turn.proofs.Sends.{entry_send, input_send}

-- ---- what a board holds

problem_send : IsSend Problem.the_row
problem_send = search (sendable, crosses, maps, name.the_field_send, goal_send, facts.the_send, values.the_send) depth 20 fits 8000

instance_send : IsSend GroundAction.the_field.row
instance_send = search (parts, expr_send, conditions_send, effects_send, act.the_field_send) depth 12

watch_send : IsSend Watch.the_row
watch_send = search (parts, conds_send, touched.the_send) depth 12

watches_send : IsSend Watches.the_row
watches_send = search (sendable, crosses, watch_send, users.the_send) depth 12

monitor_send : IsSend Monitor.the_field.row
monitor_send = search (sendable, crosses, watches_send) depth 12

state_send : IsSend State.the_field.row
state_send = search (sendable, crosses, expert_send, problem_send, instance_send, ledger.the_field_send, arcs.the_send, tree.the_send) depth 20 fits 8000

parts_send : IsSend Parts.the_field.row
parts_send = search (sendable, crosses, input_send, entry_send, state_send, monitor_send) depth 20 fits 8000

pub board_send : IsSend Board.the_row
board_send = search (sendable, crosses, parts_send) depth 20 fits 8000

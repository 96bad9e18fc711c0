-- Domains, edits and experts may go to another thread, and threads may share them: a search for that from their types alone stops at its
-- limits, so each type within them that holds others has lemmas of its own.
use denote.Param.Send.{IsSend, IsSync, sendable}
use Rattle.std.proofs.Crossing.{crosses}
use Rattle.ps_world.specs.contracts.expressions.Expr as Expr
use Rattle.ps_world.specs.contracts.expressions.BoxedExpr as BoxedExpr
use Rattle.ps_world.specs.contracts.conditions.Conds as Conds
use Rattle.ps_world.specs.contracts.conditions.Cond as Cond
use Rattle.ps_world.specs.contracts.actions.Effect as Effect
use Rattle.ps_world.specs.contracts.actions.Guarded as Guarded
use Rattle.ps_world.specs.contracts.actions.Spread as Spread
use Rattle.ps_world.specs.contracts.actions.Conditions as Conditions
use Rattle.ps_world.specs.contracts.actions.Effects as Effects
use Rattle.ps_world.specs.contracts.actions.ActionDef as ActionDef
use Rattle.ps_world.specs.contracts.domains.Domain as Domain
use Rattle.ps_world.specs.contracts.edits.Edit as Edit
use Rattle.ps_world.specs.contracts.goals.Goal as Goal
use Rattle.ps_world.proofs.expressions.BoxedExpr.TheLaws.TheKnot as expr
use Rattle.ps_world.proofs.conditions.BoxedCond.TheLaws.TheKnot as cond
use Rattle.ps_world.proofs.numbers.Num.TheSendSync as num
use Rattle.ps_world.proofs.packed.PackedLifted.TheSendSync as packed
use Rattle.ps_world.proofs.schemas.Lifted.TheSendSync as lifted
use Rattle.ps_world.proofs.schemas.Term.TheSendSync as term
use Rattle.ps_world.proofs.names.Name.TheSendSync as name
use Rattle.ps_world.proofs.domains.Param.TheSendSync as param
use Rattle.ps_world.proofs.domains.Decl.TheSendSync as decl
use Rattle.ps_world.proofs.facts.Fact.TheSendSync as fact
use Rattle.ps_world.proofs.lists.Seq.TheSendSync as seq
use Rattle.ps_domain.specs.contracts.declared.Declared as Declared
use Rattle.ps_domain.specs.contracts.expert.Expert as Expert
use Rattle.ps_domain.proofs.index.Index.TheSendSync as index

-- ---- domains and edits

pub ruleset parts = (sendable, crosses, num.the_send, num.the_sync, packed.the_send, packed.the_sync, lifted.the_field_send, lifted.the_field_sync, term.the_field_send, term.the_field_sync, name.the_field_send, name.the_field_sync, param.the_send, param.the_sync, decl.the_send, decl.the_sync, fact.the_field_send, fact.the_field_sync, seq.the_send, seq.the_sync)

pub expr_send : IsSend Expr.the_field.row
expr_send = search (parts, expr.send-Expr, expr.send-BoxedExpr) depth 12

boxed_expr_send : IsSend BoxedExpr.the_row
boxed_expr_send = search (parts, expr.send-BoxedExpr) depth 12

pub conds_send : IsSend Conds.the_row
conds_send = search (parts, boxed_expr_send, cond.send-Conds) depth 12

pub cond_send : IsSend Cond.the_field.row
cond_send = search (parts, boxed_expr_send, conds_send, cond.send-BoxedCond, cond.send-Cond) depth 12

pub effect_send : IsSend Effect.the_field.row
effect_send = search (parts, expr_send) depth 12

pub guarded_send : IsSend Guarded.the_field.row
guarded_send = search (parts, cond_send, effect_send) depth 12

pub spread_send : IsSend Spread.the_field.row
spread_send = search (parts, guarded_send) depth 12

pub conditions_send : IsSend Conditions.the_field.row
conditions_send = search (parts, conds_send) depth 12

pub effects_send : IsSend Effects.the_field.row
effects_send = search (parts, spread_send) depth 12

pub action_send : IsSend ActionDef.the_field.row
action_send = search (parts, expr_send, conditions_send, effects_send) depth 12

pub domain_send : IsSend Domain.the_field.row
domain_send = search (parts, action_send) depth 12

pub expr_sync : IsSync Expr.the_field.row
expr_sync = search (parts, expr.sync-Expr, expr.sync-BoxedExpr) depth 12

boxed_expr_sync : IsSync BoxedExpr.the_row
boxed_expr_sync = search (parts, expr.sync-BoxedExpr) depth 12

pub conds_sync : IsSync Conds.the_row
conds_sync = search (parts, boxed_expr_sync, cond.sync-Conds) depth 12

pub cond_sync : IsSync Cond.the_field.row
cond_sync = search (parts, boxed_expr_sync, conds_sync, cond.sync-BoxedCond, cond.sync-Cond) depth 12

pub effect_sync : IsSync Effect.the_field.row
effect_sync = search (parts, expr_sync) depth 12

pub guarded_sync : IsSync Guarded.the_field.row
guarded_sync = search (parts, cond_sync, effect_sync) depth 12

pub spread_sync : IsSync Spread.the_field.row
spread_sync = search (parts, guarded_sync) depth 12

pub conditions_sync : IsSync Conditions.the_field.row
conditions_sync = search (parts, conds_sync) depth 12

pub effects_sync : IsSync Effects.the_field.row
effects_sync = search (parts, spread_sync) depth 12

pub action_sync : IsSync ActionDef.the_field.row
action_sync = search (parts, expr_sync, conditions_sync, effects_sync) depth 12

pub domain_sync : IsSync Domain.the_field.row
domain_sync = search (parts, action_sync) depth 12

-- who holds a goal shares it with others, so that it may go to another thread where threads may share its condition

pub goal_send : IsSend Goal.the_row
goal_send = search (parts, cond_send, cond_sync) depth 12

pub goal_sync : IsSync Goal.the_row
goal_sync = search (parts, cond_send, cond_sync) depth 12

pub edit_send : IsSend Edit.the_field.row
edit_send = search (parts, goal_send) depth 12

pub edit_sync : IsSync Edit.the_field.row
edit_sync = search (parts, goal_sync) depth 12

-- ---- experts

declared_send : IsSend Declared.the_row
declared_send = search (parts, domain_send, index.the_send) depth 12

declared_sync : IsSync Declared.the_row
declared_sync = search (parts, domain_sync, index.the_sync) depth 12

pub expert_send : IsSend Expert.the_row
expert_send = search (parts, declared_send, declared_sync) depth 12

pub expert_sync : IsSync Expert.the_row
expert_sync = search (parts, declared_send, declared_sync) depth 12

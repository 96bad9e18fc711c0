use Rattle.std.proofs.Common.{ap, map, sym, ◌∙◌, arith}
use Rattle.ps_world.specs.CondViews.{cond_tree}
use Rattle.ps_world.proofs.SameConds.{unequal, differs, goes_on}
use Rattle.ps_world.proofs.conditions.+same_cond.Goals as goal

pub is_same_conds-returns-then-len : goal.is_same_conds-returns-then-len
is_same_conds-returns-then-len t c =
    sym (unequal c.a.inside.items.items c.b.inside.items.items c.args.a.now c.args.b.now c.a.view_is c.b.view_is (omega arith))

pub is_same_conds-returns-then-not-is_same_cond : goal.is_same_conds-returns-then-not-is_same_cond
is_same_conds-returns-then-not-is_same_cond t c =
    differs c.deref-cond-items.result.now c.b.inside.items.items c.args.a.now c.args.b.now c.loop-i.i c.cond-item.result c.index.result.now (ap (map cond_tree) c.deref-cond-items.ensures.value ∙ c.a.view_is) c.b.view_is (omega arith) (omega arith) c.cond-item.is c.index.ensures _ c.loop-i.invariant (sym c.is_same_cond.ensures ∙ c.if-not-is_same_cond.true)

pub is_same_conds-loop-i-preserved : goal.is_same_conds-loop-i-preserved
is_same_conds-loop-i-preserved t c =
    goes_on c.deref-cond-items.result.now c.b.inside.items.items c.args.a.now c.args.b.now c.loop-i.i c.cond-item.result c.index.result.now (ap (map cond_tree) c.deref-cond-items.ensures.value ∙ c.a.view_is) c.b.view_is (omega arith) (omega arith) c.cond-item.is c.index.ensures _ c.loop-i.invariant (sym c.is_same_cond.ensures ∙ c.if-not-is_same_cond.false)

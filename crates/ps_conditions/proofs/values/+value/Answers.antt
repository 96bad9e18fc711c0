use Rattle.std.proofs.Common.{Ok, ap, arith, sym}
use Rattle.std.proofs.lemmas.Result.{err_from_is_err_and}
use Rattle.ps_lists.proofs.NestedLists.{second-rank, third-rank}
use Rattle.ps_conditions.proofs.Operations.{alone, with_one, with_two, group-rank}
use Rattle.ps_conditions.proofs.Steps.{gives_first}
use Rattle.ps_conditions.proofs.values.+value.Goals as goal

pub operation-value-requires : goal.operation-value-requires
operation-value-requires g t c κs within = (omega (arith, c.decreases, second-rank c.args.trees.now c.one-item.result (omega arith) c.one-item.is), (within.0, (within.1, c.requires)))

pub operation-value-requires-in-Some : goal.operation-value-requires-in-Some
operation-value-requires-in-Some g t c κs within = (omega (arith, c.decreases, second-rank c.args.trees.now c.left-item.result (omega arith) c.left-item.is), (within.0, (within.1, c.requires)))

pub operation-value-requires-in-Some-2 : goal.operation-value-requires-in-Some-2
operation-value-requires-in-Some-2 g t c κs within =
    (omega (arith, c.decreases, third-rank c.args.trees.now c.left-item.result c.right-item.result (omega arith) c.left-item.is c.right-item.is), (within.0, (within.1, c.requires)))

pub value-operation-requires : goal.value-operation-requires
value-operation-requires g t c κs within =
    (omega (arith, c.decreases, group-rank c.args.tree.now c.in-Group.trees c.as_slice.result.now c.in-Group.is c.as_slice.ensures), (within.0, (within.1, c.requires)))

pub operation-returns-in_err-inner-in-len2 : goal.operation-returns-in_err-inner-in-len2
operation-returns-in_err-inner-in-len2 g t c =
    let p = err_from_is_err_and c.from_residual.result c.from_residual.ensures.1 in
    rw (p.1, p.2, with_one _ ((g.S.Scope.scopes c.args.scope.now).words c.args.params.now) c.args.trees.now c.one-item.result (omega arith) c.one-item.is, sym c.head-word.ensures, sym c.is_minus.ensures, c.if-is_minus.true) (gives_first _ _ _ c.in_err-inner-in-len2.ensures)

pub operation-returns-in_err-left-in-Some : goal.operation-returns-in_err-left-in-Some
operation-returns-in_err-left-in-Some g t c =
    let p = err_from_is_err_and c.from_residual-in_err-left-in-Some.result c.from_residual-in_err-left-in-Some.ensures.1 in
    rw (p.1, p.2, with_two _ ((g.S.Scope.scopes c.args.scope.now).words c.args.params.now) c.args.trees.now c.left-item.result c.right-item.result (omega arith) c.left-item.is c.right-item.is, sym c.head-word.ensures, sym c.operator_of.ensures, c.in-Some.is) (gives_first _ _ _ c.in_err-left-in-Some.ensures)

pub operation-returns-in_err-right-in-Some : goal.operation-returns-in_err-right-in-Some
operation-returns-in_err-right-in-Some g t c =
    let p = err_from_is_err_and c.from_residual-in_err-right-in-Some.result c.from_residual-in_err-right-in-Some.ensures.1 in
    rw (p.1, p.2, with_two _ ((g.S.Scope.scopes c.args.scope.now).words c.args.params.now) c.args.trees.now c.left-item.result c.right-item.result (omega arith) c.left-item.is c.right-item.is, sym c.head-word.ensures, sym c.operator_of.ensures, c.in-Some.is, c.in_ok-left-in-Some.ensures) (gives_first _ _ _ c.in_err-right-in-Some.ensures)

pub operation-returns-in-len1 : goal.operation-returns-in-len1
operation-returns-in-len1 g t c =
    rw (alone _ ((g.S.Scope.scopes c.args.scope.now).words c.args.params.now) c.args.trees.now (omega arith), sym c.head-word.ensures, sym c.rest.ensures) c.function_value.ensures

pub operation-returns-in_ok-negated-in-len2 : goal.operation-returns-in_ok-negated-in-len2
operation-returns-in_ok-negated-in-len2 g t c =
    rw (with_one _ ((g.S.Scope.scopes c.args.scope.now).words c.args.params.now) c.args.trees.now c.one-item.result (omega arith) c.one-item.is, sym c.head-word.ensures, sym c.is_minus.ensures, c.if-is_minus.true, c.in_ok-inner-in-len2.ensures) (ap Ok (sym c.in_ok-negated-in-len2.ensures))

pub operation-returns-in_ok-operated-in-Some : goal.operation-returns-in_ok-operated-in-Some
operation-returns-in_ok-operated-in-Some g t c =
    rw (with_two _ ((g.S.Scope.scopes c.args.scope.now).words c.args.params.now) c.args.trees.now c.left-item.result c.right-item.result (omega arith) c.left-item.is c.right-item.is, sym c.head-word.ensures, sym c.operator_of.ensures, c.in-Some.is, c.in_ok-left-in-Some.ensures, c.in_ok-right-in-Some.ensures) (ap Ok (sym c.in_ok-operated-in-Some.ensures))

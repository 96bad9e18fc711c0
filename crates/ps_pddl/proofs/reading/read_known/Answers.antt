use Rattle.std.proofs.lemmas.Result.{err_from_is_err_and}
use Rattle.ps_lists.proofs.Balance.{balanced_shape}
use Rattle.ps_pddl.proofs.Refused.{class_read, has_words, is_spelt, meant, shape_read}
use Rattle.ps_pddl.proofs.reading.read_known.Goals as goal

pub returns-in_err-tokens-clause-reads : goal.returns-in_err-tokens-clause-reads
returns-in_err-tokens-clause-reads c =
    let p = err_from_is_err_and c.from_residual.result c.from_residual.ensures.1 in
    rw (p.1, p.2) (class_read c.args.names.now c.args.bytes.now _ c.in_err-tokens.ensures.class)

pub returns-in_err-check_shape-clause-reads : goal.returns-in_err-check_shape-clause-reads
returns-in_err-check_shape-clause-reads c =
    let p = err_from_is_err_and c.from_residual-in_err-check_shape.result c.from_residual-in_err-check_shape.ensures.1 in
    let words = has_words _ _ _ _ _ c.in_ok-tokens.ensures.ok c.in_ok-words.ensures.ok in
    let fault = rw c.deref.ensures.value at c.in_err-check_shape.ensures.fault in
    rw (p.1, p.2) (shape_read _ _ _ _ _ words fault)

pub trees_of-requires : goal.trees_of-requires
trees_of-requires c =
    balanced_shape _ (rw c.deref.ensures.value at c.in_ok-check_shape.ensures.ok.0)

pub returns-clause-reads : goal.returns-clause-reads
returns-clause-reads c =
    let words = has_words _ _ _ _ _ c.in_ok-tokens.ensures.ok c.in_ok-words.ensures.ok in
    let is = is_spelt _ _ _ _ _ _ words c.deref.ensures.value c.in_ok-check_shape.ensures.ok c.in_ok-trees.ensures in
    meant _ _ _ _ _ _ c.domain_of.result is c.as_slice.ensures c.domain_of.ensures

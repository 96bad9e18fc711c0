use Rattle.ps_domain.proofs.declared.Indexes.of.Goals as goal

pub returns : goal.returns
returns c = record {
  types_in = rw c.as_slice.ensures at c.in_ok-types.ensures;
  constants_in = rw c.as_slice-2.ensures at c.in_ok-constants.ensures;
  predicates_in = rw c.as_slice-3.ensures at c.in_ok-predicates.ensures;
  functions_in = rw c.as_slice-4.ensures at c.in_ok-functions.ensures;
  actions_in = rw c.as_slice-5.ensures at c.in_ok-actions.ensures;
}

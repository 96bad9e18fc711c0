use Rattle.std.proofs.Common.{map}
use Rattle.ps_grammar.specs.declared.marks.Mark.TheVariants.{Parameters}
use Rattle.ps_lists.specs.Nested.{nesteds}
use Rattle.ps_lists.specs.NestedViews.{nested}
use Rattle.ps_lists.specs.Places.{after, items_at}
use Rattle.ps_pddl.proofs.FewParams.{few}
use Rattle.ps_pddl.proofs.meaning.actions.add_action.Goals as goal

pub action_body-requires : goal.action_body-requires
action_body-requires c =
    few c.args.d.now (items_at (after Parameters (nesteds (map nested c.args.trees.now)))) c.in_ok-params-in-None.params.items (rw (c.items_at-inside.ensures, c.after.ensures) at c.in_ok-params-in-None.ensures)

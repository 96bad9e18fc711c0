use Rattle.std.proofs.Common.{◌≡◌, Some, None, if◌then◌else◌, true, ap, sym, subst, ◌∙◌}
use Rattle.ps_rules.specs.Journal.{tree_of}
use Rattle.ps_rules.specs.Runs.{has_run}
use Rattle.ps_state.proofs.PlanTrees.{tree-is}
use Rattle.ps_board.specs.declared.whole.Parts.{Parts}
use Rattle.ps_board.specs.Board.{shown_tree}
use Rattle.ps_board.specs.Parts.{BoardStands}
use Rattle.ps_board.proofs.board.Board.tree.Goals as goal

pub returns-then-has_run : goal.returns-then-has_run
returns-then-has_run c =
    let parts : Parts = c.self.inside.parts.value in
    let kept = c.self.invariant.parts.kept in
    let stands = subst BoardStands (sym c.deref.ensures) c.self.invariant.parts in
    let opened : has_run parts.entries.items ≡ true =
    sym (c.has_run.ensures c.deref.result.now.entries.items stands.kept.told.run ∙ ap (λ (k : Parts). has_run k.entries.items) c.deref.ensures) ∙ c.if-has_run.true in
    ap (λ (k : Parts). Some k.state.tree) c.deref-then-has_run.ensures
    ∙ ap Some (tree-is parts.input parts.entries.items parts.state kept parts.state.tree kept.tree c.self.invariant.shown)
    ∙ sym (ap (λ b. if b then Some (tree_of parts.input parts.entries.items) else None) opened) ∙ ap shown_tree c.self.view_is

use Rattle.std.proofs.Common.{Some, [], ◌∷◌, ◌++◌, ap, sym, ◌∙◌, subst}
use Rattle.ps_replies.specs.Plans.{RepliesTo}
use Rattle.ps_state.proofs.PlanTrees.{as-many-waits}
use Rattle.ps_audit.proofs.PrintedLines.{line-text}
use Rattle.ps_audit.proofs.Replies.{replies-after}
use Rattle.ps_audit.proofs.texts.judge_one.Goals as goal

pub show_tree-requires : goal.show_tree-requires
show_tree-requires g c =
    let i = c.args.input.now in
    let es = c.args.before.now in
    let e = c.args.entry.now in
    let went = c.in_ok-comes.ensures.comes c.if-not-comes.false in
    as-many-waits i (es ++ e ∷ []) _ went.reaches.stands

pub returns-then-not-asks-clause-text : goal.returns-then-not-asks-clause-text
returns-then-not-asks-clause-text g c = λ _.
    c.in_ok-push_line.ensures
    ∙ ap (λ t. c.args.out.now.items ++ t)
    (line-text c.args.names.now c.args.input.now c.args.before.now c.args.entry.now c.args.line.now c.requires.line (sym c.asks.ensures ∙ c.if-not-asks.true))

pub returns-clause-text : goal.returns-clause-text
returns-clause-text g c = λ _.
    let i = c.args.input.now in
    let es = c.args.before.now in
    let e = c.args.entry.now in
    let went = c.in_ok-comes.ensures.comes c.if-not-comes.false in
    c.in_ok-push_entry.ensures i es
    (subst (λ acts. RepliesTo i es e.what c.show_tree.new.state.expert c.show_tree.new.state.problem acts (Some c.show_tree.new.state.tree)) (sym c.as_slice.ensures)
    (replies-after (g.S.Solver.says c.args.solver.now) i es e _ _ c.requires.solver (c.show_tree.ensures.stands i (es ++ e ∷ []) went.reaches.stands)
    (c.in_ok-comes.ensures.told c.if-not-comes.false) c.show_tree.ensures.states))

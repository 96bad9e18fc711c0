use Rattle.std.proofs.Common.{List, ap, ◌∙◌, subst}
use Rattle.ps_action.specs.declared.touched.Touched.{Touched}
use Rattle.ps_users.specs.Users.{Enters}
use Rattle.ps_arcs.proofs.index.enter.Goals as goal

pub returns-clause-reads : goal.returns-clause-reads
returns-clause-reads c =
    let is = c.reads.ensures ∙ ap (λ (s : List Touched × List Touched). s.0) c.in_ok-touching.ensures in
    subst (λ l. Enters c.args.readers.now l c.args.place c.enter_all.new.self) is c.in_ok-enter_all.ensures.ok

pub returns-clause-changes : goal.returns-clause-changes
returns-clause-changes c =
    let is = c.changes.ensures ∙ ap (λ (s : List Touched × List Touched). s.1) c.in_ok-touching.ensures in
    subst (λ l. Enters c.args.changers.now l c.args.place c.enter_all-2.new.self) is c.in_ok-enter_all-2.ensures.ok

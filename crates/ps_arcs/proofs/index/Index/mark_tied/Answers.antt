use Rattle.std.proofs.Common.{subst}
use Rattle.std.specs.List.{list_any}
use Rattle.ps_users.specs.Users.{Marks, uses}
use Rattle.ps_arcs.specs.Indexed.{is_tied}
use Rattle.ps_arcs.proofs.Tied.{tied_marked}
use Rattle.ps_arcs.proofs.index.Index.mark_tied.Goals as goal

pub returns : goal.returns
returns c =
    let gs = c.self.inside.actions.now in
    let s = c.args.touching.now in
    let readers = c.self.inside.readers in
    let changers = c.self.inside.changers in
    let first = c.args.flags.now in
    let second = c.mark_all.new.flags in
    let third = c.mark_all-2.new.flags in
    let fourth = c.mark_all-3.new.flags in
    subst (λ l. Marks first (is_tied l s) fourth) c.self.view_is
    (tied_marked gs s readers changers first second third fourth c.self.invariant.read c.self.invariant.changed
    (subst (λ ts. Marks first (λ j. list_any (λ t. uses changers t j) ts) second) c.reads.ensures c.mark_all.ensures)
    (subst (λ ts. Marks second (λ j. list_any (λ t. uses readers t j) ts) third) c.changes.ensures c.mark_all-2.ensures)
    (subst (λ ts. Marks third (λ j. list_any (λ t. uses changers t j) ts) fourth) c.changes-2.ensures c.mark_all-3.ensures))

use Rattle.std.proofs.Common.{◌≡◌, ◌+◌, Some, None, is_ok, refl, slice_get, take, ap, subst, sym, ◌∙◌}
use Rattle.std.specs.Bool.{Decides}
use Rattle.std.specs.Option.{option_copied}
use Rattle.std.proofs.lemmas.Option.{slice_get_read}
use Rattle.ps_stale_plan_laws.specs.Asked.{Counts}
use Rattle.ps_stale_plan_laws.proofs.Accepted.{others_leave}
use Rattle.ps_rules.specs.Known.{know}
use Rattle.ps_machine.specs.declared.journal.Entry.{Entry}
use Rattle.ps_board.specs.declared.whole.Parts.{Parts}
use Rattle.ps_board.specs.Submits.{edit_in}
use Rattle.ps_board.proofs.Submitting.{edit-made, made-counts, made-known, other-counts, other-leaves}
use Rattle.ps_board.proofs.whole.Parts.counts.Goals as goal

pub make-requires : goal.make-requires
make-requires c =
    let parts : Parts = c.args.self.now in
    let e : Entry = c.index.result.now in
    ap is_ok (edit-made parts c.args.k e c.in-Some.edit.now c.args.problem.now c.requires.stands
    (slice_get_read parts.entries.items _ c.args.k e refl c.requires.there c.index.ensures) (sym c.edit_in.ensures ∙ ap option_copied c.in-Some.is) c.requires.known)

pub returns-in-Some-clause-counts : goal.returns-in-Some-clause-counts
returns-in-Some-clause-counts c =
    let parts : Parts = c.args.self.now in
    let e : Entry = c.index.result.now in
    made-counts parts c.args.k e c.in-Some.edit.now c.args.problem.now c.make.new.problem c.make.result c.requires.stands
    (slice_get_read parts.entries.items _ c.args.k e refl c.requires.there c.index.ensures) (sym c.edit_in.ensures ∙ ap option_copied c.in-Some.is) c.requires.known
    c.make.ensures.made c.make.ensures.changed

pub returns-in-Some-clause-known : goal.returns-in-Some-clause-known
returns-in-Some-clause-known c =
    let parts : Parts = c.args.self.now in
    let e : Entry = c.index.result.now in
    made-known parts c.args.k e c.in-Some.edit.now c.args.problem.now c.make.new.problem c.make.result c.requires.stands
    (slice_get_read parts.entries.items _ c.args.k e refl c.requires.there c.index.ensures) (sym c.edit_in.ensures ∙ ap option_copied c.in-Some.is) c.requires.known
    c.make.ensures.made

pub returns-in-None-clause-counts : goal.returns-in-None-clause-counts
returns-in-None-clause-counts c =
    let parts : Parts = c.args.self.now in
    let e : Entry = c.index.result.now in
    let at : slice_get parts.entries.items c.args.k ≡ Some e = slice_get_read parts.entries.items _ c.args.k e refl c.requires.there c.index.ensures in
    let none : edit_in e.what ≡ None = sym c.edit_in.ensures ∙ ap option_copied c.in-None.is in
    let same : know parts.input (take (c.args.k + 1) parts.entries.items) ≡ know parts.input (take c.args.k parts.entries.items) =
    others_leave parts.input parts.entries.items c.args.k e at (other-leaves e.what none (c.requires.may e at)) in
    subst (λ b. Decides b (Counts parts.input parts.entries.items c.args.k)) (sym c.ends_plan.ensures) (other-counts parts.input parts.entries.items c.args.k e same at)

pub returns-in-None-clause-known : goal.returns-in-None-clause-known
returns-in-None-clause-known c =
    let parts : Parts = c.args.self.now in
    let e : Entry = c.index.result.now in
    let at : slice_get parts.entries.items c.args.k ≡ Some e = slice_get_read parts.entries.items _ c.args.k e refl c.requires.there c.index.ensures in
    let none : edit_in e.what ≡ None = sym c.edit_in.ensures ∙ ap option_copied c.in-None.is in
    c.requires.known ∙ sym (others_leave parts.input parts.entries.items c.args.k e at (other-leaves e.what none (c.requires.may e at)))

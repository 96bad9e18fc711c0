use Rattle.std.proofs.Common.{if◌then◌else◌, [], ◌∷◌, take, ◌∙◌}
use Rattle.ps_undo.specs.Editing.{most_kept}
use Rattle.ps_undo.proofs.Undoing.{edit_makes}
use Rattle.ps_undo.proofs.undo.Undo.edit.Goals as goal

pub returns : goal.returns
returns c =
    let step = c.in_ok-step.step in
    let changed = c.has_changed.ensures in
    let reserved = c.in_ok-reserve.ensures.items in
    let past = c.keep.ensures.past ∙ (λ i. if changed i then take most_kept (step ∷ reserved i) else reserved i) in
    let future = c.keep.ensures.future ∙ (λ i. if changed i then [] else c.self.inside.future.items) in
    edit_makes c.args.self.now c.args.expert.now c.args.edit.now c.self.inside.problem c.self.inside.past.items c.self.inside.future.items step c.edit-made.result c.edit-made.new.self c.keep.new.past.items c.keep.new.future.items c.self.view_is c.requires.now.rises c.in_ok-step.ensures c.edit-made.ensures past future

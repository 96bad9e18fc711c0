use Rattle.std.proofs.Common.{◌≡◌, ℕ, List, IfOk, ap, subst, ◌∙◌}
use Rattle.std.specs.List.{zip}
use Rattle.ps_machine.specs.declared.journal.Entry.{Entry}
use Rattle.ps_picture.specs.Courses.{picture_of}
use Rattle.ps_shows.specs.Pictures.{form_text}
use Rattle.ps_shows.proofs.Placing.{zip-parts}
use Rattle.ps_shows.proofs.pictures.draw_journal.Goals as goal

pub returns : goal.returns
returns c =
    let all = c.deref.ensures.value ∙ c.in_ok-placed.ensures ∙ ap (λ ls. zip ls c.entries.result.now) c.lines.ensures ∙ ap (zip _) c.entries.ensures ∙ zip-parts c.args.entries.now in
    subst (λ (es : List (ℕ × Entry)). IfOk c.draw.result (λ picture. picture.items ≡ form_text c.args.form c.args.names.now (picture_of es))) all c.draw.ensures

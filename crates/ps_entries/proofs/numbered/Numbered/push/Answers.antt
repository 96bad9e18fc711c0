use Rattle.std.proofs.Common.{◌∷◌, [], ◌++◌, ap, ◌∙◌}
use Rattle.std.specs.List.{zip}
use Rattle.ps_entries.proofs.Numbering.{zip-push}
use Rattle.ps_entries.proofs.numbered.Numbered.push.Goals as goal

pub returns : goal.returns
returns c =
    let xs = c.self.inside.lines.items in
    let ys = c.self.inside.entries.items in
    ap (λ zs. zip zs c.push_reserved-2.new.self.items) (c.push_reserved.ensures.items ∙ ap (λ zs. zs ++ c.args.line ∷ []) c.reserve.ensures.items)
    ∙ ap (zip (xs ++ c.args.line ∷ [])) (c.push_reserved-2.ensures.items ∙ ap (λ zs. zs ++ c.args.entry ∷ []) c.reserve-2.ensures.items)
    ∙ zip-push xs ys c.args.line c.args.entry c.self.invariant
    ∙ ap (λ es. es ++ (c.args.line, c.args.entry) ∷ []) c.self.view_is

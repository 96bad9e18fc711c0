use Rattle.std.proofs.Common.{[], ◌∷◌, ◌++◌, append_assoc, codes}
use Rattle.std.proofs.lemmas.Result.{IfOk-equal}
use Rattle.ps_gen.specs.Texts.{stage_lines, texts_of}
use Rattle.ps_gen.proofs.scripts.push_stage.Goals as goal

pub returns : goal.returns
returns c =
    let last = texts_of c.push_line-4.new.lines.items ++ codes "set predicate (next aisle dock)" ∷ [] in
    IfOk-equal c.push_line-5.result (texts_of c.push_line-5.new.lines.items) last (texts_of c.args.lines.now.items ++ stage_lines) c.push_line-5.ensures
    (rw (c.in_ok-push_line-4.ensures, c.in_ok-push_line-3.ensures, c.in_ok-push_line-2.ensures, c.in_ok-push_line.ensures) (simp append_assoc))

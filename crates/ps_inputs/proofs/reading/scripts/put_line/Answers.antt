use Rattle.std.proofs.Common.{Option, [], ◌∷◌, ◌++◌, length, refl, ap, ◌∙◌, arith}
use Rattle.ps_edit_words.specs.declared.words.EditWord.{EditWord}
use Rattle.ps_inputs.proofs.Flattening.{line_added}
use Rattle.ps_inputs.proofs.reading.scripts.put_line.Goals as goal

pub returns : goal.returns
returns c =
    line_added c.args.bytes.now c.args.line c.args.script.now _ c.ends_script-ends.result c.ends_script-ends.ensures
    (omega (arith, ap length c.as_slice.ensures.value, c.in_ok-check_room.ensures)) refl c.in_ok-push_line.ensures
    (c.in_ok-push.ensures.items ∙ ap (λ (w : Option EditWord). c.args.script.now.words.items ++ w ∷ []) c.edit_word.ensures)

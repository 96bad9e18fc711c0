use Rattle.std.proofs.Common.{ℕ, All, refl, sym, ap, ◌∙◌, subst, arith}
use Rattle.std.specs.Global.{Vec}
use Rattle.ps_gen.specs.Texts.{script_lines, texts_of}
use Rattle.ps_gen.proofs.Rows.{script_length}
use Rattle.ps_inputs.specs.declared.reading.scripts.Script.{Script}
use Rattle.ps_inputs.proofs.GeneratedLines.{IsCommand, held_commands, script_commands}
use Rattle.ps_inputs.proofs.Pushed.{script_pushed}
use Rattle.ps_inputs.proofs.reading.generated.generate_script.Goals as goal

pub push_all-requires : goal.push_all-requires
push_all-requires c =
    let texts = c.in_ok-texts.texts.items in
    subst (All (λ (line : Vec ℕ). IsCommand line.items)) (sym c.as_slice.ensures.value)
    (held_commands texts (subst (All IsCommand) (sym c.in_ok-texts.ensures) (script_commands c.args.carts)))

pub returns : goal.returns
returns c =
    let first : Script = record { names = c.args.names; lines = c.new-lines.result; words = c.new-words.result } in
    script_pushed c.args.names c.as_slice.result.now (script_lines c.args.carts) first c.push_all.new.script refl c.new-lines.ensures.items (ap texts_of c.as_slice.ensures.value ∙ c.in_ok-texts.ensures)
    (omega (arith, script_length c.args.carts, c.requires)) c.in_ok-push_all.ensures

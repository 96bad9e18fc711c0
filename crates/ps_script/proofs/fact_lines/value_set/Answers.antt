use Rattle.std.proofs.Common.{◌∙◌, ◌++◌, List, ap, append_assoc, subst, sym}
use Rattle.ps_world.specs.declared.edits.Edit.TheVariants as edit
use Rattle.ps_world.specs.declared.facts.Fact.{Fact}
use Rattle.ps_machine.specs.declared.inputs.Command.TheVariants.{Edit}
use Rattle.ps_lists.specs.declared.lexemes.Lexeme.{Lexeme}
use Rattle.ps_script.specs.FactLines.{Means}
use Rattle.ps_script.specs.declared.forms.Form.TheVariants as form
use Rattle.ps_script.proofs.FactsSaid.{value_means}
use Rattle.ps_script.proofs.fact_lines.value_set.Goals as goal

pub returns-then-is_fact : goal.returns-then-is_fact
returns-then-is_fact c =
    let start = c.split_at-2.result.0.now in
    let fact = c.split_at-2.result.1.now in
    let end = c.split_at.result.1.now in
    let whole = c.split_at.ensures.by_index.0 ∙ ap (λ (x : List Lexeme). x ++ end) c.split_at-2.ensures.by_index.0 ∙ append_assoc start fact end in
    subst (λ (f : Fact). Means form.SetFunction c.args.words.now (Edit (edit.SetValue f c.in_ok-number.number))) (sym c.fact_said.ensures)
    (value_means c.args.words.now start fact end c.in_ok-number.number whole (sym c.begins_value.ensures ∙ c.if-begins_value.true) (sym c.is_fact.ensures ∙ c.if-is_fact.true) c.in_ok-number.ensures)

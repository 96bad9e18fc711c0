use Rattle.std.proofs.Common.{◌∙◌, ap}
use Rattle.ps_world.specs.declared.edits.Edit.TheVariants as edit
use Rattle.ps_machine.specs.declared.inputs.Command.TheVariants.{Edit, RunAction}
use Rattle.ps_script.specs.Commands.{command_of}
use Rattle.ps_script.proofs.FactsSaid.{fact_means}
use Rattle.ps_script.proofs.fact_lines.fact_command.Goals as goal

pub returns-in-SetPredicate : goal.returns-in-SetPredicate
returns-in-SetPredicate c =
    fact_means c.args.form c.args.words.now c.in_ok-fact.fact _ (c.wants_fact.ensures c.if-not-wants_fact.false) c.in_ok-fact.ensures
    (λ ts e. ap (λ f. command_of f ts) c.in-SetPredicate.is ∙ ap (λ x. Edit (edit.AddFact x)) e)

pub returns-in-RemovePredicate : goal.returns-in-RemovePredicate
returns-in-RemovePredicate c =
    fact_means c.args.form c.args.words.now c.in_ok-fact.fact _ (c.wants_fact.ensures c.if-not-wants_fact.false) c.in_ok-fact.ensures
    (λ ts e. ap (λ f. command_of f ts) c.in-RemovePredicate.is ∙ ap (λ x. Edit (edit.RemoveFact x)) e)

pub returns-in-RemoveFunction : goal.returns-in-RemoveFunction
returns-in-RemoveFunction c =
    fact_means c.args.form c.args.words.now c.in_ok-fact.fact _ (c.wants_fact.ensures c.if-not-wants_fact.false) c.in_ok-fact.ensures
    (λ ts e. ap (λ f. command_of f ts) c.in-RemoveFunction.is ∙ ap (λ x. Edit (edit.RemoveValue x)) e)

pub returns-in-RunAction : goal.returns-in-RunAction
returns-in-RunAction c =
    fact_means c.args.form c.args.words.now c.in_ok-fact.fact _ (c.wants_fact.ensures c.if-not-wants_fact.false) c.in_ok-fact.ensures
    (λ ts e. ap (λ f. command_of f ts) c.in-RunAction.is ∙ ap (λ x. RunAction (record { action = x.head; args = x.args })) e)

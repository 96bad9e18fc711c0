use Rattle.std.proofs.Common.{◌+◌, List, take, subst, sym}
use Rattle.ps_action.specs.declared.acts.GroundAction.{GroundAction}
use Rattle.ps_marks.specs.Rules.{AllIn, AreRules, IsRuleOf, asked}
use Rattle.ps_closing.specs.declared.rule.Rule.{Rule}
use Rattle.ps_marks.proofs.Placed.{asked_in, rules_add}
use Rattle.ps_marks.proofs.rules.rules_of.Goals as goal

pub rule_of-requires : goal.rule_of-requires
rule_of-requires c =
    let gs = c.args.actions.now in
    let x = c.action-item.result in
    let P : GroundAction → Type 0 = λ g. AllIn c.args.places.now (asked g) in
    subst P (sym c.action-item.is) (asked_in c.args.places.now gs c.loop-action.action-index x c.loop-action-test.true c.requires)

pub loop-action-preserved : goal.loop-action-preserved
loop-action-preserved c =
    let d = c.args.expert.now in
    let k = c.args.problem.now in
    let atoms = c.args.places.now in
    let gs = c.args.actions.now in
    let i = c.loop-action.action-index in
    let x = c.action-item.result in
    let r = c.in_ok-rule.rule in
    let P : GroundAction → Type 0 = λ g. IsRuleOf d k atoms g r in
    let Q : List Rule → Type 0 = λ rs. AreRules d k atoms (take (i + 1) gs) rs in
    subst Q (sym c.in_ok-push.ensures.items) (rules_add d k atoms gs i x c.loop-action.rules.items r c.loop-action-test.true c.loop-action.invariant (subst P c.action-item.is c.in_ok-rule.ensures))

use Rattle.std.proofs.Common.{◌≡◌, ℕ, ◌+◌, ◌∷◌, ◌++◌, [], List, Contains, length, take, get_or, ap, sym, ◌∙◌, subst, arith}
use Rattle.std.proofs.lemmas.List.{take_more, take_all}
use Rattle.std.proofs.lemmas.List.Elements.{Contains-get_or}
use Rattle.ps_closing.specs.declared.rule.Rule.{Rule}
use Rattle.ps_closing.specs.Closing.{FitsIn}
use Rattle.ps_closing.specs.Users.{AreSeen}
use Rattle.ps_closing.proofs.Growing.{grows_on, grows_one}
use Rattle.ps_closing.proofs.Seen.{seen_one}
use Rattle.ps_closing.proofs.closing.apply_all.Goals as goal

pub apply-requires : goal.apply-requires
apply-requires c =
    let P : Rule → Type 0 = λ r. FitsIn (length c.loop-rule.flags) r in
    let Q : ℕ → Type 0 = λ n. FitsIn n (get_or c.args.rules.now c.loop-rule.rule-index c.rule-item.result) in
    subst P (sym c.rule-item.is) (subst Q (sym c.loop-rule.invariant.grows.wide) (c.requires c.loop-rule.rule-index c.rule-item.result c.loop-rule-test.true))

pub loop-rule-preserved : goal.loop-rule-preserved
loop-rule-preserved c =
    let out = c.args.out in
    let rules = c.args.rules.now in
    let i = c.loop-rule.rule-index in
    let r = c.rule-item.result in
    let y = c.loop-rule.flags in
    let z = c.apply.new.flags in
    let s = c.in_ok-apply.ensures in
    let more : take (i + 1) rules ≡ take i rules ++ r ∷ [] = take_more rules i r c.loop-rule-test.true ∙ ap (λ (q : Rule). take i rules ++ q ∷ []) (sym c.rule-item.is) in
    let P : Rule → Type 0 = λ q. Contains rules q in
    let there : Contains rules r = subst P (sym c.rule-item.is) (Contains-get_or rules i r c.loop-rule-test.true) in
    let R : List Rule → Type 0 = λ rs. AreSeen out rs z c.apply.new.queue.items in
    record {
      seen = subst R (sym more) (seen_one out (take i rules) r y z c.loop-rule.queue.items c.apply.new.queue.items s.queues c.loop-rule.invariant.seen s.seen);
      grows = grows_on out rules c.args.flags.now y z c.loop-rule.invariant.grows (grows_one out rules r y z there s.grows);
    }

pub returns-clause-seen : goal.returns-clause-seen
returns-clause-seen c =
    let R : List Rule → Type 0 = λ rs. AreSeen c.args.out rs c.loop-rule.flags c.loop-rule.queue.items in
    subst R (take_all c.loop-rule.rule-index c.args.rules.now (omega (arith, c.loop-rule-test.false))) c.loop-rule.invariant.seen

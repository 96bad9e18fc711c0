use Rattle.std.proofs.Common.{◌≡◌, ℕ, List, Some, length, slice_get, get_or, sym, subst, arith}
use Rattle.std.proofs.lemmas.Option.{slice_get-get_or}
use Rattle.ps_closing.specs.Closing.{AreWithin}
use Rattle.ps_closing.specs.Users.{Enters}
use Rattle.ps_closing.proofs.Entered.{first_all, first_more, first_none}
use Rattle.ps_closing.proofs.users.enter_rules.Goals as goal

pub loop-rule-init : goal.loop-rule-init
loop-rule-init c = first_none c.args.rules.now c.args.users.now c.requires.none

pub add_users-requires : goal.add_users-requires
add_users-requires c =
    let r = c.index-rules-rule.result in
    let fits = (c.requires.fits c.loop-rule.rule r c.loop-rule-test.true).needs in
    let P : List ℕ → Type 0 = λ l. AreWithin (length c.loop-rule.users) l in
    let Q : ℕ → Type 0 = λ n. AreWithin n (get_or c.args.rules.now c.loop-rule.rule r).needs.items in
    subst P (sym c.deref.ensures.value) (subst Q (sym c.loop-rule.auto.users) fits)

pub loop-rule-preserved : goal.loop-rule-preserved
loop-rule-preserved c =
    let rules = c.args.rules.now in
    let i = c.loop-rule.rule in
    let r = get_or rules i c.index-rules-rule.result in
    let at : slice_get rules i ≡ Some r = slice_get-get_or rules i c.index-rules-rule.result c.loop-rule-test.true in
    let P : List ℕ → Type 0 = λ l. Enters l i c.loop-rule.users c.add_users.new.users in
    first_more rules i r c.loop-rule.users c.add_users.new.users at c.loop-rule.invariant (subst P c.deref.ensures.value c.in_ok-add_users.ensures)

pub returns : goal.returns
returns c = first_all c.args.rules.now c.loop-rule.rule c.loop-rule.users (omega (arith, c.loop-rule-test.false, c.loop-rule.auto.rule-end)) c.loop-rule.invariant

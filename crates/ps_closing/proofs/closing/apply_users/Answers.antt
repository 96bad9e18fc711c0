use Rattle.std.proofs.Common.{◌≡◌, ℕ, ◌+◌, ◌<◌, ◌∷◌, ◌++◌, [], List, Some, Contains, length, slice_get, take, get_or, ap, sym, ◌∙◌, subst, arith}
use Rattle.std.proofs.lemmas.List.{take_more, take_all}
use Rattle.std.proofs.lemmas.Option.{slice_get-get_or}
use Rattle.ps_closing.specs.declared.rule.Rule.{Rule}
use Rattle.ps_closing.specs.Closing.{FitsIn}
use Rattle.ps_closing.specs.Users.{AreUsersSeen}
use Rattle.ps_closing.proofs.Growing.{grows_on, grows_one}
use Rattle.ps_closing.proofs.Seen.{queues_on, user_one}
use Rattle.ps_closing.proofs.closing.apply_users.Goals as goal

pub apply-requires : goal.apply-requires
apply-requires c =
    let u = get_or c.args.users.now c.loop-user.user-index 0 in
    let r = c.index-rules-user.result in
    let P : Rule → Type 0 = λ q. FitsIn (length c.loop-user.flags) q in
    let Q : ℕ → Type 0 = λ n. FitsIn n (get_or c.args.rules.now u r) in
    subst P (sym c.index-rules-user.is) (subst Q (sym c.loop-user.invariant.grows.wide) (c.requires.fits u r (c.requires.within c.loop-user.user-index 0 c.loop-user-test.true)))

pub loop-user-preserved : goal.loop-user-preserved
loop-user-preserved c =
    let out = c.args.out in
    let rules = c.args.rules.now in
    let users = c.args.users.now in
    let i = c.loop-user.user-index in
    let u = get_or users i 0 in
    let r = c.index-rules-user.result in
    let y = c.loop-user.flags in
    let z = c.apply.new.flags in
    let old = c.loop-user.queue.items in
    let new = c.apply.new.queue.items in
    let s = c.in_ok-apply.ensures in
    let v = c.loop-user.invariant in
    let within : u < length rules = c.requires.within i 0 c.loop-user-test.true in
    let at : slice_get rules u ≡ Some r = slice_get-get_or rules u r within ∙ ap Some (sym c.index-rules-user.is) in
    let more : take (i + 1) users ≡ take i users ++ u ∷ [] = take_more users i 0 c.loop-user-test.true in
    let there : Contains rules r = (u, within, sym c.index-rules-user.is) in
    let R : List ℕ → Type 0 = λ us. AreUsersSeen out rules us z new in
    record {
      seen = subst R (sym more) (user_one out rules (take i users) u r y z old new s.queues v.seen at s.seen);
      grows = grows_on out rules c.args.flags.now y z v.grows (grows_one out rules r y z there s.grows);
      queues = queues_on c.args.flags.now y z c.args.queue.now.items old new v.queues s.queues;
    }

pub returns-clause-seen : goal.returns-clause-seen
returns-clause-seen c =
    let R : List ℕ → Type 0 = λ us. AreUsersSeen c.args.out c.args.rules.now us c.loop-user.flags c.loop-user.queue.items in
    subst R (take_all c.loop-user.user-index c.args.users.now (omega (arith, c.loop-user-test.false))) c.loop-user.invariant.seen

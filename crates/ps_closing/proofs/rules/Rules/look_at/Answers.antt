use Rattle.std.proofs.Common.{◌≡◌, ℕ, ◌<◌, List, Some, Contains, length, slice_get, get_or, sym, subst}
use Rattle.std.proofs.lemmas.List.Elements.{Contains-get_or}
use Rattle.ps_closing.specs.declared.rule.Rule.{Rule}
use Rattle.ps_closing.specs.Users.{AreUsers}
use Rattle.ps_closing.proofs.Seen.{none_looked, queues_none, seen_without, some_looked, users_at}
use Rattle.ps_closing.proofs.rules.Rules.look_at.Goals as goal

pub apply_users-requires-clause-within : goal.apply_users-requires-clause-within
apply_users-requires-clause-within c = λ k d l.
    let us = c.self.inside.users.items in
    let v = c.in-Some.users.now in
    let found = c.in-Some.ensures.lookup in
    let at : slice_get us c.args.place ≡ Some v = users_at us c.deref.result.now c.args.place v c.deref.ensures.value found.3.0 found.1 in
    let items = c.deref-in-Some.result.now in
    let one = get_or items k d in
    let P : List ℕ → Type 0 = λ xs. Contains xs one in
    let there : Contains v.items one = subst P c.deref-in-Some.ensures.value (Contains-get_or items k d l) in
    let Q : List Rule → Type 0 = λ rs. one < length rs in
    subst Q (sym c.as_slice.ensures) (subst Q c.self.view_is (c.self.invariant.within c.args.place one (v, at, there)))

pub returns-in_ok-apply_users-in-Some-clause-seen : goal.returns-in_ok-apply_users-in-Some-clause-seen
returns-in_ok-apply_users-in-Some-clause-seen c =
    let out = c.args.out in
    let us = c.self.inside.users.items in
    let v = c.in-Some.users.now in
    let found = c.in-Some.ensures.lookup in
    let at : slice_get us c.args.place ≡ Some v = users_at us c.deref.result.now c.args.place v c.deref.ensures.value found.3.0 found.1 in
    let old = c.args.flags.now in
    let new = c.apply_users.new.flags in
    let after = c.apply_users.new.queue.items in
    let s = c.in_ok-apply_users-in-Some.ensures in
    let P : List Rule → Type 0 = λ rs. AreUsers rs us in
    seen_without out old new c.args.queue.now.items after s.queues c.args.self.now us c.args.place (subst P c.self.view_is c.self.invariant) c.requires.seen
    (some_looked out c.args.self.now c.as_slice.result.now us c.args.place v c.deref-in-Some.result.now new after at c.deref-in-Some.ensures.value c.as_slice.ensures s.seen)

pub returns-in-None-clause-seen : goal.returns-in-None-clause-seen
returns-in-None-clause-seen c =
    let us = c.self.inside.users.items in
    let flags = c.args.flags.now in
    let queue = c.args.queue.now.items in
    let P : List Rule → Type 0 = λ rs. AreUsers rs us in
    seen_without c.args.out flags flags queue queue (queues_none flags queue) c.args.self.now us c.args.place (subst P c.self.view_is c.self.invariant) c.requires.seen
    (none_looked c.args.out c.args.self.now us c.deref.result.now c.args.place flags queue c.deref.ensures.value c.in-None.ensures.lookup.3)

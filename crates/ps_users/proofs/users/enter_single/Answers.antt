use Rattle.std.proofs.Common.{ap, sym, ◌∙◌, Result, Ok, Err, OnErr}
use Rattle.std.specs.BTreeMap.{insert_entry, is_at}
use Rattle.std.specs.Map.{set_value}
use Rattle.std.specs.Option.{option_copied_mut}
use Rattle.ps_users.specs.contracts.single.SingleOrd.TheImpl.{cmp-value}
use Rattle.ps_users.proofs.Found.{entered_first, entered_more, written_again}
use Rattle.ps_users.proofs.users.enter_single.Goals as goal

pub returns-in-Some-clause-ok : goal.returns-in-Some-clause-ok
returns-in-Some-clause-ok c =
    let written = c.get_mut.follows.holds c.put.new.self in
    entered_more c.args.thing c.args.act c.args.singles.now.entries (c.get_mut.follows.lender c.put.new.self).entries c.in-Some.places.now c.put.new.self
    (sym c.in-Some.ensures.value) c.in_ok-put.ensures.ok written.0

pub returns-clause-ok : goal.returns-clause-ok
returns-clause-ok c =
    let none = sym c.get_mut.ensures.value ∙ ap option_copied_mut c.in_default.is in
    let same = ap (λ m. m.entries) c.get_mut.follows.holds-at-none in
    entered_first c.args.thing c.args.act c.args.singles.now.entries c.insert.new.self.entries c.in_ok-of.field-0 none c.in_ok-of.ensures
    (c.in_ok-insert.ensures.entries ∙ ap (λ es. insert_entry cmp-value.it es c.args.thing c.in_ok-of.field-0) same)

any_err : {A E : Type 0} (r : Result A E) (P : Type 0) → P → OnErr r P
any_err (Ok a) P h = tt
any_err (Err e) P h = h

pub returns-in_err-put-clause-err : goal.returns-in_err-put-clause-err
returns-in_err-put-clause-err c =
    let written = c.get_mut.follows.holds c.put.new.self in
    any_err c.from_residual.result _ (written_again c.args.thing c.args.singles.now.entries (c.get_mut.follows.lender c.put.new.self).entries c.in-Some.places.now
    (sym c.in-Some.ensures.value) (written.0 ∙ ap (λ l. set_value (is_at (cmp-value.it c.args.thing)) c.args.singles.now.entries l) c.in_err-put.ensures.err))

use Rattle.std.proofs.Common.{◌≡◌, ◌∷◌, [], Result, Ok, Err, OnOk, OnErr, sym, ◌∙◌, subst}
use Rattle.ps_users.specs.Singles.{singles_of, touched_of, wide_of}
use Rattle.ps_users.specs.Users.{Enters}
use Rattle.ps_users.proofs.Noted.{entered_front, same_front, single_told}
use Rattle.ps_users.proofs.users.Users.enter.Goals as goal

ok_so : {A E : Type 0} (r : Result A E) (P Q : Type 0) → (P → Q) → OnOk r P → OnOk r Q
ok_so (Ok a) P Q so h = so h
ok_so (Err e) P Q so h = tt

err_so : {A E : Type 0} (r : Result A E) (P Q : Type 0) → (P → Q) → OnErr r P → OnErr r Q
err_so (Ok a) P Q so h = tt
err_so (Err e) P Q so h = so h

pub returns-in-Some-clause-ok : goal.returns-in-Some-clause-ok
returns-in-Some-clause-ok c =
    let old = singles_of c.self.inside.singles.entries in
    let new = singles_of c.enter_single.new.singles.entries in
    let wide = wide_of c.self.inside.wide.items in
    let told : touched_of c.in-Some.thing ≡ c.args.touched = single_told c.args.touched c.in-Some.thing (sym c.of.ensures ∙ c.in-Some.is) in
    rw (← c.self.view_is)
    (ok_so c.enter_single.result _ _
    (λ h. entered_front old new wide (c.args.touched ∷ []) c.args.act (subst (λ t. Enters old (t ∷ []) c.args.act new) told h)) c.enter_single.ensures.ok)

pub returns-in-Some-clause-err : goal.returns-in-Some-clause-err
returns-in-Some-clause-err c =
    let old = singles_of c.self.inside.singles.entries in
    let new = singles_of c.enter_single.new.singles.entries in
    rw (← c.self.view_is) (err_so c.enter_single.result _ _ (same_front old new (wide_of c.self.inside.wide.items)) c.enter_single.ensures.err)

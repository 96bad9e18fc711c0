use Rattle.std.proofs.Common.{ℕ, List, take, sym, subst}
use Rattle.std.proofs.lemmas.List.{take_more}
use Rattle.ps_closing.specs.Users.{Enters}
use Rattle.ps_closing.proofs.Entered.{enters_more}
use Rattle.ps_closing.proofs.users.add_users.Goals as goal

pub loop-place-preserved : goal.loop-place-preserved
loop-place-preserved c =
    let i = c.loop-place in
    let new = c.add_user.new.users in
    let P : List ℕ → Type 0 = λ ps. Enters ps c.args.rule c.args.users.now new in
    subst P (sym (take_more c.args.places.now i.place-index _ c.loop-place-test.true)) (enters_more (take i.place-index c.args.places.now) _ c.args.rule c.args.users.now i.users new i.invariant c.in_ok-add_user.ensures)

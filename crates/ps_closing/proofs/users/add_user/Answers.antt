use Rattle.std.proofs.Common.{get_or}
use Rattle.std.proofs.lemmas.Option.{slice_get-get_or}
use Rattle.ps_closing.proofs.Entered.{enters_one}
use Rattle.ps_closing.proofs.users.add_user.Goals as goal

pub returns : goal.returns
returns c =
    let us = c.args.users.now in
    let u = get_or us c.args.place c.index-users-place.result in
    enters_one us c.args.place c.args.rule u c.push.new.self (slice_get-get_or us c.args.place c.index-users-place.result c.requires) c.in_ok-push.ensures.items

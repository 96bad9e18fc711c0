use Rattle.std.proofs.Common.{sym, ◌∙◌}
use Rattle.ps_users.proofs.Noted.{all_marked}
use Rattle.ps_users.proofs.users.Users.mark_all.Goals as goal

pub returns-then-are_set : goal.returns-then-are_set
returns-then-are_set c =
    all_marked c.args.self.now c.args.touched.now c.loop-one.one-index c.args.flags.now c.loop-one.flags (sym c.are_set.ensures ∙ c.if-are_set.true) c.loop-one.invariant

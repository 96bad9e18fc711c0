use Rattle.ps_closing.proofs.Seen.{queues_set}
use Rattle.ps_closing.proofs.closing.set.Goals as goal

pub returns-clause-queues : goal.returns-clause-queues
returns-clause-queues c = queues_set c.args.flags.now c.args.place c.args.queue.now.items c.push.new.self.items c.requires c.if-flags-place.false c.in_ok-push.ensures.items

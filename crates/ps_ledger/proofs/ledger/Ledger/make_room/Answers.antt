use Rattle.ps_ledger.proofs.ledger.Ledger.make_room.Goals as goal

pub returns-clause-spare : goal.returns-clause-spare
returns-clause-spare c = λ n h. c.reserve.ensures.spare n (record { requests = h.requests; work = h.work; answers = h.answers; offers = h.offers })

use Rattle.std.proofs.Common.{refl, arith}
use Rattle.ps_board.specs.declared.whole.Parts.{Parts}
use Rattle.ps_board.proofs.Ready.{grown-by, stands-grown, stands-roomy}
use Rattle.ps_board.proofs.whole.Parts.reserve.Goals as goal

pub returns-in_err-reserve-clause-stands : goal.returns-in_err-reserve-clause-stands
returns-in_err-reserve-clause-stands c =
    let old : Parts = c.args.self.now in
    stands-grown old _ c.requires (grown-by old c.reserve.new.self old.entries old.spare refl (omega arith) c.reserve.ensures.kept c.reserve.ensures.spare) refl

pub returns-in_err-reserve-2-clause-stands : goal.returns-in_err-reserve-2-clause-stands
returns-in_err-reserve-2-clause-stands c =
    let old : Parts = c.args.self.now in
    stands-grown old _ c.requires
    (grown-by old c.reserve.new.self c.reserve-then-self-n.new.entries old.spare c.reserve-then-self-n.ensures.items c.reserve-then-self-n.ensures.capacity c.reserve.ensures.kept c.reserve.ensures.spare) refl

pub returns-in_ok-reserve-2-clause-grown : goal.returns-in_ok-reserve-2-clause-grown
returns-in_ok-reserve-2-clause-grown c =
    grown-by c.args.self.now c.reserve.new.self c.reserve-then-self-n.new.entries c.args.n c.reserve-then-self-n.ensures.items c.reserve-then-self-n.ensures.capacity c.reserve.ensures.kept c.reserve.ensures.spare

pub returns-in_ok-reserve-2-clause-stands : goal.returns-in_ok-reserve-2-clause-stands
returns-in_ok-reserve-2-clause-stands c =
    stands-roomy c.args.self.now _ c.requires (returns-in_ok-reserve-2-clause-grown c) (record { entries = c.in_ok-reserve-2.ensures.room; ledger = c.in_ok-reserve.ensures.ok })

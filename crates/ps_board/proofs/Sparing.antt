-- What is spare, and what of it is spent.
use Rattle.std.proofs.Common.{◌≡◌, ℕ, ◌+◌, ◌-◌, ◌≤◌, length, ap, arith}
use Rattle.std.specs.Vec.{vec_capacity}
use Rattle.ps_ledger.specs.Ledger as ledger
use Rattle.ps_ledger.specs.declared.ledger.Ledger.{Ledger}
use Rattle.ps_board.specs.Parts.{HasSpare, Spends}
use Rattle.ps_board.specs.declared.whole.Parts.{Parts}

-- where so many are spare, fewer are
pub fewer-spare : (m n : ℕ) (l : Ledger) → n ≤ m → ledger.HasSpare m l → ledger.HasSpare n l
fewer-spare m n l le h =
    let requests = h.requests in
    let work = h.work in
    let answers = h.answers in
    let offers = h.offers in
    record { requests = omega (arith, le, requests); work = omega (arith, le, work); answers = omega (arith, le, answers); offers = omega (arith, le, offers) }

-- what a block leaves spare
pub spare-left : (old new : Parts) → HasSpare old.spare old → Spends old new → length old.entries.items + 1 ≤ length new.entries.items → length new.entries.items ≤ vec_capacity old.entries
    → vec_capacity old.entries ≤ vec_capacity new.entries → ledger.HasSpare (old.spare - 1) new.state.ledger → HasSpare new.spare new
spare-left old new h spends some fits grows left =
    let room = h.entries in
    record {
      entries = omega (arith, spends, some, fits, grows, room);
      ledger = fewer-spare (old.spare - 1) new.spare new.state.ledger (omega (arith, spends, some)) left;
    }

-- where no entry was appended nothing is spent
pub spent-still : (old new : Parts) → new.entries.items ≡ old.entries.items → new.spare ≡ old.spare → Spends old new
spent-still old new entries spare = let same = ap length entries in omega (arith, same, spare)

-- nothing was spent before, and nothing after
pub spent-from : (old mid new : Parts) → mid.entries.items ≡ old.entries.items → mid.spare ≡ old.spare → Spends mid new → Spends old new
spent-from old mid new entries spare spends = let same = ap length entries in omega (arith, same, spare, spends)

pub spent-shown : (old mid new : Parts) → Spends old mid → new.entries.items ≡ mid.entries.items → new.spare ≡ mid.spare → Spends old new
spent-shown old mid new spends entries spare = let same = ap length entries in omega (arith, same, spare, spends)

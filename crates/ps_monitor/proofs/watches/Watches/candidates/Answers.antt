use Rattle.std.proofs.Common.{◌≡◌, ◌≢◌, ◌<◌, ℕ, nat_eq, Bool, true, false, List, length, slice_set, ap, ◌∙◌, slice_index_or, refl, arith}
use Rattle.std.specs.List.{list_any}
use Rattle.std.proofs.lemmas.Bool.Decides.{nat_tests}
use Rattle.std.proofs.lemmas.Bool.{or_right}
use Rattle.std.proofs.lemmas.Grind.{common_steps}
use Rattle.ps_users.specs.Users.{uses}
use Rattle.ps_monitor.specs.Hits.{is_hit}
use Rattle.ps_monitor.specs.Indexed.{watch_at}
use Rattle.ps_monitor.proofs.Hitting.{hit_found}
use Rattle.ps_monitor.proofs.watches.Watches.candidates.Goals as goal

-- the first flag is set, and each other one stays
first_set : (flags : List Bool) (act : ℕ) → 0 < length flags → (b : Bool) → nat_eq act 0 ≡ b → (act ≢ 0 → slice_index_or flags act false ≡ true)
    → slice_index_or (slice_set flags 0 true) act false ≡ true
first_set flags act some true e others =
    let first : act ≡ 0 = grind (arith, nat_tests, e) in
    grind (arith, common_steps, first, some)
first_set flags act some false e others =
    let away : act ≢ 0 = grind (arith, nat_tests, e) in
    let same : slice_index_or (slice_set flags 0 true) act false ≡ slice_index_or flags act false = grind (arith, common_steps, away) in
    same ∙ others away

pub returns-clause-all : goal.returns-clause-all
returns-clause-all c =
    λ act below hit.
    let w = c.self.inside in
    let is_hit_here : is_hit c.args.changed.now (watch_at w.places.items act) ≡ true = ap (λ ws. is_hit c.args.changed.now (watch_at ws act)) c.self.view_is ∙ hit in
    let other : act ≢ 0 → slice_index_or c.mark_all.new.flags act false ≡ true =
    λ away. c.mark_all.ensures.1 act (omega (arith, below, c.none-acts.type_inv))
    ∙ or_right (slice_index_or c.none-acts.result.marks act false) (list_any (λ t. uses w.readers t act) c.args.changed.now) (hit_found w.places.items w.readers c.args.changed.now act c.self.invariant away is_hit_here) in
    ap (λ flags. slice_index_or flags act false) c.add.ensures
    ∙ first_set c.mark_all.new.flags act (omega (arith, c.mark_all.ensures.0, c.none-acts.type_inv)) (nat_eq act 0) refl other

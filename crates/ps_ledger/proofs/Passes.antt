-- Why a performer passes a request.
use Rattle.std.proofs.Common.{◌≡◌, ℕ, Bool, List, ap, sym, ◌∙◌}
use Rattle.ps_world.specs.declared.names.Name.{Name}
use Rattle.ps_machine.specs.declared.members.Performer.{Performer}
use Rattle.ps_machine.specs.declared.journal.Entry.{Entry}
use Rattle.ps_rules.specs.Auctions.{is_engaged, is_open}
use Rattle.ps_rules.specs.Legal.{pass_reason}
use Rattle.ps_rules.specs.Members.{matches_request}
use Rattle.ps_ledger.specs.Ledger.{pass_where}

-- the reason is that of what is told
pub reason : (es : List Entry) (p : Performer) (r : ℕ) (by : Name) (o m b : Bool) → o ≡ is_open r es → m ≡ matches_request p r es → b ≡ is_engaged by es → p.name ≡ by
    → pass_where o m b ≡ pass_reason p r es
reason es p r by o m b opens matches engages named =
    ap (λ x. pass_where x m b) opens
    ∙ ap (λ x. pass_where (is_open r es) x b) matches
    ∙ ap (λ x. pass_where (is_open r es) (matches_request p r es) x) (engages ∙ ap (λ n. is_engaged n es) (sym named))

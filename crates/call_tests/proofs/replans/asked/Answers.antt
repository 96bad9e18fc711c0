use Rattle.std.proofs.Common.{◌≡◌, take, ap, sym, ◌∙◌, subst}
use Rattle.ps_rules.specs.Known.{know}
use Rattle.ps_stale_plan_laws.specs.Asked.{WasAsked}
use Rattle.ps_board.specs.Board.{with_done}
use Rattle.ps_board.specs.declared.board.Shown.{Shown}
use Rattle.ps_board.proofs.Asking.{wants-asked}
use Rattle.call_tests.proofs.replans.asked.Goals as goal

pub returns-in-WantsPlan-clause-asked : goal.returns-in-WantsPlan-clause-asked
returns-in-WantsPlan-clause-asked c =
    let old : Shown = c.args.board.now in
    let new : Shown = c.tick.new.self in
    let at = c.in-WantsPlan.snapshot.at in
    let w = wants-asked old c.in-WantsPlan.snapshot (sym c.in_ok-snapshot.ensures.answer ∙ c.in-WantsPlan.is) in
    let same : new.entries ≡ old.entries = ap (λ (b : Shown). b.entries) c.in_ok-snapshot.ensures.did ∙ ap (with_done old 1) w.0 in
    subst (λ i. WasAsked i new.entries at) (sym (ap (λ (b : Shown). b.input) c.in_ok-snapshot.ensures.did)) (subst (λ es. WasAsked old.input es at) (sym same) w.1)

pub returns-in-WantsPlan-clause-known : goal.returns-in-WantsPlan-clause-known
returns-in-WantsPlan-clause-known c =
    let old : Shown = c.args.board.now in
    let new : Shown = c.tick.new.self in
    let at = c.in-WantsPlan.snapshot.at in
    let w = wants-asked old c.in-WantsPlan.snapshot (sym c.in_ok-snapshot.ensures.answer ∙ c.in-WantsPlan.is) in
    let same : new.entries ≡ old.entries = ap (λ (b : Shown). b.entries) c.in_ok-snapshot.ensures.did ∙ ap (with_done old 1) w.0 in
    w.2 ∙ sym (ap (λ i. know i (take at new.entries)) (ap (λ (b : Shown). b.input) c.in_ok-snapshot.ensures.did) ∙ ap (λ es. know old.input (take at es)) same)

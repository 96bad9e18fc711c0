use Rattle.std.proofs.Common.{◌≡◌, ℕ, false, None, length, replicate, refl, rules, arith, ap, sym, subst, ◌∙◌}
use Rattle.ps_rules.specs.Members.{performers}
use Rattle.ps_board.specs.declared.whole.Parts.{Parts}
use Rattle.ps_board.specs.Kept.{IsKept}
use Rattle.ps_board.proofs.Keeping.{kept-open, mapped-length}
use Rattle.ps_board.proofs.Ready.{stands-open}
use Rattle.ps_board.proofs.board.Board.open.Goals as goal

pub show-requires : goal.show-requires
show-requires c =
    let parts : Parts = record { input = c.args.input; entries = c.new-2.result; state = c.in_ok-state.state; monitor = c.new-3.result; spare = 0 } in
    stands-open parts c.requires c.new-2.ensures.items c.in_ok-state.ensures c.new-3.ensures refl

pub invariant_of-result : goal.invariant_of-result
invariant_of-result c =
    let parts : Parts = c.show.new.self in
    let n : ℕ = c.len-performers.result in
    let gs : c.in_ok-grants.grants.items ≡ replicate n None = search rules in
    let hs : c.in_ok-heard.heard.items ≡ replicate n 0 = search rules in
    let named : n ≡ length c.in_ok-state.state.ledger.performers.names.items = search (rules, arith) in
    let many : n ≡ length (performers parts.input) =
    named ∙ ap length c.in_ok-state.ensures.members.performers ∙ mapped-length (λ p. p.name) (performers c.args.input) ∙ ap (λ i. length (performers i)) (sym c.show.ensures.input) in
    subst (λ k. IsKept k c.in_ok-grants.grants.items c.in_ok-heard.heard.items false) (sym c.in_ok-parts.ensures.ok)
    (subst (λ xs. IsKept parts xs c.in_ok-heard.heard.items false) (sym gs)
    (subst (λ xs. IsKept parts (replicate n None) xs false) (sym hs) (kept-open parts n many c.show.ensures.stands c.show.ensures.shown)))

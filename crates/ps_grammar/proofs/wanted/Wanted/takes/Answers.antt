use Rattle.std.proofs.Common.{◌≡◌, ◌≤◌, ◌+◌, ◌∙◌, Some, true, false, slice_get, subst, sym, List}
use Rattle.ps_grammar.specs.declared.symbols.Symbol.{Symbol}
use Rattle.ps_grammar.specs.Symbols.{level}
use Rattle.ps_grammar.specs.Shape.{next_wanted}
use Rattle.ps_grammar.proofs.Turning.{some_wanted, turned_few, turned_passes, turned_rises}
use Rattle.ps_grammar.proofs.wanted.Wanted.takes.Goals as goal

pub turn-requires : goal.turn-requires
turn-requires c =
    let here : slice_get c.is_over.new.self 0 ≡ Some c.in-Some.first = sym c.first.ensures ∙ c.in-Some.is in
    record { some = some_wanted _ _ here; few = turned_few _ _ _ here c.turn_of.ensures.few }

pub returns-in_ok-turn-in_default-turn_of : goal.returns-in_ok-turn-in_default-turn_of
returns-in_ok-turn-in_default-turn_of c =
    let here : slice_get c.is_over.new.self 0 ≡ Some c.in-Some.first = sym c.first.ensures ∙ c.in-Some.is in
    let known = c.in_default-turn_of.not-ByRule in
    let after = c.in_ok-turn-in_default-turn_of.ensures in
    let passed = turned_passes _ _ _ _ c.args.mark here known c.turn_of.ensures.turned after in
    let risen = turned_rises _ _ _ _ here known c.turn_of.ensures.few after in
    record {
      passes = λ _. (subst (λ (st : List Symbol). next_wanted st c.args.mark ≡ Some c.turn.new.self) c.is_over.ensures.kept passed, λ over. let untrue : false ≡ true = c.if-is_over.ensures.over.1 over in absurd (cc));
      rises = λ _. subst (λ (st : List Symbol). level c.turn.new.self ≤ level st + 1) c.is_over.ensures.kept risen;
      stops = λ e. absurd (cc);
      kept = λ e. absurd (cc);
    }

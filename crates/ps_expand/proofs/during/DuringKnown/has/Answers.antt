use Rattle.std.proofs.Common.{not, ◌&&◌, ◌||◌, sym, ◌∙◌}
use Rattle.std.specs.List.{list_any}
use Rattle.ps_action.specs.Effects.{deletes}
use Rattle.ps_problem.proofs.PutFacts.{known}
use Rattle.ps_expand.proofs.Known.{known_made}
use Rattle.ps_expand.proofs.during.DuringKnown.has.Goals as goal

pub returns-then-are_adding : goal.returns-then-are_adding
returns-then-are_adding c =
    let w = c.args.self.now in
    let f = c.args.fact.now in
    let facts = w.before.now.facts in
    let es = w.effects.now in
    c.if-are_adding.true
    ∙ sym (known_made f facts es ∙ (λ i. (sym c.are_adding.ensures ∙ c.if-are_adding.true) i || (known f facts && not (list_any (deletes f) es))))

pub returns-then-has : goal.returns-then-has
returns-then-has c =
    let w = c.args.self.now in
    let f = c.args.fact.now in
    sym (known_made f w.before.now.facts w.effects.now ∙ (λ i. (sym c.are_adding.ensures ∙ c.if-are_adding.false) i || ((sym c.has.ensures.known ∙ c.if-has.true) i && not (sym c.are_deleting.ensures i))))

pub returns-else-has : goal.returns-else-has
returns-else-has c =
    let w = c.args.self.now in
    let f = c.args.fact.now in
    c.if-has.false
    ∙ sym (known_made f w.before.now.facts w.effects.now ∙ (λ i. (sym c.are_adding.ensures ∙ c.if-are_adding.false) i || ((sym c.has.ensures.known ∙ c.if-has.false) i && not (list_any (deletes f) w.effects.now))))

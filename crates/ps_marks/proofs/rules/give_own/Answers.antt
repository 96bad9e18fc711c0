use Rattle.std.proofs.Common.{[], ◌∷◌, ℕ, List, sym, ◌∙◌, subst}
use Rattle.ps_marks.specs.Rules.{TakesPlaces}
use Rattle.ps_marks.proofs.Placed.{takes_nowhere, takes_one}
use Rattle.ps_marks.proofs.rules.give_own.Goals as goal

pub returns-in_ok-push : goal.returns-in_ok-push
returns-in_ok-push c =
    let atoms = c.args.places.now in
    let f = c.args.fact.now in
    let first = c.args.gives.now.items in
    let P : List ℕ → Type 0 = λ l. TakesPlaces atoms (f ∷ []) first l in
    subst P (sym c.in_ok-push.ensures.items) (takes_one atoms c.as_slice-facts.ensures.once f c.in-Some.place first (sym c.place_of.ensures ∙ c.in-Some.is))

pub returns-in_default : goal.returns-in_default
returns-in_default c = takes_nowhere c.args.places.now c.as_slice-facts.ensures.once c.args.fact.now c.args.gives.now.items (sym c.place_of.ensures ∙ c.in_default.is)

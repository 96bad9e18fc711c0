use Rattle.std.proofs.Common.{◌≡◌, All, List, [], ◌∷◌, Option, length, refl, sym, subst, rules}
use Rattle.std.specs.Map.{lookup}
use Rattle.ps_world.specs.declared.facts.Fact.{Fact}
use Rattle.ps_world.specs.declared.known.Knowledge.{Knowledge}
use Rattle.ps_world.specs.declared.numbers.Num.{Num}
use Rattle.ps_world.specs.Knowledge.{same_fact}
use Rattle.ps_problem.proofs.problem.Problem.is_as_before.Goals as goal

-- a list of no length has nothing
none : (X : Type 0) (xs : List X) → length xs ≡ 0 → xs ≡ []
none X [] e = refl
none X (x ∷ xs) e = absurd (cc)

-- each of these terms has the value that it held
abbrev Held : Knowledge → List (Fact × Option Num) → Type 0
Held k held = All (λ h. lookup (same_fact h.0) k.values ≡ h.1) held

moved : (k k' : Knowledge) (hs hs' : List (Fact × Option Num)) → k ≡ k' → hs ≡ hs' → Held k' hs' → Held k hs
moved k k' hs hs' same list held = subst (λ x. Held x hs) (sym same) (subst (λ xs. Held k' xs) (sym list) held)

pub returns : goal.returns
returns c = (λ t. (none _ _ (search rules), none _ _ (search rules), search rules), λ p. c.are_held.ensures.1 (moved _ _ _ _ c.self.view_is c.deref.ensures.value p.2))

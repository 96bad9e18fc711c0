-- Acts that lead nowhere, and lists without some of them.
use Rattle.std.specs.Prelude.{◌≡◌, ℕ, Ok, None, ◌⊎◌, List, [], ◌∷◌, ◌++◌, length}
use Rattle.ps_world.specs.declared.domains.Domain.{Domain}
use Rattle.ps_world.specs.declared.facts.Fact.{Fact}
use Rattle.ps_world.specs.declared.known.Knowledge.{Knowledge}
use Rattle.ps_world.specs.declared.names.Name.{Name}
use Rattle.ps_action.specs.Grounding.{ground_act}
use Rattle.ps_action.specs.declared.acts.Act.{Act}
use Rattle.ps_action.specs.declared.acts.GroundAction.{GroundAction}
use Rattle.ps_ground.specs.Fixed.{AreFixed}
use Rattle.ps_ground.specs.Atoms.{AreAtoms, IsOver, adds}
use Rattle.ps_ground.specs.States.{State, stepped}

-- an act whose ground action, if it has one, leads nowhere from any state over facts among which no others of these predicates are
abbrev pub IsUseless : Domain → List Name → List Fact → Act → Type 0
IsUseless d heads fixed act = (k : Knowledge) (g : GroundAction) (facts : List Fact) → ground_act d k.instances act ≡ Ok g → AreFixed heads fixed facts → AreAtoms facts (adds d k g) → (s : State) → IsOver facts s → stepped d k s g ≡ None

-- so is each act of an action with these last arguments, whatever the so many before them
abbrev pub IsUselessFrom : Domain → List Name → List Fact → Name → ℕ → List Name → Type 0
IsUselessFrom d heads fixed name n tail = (first : List Name) → length first ≡ n → IsUseless d heads fixed (record { action = name; args = first ++ tail })

-- the first list is the second without some items, of each of which this is so
abbrev pub IsThinned : {A : Type 0} → (A → Type 0) → List A → List A → Type 0
IsThinned P ks [] = ks ≡ []
IsThinned P [] (x ∷ xs) = P x × IsThinned P [] xs
IsThinned P (k ∷ ks) (x ∷ xs) = ((k ≡ x) × IsThinned P ks xs) ⊎ (P x × IsThinned P (k ∷ ks) xs)

-- items that are still to come, thinned, after those that are done make the whole, thinned
abbrev pub GoesOn : {A : Type 0} → (A → Type 0) → List A → List A → List A → Type 0
GoesOn {A} P left whole done = (ks : List A) → IsThinned P ks left → IsThinned P (done ++ ks) whole

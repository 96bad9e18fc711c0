-- That each level has what it should, and that no plan is good where none is told.
use Rattle.std.specs.Prelude.{◌≡◌, ℕ, suc, false, ◌↔◌, Ok, is_ok, List, Contains, AllPairs}
use Rattle.ps_world.specs.Names.{same_name}
use Rattle.ps_world.specs.declared.domains.Domain.{Domain}
use Rattle.ps_world.specs.declared.known.Knowledge.{Knowledge}
use Rattle.ps_action.specs.declared.acts.Act.{Act}
use Rattle.ps_action.specs.declared.answers.Answer.TheVariants.{NoPlan}
use Rattle.ps_action.specs.Plans.{judged, step}
use Rattle.ps_action.specs.Search.{answer, level, possible_acts, reach}

-- one step by a possible act leads here from a knowledge of the list
abbrev pub IsNext : Domain → Knowledge → List Knowledge → Knowledge → Type 0
IsNext d k from l = (m : Knowledge) × (act : Act) × Contains from m × Contains (possible_acts d k) act × (step d m 0 act ≡ Ok l)

-- a knowledge is in the next level where one step leads there from this level, and no fewer steps do
abbrev pub LevelsGoOn : Type 0
LevelsGoOn =
    (d : Domain) (k : Knowledge) (n : ℕ) (l : Knowledge)
    → Contains (level d k (suc n)) l ↔ (IsNext d k (level d k n) l × (¬ (Contains (reach d k n) l)))

-- where it is answered that no plan is good, none is, however long, as long as no action and no instance stands twice
abbrev pub NoPlanIsNone : Type 0
NoPlanIsNone =
    (d : Domain) (k : Knowledge) (budget : ℕ) → AllPairs (λ a b. same_name a.name b.name ≡ false) d.actions
    → AllPairs (λ i j. same_name i.0 j.0 ≡ false) k.instances → answer d k budget ≡ NoPlan → (acts : List Act) → is_ok (judged d k acts) ≡ false

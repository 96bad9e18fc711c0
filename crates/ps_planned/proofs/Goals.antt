-- What is told with a goal and without one.
use Rattle.std.proofs.Common.{◌≡◌, ℕ, List, Option, None, Some, true, false, is_none, codes, refl}
use Rattle.ps_world.specs.Names.{Table}
use Rattle.ps_world.specs.declared.conditions.Cond.{Cond}
use Rattle.ps_world.specs.declared.domains.Domain.{Domain}
use Rattle.ps_world.specs.declared.known.Knowledge.{Knowledge}
use Rattle.ps_planned.specs.Planned.{answers, best_told, line_of, plan_told, told_to}

goalless_to : (d : Domain) (k : Knowledge) (names : Table) (budget : ℕ) (o : Option Cond) → is_none o ≡ true → told_to d k names budget o ≡ (line_of (codes "no goal"), 1)
goalless_to d k names budget None lacks = refl
goalless_to d k names budget (Some goal) lacks = absurd (cc)

best_to : (d : Domain) (k : Knowledge) (names : Table) (budget : ℕ) (o : Option Cond) → is_none o ≡ false → told_to d k names budget o ≡ best_told d k names (answers d k budget)
best_to d k names budget None has = absurd (cc)
best_to d k names budget (Some goal) has = refl

-- without a goal no planner is asked
pub goalless : (d : Domain) (k : Knowledge) (names : Table) (budget : ℕ) → is_none k.goal ≡ true → plan_told d k names budget ≡ (line_of (codes "no goal"), 1)
unfolding plan_told
goalless d k names budget lacks = goalless_to d k names budget k.goal lacks

-- else the best of their answers is told
pub told_best : (d : Domain) (k : Knowledge) (names : Table) (budget : ℕ) → is_none k.goal ≡ false → plan_told d k names budget ≡ best_told d k names (answers d k budget)
unfolding plan_told
told_best d k names budget has = best_to d k names budget k.goal has

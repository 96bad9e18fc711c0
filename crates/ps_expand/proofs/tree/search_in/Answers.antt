use Rattle.std.proofs.Common.{◌≡◌, ℕ, ◌-◌, suc, IfOk, List, Result, Ok, Err, ap, arith}
use Rattle.ps_action.specs.declared.acts.Act.{Act}
use Rattle.ps_ground.specs.Moves.{Node}
use Rattle.ps_ground.specs.States.{State}
use Rattle.ps_levels.specs.Levels.{IsFrugal, IsGivenAt, Space}
use Rattle.ps_levels.specs.declared.searching.Found.{Found}
use Rattle.ps_expand.specs.Trees.{Held, IsCounted, path_of}
use Rattle.ps_expand.proofs.Trees.{known_is}
use Rattle.ps_expand.proofs.tree.search_in.Goals as goal

counted : {E : Type 0} (p : Space Node State) (budget before after expanded : ℕ) (r : Result (Found (List Act)) E) → suc after - expanded ≡ suc before - 0 → IfOk r (λ found. (depth : ℕ) × IsGivenAt p path_of depth found × IsFrugal p budget depth expanded) → IfOk r (λ found. IsCounted p budget before after found)
counted p budget before after expanded (Ok found) e h = record { depth = h.0; expanded = expanded; risen = omega (arith, e); given = h.1; frugal = h.2 }
counted p budget before after expanded (Err w) e h = tt

pub search-requires-clause-exact : goal.search-requires-clause-exact
search-requires-clause-exact g c = λ s t e. known_is c.args.tree.now.store.now.start.now s t e

pub returns-clause-same_reference : goal.returns-clause-same_reference
returns-clause-same_reference g c = ap (λ (h : Held). h.name) c.search.ensures.stays.held

pub returns-clause-domain : goal.returns-clause-domain
returns-clause-domain g c = ap (λ (h : Held). h.domain) c.search.ensures.stays.held

pub returns-clause-instances : goal.returns-clause-instances
returns-clause-instances g c = ap (λ (h : Held). h.instances) c.search.ensures.stays.held

pub returns-clause-goal : goal.returns-clause-goal
returns-clause-goal g c = ap (λ (h : Held). h.goal) c.search.ensures.stays.held

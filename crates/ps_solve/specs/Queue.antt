-- The states that a search keeps, in the order in which it reaches them, each with the places of the ground actions that lead to it.
use Rattle.std.specs.Prelude.{◌≡◌, ℕ, suc, ◌≤◌, nat_le, Bool, true, false, ◌||◌, ◌⊎◌, if◌then◌else◌, Some, None, option_map, List, [], ◌∷◌, ◌++◌, take, filter_map, length, map, slice_get}
use Rattle.std.specs.List.{cons_option, last_or}
use Rattle.ps_world.specs.declared.domains.Domain.{Domain}
use Rattle.ps_world.specs.declared.facts.Fact.{Fact}
use Rattle.ps_world.specs.declared.known.Knowledge.{Knowledge}
use Rattle.ps_action.specs.declared.acts.Act.{Act}
use Rattle.ps_ground.specs.Independence.{is_pruned}
use Rattle.ps_ground.specs.Moves.{Node}
use Rattle.ps_ground.specs.Prepared.{successor}
use Rattle.ps_ground.specs.States.{State}
use Rattle.ps_ground.specs.declared.prepared.Prepared.{Prepared}
use Rattle.ps_solve.specs.Nodes.{is_met, with_state}

-- a state, and the places of the ground actions that lead to it
pub record Lead : Type 0 where
  pub state : State
  pub places : List ℕ

abbrev pub states : List Lead → List State
states ls = map (λ l. l.state) ls

-- the acts of the ground actions at these places
abbrev pub acts_at : List Prepared → List ℕ → List Act
acts_at ps places = filter_map (λ i. option_map (λ p. p.act) (slice_get ps i)) places

-- the node of a lead
abbrev pub node_of : List Prepared → Lead → Node
node_of ps l = record { state = l.state; path = acts_at ps l.places }

-- where these ground actions, the first of which stands at this place, lead from a lead, in order
abbrev pub leads_from : Domain → Knowledge → List Fact → ℕ → List Prepared → Lead → List Lead
leads_from d k atoms i [] l = []
leads_from d k atoms i (p ∷ ps) l = cons_option (option_map (λ s. record { state = s; places = l.places ++ i ∷ [] }) (successor d k atoms l.state p)) (leads_from d k atoms (suc i) ps l)

-- these leads and one more, unless its state was met or so many are kept
abbrev pub with_lead : ℕ → List Lead → Lead → List Lead
with_lead most ls l = if nat_le most (length ls) || is_met (states ls) l.state then ls else ls ++ l ∷ []

-- ---- ground actions that needn't be tried

-- a ground action leads from one state to another
abbrev pub LeadsTo : Domain → Knowledge → List Fact → List Prepared → State → State → Type 0
LeadsTo d k atoms ps s t = (i : ℕ) × (b : Prepared) × (slice_get ps i ≡ Some b) × (successor d k atoms s b ≡ Some t)

-- each state to which a ground action leads that is pruned at a lead is one to which an earlier state leads
abbrev pub IsPruned : Domain → Knowledge → List Fact → List Prepared → List State → Lead → Type 0
IsPruned d k atoms ps before l = (i : ℕ) (b : Prepared) (t : State) → slice_get ps i ≡ Some b → is_pruned ps (last_or None l.places) i b ≡ true → successor d k atoms l.state b ≡ Some t → (s : State) × (is_met before s ≡ true) × LeadsTo d k atoms ps s t

-- so it is at each lead of a queue
abbrev pub ArePruned : Domain → Knowledge → List Fact → List Prepared → List State → List Lead → Type 0
ArePruned d k atoms ps before [] = Unit {0}
ArePruned d k atoms ps before (l ∷ ls) = IsPruned d k atoms ps before l × ArePruned d k atoms ps (with_state before l.state) ls

-- a state was looked at: it was met, or as many are kept as may be, and it isn't good
abbrev pub IsTried : (State → Bool) → ℕ → List Lead → State → Type 0
IsTried good most ls t = (is_met (states ls) t ≡ true) ⊎ ((most ≤ length ls) × (good t ≡ false))

-- all that these states lead to was
abbrev pub AreTried : Domain → Knowledge → List Fact → List Prepared → (State → Bool) → ℕ → List Lead → List State → Type 0
AreTried d k atoms ps good most ls done = (s t : State) → is_met done s ≡ true → LeadsTo d k atoms ps s t → IsTried good most ls t

-- a queue of which so many leads are expanded
pub record IsQueue (d : Domain) (k : Knowledge) (atoms : List Fact) (ps : List Prepared) (good : State → Bool) (most expanded : ℕ) (ls : List Lead) : Type 0 where
  pub pruned : ArePruned d k atoms ps [] ls
  pub tried : AreTried d k atoms ps good most ls (states (take expanded ls))

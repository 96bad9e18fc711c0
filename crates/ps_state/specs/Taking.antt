-- How an event changes what is kept beside the ledger.
use Rattle.std.specs.Prelude.{◌≡◌, ℕ, Bool, true, false, List, [], length, slice_get}
use Rattle.std.specs.Option.{option_map_or}
use Rattle.ps_action.specs.Arcs.{arcs_of}
use Rattle.ps_action.specs.Trees.{waits_of}
use Rattle.ps_action.specs.declared.acts.Act.{Act}
use Rattle.ps_action.specs.declared.acts.GroundAction.{GroundAction}
use Rattle.ps_machine.specs.declared.journal.Event.{Event}
use Rattle.ps_machine.specs.declared.journal.Event.TheVariants as event
use Rattle.ps_rules.specs.Known.{changed, grounds, kept}
use Rattle.ps_world.specs.declared.domains.Domain.{Domain}
use Rattle.ps_world.specs.declared.known.Knowledge.{Knowledge}
use Rattle.ps_state.specs.declared.state.State.{State}

-- a list in the ground action at this place
abbrev pub part_of : {A : Type 0} → (GroundAction → List A) → List GroundAction → ℕ → List A
part_of of gs act = option_map_or of (slice_get gs act) []

-- what is known after a start or an end
abbrev pub known_next : Domain → List GroundAction → Knowledge → Event → Knowledge
known_next d gs k (event.Start act) = kept k (changed d k (part_of (λ g. g.effects.at_start) gs act))
known_next d gs k (event.End act) = kept k (changed d k (part_of (λ g. g.effects.at_end) gs act))
known_next d gs k e = k

-- the ground actions after an event, which may make a plan
abbrev pub grounds_next : Domain → List GroundAction → Event → List GroundAction
grounds_next d gs (event.Run for acts) = grounds d acts
grounds_next d gs (event.Replan acts) = grounds d acts
grounds_next d gs e = gs

-- how many acts the plan has after an event, where it had so many
abbrev pub acts_next : ℕ → Event → ℕ
acts_next n (event.Run for acts) = length acts
acts_next n (event.Replan acts) = length acts
acts_next n e = n

-- whether an event leaves what is known and the plan
abbrev pub leaves_known : Event → Bool
leaves_known (event.Edit by edit) = false
leaves_known (event.Run for acts) = false
leaves_known (event.Replan acts) = false
leaves_known (event.Start act) = false
leaves_known (event.End act) = false
leaves_known e = true

-- All is as it was, but for what is known and the ground actions with their arcs and the tree over them.
pub record HasSameBase (old new : State) : Type 0 where
  pub expert : new.expert ≡ old.expert
  pub due : new.due ≡ old.due
  pub ledger : new.ledger ≡ old.ledger

-- What is known, and the ground actions with their arcs and the tree over them, are those after an event.
pub record GoesOn (e : Event) (old new : State) : Type 0 where
  pub base : HasSameBase old new
  pub known : new.problem ≡ known_next old.expert old.grounds.items old.problem e
  pub grounds : new.grounds.items ≡ grounds_next old.expert old.grounds.items e
  pub acts : new.arcs.acts ≡ acts_next old.arcs.acts e
  pub arcs : old.arcs.pairs ≡ arcs_of old.grounds.items → new.arcs.pairs ≡ arcs_of new.grounds.items
  pub tree : old.tree.waits ≡ waits_of old.arcs → new.tree.waits ≡ waits_of new.arcs

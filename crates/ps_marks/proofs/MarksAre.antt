-- What is missed without a fact is what is needed.
use Rattle.std.proofs.Common.{◌≡◌, ℕ, Bool, true, false, not, ◌&&◌, ◌||◌, List, [], ◌∷◌, Option, Some, None, flat_map, map, refl, ap, sym, ◌∙◌, subst}
use Rattle.std.specs.List.{list_all, list_any}
use Rattle.std.proofs.lemmas.Bool.{not-true}
use Rattle.ps_world.specs.Knowledge.{is_known}
use Rattle.ps_world.specs.declared.conditions.Cond.{Cond}
use Rattle.ps_world.specs.declared.domains.Domain.{Domain}
use Rattle.ps_world.specs.declared.facts.Fact.{Fact}
use Rattle.ps_world.specs.declared.known.Knowledge.{Knowledge}
use Rattle.ps_action.specs.Grounding.{all_ground}
use Rattle.ps_action.specs.declared.acts.GroundAction.{GroundAction}
use Rattle.ps_closing.specs.declared.rule.Rule.{Rule}
use Rattle.ps_closing.specs.Closing.{AreClosed, Grows, has}
use Rattle.ps_marks.specs.Closures.{closure, is_in}
use Rattle.ps_marks.specs.Landmarks.{candidates, could_be, goal_atoms, is_needed, most_candidates}
use Rattle.ps_marks.specs.Marking.{CloseWithout, IsMissed}
use Rattle.ps_marks.specs.Rules.{AllIn, ArePlaces, AreRules, IsOnce, Mirror, all_asked, asked, place}
use Rattle.ps_marks.proofs.Bridge.{all_at}
use Rattle.ps_marks.proofs.Closes.{first_mirror, other_mirror}
use Rattle.ps_marks.proofs.Kept.{ready_of}
use Rattle.ps_marks.proofs.Members.{both_first, both_second, in_filter, in_take}

-- some aren't so just where not all are
any_not : (p : Fact → Bool) (xs : List Fact) → list_any (λ x. not (p x)) xs ≡ not (list_all p xs)
any_not p [] = refl
any_not p (x ∷ xs) = at (p x) (any_not p xs)
  where
    at : (b : Bool) → list_any (λ y. not (p y)) xs ≡ not (list_all p xs) → (not b || list_any (λ y. not (p y)) xs) ≡ not (b && list_all p xs)
    at true rest = rest
    at false rest = refl

-- candidates aren't known
pub candidate_unknown : (d : Domain) (k : Knowledge) (f : Fact) → is_in (candidates d k) f ≡ true → is_known k f ≡ false
candidate_unknown d k f e = not-true (is_known k f) (in_filter (λ g. not (is_known k g)) (closure d k None) f (in_take most_candidates (could_be d k) f e)).1

-- rules of all ground actions that were ready with nothing left out give the closure without a fact
pub close_without : (d : Domain) (k : Knowledge) (atoms : List Fact) → IsOnce atoms → (rs : List Rule) → AreRules d k atoms (all_ground d k.instances) rs → (start flags : List Bool) → start ≡ map (is_known k) atoms → AreClosed None rs start flags → CloseWithout d k atoms start (ready_of flags rs)
close_without d k atoms once rs are start flags first c f unknown new m =
    let P : List Bool → Type 0 = λ s. Grows None rs s flags in
    let Q : List Bool → Type 0 = λ s. Grows (place atoms f) (ready_of flags rs) s new in
    other_mirror atoms once d k rs are flags c.closed (subst P first c.grows) f unknown new m.closed (subst Q first m.grows)

-- and with nothing left out the closure itself
pub close_first : (d : Domain) (k : Knowledge) (atoms : List Fact) → IsOnce atoms → (rs : List Rule) → AreRules d k atoms (all_ground d k.instances) rs → (start flags : List Bool) → start ≡ map (is_known k) atoms → AreClosed None rs start flags → Mirror atoms flags (closure d k None)
close_first d k atoms once rs are start flags first c =
    let P : List Bool → Type 0 = λ s. Grows None rs s flags in
    first_mirror atoms once d k rs are flags c.closed (subst P first c.grows)

-- a fact that isn't known is needed where the goal is missed without it
pub missed_needed : (d : Domain) (k : Knowledge) (atoms : List Fact) (start : List Bool) (rs : List Rule) (goal : List ℕ) → CloseWithout d k atoms start rs → ArePlaces atoms goal (goal_atoms k.goal) → (f : Fact) (b : Bool) → is_known k f ≡ false → IsMissed atoms start rs goal f b → is_needed d k f ≡ b
missed_needed d k atoms start rs goal closes at f b unknown m =
    let left = closure d k (Some f) in
    any_not (is_in left) (goal_atoms k.goal) ∙ ap not (sym (all_at atoms (has m.flags) (is_in left) (closes f unknown m.flags m.closed) goal (goal_atoms k.goal) at)) ∙ sym m.told

-- the atoms of the goal are among all that is asked, and so are those of the ground actions
pub goal_asked : (atoms : List Fact) (gs : List GroundAction) (goal : Option Cond) → AllIn atoms (all_asked gs goal) → AllIn atoms (goal_atoms goal)
goal_asked atoms gs goal a x e = a x (both_second (flat_map asked gs) (goal_atoms goal) x e)

pub actions_asked : (atoms : List Fact) (gs : List GroundAction) (goal : Option Cond) → AllIn atoms (all_asked gs goal) → AllIn atoms (flat_map asked gs)
actions_asked atoms gs goal a x e = a x (both_first (flat_map asked gs) (goal_atoms goal) x e)

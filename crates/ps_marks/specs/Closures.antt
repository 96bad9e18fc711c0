-- What could ever be known if nothing were deleted and nothing but atoms were asked for.
use Rattle.std.specs.Prelude.{ℕ, zero, suc, Bool, true, not, ◌&&◌, ◌||◌, if◌then◌else◌, Option, Some, None, option_map, List, [], ◌∷◌, ◌++◌, length, filter, fold}
use Rattle.std.specs.List.{list_any, list_all}
use Rattle.std.specs.Option.{option_map_or}
use Rattle.std.specs.BTreeSet.{insert_key}
use Rattle.ps_world.specs.Facts.{fact_cmp}
use Rattle.ps_world.specs.Knowledge.{same_fact}
use Rattle.ps_world.specs.declared.domains.Domain.{Domain}
use Rattle.ps_world.specs.declared.facts.Fact.{Fact}
use Rattle.ps_world.specs.declared.known.Knowledge.{Knowledge}
use Rattle.ps_action.specs.Grounding.{all_ground}
use Rattle.ps_action.specs.declared.acts.GroundAction.{GroundAction}
use Rattle.ps_marks.specs.Atoms.{atoms_of, can_make, makes}

-- whether a fact is among these
abbrev pub is_in : List Fact → Fact → Bool
is_in fs x = list_any (same_fact x) fs

-- whether a fact is another than the one that is left out, if one is
abbrev pub is_other : Option Fact → Fact → Bool
is_other out x = option_map_or (λ f. not (same_fact x f)) out true

-- whether a fact is among these, or is another than the one left out that these adds can make
abbrev pub is_in_or_made : Option Fact → List Fact → List Fact → Fact → Bool
is_in_or_made out known made x = is_in known x || (is_other out x && is_in made x)

-- Whether a ground action is usable in a set of facts without one: all its start atoms are in the set, and each of its over-all and end
-- atoms is, or can be made by its adds at the start.
abbrev pub is_usable : Domain → Knowledge → Option Fact → List Fact → GroundAction → Bool
is_usable d k out known g =
    list_all (is_in known) (atoms_of g.conditions.at_start)
    && list_all (is_in_or_made out known (makes d k g.effects.at_start)) (atoms_of g.conditions.over_all ++ atoms_of g.conditions.at_end)

-- a set with all that a ground action can make, but for the fact left out
abbrev pub with_made : Domain → Knowledge → Option Fact → List Fact → GroundAction → List Fact
with_made d k out known g = fold (insert_key fact_cmp) known (filter (is_other out) (can_make d k g))

-- the first of these ground actions that is usable, and the others
abbrev pub first_usable : Domain → Knowledge → Option Fact → List Fact → List GroundAction → Option (GroundAction × List GroundAction)
first_usable d k out known [] = None
first_usable d k out known (g ∷ gs) =
    if is_usable d k out known g then Some (g, gs) else option_map (λ u. (u.0, g ∷ u.1)) (first_usable d k out known gs)

-- Facts with all that these ground actions can make one after another: as long as one is usable, the first of them is used, once.
abbrev pub closed_under : Domain → Knowledge → Option Fact → ℕ → List Fact → List GroundAction → List Fact
closed_under d k out zero known gs = known
closed_under d k out (suc n) known gs = option_map_or (λ u. closed_under d k out n (with_made d k out known u.0) u.1) (first_usable d k out known gs) known

-- the least set that has the facts that are known and all that the ground actions usable in it can make, but for one fact, if one is left out
abbrev pub closure : Domain → Knowledge → Option Fact → List Fact
closure d k out = let gs = all_ground d k.instances in closed_under d k out (length gs) k.facts gs

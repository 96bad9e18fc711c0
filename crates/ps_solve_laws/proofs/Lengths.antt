-- The paths of a level have as many acts as it is deep, and how far a search goes.
use Rattle.std.proofs.Common.{◌≡◌, ℕ, zero, suc, ◌+◌, Bool, true, false, cond, List, [], ◌∷◌, ◌++◌, All, Option, Some, None, option_map, flat_map, length, map, refl, ap, sym, ◌∙◌, arith, length-append}
use Rattle.std.proofs.lemmas.List.Elements.{All-append, All-cons, All-head, All-nil, All-tail}
use Rattle.ps_world.specs.declared.conditions.Cond.{Cond}
use Rattle.ps_world.specs.declared.domains.Domain.{Domain}
use Rattle.ps_world.specs.declared.known.Knowledge.{Knowledge}
use Rattle.ps_action.specs.declared.acts.Act.{Act}
use Rattle.ps_action.specs.declared.acts.GroundAction.{GroundAction}
use Rattle.ps_levels.specs.Levels.{IsFrugal as IsFrugalSearch, IsGivenAt, Space, first_good}
use Rattle.ps_levels.specs.declared.searching.Found.{Found}
use Rattle.ps_levels.specs.declared.searching.Found.TheVariants.{Path, Nowhere, Spent}
use Rattle.ps_solve_laws.specs.Frugal.{HasDepth, IsFrugal, ReachesAsMany, TellsHowFar}
use Rattle.ps_ground.specs.Moves.{Node, grounds, move, moves}
use Rattle.ps_solve.specs.Nodes.{firsts, is_met, root, with_state}
use Rattle.ps_solve.specs.Spaces.{answer_of, path_of, space}
use Rattle.ps_ground.specs.States.{State, at, stepped}
use Rattle.ps_solve.proofs.Bridge.{as_many, level_same}
use Rattle.ps_solve.proofs.Levels.{level_is, nodes, reached}

abbrev Long : ℕ → Node → Type 0
Long n m = length m.path ≡ n

all_firsts : (n : ℕ) (seen : List State) (ns : List Node) → All (Long n) ns → All (Long n) (firsts seen ns)
all_firsts n seen [] h = h
all_firsts n seen (m ∷ ns) h =
    let more = with_state seen m.state in
    elim (is_met seen m.state) as (λ b. All (Long n) (cond b (firsts seen ns) (m ∷ firsts more ns))) [
      | true ↦ all_firsts n seen ns (All-tail (Long n) m ns h)
      | false ↦ All-cons (Long n) m (firsts more ns) (All-head (Long n) m ns h) (all_firsts n more ns (All-tail (Long n) m ns h))
    ]

module _ (d : Domain) (k : Knowledge) where
  moved_at : (n : ℕ) (m : Node) (g : GroundAction) (gs : List GroundAction) (o : Option State) → Long n m → stepped d k m.state g ≡ o → All (Long (suc n)) (moves d k gs m) → All (Long (suc n)) (moves d k (g ∷ gs) m)
  moved_at n m g gs None h e rest =
      let none : move d k m g ≡ None = ap (option_map (λ (s : State). let x : Node = record { state = s; path = m.path ++ g.act ∷ [] } in x)) e in
      rw none rest
  moved_at n m g gs (Some s) h e rest =
      let x : Node = record { state = s; path = m.path ++ g.act ∷ [] } in
      let some : move d k m g ≡ Some x = ap (option_map (λ (t : State). let y : Node = record { state = t; path = m.path ++ g.act ∷ [] } in y)) e in
      let long : length x.path ≡ suc n = let l = length-append m.path (g.act ∷ []) in omega (arith, l, h) in
      rw some (All-cons (Long (suc n)) x (moves d k gs m) long rest)

  all_moved : (n : ℕ) (m : Node) (gs : List GroundAction) → Long n m → All (Long (suc n)) (moves d k gs m)
  all_moved n m [] h = All-nil (Long (suc n))
  all_moved n m (g ∷ gs) h = moved_at n m g gs (stepped d k m.state g) h refl (all_moved n m gs h)

  all_next : (n : ℕ) (gs : List GroundAction) (ns : List Node) → All (Long n) ns → All (Long (suc n)) (flat_map (moves d k gs) ns)
  all_next n gs [] h = All-nil (Long (suc n))
  all_next n gs (m ∷ ns) h =
      All-append (Long (suc n)) (moves d k gs m) (flat_map (moves d k gs) ns) (all_moved n m gs (All-head (Long n) m ns h)) (all_next n gs ns (All-tail (Long n) m ns h))

  pub all_long : (n : ℕ) → All (Long n) (nodes d k n)
  all_long zero = All-cons (Long 0) (root k) [] refl (All-nil (Long 0))
  all_long (suc n) = all_firsts (suc n) (reached d k n) (flat_map (moves d k (grounds d k)) (nodes d k n)) (all_next n (grounds d k) (nodes d k n) (all_long n))

  module _ (goal : Cond) where
    abbrev p : Space Node State
    p = space d k goal

    found_at : (n : ℕ) (acts : List Act) (m : Node) (ns : List Node) (b : Bool) → Long n m → (option_map path_of (first_good p ns) ≡ Some acts → length acts ≡ n) → option_map path_of (cond b (Some m) (first_good p ns)) ≡ Some acts → length acts ≡ n
    found_at n acts m ns true long h e = let same : m.path ≡ acts = cc in ap length (sym same) ∙ long
    found_at n acts m ns false long h e = h e

    found_long : (n : ℕ) (acts : List Act) (ns : List Node) → All (Long n) ns → option_map path_of (first_good p ns) ≡ Some acts → length acts ≡ n
    found_long n acts [] h e = absurd (cc)
    found_long n acts (m ∷ ns) h e =
        found_at n acts m ns (p.good m.state) (All-head (Long n) m ns h) (found_long n acts ns (All-tail (Long n) m ns h)) e

    depth_is : (n : ℕ) (f : Found (List Act)) → IsGivenAt p path_of n f → HasDepth d k (answer_of f) n
    depth_is n (Path acts) e = found_long n acts (nodes d k n) (all_long n) (ap (λ ns. option_map path_of (first_good p ns)) (sym (level_same d k goal n).0) ∙ e)
    depth_is n Nowhere e = level_is d k n ∙ ap (map (λ (m : Node). at k m.state)) (sym (level_same d k goal n).0 ∙ e)
    depth_is n (Spent depth) e = sym e

    frugal_is : (budget before expanded n : ℕ) → IsFrugalSearch p budget n expanded → IsFrugal d k budget before (before + expanded) n
    frugal_is budget before expanded zero e = omega (arith, e)
    frugal_is budget before expanded (suc n) h = let few = h.0 in let low = h.1 in let many = as_many d k goal n in (omega (arith, few, many), omega (arith, low, many))

pub tells_how_far : TellsHowFar
tells_how_far d k goal budget before expanded n f given frugal = record {
  depth = n;
  given = depth_is d k goal n f given;
  frugal = frugal_is d k goal budget before expanded n frugal;
}

pub reaches_as_many : ReachesAsMany
reaches_as_many d k goal n = as_many d k goal n

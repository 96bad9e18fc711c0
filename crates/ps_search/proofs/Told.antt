-- What is found over something that expands is the answer.
use Rattle.std.proofs.Common.{◌≡◌, ◌≢◌, ◌≤◌, ℕ, Some, Result, Ok, List, length, ap, sym, ◌∙◌, subst}
use Rattle.ps_world.specs.declared.conditions.Cond.{Cond}
use Rattle.ps_world.specs.declared.domains.Domain.{Domain}
use Rattle.ps_world.specs.declared.known.Knowledge.{Knowledge}
use Rattle.ps_action.specs.Grounding.{all_ground, most_ground}
use Rattle.ps_action.specs.Plans.{most_acts}
use Rattle.ps_action.specs.Search.{answer}
use Rattle.ps_action.specs.declared.acts.Act.{Act}
use Rattle.ps_action.specs.declared.answers.Answer.{Answer}
use Rattle.ps_action.specs.declared.answers.Answer.TheVariants.{TooMany}
use Rattle.ps_expand.specs.Trees.{IsCounted, tree_space}
use Rattle.ps_ground.specs.Goals.{is_good}
use Rattle.ps_ground.specs.Moves.{Node, grounds, moves}
use Rattle.ps_ground.specs.States.{State}
use Rattle.ps_levels.specs.Levels.{Space, answer_from}
use Rattle.ps_levels.specs.declared.searching.Found.{Found}
use Rattle.ps_levels.specs.declared.searching.Found.TheVariants.{Path, Nowhere, Spent}
use Rattle.ps_solve.specs.Endings.{searched}
use Rattle.ps_solve.specs.Nodes.{root}
use Rattle.ps_solve.specs.Spaces.{answer_of, path_of, space}
use Rattle.ps_solve.proofs.Bridge.{finds_the_answer}
use Rattle.ps_solve.proofs.SameStates.{same_known-at}
use Rattle.ps_solve.proofs.Whole.{answered as searched_is}
use Rattle.ps_solve_laws.specs.Frugal.{IsFrugalAnswer}
use Rattle.ps_solve_laws.proofs.Lengths.{tells_how_far}

module _ (d : Domain) (k : Knowledge) (goal : Cond) where
  -- what is searched is the same: states that lead to the same are the same
  same_space : tree_space d k goal ≡ space d k goal
  same_space = λ i. record {
    root = root k;
    state = λ n. n.state;
    same = λ s t. same_known-at k s t i;
    moves = moves d k (grounds d k);
    good = is_good d k goal;
  }

  pub answered : (budget most : ℕ) (f : Found (List Act)) → k.goal ≡ Some goal → most ≡ most_acts → f ≡ answer_from (tree_space d k goal) path_of budget most 0 → answer_of f ≡ searched d k budget
  answered budget most f there is e =
      ap answer_of (e ∙ (λ i. answer_from (same_space i) path_of budget most 0))
      ∙ finds_the_answer d k goal budget most there is

  -- where there aren't too many ground actions
  pub answer_is : (budget : ℕ) (a : Answer) → length (all_ground d k.instances) ≤ most_ground → a ≡ searched d k budget → a ≡ answer d k budget
  answer_is budget a few e =
      let r : Result Answer (Unit {0}) = Ok a in
      searched_is d k budget r few e

  pub frugal : (budget before after : ℕ) (f : Found (List Act)) → IsCounted (tree_space d k goal) budget before after f → IsFrugalAnswer d k budget before after (answer_of f)
  frugal budget before after f h =
      let P : Space Node State → Type 0 = λ p. IsCounted p budget before after f in
      let c : IsCounted (space d k goal) budget before after f = subst P same_space h in
      let Q : ℕ → Type 0 = λ n. IsFrugalAnswer d k budget before n (answer_of f) in
      subst Q (sym c.risen) (tells_how_far d k goal budget before c.expanded c.depth f c.given c.frugal)

-- it isn't that there are too many ground actions
pub never : (f : Found (List Act)) → answer_of f ≢ TooMany
never (Path acts) e = cc
never Nowhere e = cc
never (Spent depth) e = cc

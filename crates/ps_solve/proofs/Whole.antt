-- The whole answer, where there are too many ground actions and where there aren't.
use Rattle.std.proofs.Common.{◌≡◌, ℕ, ◌<◌, ◌≤◌, Bool, true, false, cond, nat_lt, Result, Ok, Err, IfOk, length, refl, ap, sym, ◌∙◌, subst, arith}
use Rattle.std.proofs.lemmas.Bool.{lt-ltb, ltb-true}
use Rattle.ps_world.specs.declared.domains.Domain.{Domain}
use Rattle.ps_world.specs.declared.known.Knowledge.{Knowledge}
use Rattle.ps_action.specs.declared.answers.Answer.{Answer}
use Rattle.ps_action.specs.declared.answers.Answer.TheVariants.{TooMany}
use Rattle.ps_action.specs.Grounding.{all_ground, most_ground}
use Rattle.ps_action.specs.Plans.{most_acts}
use Rattle.ps_action.specs.Search.{answer, answer_from}
use Rattle.ps_solve.specs.Endings.{searched}
use Rattle.ps_solve.specs.declared.task.Task.{Task}

not_below : (m n : ℕ) (b : Bool) → nat_lt m n ≡ b → n ≤ m → b ≡ false
not_below m n true e h = absurd (omega (arith, ltb-true m n e))
not_below m n false e h = refl

module _ (d : Domain) (k : Knowledge) (budget : ℕ) where
  pub too_many : most_ground < length (all_ground d k.instances) → TooMany ≡ answer d k budget
  unfolding answer
  too_many h =
      let e : nat_lt most_ground (length (all_ground d k.instances)) ≡ true = lt-ltb most_ground (length (all_ground d k.instances)) h in
      ap (λ b. cond b TooMany (answer_from d k budget most_acts 0)) (sym e)

  few_enough : length (all_ground d k.instances) ≤ most_ground → searched d k budget ≡ answer d k budget
  unfolding answer searched
  few_enough h =
      let e = not_below most_ground (length (all_ground d k.instances)) (nat_lt most_ground (length (all_ground d k.instances))) refl h in
      ap (λ b. cond b TooMany (answer_from d k budget most_acts 0)) (sym e)

  -- what is searched is the answer where there aren't too many
  pub answered : {E : Type 0} (r : Result Answer E) → length (all_ground d k.instances) ≤ most_ground → IfOk r (λ a. a ≡ searched d k budget) → IfOk r (λ a. a ≡ answer d k budget)
  answered (Ok a) h e = e ∙ few_enough h
  answered (Err w) h e = e

-- what is searched for a task is the answer
pub answered_for : {E : Type 0} (t : Task) (d : Domain) (k : Knowledge) (budget : ℕ) (r : Result Answer E) → t.expert.now ≡ d → t.problem.now ≡ k → IfOk r (λ a. a ≡ searched t.expert.now t.problem.now budget) → IfOk r (λ a. a ≡ answer d k budget)
answered_for t d k budget r domain known e =
    let P : Domain → Type 0 = λ d. IfOk r (λ a. a ≡ answer d t.problem.now budget) in
    let Q : Knowledge → Type 0 = λ k. IfOk r (λ a. a ≡ answer d k budget) in
    subst Q known (subst P domain (answered t.expert.now t.problem.now budget r t.prepared.grounded.counted e))

-- What is found for a task is what the definition of the search says.
use Rattle.std.proofs.Common.{◌≡◌, ◌<◌, ◌≤◌, ℕ, Bool, true, false, nat_lt, cond, List, Option, Some, Result, Ok, Err, IfOk, length, ap, sym, subst, ◌∙◌, arith}
use Rattle.std.proofs.lemmas.Bool.{lt-ltb}
use Rattle.std.proofs.lemmas.Bool.Decides.{nat_tests}
use Rattle.ps_world.specs.declared.conditions.Cond.{Cond}
use Rattle.ps_world.specs.declared.domains.Domain.{Domain}
use Rattle.ps_world.specs.declared.facts.Fact.{Fact}
use Rattle.ps_world.specs.declared.known.Knowledge.{Knowledge}
use Rattle.ps_action.specs.Grounding.{all_ground, most_ground}
use Rattle.ps_solve.specs.declared.task.Task.{Task}
use Rattle.ps_greedy.specs.Greedy.{greedy, greedy_to}
use Rattle.ps_greedy.specs.declared.found.Found.{Found}
use Rattle.ps_greedy.specs.declared.found.Found.TheVariants.{TooMany}

no_less : (a b : ℕ) → b ≤ a → nat_lt a b ≡ false
no_less a b h = grind (arith, nat_tests, h)

module _ (d : Domain) (k : Knowledge) (budget : ℕ) (marks : List Fact) where
  pub too_many : most_ground < length (all_ground d k.instances) → TooMany ≡ greedy d k budget marks
  unfolding greedy
  too_many h =
      let e = lt-ltb most_ground (length (all_ground d k.instances)) h in
      ap (λ b. cond b TooMany (greedy_to d k budget marks k.goal)) (sym e)

  few_enough : (goal : Cond) → k.goal ≡ Some goal → length (all_ground d k.instances) ≤ most_ground → greedy_to d k budget marks (Some goal) ≡ greedy d k budget marks
  unfolding greedy
  few_enough goal there h =
      let e = no_less most_ground (length (all_ground d k.instances)) h in
      ap (greedy_to d k budget marks) (sym there) ∙ ap (λ b. cond b TooMany (greedy_to d k budget marks k.goal)) (sym e)

  found_as : {E : Type 0} (goal : Cond) (r : Result Found E) → k.goal ≡ Some goal → length (all_ground d k.instances) ≤ most_ground → IfOk r (λ f. f ≡ greedy_to d k budget marks (Some goal)) → IfOk r (λ f. f ≡ greedy d k budget marks)
  found_as goal (Ok f) there h e = e ∙ few_enough goal there h
  found_as goal (Err w) there h e = e

pub found_for : {E : Type 0} (t : Task) (d : Domain) (k : Knowledge) (budget : ℕ) (marks : List Fact) (r : Result Found E) → t.expert.now ≡ d → t.problem.now ≡ k → IfOk r (λ f. f ≡ greedy_to t.expert.now t.problem.now budget marks (Some t.goal.now)) → IfOk r (λ f. f ≡ greedy d k budget marks)
found_for t d k budget marks r domain known e =
    let P : Domain → Type 0 = λ d. IfOk r (λ f. f ≡ greedy d t.problem.now budget marks) in
    let Q : Knowledge → Type 0 = λ k. IfOk r (λ f. f ≡ greedy d k budget marks) in
    subst Q known (subst P domain (found_as t.expert.now t.problem.now budget marks t.goal.now r t.prepared.there t.prepared.grounded.counted e))

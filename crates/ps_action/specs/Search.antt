-- What a solver answers: the least of the shortest good plans, or why none is told.
use Rattle.std.specs.Prelude.{◌≡◌, ℕ, suc, zero, ◌+◌, nat_le, nat_lt, Bool, ◌&&◌, if◌then◌else◌, Option, Some, None, List, [], ◌∷◌, ◌++◌, length, map, filter_map, find, flat_map, is_ok}
use Rattle.std.specs.List.{list_any}
use Rattle.std.specs.Result.{result_ok}
use Rattle.std.specs.Ordering.{int_eq}
use Rattle.std.specs.Cmp.Lexicographic.{pointwise}
use Rattle.ps_world.specs.Knowledge.{same_fact}
use Rattle.ps_world.specs.declared.numbers.Num.{Num}
use Rattle.ps_world.specs.declared.facts.Fact.{Fact}
use Rattle.ps_world.specs.declared.domains.Domain.{Domain}
use Rattle.ps_world.specs.declared.known.Knowledge.{Knowledge}
use Rattle.ps_action.specs.Grounding.{all_ground, most_ground}
use Rattle.ps_action.specs.Plans.{IsGoodPlan, after_steps, judged, most_acts}
use Rattle.ps_action.specs.declared.acts.Act.{Act}
use Rattle.ps_action.specs.declared.answers.Answer.{Answer}
use Rattle.ps_action.specs.declared.answers.Answer.TheVariants.{Plan, NoPlan, Spent, TooMany}

-- ---- plans in order

-- every list of so many of these items, where the earlier items count first in the order
abbrev pub lists_of : {A : Type 0} → List A → ℕ → List (List A)
lists_of items zero = [] ∷ []
lists_of items (suc n) = flat_map (λ item. map (λ more. item ∷ more) (lists_of items n)) items

-- the acts that can be grounded, in the order of the domain's text and of the names of their arguments
abbrev pub possible_acts : Domain → Knowledge → List Act
possible_acts d k = map (λ g. g.act) (all_ground d k.instances)

-- all plans of so many acts, good or not, in order
abbrev pub plans_of : Domain → Knowledge → ℕ → List (List Act)
plans_of d k n = lists_of (possible_acts d k) n

-- the least good plan of so many acts, if there is one
abbrev pub least_plan : Domain → Knowledge → ℕ → Option (List Act)
least_plan d k n = find (λ acts. is_ok (judged d k acts)) (plans_of d k n)

-- ---- levels

-- what is known after these acts, if no step fails; the goal doesn't count
abbrev pub after : Domain → Knowledge → List Act → Option Knowledge
after d k acts = result_ok (after_steps d k 0 acts)

-- what is known after each list of so many acts
abbrev pub ends : Domain → Knowledge → ℕ → List Knowledge
ends d k n = filter_map (after d k) (plans_of d k n)

abbrev pub same_value : Fact × Num → Fact × Num → Bool
same_value v w = same_fact v.0 w.0 && int_eq v.1 w.1

-- whether steps have led to the same: they change facts and values alone
abbrev pub same_known : Knowledge → Knowledge → Bool
same_known k l = pointwise same_fact k.facts l.facts && pointwise same_value k.values l.values

abbrev pub is_there : List Knowledge → Knowledge → Bool
is_there ks k = list_any (same_known k) ks

-- those of the second list that aren't in the first, each once
abbrev pub fresh : List Knowledge → List Knowledge → List Knowledge
fresh old [] = []
fresh old (k ∷ ks) = if is_there old k then fresh old ks else k ∷ fresh (k ∷ old) ks

-- what at most so many steps lead to, each once
abbrev pub reach : Domain → Knowledge → ℕ → List Knowledge
reach d k zero = k ∷ []
reach d k (suc n) = reach d k n ++ fresh (reach d k n) (ends d k (suc n))

-- what so many steps lead to, and no fewer do, each once
abbrev pub level : Domain → Knowledge → ℕ → List Knowledge
level d k zero = k ∷ []
level d k (suc n) = fresh (reach d k n) (ends d k (suc n))

-- ---- the answer

-- what is answered at a depth where no plan is good: nothing is left, as much as the budget says is reached, or what comes next
abbrev pub unplanned : List Knowledge → List Knowledge → ℕ → ℕ → Answer → Answer
unplanned [] reached budget depth next = NoPlan
unplanned (k ∷ ks) reached budget depth next = if nat_le budget (length reached) then Spent depth else next

-- what is answered at a depth: its least good plan, if there is one
abbrev pub at_depth : Domain → Knowledge → ℕ → ℕ → Option (List Act) → Answer → Answer
at_depth d k budget depth (Some acts) next = Plan acts
at_depth d k budget depth None next = unplanned (level d k depth) (reach d k depth) budget depth next

-- what is answered from a depth on, with so many depths more
abbrev pub answer_from : Domain → Knowledge → ℕ → ℕ → ℕ → Answer
answer_from d k budget zero depth = at_depth d k budget depth (least_plan d k depth) (Spent depth)
answer_from d k budget (suc more) depth = at_depth d k budget depth (least_plan d k depth) (answer_from d k budget more (depth + 1))

-- The answer of a solver with this budget of states: the least of the shortest good plans. Else no plan is good, or none of so
-- many acts is and no longer one was looked for, or there are too many ground actions.
unfoldable pub answer : Domain → Knowledge → ℕ → Answer
answer d k budget = if nat_lt most_ground (length (all_ground d k.instances)) then TooMany else answer_from d k budget most_acts 0

-- ---- what any solver may answer

-- a plan has so many acts
abbrev pub HasLength : ℕ → Answer → Type 0
HasLength n (Plan acts) = length acts ≡ n
HasLength n NoPlan = ⊥
HasLength n (Spent depth) = ⊥
HasLength n TooMany = ⊥

-- A solver may answer so: with a good plan as short as the least, and else with the answer above.
abbrev pub Fits : Domain → Knowledge → ℕ → Answer → Type 0
Fits d k budget (Plan acts) = IsGoodPlan d k acts × HasLength (length acts) (answer d k budget)
Fits d k budget NoPlan = answer d k budget ≡ NoPlan
Fits d k budget (Spent depth) = answer d k budget ≡ Spent depth
Fits d k budget TooMany = answer d k budget ≡ TooMany

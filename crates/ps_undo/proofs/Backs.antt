-- A change that leads back does so.
use Rattle.std.proofs.Common.{◌≡◌, Bool, true, false, not, ◌&&◌, ◌||◌, List, ◌++◌, Option, Some, None, unwrap_or, filter, refl, ap, sym, ◌∙◌}
use Rattle.std.specs.List.Sorted.{IsStrictlySortedBy}
use Rattle.std.specs.Map.{keys_of}
use Rattle.std.specs.Ordering.{eq_by_cmp}
use Rattle.std.proofs.lemmas.List.Folds.{list_any-append}
use Rattle.std.proofs.lemmas.List.Kept.{IsStrictlySortedBy-filter}
use Rattle.ps_world.specs.Facts.{fact_cmp}
use Rattle.ps_world.specs.Names.{name_cmp, same_name}
use Rattle.ps_world.specs.declared.conditions.Cond.{Cond}
use Rattle.ps_world.specs.declared.facts.Fact.{Fact}
use Rattle.ps_world.specs.declared.known.Knowledge.{Knowledge}
use Rattle.ps_world.specs.declared.names.Name.{Name}
use Rattle.ps_world.specs.declared.numbers.Num.{Num}
use Rattle.ps_action.proofs.Facts.{exact_facts, exact_names, facts_total, names_total}
use Rattle.ps_action.proofs.MadeFacts.{sorted-fold}
use Rattle.ps_problem.specs.Changes.{Rises}
use Rattle.ps_problem.specs.Patches.{changed, facts_after, instances_after, values_after}
use Rattle.ps_problem.specs.declared.change.Change.{Change}
use Rattle.ps_problem.proofs.PutFacts.{facts_same, known, known-filter, made_known}
use Rattle.ps_problem.proofs.Removals.{tests_agree}
use Rattle.ps_undo.specs.Changes.{kinds_at, known_at, leading_back, values_at, was_goal}
use Rattle.ps_undo.proofs.Entries.{back, back_by}

-- o: it was known, d: it is deleted, a: it is added
back_known : (o d a : Bool) → ((((o && not d) || a) && not a) || ((d || a) && o)) ≡ o
back_known true true true = refl
back_known true true false = refl
back_known true false true = refl
back_known true false false = refl
back_known false true true = refl
back_known false true false = refl
back_known false false true = refl
back_known false false false = refl

pub sorted-facts_after : (facts adds deletes : List Fact) → IsStrictlySortedBy fact_cmp facts → IsStrictlySortedBy fact_cmp (facts_after facts adds deletes)
sorted-facts_after facts adds deletes s =
    sorted-fold (filter (λ f. not (known f deletes)) facts) adds (IsStrictlySortedBy-filter fact_cmp (λ f. not (known f deletes)) facts s)

facts_back : (facts adds deletes : List Fact) → IsStrictlySortedBy fact_cmp facts → facts_after (facts_after facts adds deletes) (known_at facts (deletes ++ adds)) adds ≡ facts
facts_back facts adds deletes s =
    facts_same (facts_after after again adds) facts (sorted-facts_after after again adds t) s (λ f.
    made_known after again adds t f
    ∙ (λ i. (made_known facts adds deletes s f i && not (known f adds)) || (known-filter f (λ g. known g facts) (deletes ++ adds) ∙ ap (λ b. b && known f facts) (list_any-append (λ g. eq_by_cmp fact_cmp f g) deletes adds)) i)
    ∙ back_known (known f facts) (known f deletes) (known f adds))
  where
    after : List Fact
    after = facts_after facts adds deletes

    again : List Fact
    again = known_at facts (deletes ++ adds)

    t : IsStrictlySortedBy fact_cmp after
    t = sorted-facts_after facts adds deletes s

instances_back : (instances : List (Name × Name)) (goes : List Name) (comes : List (Name × Name)) → IsStrictlySortedBy name_cmp (keys_of instances) → instances_after (instances_after instances goes comes) (keys_of comes) (kinds_at instances (goes ++ keys_of comes)) ≡ instances
instances_back instances goes comes s =
    let agree : (λ (m : Name). eq_by_cmp name_cmp m) ≡ same_name = λ i m n. sym (tests_agree m n) i in
    back_by names_total exact_names same_name agree instances goes comes s

values_back : (values : List (Fact × Num)) (given : List (Fact × Num)) (gone : List Fact) → IsStrictlySortedBy fact_cmp (keys_of values) → values_after (values_after values given gone) (values_at values (gone ++ keys_of given)) (keys_of given) ≡ values
values_back values given gone s = back facts_total exact_facts values gone given s

goal_back : (next : Option (Option Cond)) (goal : Option Cond) → unwrap_or (was_goal next goal) (unwrap_or next goal) ≡ goal
goal_back None goal = refl
goal_back (Some next) goal = refl

-- from what is known after a change it leads back to what was known
pub leads_back : (k : Knowledge) (c : Change) → Rises k → changed (changed k c) (leading_back k c) ≡ k
leads_back k c s = λ i. record {
  instances = instances_back k.instances c.instances_out c.instances_in s.instances i;
  facts = facts_back k.facts c.adds c.deletes s.facts i;
  values = values_back k.values c.values c.gone s.values i;
  goal = goal_back c.goal k.goal i;
}

-- Changes that edits make, and changes that lead back.
use Rattle.std.specs.Prelude.{◌++◌, Option, Some, None, List, [], ◌∷◌, filter, filter_map, if◌then◌else◌}
use Rattle.std.specs.List.{list_any}
use Rattle.std.specs.Map.{keys_of, lookup}
use Rattle.std.specs.Option.{option_map}
use Rattle.ps_world.specs.CondViews.{cond_tree}
use Rattle.ps_world.specs.Knowledge.{cond_names, is_among, same_fact}
use Rattle.ps_world.specs.Names.{same_name}
use Rattle.ps_world.specs.declared.conditions.Cond.{Cond}
use Rattle.ps_world.specs.declared.edits.Edit.{Edit}
use Rattle.ps_world.specs.declared.edits.Edit.TheVariants.{AddInstance, RemoveInstance, AddFact, RemoveFact, SetValue, RemoveValue, SetGoal, RemoveGoal}
use Rattle.ps_world.specs.declared.facts.Fact.{Fact}
use Rattle.ps_world.specs.declared.known.Knowledge.{Knowledge}
use Rattle.ps_world.specs.declared.names.Name.{Name}
use Rattle.ps_world.specs.declared.numbers.Num.{Num}
use Rattle.ps_problem.specs.declared.change.Change.{Change}

-- ---- the change of an edit

-- the change that changes nothing
abbrev pub no_change : Change
no_change = record { instances_in = []; instances_out = []; adds = []; deletes = []; values = []; gone = []; goal = None }

-- what becomes of a goal where an instance goes: it is removed if it names the instance
abbrev pub goal_left : Name → Option Cond → Option (Option Cond)
goal_left n None = None
goal_left n (Some goal) = if cond_names n (cond_tree goal) then Some None else None

-- the change that an edit makes of what is known, where it is accepted
abbrev pub change_of : Knowledge → Edit → Change
change_of k (AddInstance n t) = record no_change { instances_in = (n, t) ∷ [] }
change_of k (RemoveInstance n) = record {
  instances_in = [];
  instances_out = n ∷ [];
  adds = [];
  deletes = filter (λ f. is_among n f.args) k.facts;
  values = [];
  gone = filter (λ f. is_among n f.args) (keys_of k.values);
  goal = goal_left n k.goal;
}
change_of k (AddFact f) = record no_change { adds = f ∷ [] }
change_of k (RemoveFact f) = record no_change { deletes = f ∷ [] }
change_of k (SetValue f x) = record no_change { values = (f, x) ∷ [] }
change_of k (RemoveValue f) = record no_change { gone = f ∷ [] }
change_of k (SetGoal goal) = record no_change { goal = Some (Some goal) }
change_of k RemoveGoal = record no_change { goal = Some None }

-- ---- the change that leads back

-- those of these names that are instances, with their types
abbrev pub kinds_at : List (Name × Name) → List Name → List (Name × Name)
kinds_at instances ns = filter_map (λ n. option_map (λ t. (n, t)) (lookup (same_name n) instances)) ns

-- those of these facts that are known
abbrev pub known_at : List Fact → List Fact → List Fact
known_at facts fs = filter (λ f. list_any (same_fact f) facts) fs

-- those of these terms that have values, with them
abbrev pub values_at : List (Fact × Num) → List Fact → List (Fact × Num)
values_at values fs = filter_map (λ f. option_map (λ x. (f, x)) (lookup (same_fact f) values)) fs

-- the goal from before, where a change sets or removes it
abbrev pub was_goal : Option (Option Cond) → Option Cond → Option (Option Cond)
was_goal None goal = None
was_goal (Some next) goal = Some goal

-- The change that leads back from what is known after a change: what came goes, and what went or was replaced comes again.
abbrev pub leading_back : Knowledge → Change → Change
leading_back k c = record {
  instances_in = kinds_at k.instances (c.instances_out ++ keys_of c.instances_in);
  instances_out = keys_of c.instances_in;
  adds = known_at k.facts (c.deletes ++ c.adds);
  deletes = c.adds;
  values = values_at k.values (c.gone ++ keys_of c.values);
  gone = keys_of c.values;
  goal = was_goal c.goal k.goal;
}

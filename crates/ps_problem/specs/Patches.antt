-- Changes of what is known.
use Rattle.std.specs.Prelude.{not, unwrap_or, List, filter, fold}
use Rattle.std.specs.List.{list_any}
use Rattle.std.specs.BTreeMap.{insert_entry}
use Rattle.std.specs.BTreeSet.{insert_key}
use Rattle.ps_world.specs.Facts.{fact_cmp}
use Rattle.ps_world.specs.Knowledge.{same_fact}
use Rattle.ps_world.specs.Names.{name_cmp, same_name}
use Rattle.ps_world.specs.declared.facts.Fact.{Fact}
use Rattle.ps_world.specs.declared.known.Knowledge.{Knowledge}
use Rattle.ps_world.specs.declared.names.Name.{Name}
use Rattle.ps_world.specs.declared.numbers.Num.{Num}
use Rattle.ps_problem.specs.declared.change.Change.{Change}

-- instances with one more, which stands in place of an old one
abbrev pub with_instance : List (Name × Name) → Name × Name → List (Name × Name)
with_instance instances i = insert_entry name_cmp instances i.0 i.1

-- instances without those that go, and then with those that come
abbrev pub instances_after : List (Name × Name) → List Name → List (Name × Name) → List (Name × Name)
instances_after instances goes comes =
    fold with_instance (filter (λ i. not (list_any (same_name i.0) goes)) instances) comes

-- facts without those that go, and then with those that come
abbrev pub facts_after : List Fact → List Fact → List Fact → List Fact
facts_after facts adds deletes =
    fold (insert_key fact_cmp) (filter (λ f. not (list_any (same_fact f) deletes)) facts) adds

-- values without those of the terms that lose theirs, and then with those that are given
abbrev pub values_after : List (Fact × Num) → List (Fact × Num) → List Fact → List (Fact × Num)
values_after values given gone =
    fold (λ all v. insert_entry fact_cmp all v.0 v.1) (filter (λ v. not (list_any (same_fact v.0) gone)) values) given

-- What is known after a change: without the instances, facts and values that go, then with those that come, and with the goal that it sets,
-- if it sets one or none.
abbrev pub changed : Knowledge → Change → Knowledge
changed k c = record {
  instances = instances_after k.instances c.instances_out c.instances_in;
  facts = facts_after k.facts c.adds c.deletes;
  values = values_after k.values c.values c.gone;
  goal = unwrap_or c.goal k.goal;
}

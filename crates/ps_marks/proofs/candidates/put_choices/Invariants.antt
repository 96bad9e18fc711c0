use Rattle.std.proofs.Common.{◌≡◌, [], filter, fold, map, take}
use Rattle.std.specs.BTreeSet.{insert_key}
use Rattle.ps_world.specs.Names.{name_cmp}
use Rattle.ps_marks.specs.Candidates.{is_choice}
use Rattle.ps_marks.proofs.candidates.put_choices.Given as goal

abbrev pub invariant-loop-name : goal.invariant-loop-name
invariant-loop-name l =
    l.names.keys ≡ fold (insert_key name_cmp) [] (filter (is_choice l.expert l.problem l.param l.hole) (map (λ i. i.0) (take l.name-index l.name-items)))

use Rattle.std.proofs.Common.{◌++◌, Option, ap, ◌∙◌}
use Rattle.std.specs.Map.{keys_of, lookup}
use Rattle.std.specs.Option.{option_map}
use Rattle.ps_world.specs.Names.{same_name}
use Rattle.ps_world.specs.declared.names.Name.{Name}
use Rattle.ps_undo.specs.Changes.{kinds_at}
use Rattle.ps_undo.proofs.Gathering.{put_both}
use Rattle.ps_undo.proofs.changes.push_instances_back.Goals as goal

pub returns-clause-come : goal.returns-clause-come
returns-clause-come c =
    let names = keys_of c.args.comes.now in
    let had : Name → Option (Name × Name) = λ n. option_map (λ t. (n, t)) (lookup (same_name n) c.args.problem.now.instances) in
    let named = c.as_slice.ensures ∙ c.in_ok-push_names.ensures ∙ ap (λ l. l ++ names) c.requires.gone in
    put_both had c.args.goes.now names c.args.into.now c.push_kinds.new.out c.push_kinds-2.new.out c.requires.come c.in_ok-push_kinds.ensures (c.in_ok-push_kinds-2.ensures ∙ ap (λ ns. c.push_kinds.new.out ++ kinds_at c.args.problem.now.instances ns) named)

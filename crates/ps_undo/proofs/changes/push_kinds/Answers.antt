use Rattle.std.proofs.Common.{◌<◌, Option, ap, get_or, sym, ◌∙◌, length, arith}
use Rattle.std.specs.Map.{lookup}
use Rattle.std.specs.Option.{option_map}
use Rattle.std.proofs.lemmas.List.{get_or_default}
use Rattle.ps_world.specs.Names.{same_name}
use Rattle.ps_world.specs.declared.names.Name.{Name}
use Rattle.ps_undo.proofs.Gathering.{put_some, put_none}
use Rattle.ps_undo.proofs.changes.push_kinds.Goals as goal
use Rattle.ps_undo.proofs.changes.push_kinds.Goals.{in-Some+in_ok-push, in_default}

pub loop-name-preserved : goal.loop-name-preserved
loop-name-preserved c =
    let names = c.args.names.now in
    let i = c.loop-name.name-index in
    let name : Name = get_or names i (record { 0 = 0 }) in
    let below : i < length names = omega arith in
    let at = get_or_default names i (record { 0 = 0 }) name below in
    let paired : Name → Name × Name = λ t. (name, t) in
    let had : Name → Option (Name × Name) = λ n. option_map (λ t. (n, t)) (lookup (same_name n) c.args.problem.now.instances) in
    elim c.match-kind_of.branch [
      | in-Some+in_ok-push w ↦
          put_some had names i name below at c.args.out.now c.loop-name.out c.match-kind_of.out c.loop-name.invariant (paired w.in-Some.kind) (ap (option_map paired) (sym c.kind_of.ensures ∙ w.in-Some.is)) (w.out-is ∙ w.in_ok-push.ensures.ok)
      | in_default w ↦
          put_none had names i name below at c.args.out.now c.loop-name.out c.match-kind_of.out c.loop-name.invariant (ap (option_map paired) (sym c.kind_of.ensures ∙ w.in_default.is)) w.out-is
    ]

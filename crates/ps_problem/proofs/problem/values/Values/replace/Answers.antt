use Rattle.std.proofs.Common.{◌≡◌, None, ap, sym, ◌∙◌}
use Rattle.std.specs.Map.{lookup}
use Rattle.std.specs.Option.{option_copied_mut}
use Rattle.ps_world.specs.Knowledge.{same_fact}
use Rattle.ps_problem.proofs.PutValues.{set_nowhere}
use Rattle.ps_problem.proofs.problem.values.Values.replace.Goals as goal
use Rattle.ps_problem.proofs.problem.values.Values.replace.Goals.{in-Some, in_default}

pub returns : goal.returns
returns c =
    elim c.match-get_mut.branch [
      | in-Some w ↦ rw (w.self-inside-is, ← c.self.view_is) (c.get_mut.follows.holds c.args.number).0
      | in_default w ↦
          let none : lookup (same_fact c.args.term.now) c.self.inside.all.entries ≡ None = sym c.get_mut.ensures.value ∙ ap option_copied_mut w.in_default.is in
          rw (w.self-inside-is, ← c.self.view_is) (ap (λ (m : _). m.entries) c.get_mut.follows.holds-at-none ∙ sym (set_nowhere (same_fact c.args.term.now) c.self.inside.all.entries c.args.number none))
    ]

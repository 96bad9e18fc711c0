use Rattle.std.proofs.Common.{◌≡◌, true, All, get_or, take, sym, subst, arith}
use Rattle.std.specs.List.{Contains}
use Rattle.std.proofs.lemmas.List.{take_more}
use Rattle.ps_world.specs.Knowledge.{is_among}
use Rattle.ps_world.specs.declared.names.Name.{Name}
use Rattle.ps_problem.specs.Namings.{IsNaming}
use Rattle.ps_problem.specs.declared.problem.namings.Naming.{Naming}
use Rattle.ps_problem.proofs.Namings.{more_noted, still_noted, sound_more, argument_at}
use Rattle.ps_problem.proofs.problem.namings.note.Goals as goal

pub returns-in_err-insert-clause-kept : goal.returns-in_err-insert-clause-kept
returns-in_err-insert-clause-kept c = λ x h. subst (λ l. Contains l x) (sym c.in_err-insert.ensures.err) (c.loop-name.invariant.kept x h)

pub loop-name-preserved : goal.loop-name-preserved
loop-name-preserved c =
    let none : Name = record { 0 = 0 } in
    let names = c.as_slice-name-items.result.now in
    let i = c.loop-name.name-index in
    let fact = c.args.fact.now in
    let old = c.loop-name.namings.keys in
    let new : Naming = record { name = get_or names i none; fact = fact } in
    record {
      noted = λ n e.
          subst (λ l. Contains l (record { name = n; fact = fact })) (sym c.in_ok-insert.ensures.keys)
          (more_noted old fact (take i names) (get_or names i none) c.loop-name.invariant.noted n (subst (λ all. is_among n all ≡ true) (take_more names i none (omega arith)) e));
      kept = λ x h. subst (λ l. Contains l x) (sym c.in_ok-insert.ensures.keys) (still_noted old new x (c.loop-name.invariant.kept x h));
      sound = λ a.
          subst (All IsNaming) (sym c.in_ok-insert.ensures.keys)
          (sound_more old new (argument_at fact names i none c.as_slice-name-items.ensures (omega arith)) (c.loop-name.invariant.sound a));
    }

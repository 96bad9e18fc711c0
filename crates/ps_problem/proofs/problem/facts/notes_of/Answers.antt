use Rattle.std.proofs.Common.{map, sym, subst, Bor}
use Rattle.std.proofs.lemmas.List.{map_push}
use Rattle.ps_world.specs.declared.facts.Fact.{Fact}
use Rattle.ps_problem.specs.Namings.{AreNamed}
use Rattle.ps_problem.proofs.Namings.{next_named}
use Rattle.ps_problem.proofs.problem.facts.notes_of.Goals as goal

pub loop-fact-preserved : goal.loop-fact-preserved
loop-fact-preserved c =
    let named = next_named (map (λ (f : Bor Fact). f.now) c.loop-fact.yielded) c.loop-fact.namings.keys c.note.new.namings.keys c.in-Some.fact.now c.loop-fact.invariant c.in_ok-note.ensures.kept c.in_ok-note.ensures.sound c.in_ok-note.ensures.noted in
    subst (λ fs. AreNamed fs c.note.new.namings.keys) (sym (map_push (λ (f : Bor Fact). f.now) c.loop-fact.yielded c.in-Some.fact)) named

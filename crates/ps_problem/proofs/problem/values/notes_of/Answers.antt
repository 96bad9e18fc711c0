use Rattle.std.proofs.Common.{map, ap, sym, ◌∙◌, subst}
use Rattle.std.specs.Map.{keys_of}
use Rattle.std.specs.Map.Iter.{deref_pair}
use Rattle.std.proofs.lemmas.List.{map_push}
use Rattle.ps_world.specs.declared.facts.Fact.{Fact}
use Rattle.ps_world.specs.declared.numbers.Num.{Num}
use Rattle.ps_problem.specs.Namings.{AreNamed}
use Rattle.ps_problem.proofs.Namings.{next_named}
use Rattle.ps_problem.proofs.problem.values.notes_of.Goals as goal

pub loop-fact-preserved : goal.loop-fact-preserved
loop-fact-preserved c =
    let seen = map deref_pair c.loop-fact.yielded in
    let named = next_named (keys_of seen) c.loop-fact.namings.keys c.note.new.namings.keys c.in-Some.fact.now c.loop-fact.invariant c.in_ok-note.ensures.kept c.in_ok-note.ensures.sound c.in_ok-note.ensures.noted in
    let more = ap keys_of (map_push deref_pair c.loop-fact.yielded (c.in-Some.fact, c.in-Some.field-0-1)) ∙ map_push (λ (v : Fact × Num). v.0) seen (c.in-Some.fact.now, c.in-Some.field-0-1.now) in
    subst (λ fs. AreNamed fs c.note.new.namings.keys) (sym more) named

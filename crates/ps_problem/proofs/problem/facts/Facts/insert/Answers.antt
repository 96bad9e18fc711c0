use Rattle.std.proofs.Common.{IfSome, sym, subst}
use Rattle.ps_problem.specs.Namings.{AreNamed}
use Rattle.ps_problem.proofs.problem.facts.Facts.insert.Goals as goal

pub invariant_of-self-in_err-added : goal.invariant_of-self-in_err-added
invariant_of-self-in_err-added c =
    subst (λ l. IfSome c.note_where_taken.new.taken (λ s. AreNamed l s.keys)) (sym c.in_err-added.ensures.err)
    (c.in_ok-note_where_taken.ensures.same c.self.inside.all.keys c.self.invariant)

pub invariant_of-self-2 : goal.invariant_of-self-2
invariant_of-self-2 c =
    subst (λ l. IfSome c.note_where_taken.new.taken (λ s. AreNamed l s.keys)) (sym c.in_ok-added.ensures.keys)
    (c.in_ok-note_where_taken.ensures.more c.self.inside.all.keys c.self.invariant)

use Rattle.std.proofs.Common.{IfSome, ap, sym, subst, ◌∙◌}
use Rattle.std.specs.Map.{keys_of}
use Rattle.ps_problem.specs.Namings.{AreNamed}
use Rattle.ps_action.proofs.Facts.{facts_total}
use Rattle.ps_action.proofs.Keys.{keys-insert_entry}
use Rattle.ps_problem.proofs.problem.values.Values.insert.Goals as goal

pub invariant_of-self-in_err-held : goal.invariant_of-self-in_err-held
invariant_of-self-in_err-held c =
    subst (λ l. IfSome c.note_where_taken.new.taken (λ s. AreNamed (keys_of l) s.keys)) (sym c.in_err-held.ensures.err)
    (c.in_ok-note_where_taken.ensures.same (keys_of c.self.inside.all.entries) c.self.invariant)

pub invariant_of-self-2 : goal.invariant_of-self-2
invariant_of-self-2 c =
    subst (λ l. IfSome c.note_where_taken.new.taken (λ s. AreNamed l s.keys))
    (sym (ap keys_of c.in_ok-held.ensures.entries ∙ keys-insert_entry facts_total c.args.fact c.args.number c.self.inside.all.entries))
    (c.in_ok-note_where_taken.ensures.more (keys_of c.self.inside.all.entries) c.self.invariant)

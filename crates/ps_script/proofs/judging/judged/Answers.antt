use Rattle.std.proofs.Common.{Option, subst, ℕ}
use Rattle.ps_lists.specs.Lexemes.{marks}
use Rattle.ps_script.specs.Judged.{Fits}
use Rattle.ps_script.proofs.Beginnings.{misfit_words, scoped_words}
use Rattle.ps_script.proofs.judging.judged.Goals as goal

pub returns-in_ok-fault_at-in-Some : goal.returns-in_ok-fault_at-in-Some
returns-in_ok-fault_at-in-Some c = λ start tokens alike fits.
    let found = rw c.deref.ensures.value at c.in_ok-fault_at-in-Some.ensures in
    misfit_words start c.args.bytes.now tokens c.args.words.items c.in-Some.i _ found alike
    (subst (λ (o : Option ℕ). Fits start (marks c.args.words.items) o) c.in-Some.is fits)

pub returns-in-None : goal.returns-in-None
returns-in-None c = scoped_words c.args.bytes.now c.args.words.items c.args.misfit _ c.in-None.is c.scoped.ensures

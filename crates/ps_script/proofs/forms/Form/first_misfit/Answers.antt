use Rattle.std.proofs.Common.{◌≡◌, Ok, None, subst, sym}
use Rattle.ps_grammar.specs.Shape.{Derives, IsShallowFrom}
use Rattle.ps_script.specs.Forms.{start_of}
use Rattle.ps_script.proofs.forms.Form.first_misfit.Goals as goal

pub returns-in-SetFunction-clause-none : goal.returns-in-SetFunction-clause-none
returns-in-SetFunction-clause-none c =
    subst (λ f. c.first_fault-in-SetFunction.result ≡ Ok None → Derives (start_of f) c.args.marks.now × IsShallowFrom (start_of f) c.args.marks.now)
    (sym c.in-SetFunction.is) c.first_fault-in-SetFunction.ensures.none

use Rattle.std.proofs.Common.{◌≡◌, ap, ◌∙◌, eq-eqb}
use Rattle.ps_world.specs.declared.names.Name.{Name}
use Rattle.ps_problem.specs.declared.problem.namings.Naming.{Naming}
use Rattle.ps_problem.proofs.Namings.{from_here, is_found, found_there, not_there, not_true, squeezed}
use Rattle.ps_problem.proofs.problem.namings.first_naming.Goals as goal

pub returns-in_err-found-clause-none : goal.returns-in_err-found-clause-none
returns-in_err-found-clause-none c =
    rw c.from_residual.ensures (λ f h.
    let x : Naming = record { name = c.args.name; fact = f } in
    not_there c.args.namings.now.keys x
    ((c.range.ensures.in_range tt).5 c.in_err-found.ensures.steps.0 x (from_here c.args.name c.lowest_of.result f c.lowest_of.ensures, tt)) h)

pub returns-then-eq-clause-there : goal.returns-then-eq-clause-there
returns-then-eq-clause-there c =
    let inside = rw c.in_ok-found.ensures.steps at (c.range.ensures.in_range tt).1 in
    found_there c.args.namings.now.keys c.in_ok-found.field-0.now inside.1

pub returns-else-eq-clause-none : goal.returns-else-eq-clause-none
returns-else-eq-clause-none c =
    λ f h.
    let x : Naming = record { name = c.args.name; fact = f } in
    let inside = rw c.in_ok-found.ensures.steps at (c.range.ensures.in_range tt).1 in
    let below = (c.range.ensures.in_range tt).2 x (from_here c.args.name c.lowest_of.result f c.lowest_of.ensures, tt) (is_found c.args.namings.now.keys x h) in
    let upper = rw c.in_ok-found.ensures.steps at below in
    let same : c.in_ok-found.field-0.now.name ≡ c.args.name = squeezed c.args.name c.lowest_of.result f c.in_ok-found.field-0.now inside.0.0 upper in
    not_true (c.if-eq.ensures ∙ eq-eqb c.in_ok-found.field-0.now.name.0 c.args.name.0 (ap (λ (n : Name). n.0) same))

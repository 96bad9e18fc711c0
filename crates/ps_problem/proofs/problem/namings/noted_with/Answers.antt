use Rattle.std.proofs.Common.{◌≡◌, true, false, ◌++◌, map, ap, sym, ◌∙◌, subst}
use Rattle.std.proofs.lemmas.List.{append-nil}
use Rattle.std.proofs.lemmas.Bool.{not-true}
use Rattle.ps_problem.specs.Namings.{lowest_with, naming_cmp, noted_with}
use Rattle.ps_problem.specs.declared.problem.namings.Naming.{Naming}
use Rattle.ps_problem.proofs.Namings.{namings_total}
use Rattle.ps_problem.proofs.Noted.{notes_together, of_name, one_more}
use Rattle.ps_problem.proofs.Ranges.{AreLeft, fewer_left, from_least_on, had, none_left}
use Rattle.ps_problem.proofs.problem.namings.noted_with.Goals as goal

pub loop-naming-init : goal.loop-naming-init
loop-naming-init c =
    let name = c.args.name in
    let all = c.args.namings.now.keys in
    let both = from_least_on naming_cmp (lowest_with name) (of_name name) (notes_together name) namings_total all c.lowest_with.result c.lowest_with.ensures c.range-naming-items.ensures.ordered in
    let is = c.into_iter-naming-iterator.ensures.into_iter_gives ∙ c.range-naming-items.ensures.between tt in
    (subst (AreLeft naming_cmp (lowest_with name)) (sym is) both.1, ap (λ fs. fs ++ noted_with name c.into_iter-naming-iterator.result) c.new-found.ensures.items ∙ ap (noted_with name) is ∙ ap (map (λ (x : Naming). x.fact)) both.0)

pub loop-naming-preserved : goal.loop-naming-preserved
loop-naming-preserved c =
    let name = c.args.name in
    let step = c.in-Some.ensures.steps in
    let left = subst (AreLeft naming_cmp (lowest_with name)) step c.loop-naming.invariant.0 in
    let same : of_name name c.in-Some.naming.now ≡ true = had (of_name name c.in-Some.naming.now) (sym c.if-ne.ensures) in (
      fewer_left naming_cmp (lowest_with name) c.in-Some.naming.now c.next.new.self left,
      ap (λ fs. fs ++ noted_with name c.next.new.self) c.in_ok-push.ensures.items ∙ one_more name c.loop-naming.found.items c.in-Some.naming.now c.next.new.self same
          ∙ ap (λ xs. c.loop-naming.found.items ++ noted_with name xs) (sym step) ∙ c.loop-naming.invariant.1,
    )

pub returns-then-ne-clause-noted : goal.returns-then-ne-clause-noted
returns-then-ne-clause-noted c =
    let name = c.args.name in
    let step = c.in-Some.ensures.steps in
    let left = subst (AreLeft naming_cmp (lowest_with name)) step c.loop-naming.invariant.0 in
    let other : of_name name c.in-Some.naming.now ≡ false = not-true (of_name name c.in-Some.naming.now) (sym c.if-ne.ensures) in
    sym (append-nil c.loop-naming.found.items)
    ∙ ap (λ fs. c.loop-naming.found.items ++ fs) (sym (ap (noted_with name) step ∙ ap (map (λ (x : Naming). x.fact)) (none_left naming_cmp (lowest_with name) (of_name name) (notes_together name) c.in-Some.naming.now c.next.new.self left other)))
    ∙ c.loop-naming.invariant.1

pub returns-clause-noted : goal.returns-clause-noted
returns-clause-noted c =
    sym (append-nil c.loop-naming.found.items) ∙ ap (λ xs. c.loop-naming.found.items ++ noted_with c.args.name xs) (sym c.in-None.ensures.steps.0)
    ∙ c.loop-naming.invariant.1

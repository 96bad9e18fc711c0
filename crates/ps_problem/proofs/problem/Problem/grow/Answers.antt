use Rattle.std.specs.Result.{OnErr}
use Rattle.std.proofs.Common.{Result, Ok, Err, ◌≡◌, ◌∙◌, ap, sym, fold, take, length}
use Rattle.std.specs.BTreeSet.{insert_key}
use Rattle.std.proofs.Math.Seq.{take-length}
use Rattle.ps_world.specs.Facts.{fact_cmp}
use Rattle.ps_problem.proofs.problem.Problem.grow.Goals as goal

whatever : {A E : Type 0} (r : Result A E) {P : Type 0} → P → OnErr r P
whatever (Ok a) p = tt
whatever (Err e) p = p

pub returns-in_err-insert_all-2-clause-err : goal.returns-in_err-insert_all-2-clause-err
returns-in_err-insert_all-2-clause-err c =
    let fresh = c.args.found.now.fresh.items in
    let e = c.in_err-insert_all-2.ensures.err in
    let facts : c.insert_all.new.self ≡ fold (insert_key fact_cmp) c.self.inside.facts (take (length fresh) fresh) =
    c.in_ok-insert_all.ensures.ok ∙ ap (fold (insert_key fact_cmp) c.self.inside.facts) (c.deref.ensures.value ∙ sym (take-length fresh)) in
    whatever c.from_residual-in_err-insert_all-2.result (length fresh, e.0, rw (← c.self.view_is) (λ i. record { instances = c.self.inside.instances; facts = facts i; values = e.1 i; goal = c.self.inside.goal }))

use Rattle.std.proofs.Common.{OnOk, sym, subst}
use Rattle.ps_marks.specs.Making.{facts_made}
use Rattle.ps_marks.specs.Rules.{TakesPlaces}
use Rattle.ps_marks.specs.declared.making.Made.{Made}
use Rattle.ps_marks.proofs.rules.give.Goals as goal

pub returns-in-Own : goal.returns-in-Own
returns-in-Own c =
    let P : Made → Type 0 = λ m. OnOk c.give_own.result (TakesPlaces c.args.places.now (facts_made c.args.expert.now c.args.problem.now m) c.args.gives.now.items c.give_own.new.gives.items) in
    subst P (sym c.in-Own.is) c.give_own.ensures

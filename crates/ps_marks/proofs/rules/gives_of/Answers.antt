use Rattle.std.proofs.Common.{[], ℕ, List, subst}
use Rattle.ps_marks.specs.Making.{made_by}
use Rattle.ps_marks.specs.Rules.{TakesPlaces}
use Rattle.ps_marks.proofs.Placed.{takes_more}
use Rattle.ps_marks.proofs.rules.gives_of.Goals as goal

pub returns : goal.returns
returns c =
    let atoms = c.args.places.now in
    let begins = made_by c.args.expert.now c.args.problem.now c.args.begins.now in
    let ends = made_by c.args.expert.now c.args.problem.now c.args.ends.now in
    let P : List ℕ → Type 0 = λ l. TakesPlaces atoms begins l c.give_all.new.gives.items in
    takes_more atoms begins ends [] c.give_all.new.gives.items c.give_all-2.new.gives.items (subst P c.new-gives.ensures.items c.in_ok-give_all.ensures) c.in_ok-give_all-2.ensures

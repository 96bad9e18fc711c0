use Rattle.std.proofs.Common.{◌≡◌, [], IfOk, List, subst}
use Rattle.ps_world.specs.declared.facts.Fact.{Fact}
use Rattle.ps_action.specs.declared.acts.GroundAction.{GroundAction}
use Rattle.ps_domain.proofs.Members.{zip_length}
use Rattle.ps_marks.specs.Candidates.{Collects, made_in}
use Rattle.ps_marks.specs.Rules.{IsRuleOf}
use Rattle.ps_marks.proofs.CouldBe.{candidates_are}
use Rattle.ps_marks.proofs.candidates.candidates.Goals as goal

pub found_by-requires-clause-many : goal.found_by-requires-clause-many
found_by-requires-clause-many c = zip_length (IsRuleOf c.args.expert.now c.args.problem.now c.args.places.now) c.args.actions.now c.args.rules.now c.requires.rules

pub returns : goal.returns
returns c =
    let d = c.args.expert.now in
    let k = c.args.problem.now in
    let found = c.in_ok-found.found.keys in
    let P : List GroundAction → Type 0 = λ gs. Collects k (made_in d k gs) [] found in
    let Q : List Fact → Type 0 = λ l. IfOk c.first_of.result (λ facts. facts.items ≡ l) in
    subst Q (candidates_are d k found c.in_ok-_known.ensures.rise c.in_ok-found.ensures.rise (subst P c.requires.actions c.in_ok-found.ensures.all)) c.first_of.ensures

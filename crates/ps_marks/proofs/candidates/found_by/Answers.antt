use Rattle.std.proofs.Common.{[], Bool, None, cond, get_or, subst}
use Rattle.ps_action.specs.declared.acts.GroundAction.{GroundAction}
use Rattle.ps_marks.specs.Atoms.{can_make}
use Rattle.ps_marks.specs.Candidates.{Collects}
use Rattle.ps_closing.specs.Closing.{is_ready}
use Rattle.ps_closing.specs.declared.rule.Rule.{Rule}
use Rattle.ps_marks.proofs.Finding.{found_more}
use Rattle.ps_marks.proofs.AtPlaces.{none_rises}
use Rattle.ps_marks.proofs.candidates.found_by.Goals as goal

pub loop-i-preserved : goal.loop-i-preserved
loop-i-preserved c =
    let d = c.args.expert.now in
    let k = c.args.problem.now in
    let gs = c.args.actions.now in
    let rs = c.args.rules.now in
    let flags = c.args.flags.now in
    let i = c.loop-i.i in
    let g = c.index-actions-i.result in
    let r = c.index-rules-i.result in
    let old = c.loop-i.found.keys in
    let new = c.collect_used.new.found.keys in
    let P : Bool → Type 0 = λ b. Collects k (cond b (can_make d k g) []) old new in
    let Q : Rule → Type 0 = λ q. Collects k (cond (is_ready None flags q) (can_make d k g) []) old new in
    let R : GroundAction → Type 0 = λ a. Collects k (cond (is_ready None flags (get_or rs i r)) (can_make d k a) []) old new in
    found_more d k c.args.places.now gs rs flags c.requires.rules c.requires.flags i g r c.loop-i-test.true old new c.loop-i.invariant
    (subst R c.index-actions-i.is (subst Q c.index-rules-i.is (subst P c.is_used-used.ensures c.in_ok-collect_used.ensures)))

pub returns-clause-rise : goal.returns-clause-rise
returns-clause-rise c = c.loop-i.invariant.rise none_rises

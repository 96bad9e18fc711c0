use Rattle.std.proofs.Common.{ℕ, List, filter, ap, sym, ◌∙◌, subst}
use Rattle.ps_world.specs.declared.facts.Fact.{Fact}
use Rattle.ps_marks.specs.Closures.{is_in}
use Rattle.ps_marks.specs.Landmarks.{goal_atoms, is_needed, landmarks}
use Rattle.ps_marks.specs.Rules.{AllIn, ArePlaces}
use Rattle.ps_marks.proofs.MarksAre.{candidate_unknown, missed_needed}
use Rattle.ps_marks.proofs.marks.landmarks_with.Goals as goal

pub places_of-requires : goal.places_of-requires
places_of-requires c =
    let P : List Fact → Type 0 = λ fs. AllIn c.args.places.now fs in
    subst P (sym (c.as_slice.ensures.value ∙ c.in_ok-asked.ensures ∙ ap goal_atoms c.goal.ensures)) c.requires.goal

pub returns : goal.returns
unfolding landmarks
returns c =
    let d = c.args.expert.now in
    let k = c.args.problem.now in
    let atoms = c.args.places.now in
    let asked = c.as_slice.ensures.value ∙ c.in_ok-asked.ensures ∙ ap goal_atoms c.goal.ensures in
    let P : List Fact → Type 0 = λ fs. ArePlaces atoms c.in_ok-at.at.items fs in
    let Q : List ℕ → Type 0 = λ l. ArePlaces atoms l (goal_atoms k.goal) in
    let at : ArePlaces atoms c.as_slice-2.result.now (goal_atoms k.goal) = subst Q (sym c.as_slice-2.ensures.value) (subst P asked c.in_ok-at.ensures) in
    c.in_ok-marks.ensures (is_needed d k) (λ f b there missed.
    missed_needed d k atoms c.args.start.now c.args.rules.now c.as_slice-2.result.now c.requires.rules at f b (candidate_unknown d k f (ap (λ fs. is_in fs f) (sym c.requires.candidates) ∙ there)) missed)
    ∙ ap (filter (is_needed d k)) c.requires.candidates

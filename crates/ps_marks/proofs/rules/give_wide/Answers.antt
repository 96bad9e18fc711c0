use Rattle.std.proofs.Common.{◌≡◌, ◌+◌, ℕ, Global, List, Some, Vec, length, slice_get, ap, sym, ◌∙◌, subst, arith}
use Rattle.std.proofs.lemmas.Option.{slice_get-get_or}
use Rattle.ps_world.specs.declared.facts.Fact.{Fact}
use Rattle.ps_marks.specs.Making.{facts_made}
use Rattle.ps_marks.proofs.Placed.{TakesBefore, before_all, before_none, before_passed, before_taken}
use Rattle.ps_marks.proofs.rules.give_wide.Goals as goal
use Rattle.ps_marks.proofs.rules.give_wide.Goals.{then-can_make+in_ok-push, else-can_make}

pub loop-place-init : goal.loop-place-init
loop-place-init c = before_none c.args.places.now (facts_made c.args.expert.now c.args.problem.now c.args.add.now) c.args.gives.now.items

pub loop-place-preserved : goal.loop-place-preserved
loop-place-preserved c =
    let atoms = c.args.places.now in
    let fs = facts_made c.args.expert.now c.args.problem.now c.args.add.now in
    let first = c.args.gives.now.items in
    let n = c.loop-place.place in
    let x = c.index-facts-place.result in
    let at : slice_get atoms n ≡ Some x =
    ap (λ (l : List Fact). slice_get l n) (sym c.as_slice-facts.ensures.facts) ∙ slice_get-get_or c.as_slice-facts.result.now n x c.loop-place-test.true ∙ ap Some (sym c.index-facts-place.is) in
    let P : List ℕ → Type 0 = λ l. TakesBefore atoms fs (n + 1) first l in
    elim c.if-can_make.branch [
      | then-can_make+in_ok-push w ↦
          subst P (sym (ap (λ (v : Vec ℕ Global). v.items) w.gives-is ∙ w.in_ok-push.ensures.items)) (before_taken atoms fs n x first c.loop-place.gives.items at (sym c.can_make.ensures ∙ w.if-can_make.true) c.loop-place.invariant)
      | else-can_make w ↦
          subst P (sym (ap (λ (v : Vec ℕ Global). v.items) w.gives-is)) (before_passed atoms fs n x first c.loop-place.gives.items at (sym c.can_make.ensures ∙ w.if-can_make.false) c.loop-place.invariant)
    ]

pub returns : goal.returns
returns c =
    let atoms = c.args.places.now in
    let fs = facts_made c.args.expert.now c.args.problem.now c.args.add.now in
    let P : ℕ → Type 0 = λ n. TakesBefore atoms fs n c.args.gives.now.items c.loop-place.gives.items in
    let all : c.loop-place.place ≡ length atoms = omega (arith, ap (λ (l : List Fact). length l) c.as_slice-facts.ensures.facts) in
    before_all atoms fs c.args.gives.now.items c.loop-place.gives.items (subst P all c.loop-place.invariant)

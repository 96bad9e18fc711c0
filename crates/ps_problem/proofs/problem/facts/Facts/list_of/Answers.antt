use Rattle.std.proofs.Common.{◌≡◌, true, false, ◌++◌, filter, ap, sym, ◌∙◌, subst}
use Rattle.std.proofs.lemmas.List.{append-nil}
use Rattle.std.proofs.lemmas.Bool.{not-true}
use Rattle.ps_world.specs.Facts.{fact_cmp}
use Rattle.ps_action.proofs.Facts.{facts_total}
use Rattle.ps_problem.specs.Namings.{lowest_of}
use Rattle.ps_problem.proofs.Heads.{heads_together, of_head, one_more}
use Rattle.ps_problem.proofs.Ranges.{AreLeft, fewer_left, from_least_on, had, none_left}
use Rattle.ps_problem.proofs.problem.facts.Facts.list_of.Goals as goal

pub loop-fact-init : goal.loop-fact-init
loop-fact-init c =
    let head = c.args.head in
    let all = c.self.inside.all.keys in
    let both = from_least_on fact_cmp (lowest_of head) (of_head head) (heads_together head) facts_total all c.lowest_of.result c.lowest_of.ensures c.range-fact-items.ensures.ordered in
    let is = c.into_iter-fact-iterator.ensures.into_iter_gives ∙ c.range-fact-items.ensures.between tt in
    (subst (AreLeft fact_cmp (lowest_of head)) (sym is) both.1, ap (λ fs. fs ++ filter (of_head head) c.into_iter-fact-iterator.result) c.new-found.ensures.items ∙ ap (filter (of_head head)) is ∙ both.0 ∙ ap (filter (of_head head)) c.self.view_is)

pub loop-fact-preserved : goal.loop-fact-preserved
loop-fact-preserved c =
    let head = c.args.head in
    let step = c.in-Some.ensures.steps in
    let left = subst (AreLeft fact_cmp (lowest_of head)) step c.loop-fact.invariant.0 in
    let same : of_head head c.in-Some.fact.now ≡ true = had (of_head head c.in-Some.fact.now) (sym c.if-ne.ensures) in (
      fewer_left fact_cmp (lowest_of head) c.in-Some.fact.now c.next.new.self left,
      ap (λ fs. fs ++ filter (of_head head) c.next.new.self) c.in_ok-push.ensures.items ∙ one_more head c.loop-fact.found.items c.in-Some.fact.now c.next.new.self same
          ∙ ap (λ fs. c.loop-fact.found.items ++ filter (of_head head) fs) (sym step) ∙ c.loop-fact.invariant.1,
    )

pub returns-then-ne : goal.returns-then-ne
returns-then-ne c =
    let head = c.args.head in
    let step = c.in-Some.ensures.steps in
    let left = subst (AreLeft fact_cmp (lowest_of head)) step c.loop-fact.invariant.0 in
    let other : of_head head c.in-Some.fact.now ≡ false = not-true (of_head head c.in-Some.fact.now) (sym c.if-ne.ensures) in
    sym (append-nil c.loop-fact.found.items)
    ∙ ap (λ fs. c.loop-fact.found.items ++ fs) (sym (ap (filter (of_head head)) step ∙ none_left fact_cmp (lowest_of head) (of_head head) (heads_together head) c.in-Some.fact.now c.next.new.self left other))
    ∙ c.loop-fact.invariant.1

pub returns : goal.returns
returns c =
    sym (append-nil c.loop-fact.found.items) ∙ ap (λ fs. c.loop-fact.found.items ++ filter (of_head c.args.head) fs) (sym c.in-None.ensures.steps.0)
    ∙ c.loop-fact.invariant.1

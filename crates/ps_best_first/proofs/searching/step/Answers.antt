use Rattle.std.proofs.Common.{◌≡◌, ◌≤◌, ◌<◌, ℕ, Bool, List, Option, Some, cond, length, nat_eq, slice_get, sym, ap, subst, ◌∙◌, arith}
use Rattle.std.specs.List.{list_any}
use Rattle.std.specs.Option.{IfSome}
use Rattle.ps_action.specs.Plans.{most_acts}
use Rattle.ps_greedy.specs.declared.found.Found.{Found}
use Rattle.ps_greedy.specs.declared.found.Found.TheVariants.{NoPlan, Spent}
use Rattle.ps_best_first.specs.declared.leaves.Leaf.{Leaf}
use Rattle.ps_best_first.proofs.Searches.{added_so, ends, finds, goes_on, is_short, left_length, left_there, no_fewer, spends, stays, within}
use Rattle.ps_best_first.proofs.searching.step.Goals as goal

pub returns-in_default-clause-found : goal.returns-in_default-clause-found
returns-in_default-clause-found c = λ more.
    let none = c.in_default.ensures in
    let last : List Leaf → Found = λ ls. cond (list_any (λ (l : Leaf). nat_eq l.depth most_acts) ls) Spent NoPlan in
    ends c.args.task.now c.args.budget more c.args.reached.now c.args.leaves.now c.requires none.0 ∙ ap last (sym none.1) ∙ sym c.ended.ensures

pub overflow_cast-place : goal.overflow_cast-place
overflow_cast-place c =
    let w = c.in-Some.ensures in
    let there = within c.args.task.now c.args.budget c.args.reached.now c.args.leaves.now c.requires c.in-Some.place w.0 w.1 in
    let room = c.requires.room in
    omega (arith, there, room)

pub expand-requires-clause-there : goal.expand-requires-clause-there
expand-requires-clause-there c =
    let w = c.in-Some.ensures in
    within c.args.task.now c.args.budget c.args.reached.now c.args.leaves.now c.requires c.in-Some.place w.0 w.1

pub returns-in-Some-2-clause-found : goal.returns-in-Some-2-clause-found
returns-in-Some-2-clause-found c = λ more.
    let w = c.in-Some.ensures in
    finds c.args.task.now c.args.budget c.args.reached.now c.args.leaves.now c.requires c.in-Some.place w.0 w.1 more c.in-Some-2.acts (sym c.in-Some-2.is ∙ c.in_ok-acts.ensures.found)

pub returns-then-len-budget-clause-found : goal.returns-then-len-budget-clause-found
returns-then-len-budget-clause-found c = λ more.
    let w = c.in-Some.ensures in
    let full : c.args.budget ≤ length c.expand.new.reached = omega (arith, c.if-len-budget.true, c.len.ensures) in
    spends c.args.task.now c.args.budget c.args.reached.now c.args.leaves.now c.requires c.in-Some.place w.0 w.1 c.expand.new.reached (c.in_ok-acts.ensures.nodes c.in_default-2.is) (sym c.in_default-2.is ∙ c.in_ok-acts.ensures.found) more full

pub take_after-requires-clause-within : goal.take_after-requires-clause-within
take_after-requires-clause-within c =
    let w = c.in-Some.ensures in
    let there = within c.args.task.now c.args.budget c.args.reached.now c.args.leaves.now c.requires c.in-Some.place w.0 w.1 in
    let many = left_length c.args.task.now c.args.budget c.args.reached.now c.args.leaves.now c.requires c.in-Some.place w.0 w.1 c.take.new.self w.2 in
    omega (arith, there, many)

pub take_after-requires-clause-few : goal.take_after-requires-clause-few
take_after-requires-clause-few c =
    let w = c.in-Some.ensures in
    no_fewer c.args.task.now c.args.budget c.args.reached.now c.args.leaves.now c.requires c.in-Some.place w.0 w.1 c.take.new.self w.2 c.expand.new.reached (c.in_ok-acts.ensures.nodes c.in_default-2.is)

pub take_after-requires-clause-short : goal.take_after-requires-clause-short
take_after-requires-clause-short c =
    let w = c.in-Some.ensures in
    let there = left_there c.args.task.now c.args.budget c.args.reached.now c.args.leaves.now c.requires c.in-Some.place w.0 w.1 c.take.new.self w.2 in
    let P : Option Leaf → Type 0 = λ o. IfSome o (λ l. l.depth < most_acts) in
    subst P (sym there) (is_short c.args.task.now c.args.budget c.args.reached.now c.args.leaves.now c.requires c.in-Some.place w.0 w.1)

pub returns-clause-found : goal.returns-clause-found
returns-clause-found c = λ more.
    let w = c.in-Some.ensures in
    let room : length c.expand.new.reached < c.args.budget = omega (arith, c.if-len-budget.false, c.len.ensures) in
    let added = added_so c.args.task.now c.args.budget c.args.reached.now c.args.leaves.now c.requires c.in-Some.place w.0 w.1 c.take.new.self w.2 c.expand.new.reached c.take_after.new.leaves c.in_ok-take_after.ensures in
    goes_on c.args.task.now c.args.budget c.args.reached.now c.args.leaves.now c.requires c.in-Some.place w.0 w.1 c.expand.new.reached (c.in_ok-acts.ensures.nodes c.in_default-2.is) (sym c.in_default-2.is ∙ c.in_ok-acts.ensures.found) room c.take_after.new.leaves added more

pub returns-clause-search : goal.returns-clause-search
returns-clause-search c = λ none.
    let w = c.in-Some.ensures in
    let room : length c.expand.new.reached < c.args.budget = omega (arith, c.if-len-budget.false, c.len.ensures) in
    let added = added_so c.args.task.now c.args.budget c.args.reached.now c.args.leaves.now c.requires c.in-Some.place w.0 w.1 c.take.new.self w.2 c.expand.new.reached c.take_after.new.leaves c.in_ok-take_after.ensures in
    stays c.args.task.now c.args.budget c.args.reached.now c.args.leaves.now c.requires c.in-Some.place w.0 w.1 c.expand.new.reached (c.in_ok-acts.ensures.nodes c.in_default-2.is) (sym c.in_default-2.is ∙ c.in_ok-acts.ensures.found) room c.take_after.new.leaves added (c.in_ok-acts.ensures.kept c.in_default-2.is)

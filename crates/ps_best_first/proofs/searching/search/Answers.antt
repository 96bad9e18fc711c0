use Rattle.std.proofs.Common.{◌≡◌, ◌++◌, ◌-◌, ◌+◌, ℕ, zero, suc, List, Option, drop, length, map, unwrap_or, sym, ap, ◌∙◌, arith}
use Rattle.ps_solve.specs.Stores.{nodes_in}
use Rattle.ps_greedy.specs.declared.found.Found.{Found}
use Rattle.ps_best_first.specs.Search.{found_from, leaf_of}
use Rattle.ps_best_first.specs.declared.leaves.Leaf.{Leaf}
use Rattle.ps_best_first.proofs.Searches.{begins_search, begins_so}
use Rattle.ps_best_first.proofs.searching.search.Goals as goal

pub loop-done-init : goal.loop-done-init
loop-done-init c =
    let t = c.args.task.now in
    let f = leaf_of t.problem.now 0 c.args.marks.now in
    let kept = c.in_ok-take_in.ensures ∙ ap (λ (xs : List Leaf). xs ++ map f (drop (length xs) (nodes_in t c.in_ok-reached.reached))) c.new-leaves.ensures in
    let all : c.args.budget - 0 ≡ c.args.budget = omega arith in
    record {
      search = begins_search t c.in_ok-reached.reached c.take_in.new.leaves c.args.marks.now c.in_ok-reached.ensures.nodes kept c.args.budget c.requires.budget c.in_ok-reached.ensures.wide c.requires.bad;
      same = ap (λ n. found_from t c.args.budget n c.in_ok-reached.reached c.take_in.new.leaves) all;
    }

pub loop-done-preserved : goal.loop-done-preserved
loop-done-preserved c =
    let t = c.args.task.now in
    let more = c.args.budget - (c.loop-done._done + 1) in
    let one : suc more ≡ c.args.budget - c.loop-done._done = omega (arith, c.loop-done-test.true) in
    let next = found_from t c.args.budget more c.step.new.reached c.step.new.leaves in
    record {
      search = c.in_ok-found.ensures.search c.in_default.is;
      same = sym (ap (λ (o : Option Found). unwrap_or o next) c.in_default.is)
          ∙ sym (c.in_ok-found.ensures.found more)
          ∙ ap (λ n. found_from t c.args.budget n c.loop-done.reached c.loop-done.leaves) one
          ∙ c.loop-done.invariant.same;
    }

pub returns-in-Some : goal.returns-in-Some
returns-in-Some c =
    let t = c.args.task.now in
    let f = leaf_of t.problem.now 0 c.args.marks.now in
    let kept = c.in_ok-take_in.ensures ∙ ap (λ (xs : List Leaf). xs ++ map f (drop (length xs) (nodes_in t c.in_ok-reached.reached))) c.new-leaves.ensures in
    let more = c.args.budget - (c.loop-done._done + 1) in
    let one : suc more ≡ c.args.budget - c.loop-done._done = omega (arith, c.loop-done-test.true) in
    let next = found_from t c.args.budget more c.step.new.reached c.step.new.leaves in
    sym (ap (λ (o : Option Found). unwrap_or o next) c.in-Some.is)
    ∙ sym (c.in_ok-found.ensures.found more)
    ∙ ap (λ n. found_from t c.args.budget n c.loop-done.reached c.loop-done.leaves) one
    ∙ c.loop-done.invariant.same
    ∙ begins_so t c.in_ok-reached.reached c.take_in.new.leaves c.args.marks.now c.in_ok-reached.ensures.nodes kept c.args.budget c.args.budget

pub returns : goal.returns
returns c =
    let t = c.args.task.now in
    let f = leaf_of t.problem.now 0 c.args.marks.now in
    let kept = c.in_ok-take_in.ensures ∙ ap (λ (xs : List Leaf). xs ++ map f (drop (length xs) (nodes_in t c.in_ok-reached.reached))) c.new-leaves.ensures in
    let none : zero ≡ c.args.budget - c.loop-done._done = omega (arith, c.loop-done-test.false) in
    ap (λ n. found_from t c.args.budget n c.loop-done.reached c.loop-done.leaves) none
    ∙ c.loop-done.invariant.same
    ∙ begins_so t c.in_ok-reached.reached c.take_in.new.leaves c.args.marks.now c.in_ok-reached.ensures.nodes kept c.args.budget c.args.budget

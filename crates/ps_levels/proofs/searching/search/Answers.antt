use Rattle.std.proofs.Common.{◌≡◌, ◌<◌, ◌++◌, ◌+◌, ◌-◌, ℕ, suc, Some, None, option_map, drop, flat_map, length, take, ap, sym, ◌∙◌, subst, arith, add-one}
use Rattle.ps_levels.specs.Levels.{answer_from, first_good, fresh, level}
use Rattle.ps_levels.proofs.Nexts.{no_node}
use Rattle.ps_levels.proofs.Depths.{IsAt, all_fewer, deepens, goes_on, is_left, is_spent, is_whole, next_first, planned, spent}
use Rattle.ps_levels.proofs.searching.search.Goals as goal

-- a depth that isn't the last
one_more : (n most : ℕ) → n < most → most - n ≡ suc (most - suc n)
one_more n most h = omega arith

pub returns-then-reached-budget-clause-answer : goal.returns-then-reached-budget-clause-answer
returns-then-reached-budget-clause-answer g c =
    let p = g.F.Frontier.space c.args.frontier.now in
    let path = g.F.Frontier.path in
    let nodes = g.F.Frontier.nodes c.loop-depth.frontier in
    let n = c.loop-depth.depth in
    let inv = c.loop-depth.invariant in
    let reached = is_spent p c.args.budget n c.loop-depth.done nodes inv.here (omega (arith, c.len-reached.ensures, c.if-reached-budget.true)) in
    spent p path c.args.budget (c.args.last - suc n) n inv.here.here reached.0 reached.1
    ∙ ap (λ m. answer_from p path c.args.budget m n) (sym (one_more n c.args.last c.loop-depth-test.true)) ∙ inv.left

pub returns-in-Some-2-clause-answer : goal.returns-in-Some-2-clause-answer
returns-in-Some-2-clause-answer g c =
    let p = g.F.Frontier.space c.args.frontier.now in
    let path = g.F.Frontier.path in
    let nodes = g.F.Frontier.nodes c.loop-depth.frontier in
    let n = c.loop-depth.depth in
    let inv = c.loop-depth.invariant in
    let short : length nodes < c.args.budget = omega (arith, c.len-reached.ensures, c.if-reached-budget.false) in
    let left = is_left p c.args.budget n c.loop-depth.done nodes inv.here (omega (arith, c.len-reached.ensures, c.if-done-reached.false)) in
    let found : option_map path (first_good p (level p (suc n))) ≡ Some c.in-Some-2.path =
    ap (option_map path) (sym (next_first p c.args.budget n c.loop-depth.done nodes inv.here c.requires.exact short))
    ∙ (λ j. option_map path (first_good (sym inv.space j) (flat_map (sym inv.space j).moves (drop c.loop-depth.done nodes))))
    ∙ sym c.in_ok-path-2.ensures.found ∙ c.in-Some-2.is in
    planned p path c.args.budget (c.args.last - suc n) (suc n) c.in-Some-2.path found
    ∙ sym (goes_on p path c.args.budget (c.args.last - suc n) n inv.here.here left (all_fewer p c.args.budget n c.loop-depth.done nodes inv.here short))
    ∙ ap (λ m. answer_from p path c.args.budget m n) (sym (one_more n c.args.last c.loop-depth-test.true)) ∙ inv.left

pub returns-in-Some-2-clause-frugal : goal.returns-in-Some-2-clause-frugal
returns-in-Some-2-clause-frugal g c =
    let p = g.F.Frontier.space c.args.frontier.now in
    let path = g.F.Frontier.path in
    let nodes = g.F.Frontier.nodes c.loop-depth.frontier in
    let n = c.loop-depth.depth in
    let inv = c.loop-depth.invariant in
    let short : length nodes < c.args.budget = omega (arith, c.len-reached.ensures, c.if-reached-budget.false) in
    let found : option_map path (first_good p (level p (suc n))) ≡ Some c.in-Some-2.path =
    ap (option_map path) (sym (next_first p c.args.budget n c.loop-depth.done nodes inv.here c.requires.exact short))
    ∙ (λ j. option_map path (first_good (sym inv.space j) (flat_map (sym inv.space j).moves (drop c.loop-depth.done nodes))))
    ∙ sym c.in_ok-path-2.ensures.found ∙ c.in-Some-2.is in
    let whole = is_whole p c.args.budget n c.loop-depth.done nodes inv.here short in
    (suc n, found, (omega (arith, c.expand_level.ensures.count, c.len-reached.ensures, ap length whole), all_fewer p c.args.budget n c.loop-depth.done nodes inv.here short))

pub loop-depth-preserved : goal.loop-depth-preserved
loop-depth-preserved g c =
    let p = g.F.Frontier.space c.args.frontier.now in
    let path = g.F.Frontier.path in
    let nodes = g.F.Frontier.nodes c.loop-depth.frontier in
    let new = g.F.Frontier.nodes c.expand_level.new.frontier in
    let n = c.loop-depth.depth in
    let done = c.loop-depth.done in
    let inv = c.loop-depth.invariant in
    let short : length nodes < c.args.budget = omega (arith, c.len-reached.ensures, c.if-reached-budget.false) in
    let left = is_left p c.args.budget n done nodes inv.here (omega (arith, c.len-reached.ensures, c.if-done-reached.false)) in
    let unfound : option_map path (first_good p (level p (suc n))) ≡ None =
    ap (option_map path) (sym (next_first p c.args.budget n done nodes inv.here c.requires.exact short))
    ∙ (λ j. option_map path (first_good (sym inv.space j) (flat_map (sym inv.space j).moves (drop done nodes))))
    ∙ sym c.in_ok-path-2.ensures.found ∙ c.in_default-2.is in
    let is_new : new ≡ take c.args.budget (nodes ++ fresh p nodes (flat_map p.moves (drop done nodes))) =
    (c.in_ok-path-2.ensures.done c.in_default-2.is).kept
    ∙ (λ j. take c.args.budget (nodes ++ fresh (inv.space j) nodes (flat_map (inv.space j).moves (drop done nodes)))) in
    let deeper = deepens p c.args.budget n done nodes inv.here c.requires.exact short new is_new (no_node path p (first_good p (level p (suc n))) unfound) in
    let next : suc n ≡ n + 1 = sym (add-one n) in
    let P : ℕ → ℕ → Type 0 = λ m d. IsAt p c.args.budget m d new in
    let Q : ℕ → Type 0 = λ m. answer_from p path c.args.budget (c.args.last - m) m ≡ answer_from p path c.args.budget c.args.last 0 in
    record {
      space = c.expand_level.ensures.stays.space ∙ inv.space;
      held = c.expand_level.ensures.stays.held ∙ inv.held;
      sound = c.in_ok-path-2.ensures.sound c.in_default-2.is;
      expanded = (c.in_ok-path-2.ensures.done c.in_default-2.is).done;
      here = subst (λ m. P m c.len-reached.result) next (subst (λ d. P (suc n) d) (sym c.len-reached.ensures) deeper);
      left = subst Q next (sym (goes_on p path c.args.budget (c.args.last - suc n) n inv.here.here left (all_fewer p c.args.budget n done nodes inv.here short))
          ∙ ap (λ m. answer_from p path c.args.budget m n) (sym (one_more n c.args.last c.loop-depth-test.true)) ∙ inv.left);
    }

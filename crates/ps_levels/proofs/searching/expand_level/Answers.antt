use Rattle.std.proofs.Common.{◌≡◌, ◌++◌, ◌∷◌, ◌+◌, List, None, option_map, drop, flat_map, length, take, ap, sym, ◌∙◌, subst, arith}
use Rattle.std.proofs.lemmas.List.{length-take}
use Rattle.ps_levels.specs.Levels.{NoneGood, first_good, fresh}
use Rattle.ps_levels.proofs.Nexts.{first_left, found_here, found_on, kept_on, left_there, no_node, none_kept, stay}
use Rattle.ps_levels.proofs.searching.expand_level.Goals as goal

pub returns-in-Some-clause-found : goal.returns-in-Some-clause-found
returns-in-Some-clause-found g c =
    let space = g.F.Frontier.space in
    let path = g.F.Frontier.path in
    let p = space c.args.frontier.now in
    let old = g.F.Frontier.nodes c.args.frontier.now in
    let nodes = g.F.Frontier.nodes c.loop-place.frontier in
    let inv = c.loop-place.invariant in
    let i = c.loop-place._place in
    let first = first_left i old (omega (arith, c.loop-place-test.true, c.requires.level.count)) in
    let there = left_there c.args.to i old nodes (drop (i + 1) old) first.0 inv.same c.requires.level.count (omega (arith, c.loop-place-test.true)) first.1 in
    let found = c.in_ok-path.ensures.found first.0 (drop (i + 1) old ++ drop c.args.to nodes) (ap (λ j. drop j nodes) inv.expanded ∙ there) in
    sym (inv.found ∙ found_here path p first.0 (drop (i + 1) old) (drop i old) c.in-Some.path first.1
    ((λ j. option_map path (first_good (sym inv.space j) ((sym inv.space j).moves first.0))) ∙ sym found ∙ c.in-Some.is))

pub loop-place-preserved : goal.loop-place-preserved
loop-place-preserved g c =
    let space = g.F.Frontier.space in
    let path = g.F.Frontier.path in
    let p = space c.args.frontier.now in
    let old = g.F.Frontier.nodes c.args.frontier.now in
    let nodes = g.F.Frontier.nodes c.loop-place.frontier in
    let new = g.F.Frontier.nodes c.expand.new.self in
    let inv = c.loop-place.invariant in
    let i = c.loop-place._place in
    let rest = drop (i + 1) old in
    let first = first_left i old (omega (arith, c.loop-place-test.true, c.requires.level.count)) in
    let n = first.0 in
    let there = left_there c.args.to i old nodes rest n inv.same c.requires.level.count (omega (arith, c.loop-place-test.true)) first.1 in
    let at : drop (g.F.Frontier.expanded c.loop-place.frontier) nodes ≡ n ∷ (rest ++ drop c.args.to nodes) = ap (λ j. drop j nodes) inv.expanded ∙ there in
    let found = c.in_ok-path.ensures.found n (rest ++ drop c.args.to nodes) at in
    let none : option_map path (first_good p (p.moves n)) ≡ None = (λ j. option_map path (first_good (sym inv.space j) ((sym inv.space j).moves n))) ∙ sym found ∙ c.in_default.is in
    let is_new : new ≡ take c.args.most (nodes ++ fresh p nodes (p.moves n)) =
    c.in_ok-path.ensures.nodes c.in_default.is n (rest ++ drop c.args.to nodes) at ∙ (λ j. take c.args.most (nodes ++ fresh (inv.space j) nodes ((inv.space j).moves n))) in
    let moves = flat_map p.moves in
    let kept : take c.args.most (new ++ fresh p new (moves rest)) ≡ take c.args.most (nodes ++ fresh p nodes (moves (drop i old))) =
    ap (λ l. take c.args.most (l ++ fresh p l (moves rest))) is_new ∙ kept_on p c.args.most nodes (p.moves n) (moves rest)
    ∙ ap (λ l. take c.args.most (nodes ++ fresh p nodes (moves l))) (sym first.1) in
    let count = length-take c.args.most (nodes ++ fresh p nodes (p.moves n)) in
    record {
      space = c.expand.ensures.stays.space ∙ inv.space;
      held = c.expand.ensures.stays.held ∙ inv.held;
      expanded = omega (arith, c.expand.ensures.count, inv.expanded);
      same = ap (take c.args.to) is_new ∙ stay c.args.to c.args.most old nodes (fresh p nodes (p.moves n)) inv.same c.requires.level.count c.requires.level.room;
      short = omega (arith, ap length is_new, count);
      sound = c.in_ok-path.ensures.sound c.in_default.is;
      none = let P : List g.F.Frontier.Node → Type 0 = NoneGood p in subst P (sym is_new) (none_kept p c.args.most nodes (p.moves n) inv.none (no_node path p (first_good p (p.moves n)) none));
      found = inv.found ∙ found_on path p n rest (drop i old) first.1 none;
      kept = kept ∙ inv.kept;
    }

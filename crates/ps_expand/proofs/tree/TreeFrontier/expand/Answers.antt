use Rattle.std.proofs.Common.{◌≡◌, ◌<◌, ◌++◌, ◌+◌, ◌-◌, ℕ, suc, None, IfOk, List, option_map, length, map, take, sym, ◌∙◌, subst, arith}
use Rattle.std.proofs.lemmas.List.{length-map}
use Rattle.ps_world.specs.declared.conditions.Cond.{Cond}
use Rattle.ps_world.specs.declared.domains.Domain.{Domain}
use Rattle.ps_world.specs.declared.known.Knowledge.{Knowledge}
use Rattle.ps_levels.specs.Levels.{first_good, fresh}
use Rattle.ps_expand.specs.Reached.{path_in}
use Rattle.ps_expand.specs.Trees.{AreBeside, child_node, node_in, nodes_in, path_of, tree_space}
use Rattle.ps_expand.specs.declared.expanding.Child.{Child}
use Rattle.ps_expand.proofs.Standing.{beside_here, found_here, instances_here, kept_here}
use Rattle.ps_expand.proofs.tree.TreeFrontier.expand.Goals as goal

pub expand-requires-clause-instances : goal.expand-requires-clause-instances
expand-requires-clause-instances g c =
    let t = c.args.self.now in
    let k = t.store.now.start.now in
    let rs = t.store.now.reached in
    let many = length-map rs (node_in k) in
    let low : t.expanded < length rs = omega (arith, c.requires.next.left, many) in
    instances_here k t.store.now.here t.expanded rs c.requires.sound.tree low ∙ c.requires.sound.same

pub run-requires-clause-beside : goal.run-requires-clause-beside
run-requires-clause-beside g c =
    let t = c.args.self.now in
    let k = t.store.now.start.now in
    let rs = t.store.now.reached in
    let many = length-map rs (node_in k) in
    let low : t.expanded < length rs = omega (arith, c.requires.next.left, many) in
    subst (AreBeside k t.store.now.here) (sym c.deref.ensures.value)
    (beside_here k t.store.now.here t.expanded rs c.requires.sound.tree low (g.X.Expand.domain t.expander.now) c.in_ok-children.children.items c.in_ok-children.ensures.children)

pub returns-clause-found : goal.returns-clause-found
returns-clause-found g c =
    let t = c.args.self.now in
    let k = t.store.now.start.now in
    let rs = t.store.now.reached in
    let d = g.X.Expand.domain t.expander.now in
    let aim = g.X.Expand.goal t.expander.now in
    let cs = c.in_ok-children.children.items in
    let many = length-map rs (node_in k) in
    let low : t.expanded < length rs = omega (arith, c.requires.next.left, many) in
    let P : Domain → Cond → List Child → Type 0 = λ e a xs. IfOk c.run.result (λ found. found ≡ option_map path_of (first_good (tree_space e k a) (map (child_node t.store.now.here (path_in rs t.expanded)) xs))) in
    let new = g.X.Expand.domain c.expand.new.self in
    let other = g.X.Expand.goal c.expand.new.self in
    found_here k t.store.now.here t.expanded rs c.requires.sound.tree low d cs c.in_ok-children.ensures.children aim c.run.result
    (subst (λ e. P e aim cs) c.expand.ensures.domain (subst (λ a. P new a cs) c.expand.ensures.goal (subst (P new other) c.deref.ensures.value c.run.ensures.found)))

pub returns-clause-nodes : goal.returns-clause-nodes
returns-clause-nodes g c =
    let t = c.args.self.now in
    let k = t.store.now.start.now in
    let rs = t.store.now.reached in
    let d = g.X.Expand.domain t.expander.now in
    let aim = g.X.Expand.goal t.expander.now in
    let cs = c.in_ok-children.children.items in
    let after = nodes_in c.run.new.self.start.now c.run.new.self.reached in
    let many = length-map rs (node_in k) in
    let low : t.expanded < length rs = omega (arith, c.requires.next.left, many) in
    let P : Domain → Cond → List Child → Type 0 = λ e a xs. IfOk c.run.result (λ found. found ≡ None → after ≡ take c.args.most (nodes_in k rs ++ fresh (tree_space e k a) (nodes_in k rs) (map (child_node t.store.now.here (path_in rs t.expanded)) xs))) in
    let new = g.X.Expand.domain c.expand.new.self in
    let other = g.X.Expand.goal c.expand.new.self in
    let Q : Knowledge → Type 0 = λ m. IfOk c.run.result (λ found. found ≡ None → nodes_in m c.run.new.self.reached ≡ take c.args.most (nodes_in k rs ++ fresh (tree_space new k other) (nodes_in k rs) (map (child_node t.store.now.here (path_in rs t.expanded)) c.deref.result.now))) in
    kept_here k t.store.now.here t.expanded rs c.requires.sound.tree low d cs c.in_ok-children.ensures.children aim c.args.most after c.run.result
    (subst (λ e. P e aim cs) c.expand.ensures.domain (subst (λ a. P new a cs) c.expand.ensures.goal (subst (P new other) c.deref.ensures.value (subst Q (sym c.run.ensures.start) c.run.ensures.nodes))))

-- one more is counted and expanded
counted_on : (count after expanded : ℕ) → after ≡ suc count → suc after - (expanded + 1) ≡ suc count - expanded
counted_on count after expanded e = omega (arith, e)

pub returns-clause-stays : goal.returns-clause-stays
returns-clause-stays g c =
    let t = c.args.self.now in
    let more = c.expand.ensures in
    let before = counted_on (g.X.Expand.count t.expander.now) (g.X.Expand.count c.expand.new.self) t.expanded more.count in
    record {
      space = λ i. tree_space (more.domain i) (c.run.ensures.start i) (more.goal i);
      held = λ i. record { name = t.expander.ghost_name; domain = more.domain i; instances = more.instances i; goal = more.goal i; before = before i };
    }

pub returns-in_err-children-clause-stays : goal.returns-in_err-children-clause-stays
returns-in_err-children-clause-stays g c =
    let t = c.args.self.now in
    let more = c.expand.ensures in
    let before = counted_on (g.X.Expand.count t.expander.now) (g.X.Expand.count c.expand.new.self) t.expanded more.count in
    record {
      space = λ i. tree_space (more.domain i) t.store.now.start.now (more.goal i);
      held = λ i. record { name = t.expander.ghost_name; domain = more.domain i; instances = more.instances i; goal = more.goal i; before = before i };
    }

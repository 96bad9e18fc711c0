use Rattle.std.proofs.Common.{◌≡◌, ◌<◌, ◌≤◌, ◌+◌, ◌++◌, ◌∷◌, [], false, true, List, Some, option_map, drop, length, map, take, ap, sym, ◌∙◌, subst, arith}
use Rattle.std.proofs.lemmas.List.{drop_more}
use Rattle.ps_world.specs.CondViews.{cond_tree}
use Rattle.ps_world.specs.declared.known.Knowledge.{Knowledge}
use Rattle.ps_action.specs.Truth.{is_true}
use Rattle.ps_action.specs.declared.acts.Act.{Act}
use Rattle.ps_levels.specs.Levels.{first_good, fresh}
use Rattle.ps_problem.specs.Patches.{changed}
use Rattle.ps_expand.specs.Differences.{IsAt, IsBeside, Rise, difference}
use Rattle.ps_expand.specs.Reached.{keys_in, path_in, with_difference}
use Rattle.ps_expand.specs.Trees.{AreOf, child_node, nodes_in, path_of, tree_space}
use Rattle.ps_expand.specs.declared.differences.Difference.{Difference}
use Rattle.ps_expand.specs.declared.expanding.Child.{Child}
use Rattle.ps_expand.proofs.Leading.{rise_after}
use Rattle.ps_expand.proofs.Storing.{all_next, first_later, first_now, kept_next}
use Rattle.ps_expand.proofs.Trees.{beside_at, long_with, path_stays}
use Rattle.ps_expand.proofs.store.Store.meet_all.Goals as goal

pub meet-requires-clause-beside : goal.meet-requires-clause-beside
meet-requires-clause-beside g c =
    let k = c.args.self.now.start.now in
    let h = c.args.self.now.here in
    let cs = c.args.children.now in
    let i = c.loop-child.child-index in
    let x = c.child-item.result in
    let split : drop i cs ≡ x ∷ drop (i + 1) cs = drop_more cs i x (omega arith) ∙ ap (λ (y : Child). y ∷ drop (i + 1) cs) (sym c.child-item.is) in
    let b = beside_at k h i cs (drop (i + 1) cs) x split c.requires.beside in
    let inv = c.loop-child.invariant in
    let P : Knowledge → Knowledge → Type 0 = λ a m. IsBeside a (changed m x.change) in
    subst (λ a. P a c.loop-child.self.here) (sym inv.start) (subst (P k) (sym inv.here) b)

pub meet-requires-clause-at : goal.meet-requires-clause-at
meet-requires-clause-at g c =
    let inv = c.loop-child.invariant in
    let P : Knowledge → Knowledge → Type 0 = λ a m. IsAt a m c.args.at.now.difference c.args.at.now.home.value in
    subst (λ a. P a c.loop-child.self.here) (sym inv.start) (subst (P c.args.self.now.start.now) (sym inv.here) c.requires.at)

pub go_on-requires : goal.go_on-requires
go_on-requires g c =
    let inv = c.loop-child.invariant in
    let P : Knowledge → Knowledge → Type 0 = λ a m. IsAt a m c.args.at.now.difference c.args.at.now.home.value in
    subst (λ a. P a c.loop-child.self.here) (sym inv.start) (subst (P c.args.self.now.start.now) (sym inv.here) c.requires.at)

pub path-requires : goal.path-requires
path-requires g c =
    let From : List (Difference × List Act) → Type 0 = λ rs. c.args.from < length rs in
    subst From (sym (c.in_ok-good.ensures.same c.if-good.true)) c.loop-child.invariant.from

pub returns-then-good-clause-found : goal.returns-then-good-clause-found
returns-then-good-clause-found g c =
    let k = c.args.self.now.start.now in
    let h = c.args.self.now.here in
    let d = g.X.Expand.domain c.args.expander.now in
    let aim = g.X.Expand.goal c.args.expander.now in
    let p = tree_space d k aim in
    let path = path_in c.args.self.now.reached c.args.from in
    let f = child_node h path in
    let cs = c.args.children.now in
    let i = c.loop-child.child-index in
    let x = c.child-item.result in
    let rest = drop (i + 1) cs in
    let inv = c.loop-child.invariant in
    let split : drop i cs ≡ x ∷ rest = drop_more cs i x (omega arith) ∙ ap (λ (y : Child). y ∷ rest) (sym c.child-item.is) in
    let b = beside_at k h i cs rest x split c.requires.beside in
    let good : is_true d (changed h x.change) (cond_tree aim) ≡ true =
    ap (λ (m : Knowledge). is_true d (changed m x.change) (cond_tree aim)) (sym inv.here) ∙ sym c.in_ok-good.ensures.good ∙ c.if-good.true in
    let led : path_in c.meet.new.self.reached c.args.from ≡ path =
    ap (λ (rs : List (Difference × List Act)). path_in rs c.args.from) (c.in_ok-good.ensures.same c.if-good.true) ∙ inv.path in
    ap (λ (q : List Act). Some q) (c.in_ok-path.ensures ∙ ap (λ (q : List Act). q ++ x.act ∷ []) led)
    ∙ sym (ap (option_map path_of) (first_now d k aim h path x b (map f rest) good))
    ∙ ap (λ (l : List Child). option_map path_of (first_good p (map f l))) (sym split)
    ∙ inv.found

pub loop-child-preserved : goal.loop-child-preserved
loop-child-preserved g c =
    let k = c.args.self.now.start.now in
    let h = c.args.self.now.here in
    let d = g.X.Expand.domain c.args.expander.now in
    let aim = g.X.Expand.goal c.args.expander.now in
    let p = tree_space d k aim in
    let from = c.args.from in
    let most = c.args.most in
    let path = path_in c.args.self.now.reached from in
    let f = child_node h path in
    let cs = c.args.children.now in
    let i = c.loop-child.child-index in
    let x = c.child-item.result in
    let rest = drop (i + 1) cs in
    let inv = c.loop-child.invariant in
    let rs = c.loop-child.self.reached in
    let met = c.in_ok-good.ensures in
    let split : drop i cs ≡ x ∷ rest = drop_more cs i x (omega arith) ∙ ap (λ (y : Child). y ∷ rest) (sym c.child-item.is) in
    let b = beside_at k h i cs rest x split c.requires.beside in
    let bad : is_true d (changed h x.change) (cond_tree aim) ≡ false =
    ap (λ (m : Knowledge). is_true d (changed m x.change) (cond_tree aim)) (sym inv.here) ∙ sym met.good ∙ c.if-good.false in
    let kept = met.kept c.if-good.false in
    let rise : Rise (changed h x.change) = rise_after h x.change c.requires.at.rise in
    let up = c.requires.tree.rise in
    let y = difference k (changed h x.change) in
    let now : c.meet.new.self.reached ≡ with_difference most rs y from x.act =
    kept.met ∙ (λ j. with_difference most rs (difference (inv.start j) (changed (inv.here j) x.change)) from x.act) in
    let long = long_with most rs y from x.act inv.short in
    let Short : List (Difference × List Act) → Type 0 = λ q. length q ≤ most in
    let From : List (Difference × List Act) → Type 0 = λ q. from < length q in
    let Of : List (Difference × List Act) → Type 0 = λ q. AreOf k (keys_in q) in
    record {
      start = c.meet.ensures.start ∙ inv.start;
      here = kept.back ∙ inv.here;
      short = subst Short (sym now) long.1;
      from = subst From (sym now) (omega (arith, long.0, inv.from));
      path = ap (λ (q : List (Difference × List Act)). path_in q from) now ∙ path_stays most rs y from x.act from inv.from ∙ inv.path;
      all = subst Of (sym now) (all_next d k aim h path x b most rs inv.short up rise inv.all from inv.path);
      found =
          sym (ap (option_map path_of) (first_later d k aim h path x b (map f rest) bad))
          ∙ ap (λ (l : List Child). option_map path_of (first_good p (map f l))) (sym split) ∙ inv.found;
      kept =
          ap (λ (q : List (Difference × List Act)). take most (nodes_in k q ++ fresh p (nodes_in k q) (map f rest))) now
          ∙ kept_next d k aim h path x b most rs inv.short up rise inv.all from inv.path (map f rest)
          ∙ ap (λ (l : List Child). take most (nodes_in k rs ++ fresh p (nodes_in k rs) (map f l))) (sym split) ∙ inv.kept;
    }

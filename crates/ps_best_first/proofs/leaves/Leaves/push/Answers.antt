use Rattle.std.proofs.Common.{◌≡◌, ◌∷◌, ◌++◌, [], ℕ, List, length, ap, sym, subst, ◌∙◌, arith}
use Rattle.std.specs.BTreeSet.{insert_key}
use Rattle.ps_best_first.specs.Leaves.{IsHeap}
use Rattle.ps_best_first.specs.declared.leaves.Leaf.{Leaf}
use Rattle.ps_best_first.proofs.Heaps.{key_cmp, pushed_open, pushed_shut}
use Rattle.ps_best_first.proofs.leaves.Leaves.push.Goals as goal

pub invariant_of-self-then-not-open : goal.invariant_of-self-then-not-open
invariant_of-self-then-not-open c =
    let keys = c.self.inside.open.keys in
    let P : List Leaf → Type 0 = λ ls. IsHeap ls keys in
    let e = sym c.is_open-open.ensures ∙ c.if-not-open.true in
    subst P (sym c.in_ok-push.ensures.items) (pushed_shut c.self.inside.all.items keys c.self.invariant c.args.leaf e)

pub invariant_of-self-in-Ok : goal.invariant_of-self-in-Ok
invariant_of-self-in-Ok c =
    let keys = c.self.inside.open.keys in
    let items = c.self.inside.all.items in
    let e = sym c.is_open-open.ensures ∙ c.if-not-open.false in
    let heap = pushed_open items keys c.self.invariant c.args.leaf e in
    let many : c.len.result ≡ length c.args.leaf.missing = c.len.ensures in
    let place : c.len-2.result ≡ length items = omega arith in
    let key : (c.len.result, c.len-2.result) ≡ (length c.args.leaf.missing, length items) = λ j. (many j, place j) in
    let put : c.insert.new.self.keys ≡ insert_key key_cmp keys (length c.args.leaf.missing, length items) = c.in-Ok.ensures.keys ∙ ap (insert_key key_cmp keys) key in
    let all : c.push.new.self.items ≡ items ++ c.args.leaf ∷ [] = c.in_ok-push.ensures.items in
    let P : List Leaf × List (ℕ × ℕ) → Type 0 = λ w. IsHeap w.0 w.1 in
    let both : (items ++ c.args.leaf ∷ [], insert_key key_cmp keys (length c.args.leaf.missing, length items)) ≡ (c.push.new.self.items, c.insert.new.self.keys) = λ j. (sym all j, sym put j) in
    subst P both heap

use Rattle.std.proofs.Common.{◌≡◌, ◌++◌, ◌∷◌, [], ℕ, false, cond, List, length, ap, sym, ◌∙◌, subst, arith}
use Rattle.std.specs.List.{list_any, zip}
use Rattle.ps_action.specs.declared.acts.Act.{Act}
use Rattle.ps_expand.specs.Orders.{same_difference}
use Rattle.ps_expand.specs.Reached.{AreReached, act_paths, keys_in, path_in}
use Rattle.ps_expand.specs.declared.differences.Difference.{Difference}
use Rattle.ps_expand.proofs.Reaching.{count, keys_are, one_longer, pushed, still_reached}
use Rattle.ps_expand.proofs.reached.Reached.push.Goals as goal
use Rattle.ps_expand.proofs.reached.Reached.push.Goals.{in-Ok, in-Err}

pub push_step-requires-clause-few : goal.push_step-requires-clause-few
push_step-requires-clause-few c =
    let many = count c.self.inside.differences.keys c.self.inside.trail c.self.inside.acts.items c.self.invariant in
    let seen = ap (λ (l : List (Difference × List Act)). length l) c.self.view_is in
    omega (arith, many, seen, c.self.invariant.whole, c.requires.few)

pub push_step-requires-clause-from : goal.push_step-requires-clause-from
push_step-requires-clause-from c =
    let many = count c.self.inside.differences.keys c.self.inside.trail c.self.inside.acts.items c.self.invariant in
    let seen = ap (λ (l : List (Difference × List Act)). length l) c.self.view_is in
    omega (arith, many, seen, c.requires.from)

pub invariant_of-self-in-Ok : goal.invariant_of-self-in-Ok
invariant_of-self-in-Ok c =
    let keys = c.self.inside.differences.keys in
    let steps = c.self.inside.trail in
    let acts = c.self.inside.acts.items in
    let x = c.args.difference in
    let new : list_any (same_difference x) keys ≡ false =
    ap (list_any (same_difference x)) (sym (keys_are keys steps acts c.self.invariant))
    ∙ ap (λ (l : List (Difference × List Act)). list_any (same_difference x) (keys_in l)) c.self.view_is ∙ c.requires.new in
    let last : c.insert.new.self.keys ≡ keys ++ x ∷ [] = c.in-Ok.ensures.keys ∙ ap (λ b. cond b keys (keys ++ x ∷ [])) new in
    let step = c.in_ok-push_step.ensures in
    let long = ap (λ (l : List (ℕ × ℕ)). length l) step.trail ∙ one_longer steps (c.args.from, length acts) in
    let P : List Difference → List Act → Type 0 = λ ks more. AreReached ks c.push_step.new.trail more in
    subst (λ ks. P ks c.push_step.new.acts.items) (sym last)
    (subst (P (keys ++ x ∷ [])) (sym step.acts) (still_reached keys steps acts c.self.invariant x c.args.act c.args.from c.push_step.new.trail step.paths long))

pub returns : goal.returns
returns c =
    let keys = c.self.inside.differences.keys in
    let steps = c.self.inside.trail in
    let acts = c.self.inside.acts.items in
    let x = c.args.difference in
    let new : list_any (same_difference x) keys ≡ false =
    ap (list_any (same_difference x)) (sym (keys_are keys steps acts c.self.invariant))
    ∙ ap (λ (l : List (Difference × List Act)). list_any (same_difference x) (keys_in l)) c.self.view_is ∙ c.requires.new in
    let step = c.in_ok-push_step.ensures in
    let long = ap (λ (l : List (ℕ × ℕ)). length l) step.trail ∙ one_longer steps (c.args.from, length acts) in
    elim c.match-insert.branch [
      | in-Ok w ↦
          rw w.result-is (w.self-is
          ∙ (λ i. zip ((w.in-Ok.ensures.keys ∙ ap (λ b. cond b keys (keys ++ x ∷ [])) new) i) (act_paths (step.acts i) c.push_step.new.trail))
          ∙ pushed keys steps acts c.self.invariant x c.args.act c.args.from c.push_step.new.trail step.paths long
          ∙ (λ j. c.self.view_is j ++ (x, path_in (c.self.view_is j) c.args.from ++ c.args.act ∷ []) ∷ []))
      | in-Err w ↦ rw w.result-is tt
    ]

use Rattle.std.proofs.Common.{◌≡◌, ◌+◌, ◌++◌, ◌∷◌, [], Bool, cond, not, List, drop, filter, ap, sym, ◌∙◌, arith}
use Rattle.std.specs.List.{list_any}
use Rattle.std.proofs.lemmas.List.{append_assoc, drop_more}
use Rattle.ps_world.specs.Names.{same_name}
use Rattle.ps_world.specs.declared.facts.Fact.{Fact}
use Rattle.ps_ground.proofs.Fixedness.{any_tied}
use Rattle.ps_ground.proofs.fixed.others_of.Goals as goal
use Rattle.ps_ground.proofs.fixed.others_of.Goals.{then-not-contains+in_ok-push, else-not-contains}

pub loop-fact-preserved : goal.loop-fact-preserved
loop-fact-preserved c =
    let kept : Fact → Bool = λ f. not (list_any (same_name f.head) c.args.heads.now.keys) in
    let items = c.args.facts.now in
    let i = c.loop-fact.fact-index in
    let x = c.fact-item.result in
    let old = c.loop-fact.others.items in
    let rest = filter kept (drop (i + 1) items) in
    let split : drop i items ≡ x ∷ drop (i + 1) items = drop_more items i x (omega arith) ∙ ap (λ (y : Fact). y ∷ drop (i + 1) items) (sym c.fact-item.is) in
    let is_among : c.contains.result ≡ list_any (same_name x.head) c.args.heads.now.keys = c.contains.ensures ∙ any_tied x.head c.args.heads.now.keys in
    elim c.if-not-contains.branch [
      | then-not-contains+in_ok-push w ↦
          (λ j. (w.others-is j).items ++ rest) ∙ ap (λ (l : List Fact). l ++ rest) w.in_ok-push.ensures.items
          ∙ append_assoc old (x ∷ []) rest
          ∙ ap (λ b. old ++ cond b (x ∷ rest) rest) (sym (ap not (sym is_among) ∙ ap not w.if-not-contains.true))
          ∙ (λ j. old ++ filter kept (sym split j)) ∙ c.loop-fact.invariant
      | else-not-contains w ↦
          (λ j. (w.others-is j).items ++ rest)
          ∙ ap (λ b. old ++ cond b (x ∷ rest) rest) (sym (ap not (sym is_among) ∙ ap not w.if-not-contains.false))
          ∙ (λ j. old ++ filter kept (sym split j)) ∙ c.loop-fact.invariant
    ]

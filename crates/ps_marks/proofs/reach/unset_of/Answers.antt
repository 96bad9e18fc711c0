use Rattle.std.proofs.Common.{◌≡◌, ◌+◌, ◌++◌, ◌∷◌, [], true, cond, List, drop, filter, ap, subst, sym, ◌∙◌, arith}
use Rattle.std.proofs.lemmas.List.{append-nil, append_assoc, drop_all, drop_more}
use Rattle.std.proofs.lemmas.List.Elements.{Contains-get_or}
use Rattle.ps_world.specs.declared.facts.Fact.{Fact}
use Rattle.ps_marks.specs.Closures.{is_in}
use Rattle.ps_marks.proofs.Members.{in_contains}
use Rattle.ps_marks.proofs.reach.unset_of.Goals as goal
use Rattle.ps_marks.proofs.reach.unset_of.Goals.{then-missing+in_ok-push, else-missing}

pub loop-fact-preserved : goal.loop-fact-preserved
loop-fact-preserved c = λ p h.
    let items = c.args.facts.now in
    let i = c.loop-fact.fact-index in
    let x = c.fact-item.result in
    let old = c.loop-fact.unset.items in
    let rest = filter p (drop (i + 1) items) in
    let split : drop i items ≡ x ∷ drop (i + 1) items = drop_more items i x (omega arith) ∙ ap (λ (y : Fact). y ∷ drop (i + 1) items) (sym c.fact-item.is) in
    let told = h x c.is_unset-missing.result c.is_unset-missing.ensures in
    elim c.if-missing.branch [
      | then-missing+in_ok-push w ↦
          (λ j. (w.unset-is j).items ++ rest) ∙ ap (λ (l : List Fact). l ++ rest) w.in_ok-push.ensures.items
          ∙ append_assoc old (x ∷ []) rest
          ∙ ap (λ b. old ++ cond b (x ∷ rest) rest) (sym (told ∙ w.if-missing.true))
          ∙ (λ j. old ++ filter p (sym split j)) ∙ c.loop-fact.invariant p h
      | else-missing w ↦
          (λ j. (w.unset-is j).items ++ rest)
          ∙ ap (λ b. old ++ cond b (x ∷ rest) rest) (sym (told ∙ w.if-missing.false))
          ∙ (λ j. old ++ filter p (sym split j)) ∙ c.loop-fact.invariant p h
    ]

pub returns : goal.returns
returns c = λ p h.
    let found = c.loop-fact.unset.items in
    let gone : drop c.loop-fact.fact-index c.args.facts.now ≡ [] = drop_all c.loop-fact.fact-index c.args.facts.now (omega arith) in
    sym (append-nil found) ∙ (λ j. found ++ filter p (sym gone j)) ∙ c.loop-fact.invariant p h

pub is_unset-missing-requires : goal.is_unset-missing-requires
is_unset-missing-requires c =
    let items = c.args.facts.now in
    let i = c.loop-fact.fact-index in
    let P : Fact → Type 0 = λ f. is_in items f ≡ true in
    c.requires c.fact-item.result (subst P (sym c.fact-item.is) (in_contains items _ (Contains-get_or items i c.fact-item.result c.loop-fact-test.true)))

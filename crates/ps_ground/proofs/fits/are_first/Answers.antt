use Rattle.std.proofs.Common.{◌≡◌, ◌+◌, ◌++◌, ◌∷◌, [], false, List, Some, drop, find, take, ap, sym, ◌∙◌, subst, arith}
use Rattle.std.specs.List.{AllByRecursion, list_any}
use Rattle.std.proofs.lemmas.List.{drop_more, take-append-drop, take_more}
use Rattle.ps_world.specs.Names.{same_name}
use Rattle.ps_world.specs.declared.actions.ActionDef.{ActionDef}
use Rattle.ps_domain.proofs.Pairs.{each_of_both}
use Rattle.ps_ground.proofs.Chosen.{found_action}
use Rattle.ps_ground.proofs.fits.are_first.Goals as goal

pub loop-i-preserved : goal.loop-i-preserved
loop-i-preserved c =
    let actions = c.args.actions.now in
    let i = c.loop-i.i in
    let a = c.index-actions-i.result in
    let P : ActionDef → Type 0 = λ x. find (λ b. same_name x.name b.name) actions ≡ Some x in
    let split : take i actions ++ a ∷ drop (i + 1) actions ≡ actions =
    ap (λ (l : List ActionDef). take i actions ++ l) (ap (λ (x : ActionDef). x ∷ drop (i + 1) actions) c.index-actions-i.is ∙ sym (drop_more actions i a (omega arith))) ∙ take-append-drop i actions in
    let more : take (i + 1) actions ≡ take i actions ++ a ∷ [] = take_more actions i a (omega arith) ∙ ap (λ (x : ActionDef). take i actions ++ x ∷ []) (sym c.index-actions-i.is) in
    let none : list_any (λ b. same_name a.name b.name) (take i actions) ≡ false = sym c.is_named.ensures ∙ c.if-is_named.false in
    let here : P a = subst (λ (l : List ActionDef). find (λ b. same_name a.name b.name) l ≡ Some a) split (found_action a (take i actions) (drop (i + 1) actions) none) in
    subst (AllByRecursion P) (sym more) (each_of_both P (take i actions) (a ∷ []) c.loop-i.invariant (here, tt))

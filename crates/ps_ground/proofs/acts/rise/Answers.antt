use Rattle.std.proofs.Common.{◌≡◌, ◌+◌, ◌≤◌, ◌++◌, ◌∷◌, [], List, Some, drop, get_or, take, ap, sym, ◌∙◌, subst, arith}
use Rattle.std.specs.List.{AllByRecursion}
use Rattle.std.specs.Map.{lookup}
use Rattle.std.proofs.lemmas.List.{drop_more, take-append-drop, take_more}
use Rattle.std.proofs.lemmas.List.Sums.{fold_more}
use Rattle.ps_world.specs.Names.{same_name}
use Rattle.ps_world.specs.declared.names.Name.{Name}
use Rattle.ps_action.specs.Grounding.{with_named}
use Rattle.ps_domain.proofs.Pairs.{each_of_both}
use Rattle.ps_ground.proofs.Chosen.{found_instance}
use Rattle.ps_ground.proofs.Rising.{AreUnder, named_last, under_more}
use Rattle.ps_ground.proofs.acts.rise.Goals as goal

pub loop-name-preserved : goal.loop-name-preserved
loop-name-preserved c =
    let none : Name × Name = (record { 0 = 0 }, record { 0 = 0 }) in
    let instances = c.args.instances.now in
    let i = c.loop-name.name-index in
    let x = get_or instances i none in
    let up : c.loop-name.bound ≤ x.0.0 = omega (arith, c.if-name-bound.false) in
    let more : take (i + 1) instances ≡ take i instances ++ x ∷ [] = take_more instances i none (omega arith) in
    let P : List (Name × Name) → Type 0 = AreUnder (x.0.0 + 1) in
    let Q : Name × Name → Type 0 = λ j. lookup (same_name j.0) instances ≡ Some j.1 in
    let split : take i instances ++ x ∷ drop (i + 1) instances ≡ instances = ap (λ (l : List (Name × Name)). take i instances ++ l) (sym (drop_more instances i none (omega arith))) ∙ take-append-drop i instances in
    let here : Q x = subst (λ (l : List (Name × Name)). lookup (same_name x.0) l ≡ Some x.1) split (found_instance c.loop-name.bound x (take i instances) (drop (i + 1) instances) up c.loop-name.invariant.under) in
    record {
      under = subst P (sym more) (under_more c.loop-name.bound (x.0.0 + 1) x (take i instances) up (omega arith) c.loop-name.invariant.under);
      same =
          fold_more with_named [] instances i none (omega arith)
          ∙ ap (λ (l : List (Name × Name)). with_named l x) c.loop-name.invariant.same
          ∙ named_last c.loop-name.bound x (take i instances) up c.loop-name.invariant.under
          ∙ sym more;
      first = subst (AllByRecursion Q) (sym more) (each_of_both Q (take i instances) (x ∷ []) c.loop-name.invariant.first (here, tt));
    }

use Rattle.std.proofs.Common.{◌≡◌, ◌+◌, ◌&&◌, ◌∷◌, [], List, drop, map, ap, sym, ◌∙◌, arith}
use Rattle.std.proofs.lemmas.List.{drop_all, drop_more}
use Rattle.ps_world.specs.CondViews.{cond_tree}
use Rattle.ps_world.specs.Trees.{CondTree}
use Rattle.ps_world.specs.declared.conditions.Cond.{Cond}
use Rattle.ps_world.proofs.Truths.{and_true}
use Rattle.ps_action.specs.Grounding.{put_cond}
use Rattle.ps_action.specs.Truth.{all_true}
use Rattle.ps_ground.specs.States.{at}
use Rattle.ps_ground.specs.Prepared.{passes}
use Rattle.ps_ground.proofs.Fixedness.{never_at}
use Rattle.ps_ground.proofs.Preparing.{tested_more}
use Rattle.ps_ground.proofs.prepared.take_all.Goals as goal

pub loop-cond-preserved : goal.loop-cond-preserved
loop-cond-preserved c =
    let items = c.as_slice-cond-items.result.now in
    let i = c.loop-cond.cond-index in
    let x = c.cond-item.result in
    let split : drop i items ≡ x ∷ drop (i + 1) items = drop_more items i x (omega arith) ∙ ap (λ (y : Cond). y ∷ drop (i + 1) items) (sym c.cond-item.is) in
    λ d k s. tested_more d k c.args.atoms.now s c.args.args.now items i x c.loop-cond.test c.take_in.new.test split (c.in_ok-taken.ensures.taken (c.is_whole.ensures.yes c.if-not-is_whole.false) d k s) ∙ c.loop-cond.invariant d k s

pub returns-then-not-is_whole : goal.returns-then-not-is_whole
returns-then-not-is_whole c =
    let items = c.as_slice-cond-items.result.now in
    let i = c.loop-cond.cond-index in
    let x = c.cond-item.result in
    let split : drop i items ≡ x ∷ drop (i + 1) items = drop_more items i x (omega arith) ∙ ap (λ (y : Cond). y ∷ drop (i + 1) items) (sym c.cond-item.is) in
    record {
      taken = λ yes. absurd (c.is_whole.ensures.no c.if-not-is_whole.true yes);
      never = λ no d k s o.
          ap (λ (l : List CondTree). all_true d (at k s) (map (put_cond c.args.args.now) l)) (sym c.as_slice-cond-items.ensures)
          ∙ never_at d k s c.args.args.now i items (drop (i + 1) items) x split (c.in_ok-taken.ensures.never no d k s o);
      ready = c.in_ok-taken.ensures.ready;
    }

pub returns : goal.returns
returns c =
    let items = c.as_slice-cond-items.result.now in
    let i = c.loop-cond.cond-index in
    let gone : drop i items ≡ [] = drop_all i items (omega arith) in
    record {
      taken = λ yes d k s.
          sym (and_true (passes d k c.args.atoms.now c.loop-cond.test s))
          ∙ ap (λ (l : List Cond). passes d k c.args.atoms.now c.loop-cond.test s && all_true d (at k s) (map (put_cond c.args.args.now) (map cond_tree l))) (sym gone)
          ∙ c.loop-cond.invariant d k s;
      never = λ no. absurd (cc);
      ready = λ no. absurd (cc);
    }

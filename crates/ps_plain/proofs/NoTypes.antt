-- Where no condition says that an instance has a type, or speaks of the instances of one, the domain doesn't count.
use Rattle.std.proofs.Common.{◌≡◌, not, ◌||◌, [], refl, ap}
use Rattle.ps_world.specs.Trees.{CondTree, CondTrees, all_of, any_of, no, implied, holds, same, compares, is_a, for_some, for_all, none, more}
use Rattle.ps_world.specs.declared.domains.Domain.{Domain}
use Rattle.ps_world.specs.declared.known.Knowledge.{Knowledge}
use Rattle.ps_action.specs.Truth.{is_true, are_true, is_one_true_with}
use Rattle.ps_plain.specs.NoTypes.{HasNoType, HaveNoType}

mutual
  pub same_truth : (d e : Domain) (k : Knowledge) (c : CondTree) → HasNoType c → is_true d k c ≡ is_true e k c
  same_truth d e k (all_of cs) h = same_truths d e k cs h
  same_truth d e k (any_of cs) h = same_choice d e k cs h.1
  same_truth d e k (no c) h = ap not (same_truth d e k c h)
  same_truth d e k (implied a b) h = λ i. not (same_truth d e k a h.1.0 i) || same_truth d e k b h.1.1 i
  same_truth d e k (holds l) h = refl
  same_truth d e k (same s t) h = refl
  same_truth d e k (compares rel x y) h = refl
  same_truth d e k (is_a t kind) h = absurd h
  same_truth d e k (for_some ps c) h = absurd h.0
  same_truth d e k (for_all ps c) h = absurd h.0

  pub same_truths : (d e : Domain) (k : Knowledge) (cs : CondTrees) → HaveNoType cs → are_true d k cs ≡ are_true e k cs
  same_truths d e k none h = refl
  same_truths d e k (more c cs) h = rw (same_truth d e k c h.0, same_truths d e k cs h.1) refl

  same_choice : (d e : Domain) (k : Knowledge) (cs : CondTrees) → HaveNoType cs → is_one_true_with d k [] cs ≡ is_one_true_with e k [] cs
  same_choice d e k none h = refl
  same_choice d e k (more c cs) h = rw (same_truth d e k c h.0, same_choice d e k cs h.1) refl

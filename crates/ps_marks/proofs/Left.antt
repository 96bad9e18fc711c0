-- A fact that is left out and isn't known is not in the closure.
use Rattle.std.proofs.Common.{◌≡◌, Bool, true, false, List, Some, filter, refl, subst}
use Rattle.std.proofs.lemmas.Bool.{not_from_false}
use Rattle.ps_world.specs.Knowledge.{is_known, same_fact}
use Rattle.ps_world.specs.declared.domains.Domain.{Domain}
use Rattle.ps_world.specs.declared.facts.Fact.{Fact}
use Rattle.ps_world.specs.declared.known.Knowledge.{Knowledge}
use Rattle.ps_action.proofs.Contained.{fact_same}
use Rattle.ps_marks.specs.Closures.{closure, is_in, is_other}
use Rattle.ps_marks.specs.Laws.{IsClosed}
use Rattle.ps_marks.proofs.Closed.{closures_are_least, usable_more}
use Rattle.ps_marks.proofs.Members.{filter_has, in_filter, no_both}

module _ (d : Domain) (k : Knowledge) (f : Fact) (unknown : is_known k f ≡ false) where
  other_at : (x : Fact) (b : Bool) → same_fact x f ≡ b → is_known k x ≡ true → is_other (Some f) x ≡ true
  other_at x false s e = not_from_false (same_fact x f) s
  other_at x true s e = let P : Fact → Type 0 = λ y. is_known k y ≡ true in absurd (no_both (is_known k f) (subst P (fact_same x f s) e) unknown)

  abbrev others : List Fact
  others = filter (is_other (Some f)) (closure d k (Some f))

  others_closed : IsClosed d k (Some f) others
  others_closed =
      let whole = (closures_are_least d k (Some f)).0 in
      let all = closure d k (Some f) in
      record {
        known = λ x e. filter_has (is_other (Some f)) all x (whole.known x e) (other_at x (same_fact x f) refl e);
        closed = λ g there usable x made other. filter_has (is_other (Some f)) all x (whole.closed g there (usable_more d k (Some f) all others g (λ y e. (in_filter (is_other (Some f)) all y e).0) usable) x made other) other;
      }

  pub left_out : (x : Fact) → is_in (closure d k (Some f)) x ≡ true → is_other (Some f) x ≡ true
  left_out x e = (in_filter (is_other (Some f)) (closure d k (Some f)) x ((closures_are_least d k (Some f)).1 others others_closed x e)).1

-- Rules closed over the places of what is known, with nothing left out and then with one fact left out.
use Rattle.std.proofs.Common.{◌≡◌, ℕ, Bool, true, false, not, List, Option, Some, None, nat_eq, slice_get, refl, ap, sym, ◌∙◌, arith}
use Rattle.std.specs.Cmp.{both_ways}
use Rattle.std.proofs.lemmas.Bool.Decides.{nat_tests}
use Rattle.ps_world.specs.Knowledge.{is_known, same_fact}
use Rattle.ps_world.specs.declared.domains.Domain.{Domain}
use Rattle.ps_world.specs.declared.facts.Fact.{Fact}
use Rattle.ps_world.specs.declared.known.Knowledge.{Knowledge}
use Rattle.ps_action.specs.Grounding.{all_ground}
use Rattle.ps_action.proofs.Contained.{fact_itself, fact_same}
use Rattle.ps_closing.specs.declared.rule.Rule.{Rule}
use Rattle.ps_closing.specs.Closing as rules
use Rattle.ps_closing.specs.Closing.{Grows, Within, has, is_out, is_ready}
use Rattle.ps_marks.specs.Closures.{closure}
use Rattle.ps_marks.specs.Rules.{Agrees, AreRules, IsOnce, Mirror, place}
use Rattle.ps_marks.proofs.Bridge.{are_closure, at_place, flag_at, flag_of, flags_of, set_closes}
use Rattle.ps_marks.proofs.Closed.{closures_are_least}
use Rattle.ps_marks.proofs.Kept.{all_closed, all_least, ready_of}
use Rattle.ps_marks.proofs.Left.{left_out}

nat_same : (p i : ℕ) → nat_eq p i ≡ true → p ≡ i
nat_same p i e = grind (arith, nat_tests)

nat_itself : (p i : ℕ) → p ≡ i → nat_eq p i ≡ true
nat_itself p i e = grind (arith, nat_tests)

not_twice : (b : Bool) → not (not b) ≡ b
not_twice true = refl
not_twice false = refl

module _ (atoms : List Fact) (once : IsOnce atoms) where
  agrees_by : (f : Fact) (o : Option ℕ) → place atoms f ≡ o → (i : ℕ) (x : Fact) → slice_get atoms i ≡ Some x → is_out o i ≡ same_fact x f
  agrees_by f None e i x there =
      both_ways false (same_fact x f) (λ h. absurd (cc))
      (λ h.
      let none : place atoms f ≡ Some i = ap (place atoms) (sym (fact_same x f h)) ∙ once i x there in
      absurd (cc))
  agrees_by f (Some p) e i x there =
      both_ways (nat_eq p i) (same_fact x f)
      (λ h.
      let same : slice_get atoms i ≡ Some f = ap (slice_get atoms) (sym (nat_same p i h)) ∙ at_place atoms f p e in
      let alike : x ≡ f = cc in
      ap (same_fact x) (sym alike) ∙ fact_itself x)
      (λ h.
      let there : place atoms f ≡ Some i = ap (place atoms) (sym (fact_same x f h)) ∙ once i x there in
      let same : p ≡ i = cc in
      nat_itself p i same)

  -- the place of a fact agrees with it
  pub agrees : (f : Fact) → Agrees atoms (place atoms f) (Some f)
  agrees f i x there = agrees_by f (place atoms f) refl i x there ∙ sym (not_twice (same_fact x f))

  module _ (d : Domain) (k : Knowledge) (rs : List Rule) (are : AreRules d k atoms (all_ground d k.instances) rs) where
    abbrev start : List Bool
    start = flags_of k.facts atoms

    started : (i : ℕ) (x : Fact) → slice_get atoms i ≡ Some x → is_known k x ≡ true → has start i ≡ true
    started i x e h = flag_at k.facts atoms i x e ∙ h

    starts_in : (out : Option Fact) → Within start (flags_of (closure d k out) atoms)
    starts_in out i h =
        let w = flag_of k.facts atoms i h in
        flag_at (closure d k out) atoms i w.0 w.1 ∙ (closures_are_least d k out).0.known w.0 w.2

    -- with nothing left out the flags are those of the closure
    pub first_mirror : (flags : List Bool) → rules.IsClosed None rs flags → Grows None rs start flags → Mirror atoms flags (closure d k None)
    first_mirror flags closed grows =
        are_closure d k atoms None None (λ i x e. refl) rs are once flags closed
        (λ i x e h. grows.keeps i (started i x e h))
        (grows.least (flags_of (closure d k None) atoms) (set_closes d k atoms None None (λ i x e. refl) rs are (closure d k None) (closures_are_least d k None).0 (λ x e. refl)) (starts_in None))
        (λ x e. refl)

    -- and so they are with an unknown fact left out, by the rules that were ready
    pub other_mirror : (flags : List Bool) → rules.IsClosed None rs flags → Grows None rs start flags → (f : Fact) → is_known k f ≡ false
        → (new : List Bool) → rules.IsClosed (place atoms f) (ready_of flags rs) new → Grows (place atoms f) (ready_of flags rs) start new → Mirror atoms new (closure d k (Some f))
    other_mirror flags closed grows f unknown new shut more =
        let avoids = left_out d k f unknown in
        are_closure d k atoms (place atoms f) (Some f) (agrees f) rs are once new
        (all_closed rs start flags closed grows.keeps (place atoms f) new shut more)
        (λ i x e h. more.keeps i (started i x e h))
        (all_least rs start flags closed grows.keeps (place atoms f) new shut more (flags_of (closure d k (Some f)) atoms)
        (set_closes d k atoms (place atoms f) (Some f) (agrees f) rs are (closure d k (Some f)) (closures_are_least d k (Some f)).0 avoids) (starts_in (Some f)))
        avoids

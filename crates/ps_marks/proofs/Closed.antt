-- Closures are closed, and the least of closed sets.
use Rattle.std.proofs.Common.{◌≡◌, ◌⊎◌, ℕ, zero, suc, Bool, true, false, cond, ◌&&◌, List, [], ◌∷◌, ◌++◌, Option, Some, None, option_map, length, filter, inl, inr, refl, ap, sym, ◌∙◌, subst, arith}
use Rattle.std.specs.Cmp.{first_so, second_so}
use Rattle.std.specs.List.{list_all}
use Rattle.std.specs.Option.{option_map_or}
use Rattle.std.proofs.lemmas.Bool.{and_from, or_left, or_right}
use Rattle.ps_world.specs.declared.domains.Domain.{Domain}
use Rattle.ps_world.specs.declared.facts.Fact.{Fact}
use Rattle.ps_world.specs.declared.known.Knowledge.{Knowledge}
use Rattle.ps_action.specs.Grounding.{all_ground}
use Rattle.ps_action.specs.declared.acts.GroundAction.{GroundAction}
use Rattle.ps_action.proofs.Contained.{or_cases}
use Rattle.ps_domain.proofs.Members.{Has, has_from_Contains, Contains_from_has}
use Rattle.ps_marks.specs.Atoms.{atoms_of, can_make, makes}
use Rattle.ps_marks.specs.Closures.{closed_under, first_usable, is_in, is_in_or_made, is_other, is_usable, with_made}
use Rattle.ps_marks.specs.Laws.{ClosuresAreLeast}
use Rattle.ps_marks.proofs.Members.{all_so, fold_has_known, fold_has_more, filter_has, in_filter, in_fold, no_both}

module _ (d : Domain) (k : Knowledge) (out : Option Fact) where
  -- ---- the first usable ground action

  abbrev pub Split : List Fact → List GroundAction → GroundAction × List GroundAction → Type 0
  Split known gs u =
      (is_usable d k out known u.0 ≡ true) × (length gs ≡ suc (length u.1)) × ((g : GroundAction) → Has gs g → (u.0 ≡ g) ⊎ Has u.1 g)
      × (Has gs u.0) × ((g : GroundAction) → Has u.1 g → Has gs g)

  module _ (known : List Fact) where
    split_later : (g : GroundAction) (gs : List GroundAction) (o : Option (GroundAction × List GroundAction)) (u : GroundAction × List GroundAction) → ((v : GroundAction × List GroundAction) → o ≡ Some v → Split known gs v) → option_map (λ v. (v.0, g ∷ v.1)) o ≡ Some u → Split known (g ∷ gs) u
    split_later g gs None u h e = absurd (cc)
    split_later g gs (Some v) u h e =
        let s = h v refl in
        let same : (v.0, g ∷ v.1) ≡ u = cc in
        let P : GroundAction × List GroundAction → Type 0 = λ w. Split known (g ∷ gs) w in
        subst P same (
          s.0,
          ap suc s.1,
          λ x a. elim a [ inl first ↦ inr (inl first) | inr later ↦ elim (s.2 x later) [ inl e ↦ inl e | inr more ↦ inr (inr more) ] ],
          inr s.3,
          λ x a. elim a [ inl first ↦ inl first | inr later ↦ inr (s.4 x later) ],
        )

    split_at : (g : GroundAction) (gs : List GroundAction) (b : Bool) (u : GroundAction × List GroundAction) → is_usable d k out known g ≡ b → ((v : GroundAction × List GroundAction) → first_usable d k out known gs ≡ Some v → Split known gs v) → cond {A = Option (GroundAction × List GroundAction)} b (Some (g, gs)) (option_map (λ v. (v.0, g ∷ v.1)) (first_usable d k out known gs)) ≡ Some u → Split known (g ∷ gs) u
    split_at g gs true u s h e =
        let same : (g, gs) ≡ u = cc in
        let P : GroundAction × List GroundAction → Type 0 = λ w. Split known (g ∷ gs) w in
        subst P same (s, refl, λ x a. a, inl refl, λ x a. inr a)
    split_at g gs false u s h e = split_later g gs (first_usable d k out known gs) u h e

    split : (gs : List GroundAction) (u : GroundAction × List GroundAction) → first_usable d k out known gs ≡ Some u → Split known gs u
    split [] u e = absurd (cc)
    split (g ∷ gs) u e = split_at g gs (is_usable d k out known g) u refl (split gs) e

    none_later : {X Y : Type 0} (h : X → Y) (o : Option X) → option_map h o ≡ None → o ≡ None
    none_later h None e = refl
    none_later h (Some x) e = absurd (cc)

    unused_at : (g x : GroundAction) (gs : List GroundAction) (b : Bool) → is_usable d k out known g ≡ b → (first_usable d k out known gs ≡ None → Has gs x → is_usable d k out known x ≡ false) → cond {A = Option (GroundAction × List GroundAction)} b (Some (g, gs)) (option_map (λ v. (v.0, g ∷ v.1)) (first_usable d k out known gs)) ≡ None → Has (g ∷ gs) x → is_usable d k out known x ≡ false
    unused_at g x gs true s h e a = absurd (cc)
    unused_at g x gs false s h e (inl same) = ap (is_usable d k out known) (sym same) ∙ s
    unused_at g x gs false s h e (inr later) = h (none_later (λ v. (v.0, g ∷ v.1)) (first_usable d k out known gs) e) later

    -- where none is usable, none of them is
    unused : (gs : List GroundAction) (x : GroundAction) → first_usable d k out known gs ≡ None → Has gs x → is_usable d k out known x ≡ false
    unused [] x e a = absurd a
    unused (g ∷ gs) x e a = unused_at g x gs (is_usable d k out known g) refl (unused gs x) e a

  -- ---- it has what was known

  keeps_made : (known : List Fact) (g : GroundAction) (x : Fact) → is_in known x ≡ true → is_in (with_made d k out known g) x ≡ true
  keeps_made known g x e = fold_has_known known (filter (is_other out) (can_make d k g)) x e

  has_made : (known : List Fact) (g : GroundAction) (x : Fact) → is_in (can_make d k g) x ≡ true → is_other out x ≡ true → is_in (with_made d k out known g) x ≡ true
  has_made known g x e s = fold_has_more known (filter (is_other out) (can_make d k g)) x (filter_has (is_other out) (can_make d k g) x e s)

  keeps_by : (n : ℕ) (known : List Fact) (gs : List GroundAction) (x : Fact) (o : Option (GroundAction × List GroundAction)) → ((more : List Fact) (hs : List GroundAction) → is_in more x ≡ true → is_in (closed_under d k out n more hs) x ≡ true) → is_in known x ≡ true → is_in (option_map_or (λ u. closed_under d k out n (with_made d k out known u.0) u.1) o known) x ≡ true
  keeps_by n known gs x None h e = e
  keeps_by n known gs x (Some u) h e = h (with_made d k out known u.0) u.1 (keeps_made known u.0 x e)

  pub keeps : (n : ℕ) (known : List Fact) (gs : List GroundAction) (x : Fact) → is_in known x ≡ true → is_in (closed_under d k out n known gs) x ≡ true
  keeps zero known gs x e = e
  keeps (suc n) known gs x e = keeps_by n known gs x (first_usable d k out known gs) (λ more hs. keeps n more hs x) e

  -- ---- it is closed

  abbrev pub Closes : List Fact → GroundAction → Type 0
  Closes set g = is_usable d k out set g ≡ true → (x : Fact) → is_in (can_make d k g) x ≡ true → is_other out x ≡ true → is_in set x ≡ true

  closes_by : (n : ℕ) (known : List Fact) (gs : List GroundAction) (g : GroundAction) (o : Option (GroundAction × List GroundAction)) → first_usable d k out known gs ≡ o → length gs ≡ suc n → Has gs g → ((more : List Fact) (hs : List GroundAction) → length hs ≡ n → Has hs g → Closes (closed_under d k out n more hs) g) → Closes (option_map_or (λ u. closed_under d k out n (with_made d k out known u.0) u.1) o known) g
  closes_by n known gs g None e l a h = λ s. absurd (no_both (is_usable d k out known g) s (unused known gs g e a))
  closes_by n known gs g (Some u) e l a h =
      let s = split known gs u e in
      let left : length u.1 ≡ n = omega (arith, l, s.1) in
      elim (s.2 g a) [
        | inl same ↦ λ usable x made other.
            let P : GroundAction → Type 0 = λ h. is_in (can_make d k h) x ≡ true in
            keeps n (with_made d k out known u.0) u.1 x (has_made known u.0 x (subst P (sym same) made) other)
        | inr later ↦ h (with_made d k out known u.0) u.1 left later
      ]

  pub closes : (n : ℕ) (known : List Fact) (gs : List GroundAction) (g : GroundAction) → length gs ≡ n → Has gs g → Closes (closed_under d k out n known gs) g
  closes zero known [] g l a = absurd a
  closes zero known (h ∷ hs) g l a = absurd (omega (arith, l))
  closes (suc n) known gs g l a = closes_by n known gs g (first_usable d k out known gs) refl l a (λ more hs. closes n more hs g)

  -- ---- it is the least

  module _ (set : List Fact) where
    abbrev pub Within : List Fact → Type 0
    Within known = (x : Fact) → is_in known x ≡ true → is_in set x ≡ true

    made_more : (known made : List Fact) → Within known → (x : Fact) → is_in_or_made out known made x ≡ true → is_in_or_made out set made x ≡ true
    made_more known made w x e =
        elim (or_cases (is_in known x) (is_other out x && is_in made x) e) [
          | inl a ↦ or_left (is_in set x) (is_other out x && is_in made x) (w x a)
          | inr a ↦ or_right (is_in set x) (is_other out x && is_in made x) a
        ]

    -- what is usable in fewer facts is usable in more
    pub usable_more : (known : List Fact) (g : GroundAction) → Within known → is_usable d k out known g ≡ true → is_usable d k out set g ≡ true
    usable_more known g w e =
        let starts = list_all (is_in known) (atoms_of g.conditions.at_start) in
        let others = list_all (is_in_or_made out known (makes d k g.effects.at_start)) (atoms_of g.conditions.over_all ++ atoms_of g.conditions.at_end) in
        and_from
        (list_all (is_in set) (atoms_of g.conditions.at_start))
        (list_all (is_in_or_made out set (makes d k g.effects.at_start)) (atoms_of g.conditions.over_all ++ atoms_of g.conditions.at_end))
        (all_so (is_in known) (is_in set) (atoms_of g.conditions.at_start) w (first_so starts others e))
        (all_so (is_in_or_made out known (makes d k g.effects.at_start)) (is_in_or_made out set (makes d k g.effects.at_start)) (atoms_of g.conditions.over_all ++ atoms_of g.conditions.at_end) (made_more known (makes d k g.effects.at_start) w) (second_so starts others e))

    module _ (all : List GroundAction) (closed : (g : GroundAction) → Has all g → Closes set g) where
      made_within : (known : List Fact) (g : GroundAction) → Has all g → is_usable d k out known g ≡ true → Within known → Within (with_made d k out known g)
      made_within known g a s w x e =
          elim (in_fold known (filter (is_other out) (can_make d k g)) x e) [
            | inl made ↦ let m = in_filter (is_other out) (can_make d k g) x made in closed g a (usable_more known g w s) x m.0 m.1
            | inr old ↦ w x old
          ]

      least_by : (n : ℕ) (known : List Fact) (gs : List GroundAction) (o : Option (GroundAction × List GroundAction)) → first_usable d k out known gs ≡ o → ((g : GroundAction) → Has gs g → Has all g) → Within known → ((more : List Fact) (hs : List GroundAction) → ((g : GroundAction) → Has hs g → Has all g) → Within more → Within (closed_under d k out n more hs)) → Within (option_map_or (λ u. closed_under d k out n (with_made d k out known u.0) u.1) o known)
      least_by n known gs None e a w h = w
      least_by n known gs (Some u) e a w h =
          let s = split known gs u e in
          h (with_made d k out known u.0) u.1 (λ g b. a g (s.4 g b)) (made_within known u.0 (a u.0 s.3) s.0 w)

      pub least : (n : ℕ) (known : List Fact) (gs : List GroundAction) → ((g : GroundAction) → Has gs g → Has all g) → Within known → Within (closed_under d k out n known gs)
      least zero known gs a w = w
      least (suc n) known gs a w = least_by n known gs (first_usable d k out known gs) refl a w (λ more hs. least n more hs)

pub closures_are_least : ClosuresAreLeast
closures_are_least d k out =
    let gs = all_ground d k.instances in (
      record {
        known = keeps d k out (length gs) k.facts gs;
        closed = λ g c. closes d k out (length gs) k.facts gs g refl (has_from_Contains gs g c);
      },
      λ set is_closed. least d k out set gs (λ g a. is_closed.closed g (Contains_from_has gs g a)) (length gs) k.facts gs (λ g a. a) is_closed.known,
    )

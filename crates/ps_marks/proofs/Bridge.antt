-- What rules make of the places that are set is what the closure has.
use Rattle.std.proofs.Common.{◌≡◌, ℕ, zero, suc, Bool, true, false, cond, not, ◌||◌, ◌&&◌, List, [], ◌∷◌, Option, Some, None, filter, map, slice_get, inl, inr, refl, ap, sym, ◌∙◌, subst}
use Rattle.std.specs.Cmp.{both_ways}
use Rattle.std.specs.List.{list_any, list_all}
use Rattle.std.specs.Option.{option_map_or}
use Rattle.std.proofs.lemmas.List.Folds.{list_all-append}
use Rattle.std.proofs.lemmas.List.Quantifiers.{position-Some}
use Rattle.std.proofs.lemmas.Option.{slice_get-get_or}
use Rattle.ps_world.specs.Knowledge.{is_known, same_fact}
use Rattle.ps_world.specs.declared.domains.Domain.{Domain}
use Rattle.ps_world.specs.declared.facts.Fact.{Fact}
use Rattle.ps_world.specs.declared.known.Knowledge.{Knowledge}
use Rattle.ps_world.proofs.Truths.{and_assoc}
use Rattle.ps_action.specs.Grounding.{all_ground}
use Rattle.ps_action.specs.declared.acts.GroundAction.{GroundAction}
use Rattle.ps_action.proofs.Contained.{fact_same}
use Rattle.ps_domain.proofs.Members.{Has, has_from_Contains, Contains_from_has}
use Rattle.ps_closing.specs.declared.rule.Rule.{Rule}
use Rattle.ps_marks.specs.Atoms.{atoms_of, makes}
use Rattle.ps_closing.specs.Closing as rules
use Rattle.ps_closing.specs.Closing.{Grows, Within, has, is_out, is_ready}
use Rattle.ps_marks.specs.Closures.{closure, is_in, is_in_or_made, is_other, is_usable}
use Rattle.ps_marks.specs.Laws.{IsClosed}
use Rattle.ps_marks.specs.Rules.{Agrees, ArePlaces, AreRules, IsOnce, IsRuleOf, Mirror, later_atoms, needed, own, place}
use Rattle.ps_marks.proofs.Closed.{closures_are_least, usable_more}
use Rattle.ps_marks.proofs.Members.{filter_has, in_filter}

-- ---- places

-- a fact stands at its place
pub at_place : (atoms : List Fact) (x : Fact) (i : ℕ) → place atoms x ≡ Some i → slice_get atoms i ≡ Some x
at_place atoms x i e =
    let there = position-Some (same_fact x) atoms i x e in
    slice_get-get_or atoms i x there.0 ∙ ap Some (sym (fact_same x _ there.1))

module _ (atoms : List Fact) where
  pub all_at : (p : ℕ → Bool) (q : Fact → Bool) → ((i : ℕ) (x : Fact) → slice_get atoms i ≡ Some x → p i ≡ q x) → (places : List ℕ) (fs : List Fact) → ArePlaces atoms places fs → list_all p places ≡ list_all q fs
  all_at p q same [] [] e = refl
  all_at p q same [] (f ∷ fs) e = absurd (cc)
  all_at p q same (i ∷ places) [] e = absurd (cc)
  all_at p q same (i ∷ places) (f ∷ fs) e =
      let first : slice_get atoms i ≡ Some f = cc in
      let rest : map (slice_get atoms) places ≡ map Some fs = cc in
      λ j. same i f first j && all_at p q same places fs rest j

  any_at : (p : ℕ → Bool) (q : Fact → Bool) → ((i : ℕ) (x : Fact) → slice_get atoms i ≡ Some x → p i ≡ q x) → (places : List ℕ) (fs : List Fact) → ArePlaces atoms places fs → list_any p places ≡ list_any q fs
  any_at p q same [] [] e = refl
  any_at p q same [] (f ∷ fs) e = absurd (cc)
  any_at p q same (i ∷ places) [] e = absurd (cc)
  any_at p q same (i ∷ places) (f ∷ fs) e =
      let first : slice_get atoms i ≡ Some f = cc in
      let rest : map (slice_get atoms) places ≡ map Some fs = cc in
      λ j. same i f first j || any_at p q same places fs rest j

-- the flags of a set
abbrev pub flags_of : List Fact → List Fact → List Bool
flags_of set atoms = map (is_in set) atoms

pub flag_at : (set atoms : List Fact) (i : ℕ) (x : Fact) → slice_get atoms i ≡ Some x → has (flags_of set atoms) i ≡ is_in set x
flag_at set [] i x e = absurd (cc)
flag_at set (a ∷ atoms) zero x e = let same : a ≡ x = cc in ap (is_in set) same
flag_at set (a ∷ atoms) (suc i) x e = flag_at set atoms i x e

pub flag_of : (set atoms : List Fact) (i : ℕ) → has (flags_of set atoms) i ≡ true → (x : Fact) × (slice_get atoms i ≡ Some x) × (is_in set x ≡ true)
flag_of set [] i e = absurd (cc)
flag_of set (a ∷ atoms) zero e = (a, refl, e)
flag_of set (a ∷ atoms) (suc i) e = flag_of set atoms i e

-- ---- what is usable

-- where what is in the set isn't left out, an atom that is made at the start needs only to be another one
one_more : (s m o a b : Bool) → (s ≡ true → o ≡ true) → ((s || (o && m)) && (a && not b)) ≡ ((cond (not m) (s && a) a) && not (cond m (not o || b) b))
one_more true true true a b h = refl
one_more true true false a b h = let e : false ≡ true = h refl in absurd (cc)
one_more true false o a b h = refl
one_more false true true a b h = refl
one_more false true false true b h = refl
one_more false true false false b h = refl
one_more false false true a b h = refl
one_more false false false a b h = refl

module _ (out : Option Fact) (set made : List Fact) (avoids : (x : Fact) → is_in set x ≡ true → is_other out x ≡ true) where
  later_all : (m : Bool) (x : Fact) (xs : List Fact) → list_all (is_in set) (cond (not m) (x ∷ xs) xs) ≡ cond (not m) (is_in set x && list_all (is_in set) xs) (list_all (is_in set) xs)
  later_all true x xs = refl
  later_all false x xs = refl

  later_any : (m : Bool) (x : Fact) (xs : List Fact) → list_any (λ y. not (is_other out y)) (cond m (x ∷ xs) xs) ≡ cond m (not (is_other out x) || list_any (λ y. not (is_other out y)) xs) (list_any (λ y. not (is_other out y)) xs)
  later_any true x xs = refl
  later_any false x xs = refl

  later : (xs : List Fact) → list_all (is_in_or_made out set made) xs ≡ (list_all (is_in set) (filter (λ x. not (is_in made x)) xs) && not (list_any (λ x. not (is_other out x)) (filter (is_in made) xs)))
  later [] = refl
  later (x ∷ xs) =
      let rest = filter (λ y. not (is_in made y)) xs in
      let mine = filter (is_in made) xs in
      ap (λ b. is_in_or_made out set made x && b) (later xs)
      ∙ one_more (is_in set x) (is_in made x) (is_other out x) (list_all (is_in set) rest) (list_any (λ y. not (is_other out y)) mine) (avoids x)
      ∙ (λ i. sym (later_all (is_in made x) x rest) i && not (sym (later_any (is_in made x) x mine) i))

module _ (d : Domain) (k : Knowledge) (atoms : List Fact) where
  -- a rule is ready just where its ground action is usable
  pub ready : (at : Option ℕ) (out : Option Fact) (flags : List Bool) (set : List Fact) (g : GroundAction) (r : Rule) → IsRuleOf d k atoms g r → Agrees atoms at out → Mirror atoms flags set → ((x : Fact) → is_in set x ≡ true → is_other out x ≡ true) → is_ready at flags r ≡ is_usable d k out set g
  ready at out flags set g r is agrees mirror avoids =
      let starts = atoms_of g.conditions.at_start in
      let made = makes d k g.effects.at_start in
      let rest = filter (λ x. not (is_in made x)) (later_atoms g) in
      let mine = filter (is_in made) (later_atoms g) in
      let none = not (list_any (λ x. not (is_other out x)) mine) in
      (λ i. all_at atoms (has flags) (is_in set) mirror r.needs.items (needed d k g) is.needs i && not (any_at atoms (is_out at) (λ x. not (is_other out x)) agrees r.own.items (own d k g) is.own i))
      ∙ ap (λ b. b && none) (list_all-append (is_in set) starts rest)
      ∙ and_assoc (list_all (is_in set) starts) (list_all (is_in set) rest) none
      ∙ ap (λ b. list_all (is_in set) starts && b) (sym (later out set made avoids (later_atoms g)))

  rule_of : (gs : List GroundAction) (rs : List Rule) (g : GroundAction) → AreRules d k atoms gs rs → Has gs g → (r : Rule) × Has rs r × IsRuleOf d k atoms g r
  rule_of [] rs g a h = absurd h
  rule_of (f ∷ gs) [] g a h = absurd a
  rule_of (f ∷ gs) (r ∷ rs) g a (inl e) = let P : GroundAction → Type 0 = λ x. IsRuleOf d k atoms x r in (r, inl refl, subst P e a.0)
  rule_of (f ∷ gs) (r ∷ rs) g a (inr h) = let w = rule_of gs rs g a.1 h in (w.0, inr w.1, w.2)

  action_of : (gs : List GroundAction) (rs : List Rule) (r : Rule) → AreRules d k atoms gs rs → Has rs r → (g : GroundAction) × Has gs g × IsRuleOf d k atoms g r
  action_of gs [] r a h = absurd h
  action_of [] (q ∷ rs) r a h = absurd a
  action_of (f ∷ gs) (q ∷ rs) r a (inl e) = let P : Rule → Type 0 = λ x. IsRuleOf d k atoms f x in (f, inl refl, subst P e a.0)
  action_of (f ∷ gs) (q ∷ rs) r a (inr h) = let w = action_of gs rs r a.1 h in (w.0, inr w.1, w.2)

  -- ---- a closed set, by its flags

  module _ (at : Option ℕ) (out : Option Fact) (agrees : Agrees atoms at out) (rs : List Rule) (are : AreRules d k atoms (all_ground d k.instances) rs) where
    module _ (set : List Fact) (closed : IsClosed d k out set) (avoids : (x : Fact) → is_in set x ≡ true → is_other out x ≡ true) where
      pub set_closes : rules.IsClosed at rs (flags_of set atoms)
      set_closes r there usable i given other =
          let w = action_of (all_ground d k.instances) rs r are (has_from_Contains rs r there) in
          let g = w.0 in
          let x = (w.2.gives i).0 given in
          let used = sym (ready at out (flags_of set atoms) set g r w.2 agrees (flag_at set atoms) avoids) ∙ usable in
          let is_so : is_other out x.0 ≡ true = not_not_true (is_other out x.0) (sym (agrees i x.0 x.1) ∙ other) in
          flag_at set atoms i x.0 x.1 ∙ closed.closed g (Contains_from_has (all_ground d k.instances) g w.1) used x.0 x.2 is_so
        where
          not_not_true : (b : Bool) → not b ≡ false → b ≡ true
          not_not_true true e = refl
          not_not_true false e = absurd (cc)

    -- ---- flags that rules give

    module _ (once : IsOnce atoms) (flags : List Bool) (closed : rules.IsClosed at rs flags) (first : (i : ℕ) (x : Fact) → slice_get atoms i ≡ Some x → is_known k x ≡ true → has flags i ≡ true)
        (least : Within flags (flags_of (closure d k out) atoms)) (avoids : (x : Fact) → is_in (closure d k out) x ≡ true → is_other out x ≡ true) where
      abbrev set : List Fact
      set = closure d k out

      -- the set, without atoms whose flags aren't set
      abbrev keep : Fact → Bool
      keep x = option_map_or (has flags) (place atoms x) true

      abbrev kept : List Fact
      kept = filter keep set

      keep_at : (i : ℕ) (x : Fact) → slice_get atoms i ≡ Some x → keep x ≡ has flags i
      keep_at i x e = ap (λ o. option_map_or (has flags) o true) (once i x e)

      keep_by : (x : Fact) (o : Option ℕ) → place atoms x ≡ o → ((i : ℕ) → slice_get atoms i ≡ Some x → has flags i ≡ true) → option_map_or (has flags) o true ≡ true
      keep_by x None e h = refl
      keep_by x (Some i) e h = h i (at_place atoms x i e)

      there : (i : ℕ) (x : Fact) → slice_get atoms i ≡ Some x → has flags i ≡ true → is_in set x ≡ true
      there i x e h = sym (flag_at set atoms i x e) ∙ least i h

      mirrors : Mirror atoms flags kept
      mirrors i x e =
          both_ways (has flags i) (is_in kept x)
          (λ h. filter_has keep set x (there i x e h) (keep_at i x e ∙ h))
          (λ h. sym (keep_at i x e) ∙ (in_filter keep set x h).1)

      within : (x : Fact) → is_in kept x ≡ true → is_in set x ≡ true
      within x h = (in_filter keep set x h).0

      kept_closed : IsClosed d k out kept
      kept_closed =
          let whole = (closures_are_least d k out).0 in
          record {
            known = λ x e. filter_has keep set x (whole.known x e) (keep_by x (place atoms x) refl (λ i s. first i x s e));
            closed = λ g in_all usable x made other.
                let w = rule_of (all_ground d k.instances) rs g are (has_from_Contains (all_ground d k.instances) g in_all) in
                let go = ready at out flags kept g w.0 w.2 agrees mirrors (λ y e. avoids y (within y e)) ∙ usable in
                filter_has keep set x (whole.closed g in_all (usable_more d k out set kept g within usable) x made other)
                (keep_by x (place atoms x) refl (λ i s. closed w.0 (Contains_from_has rs w.0 w.1) go i ((w.2.gives i).1 (x, s, made)) (agrees i x s ∙ ap not other)));
          }

      -- the flags are those of the closure
      pub are_closure : Mirror atoms flags set
      are_closure i x e =
          both_ways (has flags i) (is_in set x) (there i x e)
          (λ h. sym (keep_at i x e) ∙ (in_filter keep set x ((closures_are_least d k out).1 kept kept_closed x h)).1)

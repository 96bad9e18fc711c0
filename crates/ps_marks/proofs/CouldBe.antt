-- What could be known: the facts that ground actions usable in the closure can make.
use Rattle.std.proofs.Common.{◌≡◌, ℕ, zero, suc, Bool, true, false, cond, not, ◌||◌, List, [], ◌∷◌, ◌++◌, Option, Some, None, filter, flat_map, length, take, inl, inr, refl, ap, sym, ◌∙◌, subst}
use Rattle.std.specs.Option.{option_map_or}
use Rattle.std.proofs.lemmas.Bool.{not-true, not_from_false, or_left, or_right}
use Rattle.std.proofs.lemmas.Grind.{flat_map-append}
use Rattle.std.proofs.lemmas.List.{append-nil}
use Rattle.std.proofs.lemmas.List.Elements.{filter-append}
use Rattle.std.proofs.lemmas.List.Kept.{IsStrictlySortedBy-filter}
use Rattle.ps_world.specs.Facts.{fact_cmp}
use Rattle.ps_world.specs.Knowledge.{is_known}
use Rattle.ps_world.specs.declared.domains.Domain.{Domain}
use Rattle.ps_world.specs.declared.facts.Fact.{Fact}
use Rattle.ps_world.specs.declared.known.Knowledge.{Knowledge}
use Rattle.ps_action.specs.Grounding.{all_ground}
use Rattle.ps_action.specs.declared.acts.GroundAction.{GroundAction}
use Rattle.ps_action.proofs.Contained.{or_cases}
use Rattle.ps_action.proofs.MadeFacts.{sorted-fold}
use Rattle.ps_domain.proofs.Members.{Has, has_from_Contains, Contains_from_has, has_passed, has_passes}
use Rattle.ps_marks.specs.Atoms.{can_make}
use Rattle.ps_marks.specs.Candidates.{Collects, made_in}
use Rattle.ps_marks.specs.Closures.{closed_under, closure, first_usable, is_in, is_other, is_usable, with_made}
use Rattle.ps_marks.specs.Landmarks.{candidates, could_be, most_candidates}
use Rattle.ps_marks.specs.Laws.{IsClosed}
use Rattle.ps_marks.proofs.Closed.{closures_are_least, usable_more}
use Rattle.ps_marks.proofs.Firsts.{Rises, first_same}
use Rattle.ps_marks.proofs.Members.{both_first, both_second, filter_has, in_both, in_filter}

-- ---- closures rise

module _ (d : Domain) (k : Knowledge) (out : Option Fact) where
  rises_by : (n : ℕ) (known : List Fact) (o : Option (GroundAction × List GroundAction)) → ((more : List Fact) (hs : List GroundAction) → Rises more → Rises (closed_under d k out n more hs)) → Rises known → Rises (option_map_or (λ u. closed_under d k out n (with_made d k out known u.0) u.1) o known)
  rises_by n known None h s = s
  rises_by n known (Some u) h s = h (with_made d k out known u.0) u.1 (sorted-fold known (filter (is_other out) (can_make d k u.0)) s)

  under_rises : (n : ℕ) (known : List Fact) (gs : List GroundAction) → Rises known → Rises (closed_under d k out n known gs)
  under_rises zero known gs s = s
  under_rises (suc n) known gs s = rises_by n known (first_usable d k out known gs) (λ more hs. under_rises n more hs) s

  closure_rises : Rises k.facts → Rises (closure d k out)
  closure_rises s = under_rises (length (all_ground d k.instances)) k.facts (all_ground d k.instances) s

-- ---- what several make

in_piece : (F : GroundAction → List Fact) (gs : List GroundAction) (x : Fact) → is_in (flat_map F gs) x ≡ true → (g : GroundAction) × Has gs g × (is_in (F g) x ≡ true)
in_piece F [] x e = absurd (cc)
in_piece F (g ∷ gs) x e =
    elim (in_both (F g) (flat_map F gs) x e) [
      | inl first ↦ (g, inl refl, first)
      | inr rest ↦ (let w = in_piece F gs x rest in (w.0, inr w.1, w.2))
    ]

piece_in : (F : GroundAction → List Fact) (gs : List GroundAction) (g : GroundAction) (x : Fact) → Has gs g → is_in (F g) x ≡ true → is_in (flat_map F gs) x ≡ true
piece_in F [] g x h e = absurd h
piece_in F (f ∷ gs) g x (inl same) e =
    let P : GroundAction → Type 0 = λ a. is_in (F a) x ≡ true in
    both_first (F f) (flat_map F gs) x (subst P (sym same) e)
piece_in F (f ∷ gs) g x (inr there) e = both_second (F f) (flat_map F gs) x (piece_in F gs g x there e)

module _ (d : Domain) (k : Knowledge) where
  abbrev all : List Fact
  all = closure d k None

  used_at : (g : GroundAction) (b : Bool) → flat_map (can_make d k) (cond b (g ∷ []) []) ≡ cond b (can_make d k g) []
  used_at g true = append-nil (can_make d k g)
  used_at g false = refl

  -- one more of them
  pub made_in_more : (gs : List GroundAction) (g : GroundAction) → made_in d k (gs ++ g ∷ []) ≡ made_in d k gs ++ cond (is_usable d k None (closure d k None) g) (can_make d k g) []
  made_in_more gs g =
      let p = is_usable d k None (closure d k None) in
      ap (flat_map (can_make d k)) (filter-append p gs (g ∷ []))
      ∙ flat_map-append (can_make d k) (filter p gs) (filter p (g ∷ []))
      ∙ ap (λ fs. made_in d k gs ++ fs) (used_at g (p g))

  abbrev gs : List GroundAction
  gs = all_ground d k.instances

  -- what they can make and isn't known could be known
  pub made_could_be : (x : Fact) → is_in (made_in d k (all_ground d k.instances)) x ≡ true → is_known k x ≡ false → is_in (could_be d k) x ≡ true
  made_could_be x e new =
      let p = is_usable d k None all in
      let w = in_piece (can_make d k) (filter p gs) x e in
      let h = has_passed p gs w.0 w.1 in
      filter_has (λ f. not (is_known k f)) all x ((closures_are_least d k None).0.closed w.0 (Contains_from_has gs w.0 h.0) h.1 x w.2 refl) (not_from_false (is_known k x) new)

  abbrev some : List Fact
  some = filter (λ x. is_known k x || is_in (made_in d k gs) x) all

  within : (x : Fact) → is_in some x ≡ true → is_in all x ≡ true
  within x e = (in_filter (λ x. is_known k x || is_in (made_in d k gs) x) all x e).0

  some_closed : IsClosed d k None some
  some_closed =
      let whole = (closures_are_least d k None).0 in
      record {
        known = λ x e. filter_has (λ x. is_known k x || is_in (made_in d k gs) x) all x (whole.known x e) (or_left (is_known k x) (is_in (made_in d k gs) x) e);
        closed = λ g there usable x made other.
            let p = is_usable d k None all in
            let used = usable_more d k None all some g within usable in
            filter_has (λ x. is_known k x || is_in (made_in d k gs) x) all x (whole.closed g there used x made other)
            (or_right (is_known k x) (is_in (made_in d k gs) x) (piece_in (can_make d k) (filter p gs) g x (has_passes p gs g used (has_from_Contains gs g there)) made));
      }

  -- and nothing else could be known
  pub could_be_made : (x : Fact) → is_in (could_be d k) x ≡ true → (is_in (made_in d k (all_ground d k.instances)) x ≡ true) × (is_known k x ≡ false)
  could_be_made x e =
      let w = in_filter (λ f. not (is_known k f)) all x e in
      let new = not-true (is_known k x) w.1 in
      let there = (in_filter (λ x. is_known k x || is_in (made_in d k gs) x) all x ((closures_are_least d k None).1 some some_closed x w.0)).1 in
      elim (or_cases (is_known k x) (is_in (made_in d k gs) x) there) [ inl old ↦ absurd (cc) | inr made ↦ (made, new) ]

  -- the first of the facts that are collected from all ground actions are the candidates
  pub candidates_are : (found : List Fact) → Rises k.facts → Rises found → Collects k (made_in d k (all_ground d k.instances)) [] found → take most_candidates found ≡ candidates d k
  candidates_are found s r c =
      first_same most_candidates found (could_be d k) r (IsStrictlySortedBy-filter fact_cmp (λ f. not (is_known k f)) all (closure_rises d k None s))
      (λ x e. elim (c.only x e) [ inl none ↦ absurd (cc) | inr w ↦ made_could_be x w.0 w.1 ])
      (λ x e. let w = could_be_made x e in c.all x w.0 w.1)

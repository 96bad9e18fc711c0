-- Facts collected one after another, and what is collected in the end.
use Rattle.std.proofs.Common.{◌≡◌, true, false, List, [], ◌∷◌, ◌++◌, fold, take, inl, inr, ap, ◌∙◌}
use Rattle.std.specs.BTreeSet.{insert_key}
use Rattle.ps_world.specs.Facts.{fact_cmp}
use Rattle.ps_world.specs.Knowledge.{is_known}
use Rattle.ps_world.specs.declared.facts.Fact.{Fact}
use Rattle.ps_world.specs.declared.known.Knowledge.{Knowledge}
use Rattle.ps_action.proofs.MadeFacts.{sorted-fold}
use Rattle.ps_marks.specs.Candidates.{AreBefore, Collects}
use Rattle.ps_marks.specs.Closures.{is_in}
use Rattle.ps_marks.specs.Landmarks.{most_candidates}
use Rattle.ps_marks.proofs.Firsts.{Rises, rises_taken, taken_or_after}
use Rattle.ps_marks.proofs.Makes.{only_one}
use Rattle.ps_marks.proofs.Members.{both_first, both_second, fold_has_known, fold_has_more, in_both, in_fold, in_take, no_both}

module _ (k : Knowledge) where
  before_more : (a b : List Fact) (x : Fact) → ((y : Fact) → is_in a y ≡ true → is_in b y ≡ true) → AreBefore most_candidates a x → AreBefore most_candidates b x
  before_more a b x more w = record { some = w.some; rise = w.rise; many = w.many; there = λ y e. more y (w.there y e); before = w.before }

  pub collects_none : (fs : List Fact) → Collects k [] fs fs
  collects_none fs = record { keeps = λ x e. e; only = λ x e. inl e; all = λ x e h. absurd (cc); rise = λ s. s }

  pub collects_more : (xs ys a b c : List Fact) → Collects k xs a b → Collects k ys b c → Collects k (xs ++ ys) a c
  collects_more xs ys a b c p q = record {
    keeps = λ x e. q.keeps x (p.keeps x e);
    only = λ x e. elim (q.only x e) [
      | inl old ↦ elim (p.only x old) [ inl first ↦ inl first | inr w ↦ inr (both_first xs ys x w.0, w.1) ]
      | inr w ↦ inr (both_second xs ys x w.0, w.1)
    ];
    all = λ x e h. elim (in_both xs ys x e) [
      | inl first ↦ elim (p.all x first h) [ inl there ↦ inl (q.keeps x there) | inr w ↦ inr (before_more b c x q.keeps w) ]
      | inr next ↦ q.all x next h
    ];
    rise = λ s. q.rise (p.rise s);
  }

  -- a fact that is known needn't be collected
  pub collects_known : (f : Fact) (fs : List Fact) → is_known k f ≡ true → Collects k (f ∷ []) fs fs
  collects_known f fs known = record {
    keeps = λ x e. e;
    only = λ x e. inl e;
    all = λ x e h. absurd (no_both (is_known k x) (ap (is_known k) (only_one x f e) ∙ known) h);
    rise = λ s. s;
  }

  -- one that isn't is put in
  pub collects_one : (f : Fact) (fs : List Fact) → is_known k f ≡ false → Collects k (f ∷ []) fs (insert_key fact_cmp fs f)
  collects_one f fs new = record {
    keeps = λ x e. fold_has_known fs (f ∷ []) x e;
    only = λ x e. elim (in_fold fs (f ∷ []) x e) [ inl one ↦ inr (one, ap (is_known k) (only_one x f one) ∙ new) | inr old ↦ inl old ];
    all = λ x e h. inl (fold_has_more fs (f ∷ []) x e);
    rise = λ s. sorted-fold fs (f ∷ []) s;
  }

  -- of facts that rise the first are enough
  pub collects_first : (made ys fs : List Fact) → Rises ys → ((x : Fact) → is_in ys x ≡ true → (is_in made x ≡ true) × (is_known k x ≡ false)) → ((x : Fact) → is_in made x ≡ true → is_known k x ≡ false → is_in ys x ≡ true)
      → Collects k made fs (fold (insert_key fact_cmp) fs (take most_candidates ys))
  collects_first made ys fs rise some all =
      let firsts = take most_candidates ys in
      record {
        keeps = λ x e. fold_has_known fs firsts x e;
        only = λ x e. elim (in_fold fs firsts x e) [ inl one ↦ inr (some x (in_take most_candidates ys x one)) | inr old ↦ inl old ];
        all = λ x e h. elim (taken_or_after most_candidates ys x rise (all x e h)) [
          | inl there ↦ inl (fold_has_more fs firsts x there)
          | inr w ↦ inr (record {
            some = firsts;
            rise = rises_taken most_candidates ys rise;
            many = w.0;
            there = λ y g. fold_has_more fs firsts y g;
            before = w.1;
          })
        ];
        rise = λ s. sorted-fold fs firsts s;
      }

-- Conditions by their heads and by how many words and lists they have.
use Rattle.std.proofs.Common.{◌≡◌, ◌≤◌, Bool, true, ◌&&◌, Option, Some, None, is_none, List, [], ◌∷◌, length, map, slice_index_or, refl, arith}
use Rattle.ps_world.specs.declared.conditions.Rel.{Rel}
use Rattle.ps_world.specs.declared.domains.Param.{Param}
use Rattle.ps_lists.specs.Nested.{Nested, Nesteds, word, group, none, more, nesteds}
use Rattle.ps_lists.specs.NestedViews.{nested}
use Rattle.ps_lists.specs.Places.{head, items, rest, word_of}
use Rattle.ps_lists.specs.declared.lexemes.Lexeme.{Lexeme}
use Rattle.ps_lists.specs.declared.trees.Tree.{Tree}
use Rattle.ps_conditions.specs.Conditions.{condition, form, implication, nothing, plain_condition, quantified, stated}
use Rattle.ps_conditions.specs.Signs.{head_of, is_plain, rel_of}
use Rattle.ps_conditions.specs.Steps.{Steps}
use Rattle.ps_conditions.specs.Words.{Scopes, Words}
use Rattle.ps_conditions.specs.declared.signs.Head.{Head}
use Rattle.ps_conditions.specs.declared.signs.Head.TheVariants as the

module _ (s : Steps) (w : Words s) where
  pub with_one : (l : Lexeme) (us : List Tree) → length us ≡ 1 → plain_condition s w l (nesteds (map nested us)) ≡ stated s w l (nesteds (map nested us))
  with_one l [] h = absurd (omega (arith, h))
  with_one l (t ∷ []) h = refl
  with_one l (t ∷ u ∷ us) h = absurd (omega (arith, h))

  plain_stated : (l : Lexeme) (ts : Nesteds) → rel_of l.mark ≡ None → plain_condition s w l ts ≡ stated s w l ts
  plain_stated l none h = refl
  plain_stated l (more a none) h = refl
  plain_stated l (more a (more b ts)) h = rw h refl

-- a plain head and no comparison
none_of : (h : Head) (r : Option Rel) → (is_plain h && is_none r) ≡ true → (h ≡ the.Plain) × (r ≡ None)
none_of the.Plain None e = (refl, refl)
none_of the.Plain (Some r) e = absurd (cc)
none_of h r e = absurd (cc)

module _ (s : Steps) (w : Scopes s) (ps : List Param) where
  -- a form is told by the word at its head and what follows it
  pub opened : (us : List Tree) → 1 ≤ length us → form s w ps (nesteds (map nested us)) ≡ form s w ps (more (word (head (nesteds (map nested us)))) (rest (nesteds (map nested us))))
  opened [] h = absurd (omega (arith, h))
  opened (t ∷ us) h = refl

  pub two_implied : (us : List Tree) (a b : Tree) → 2 ≤ length us → a ≡ slice_index_or us 0 a → b ≡ slice_index_or us 1 b → implication s w ps (nesteds (map nested us)) ≡ implication s w ps (more (nested a) (more (nested b) none))
  two_implied [] a b h p q = absurd (omega (arith, h))
  two_implied (t ∷ []) a b h p q = absurd (omega (arith, h))
  two_implied (t ∷ u ∷ us) a b h p q = rw (p, q) refl

  pub few_implied : (us : List Tree) → length us ≤ 1 → implication s w ps (nesteds (map nested us)) ≡ s.done nothing
  few_implied [] h = refl
  few_implied (t ∷ []) h = refl
  few_implied (t ∷ u ∷ us) h = absurd (omega (arith, h))

  pub two_quantified : (each : Bool) (us : List Tree) (a b : Tree) → 2 ≤ length us → a ≡ slice_index_or us 0 a → b ≡ slice_index_or us 1 b → quantified s w ps each (nesteds (map nested us)) ≡ quantified s w ps each (more (nested a) (more (nested b) none))
  two_quantified each [] a b h p q = absurd (omega (arith, h))
  two_quantified each (t ∷ []) a b h p q = absurd (omega (arith, h))
  two_quantified each (t ∷ u ∷ us) a b h p q = rw (p, q) refl

  pub few_quantified : (each : Bool) (us : List Tree) → length us ≤ 1 → quantified s w ps each (nesteds (map nested us)) ≡ s.done nothing
  few_quantified each [] h = refl
  few_quantified each (t ∷ []) h = refl
  few_quantified each (t ∷ u ∷ us) h = absurd (omega (arith, h))

  pub a_fact : (t : Nested) (us : List Tree) → 1 ≤ length us → nesteds (map nested us) ≡ items t → (is_plain (head_of (head (items t)).mark) && is_none (rel_of (head (items t)).mark)) ≡ true → condition s w ps t ≡ stated s (w.words ps) (head (items t)) (rest (items t))
  a_fact t [] h e k = absurd (omega (arith, h))
  a_fact (word l) (u ∷ us) h e k = absurd (cc)
  a_fact (group none) (u ∷ us) h e k = absurd (cc)
  a_fact (group (more f ts)) (u ∷ us) h e k =
      let apart = none_of (head_of (word_of f).mark) (rel_of (word_of f).mark) k in
      rw (apart.0) (plain_stated s (w.words ps) (word_of f) ts apart.1)

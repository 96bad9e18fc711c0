-- The names of words, and the acts that words tell, one word after another.
use Rattle.std.proofs.Common.{◌≡◌, ℕ, zero, suc, ◌+◌, ◌<◌, ◌≤◌, Bool, true, false, if◌then◌else◌, List, [], ◌∷◌, ◌++◌, drop, length, Option, Some, None, refl, sym, ap, ◌∙◌, append_assoc, arith}
use Rattle.std.proofs.lemmas.List.{drop_more}
use Rattle.std.specs.Option.{option_and_then}
use Rattle.ps_world.specs.Names.{Table}
use Rattle.ps_world.specs.declared.names.Name.{Name}
use Rattle.ps_action.specs.declared.acts.Act.{Act}
use Rattle.ps_text.specs.Words.{word_at}
use Rattle.ps_entries.specs.Words.{name_at, name_of, names_of, with_word, with_words}
use Rattle.ps_entries.specs.Events.{acts_from, stepped}

pub names_more : (ws : List (List ℕ)) (i : ℕ) (t u : Table) (before after : List Name) (n : Name) → i < length ws → n ≡ name_of t (word_at ws i) → u ≡ with_word t (word_at ws i) → after ≡ before ++ n ∷ [] → before ++ names_of t (drop i ws) ≡ after ++ names_of u (drop (i + 1) ws)
names_more ws i t u before after n lt is-n is-u is-after =
    rw (drop_more ws i [] lt, is-after, is-n, is-u) (sym (append_assoc before (name_of t (word_at ws i) ∷ []) _))

pub table_more : (ws : List (List ℕ)) (i : ℕ) (t u : Table) → i < length ws → u ≡ with_word t (word_at ws i) → with_words t (drop i ws) ≡ with_words u (drop (i + 1) ws)
table_more ws i t u lt is-u = rw (drop_more ws i [] lt, is-u)

drop_suc : (i : ℕ) (ns : List Name) → drop 1 (drop i ns) ≡ drop (suc i) ns
drop_suc zero ns = refl
drop_suc (suc i) [] = refl
drop_suc (suc i) (n ∷ ns) = drop_suc i ns

drop_one : (i : ℕ) (ns : List Name) → drop 1 (drop i ns) ≡ drop (i + 1) ns
drop_one i ns =
    let next : suc i ≡ i + 1 = omega arith in
    drop_suc i ns ∙ ap (λ k. drop k ns) next

drop_past : (i : ℕ) (ws : List (List ℕ)) → length ws ≤ i → drop i ws ≡ []
drop_past zero [] h = refl
drop_past zero (w ∷ ws) h = absurd (omega (arith, h))
drop_past (suc i) [] h = refl
drop_past (suc i) (w ∷ ws) h = drop_past i ws (omega (arith, h))

at_drop : (i : ℕ) (ns : List Name) → name_at (drop i ns) 0 ≡ name_at ns i
at_drop zero ns = refl
at_drop (suc i) [] = refl
at_drop (suc i) (n ∷ ns) = at_drop i ns

pub acts_more : (acts : List Act) (since : List Name) (ws : List (List ℕ)) (ns : List Name) (i : ℕ) → i < length ws
    → acts_from acts since (drop i ws) (drop i ns) ≡ option_and_then (λ now. acts_from now.0 now.1 (drop (i + 1) ws) (drop (i + 1) ns)) (stepped acts since (word_at ws i) (name_at ns i))
acts_more acts since ws ns i lt = rw (drop_more ws i [] lt, at_drop i ns, drop_one i ns) refl

module _ (acts : List Act) (since : List Name) (ws : List (List ℕ)) (ns : List Name) (i : ℕ) where
  is_stepped : (w : List ℕ) (n : Name) (o : Option (List Act × List Name)) → word_at ws i ≡ w → n ≡ name_at ns i → stepped acts since w n ≡ o → stepped acts since (word_at ws i) (name_at ns i) ≡ o
  is_stepped w n o place name e = ap (λ x. stepped acts since x (name_at ns i)) place ∙ ap (λ x. stepped acts since w x) (sym name) ∙ e

  -- one more word that fits
  pub acts_next : (w : List ℕ) (n : Name) (b : Bool) (more : List Act) (left : List Name) → i < length ws → word_at ws i ≡ w → n ≡ name_at ns i → stepped acts since w n ≡ (if b then Some (more, left) else None) → b ≡ true
      → acts_from acts since (drop i ws) (drop i ns) ≡ acts_from more left (drop (i + 1) ws) (drop (i + 1) ns)
  acts_next w n b more left lt place name e fits =
      let s : stepped acts since (word_at ws i) (name_at ns i) ≡ Some (more, left) = is_stepped w n (Some (more, left)) place name (e ∙ ap (λ x. if x then Some (more, left) else None) fits) in
      acts_more acts since ws ns i lt ∙ ap (option_and_then (λ now. acts_from now.0 now.1 (drop (i + 1) ws) (drop (i + 1) ns))) s

  -- a word that doesn't fit
  pub acts_stop : (w : List ℕ) (n : Name) (b : Bool) (more : List Act) (left : List Name) → i < length ws → word_at ws i ≡ w → n ≡ name_at ns i → stepped acts since w n ≡ (if b then Some (more, left) else None) → b ≡ false
      → acts_from acts since (drop i ws) (drop i ns) ≡ None
  acts_stop w n b more left lt place name e misfits =
      let s : stepped acts since (word_at ws i) (name_at ns i) ≡ None = is_stepped w n None place name (e ∙ ap (λ x. if x then Some (more, left) else None) misfits) in
      acts_more acts since ws ns i lt ∙ ap (option_and_then (λ now. acts_from now.0 now.1 (drop (i + 1) ws) (drop (i + 1) ns))) s

  -- no word is left
  pub acts_end : length ws ≤ i → acts_from acts since (drop i ws) (drop i ns) ≡ Some acts
  acts_end past = ap (λ left. acts_from acts since left (drop i ns)) (drop_past i ws past)

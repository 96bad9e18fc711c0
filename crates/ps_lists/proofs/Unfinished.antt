-- Nested lists, word by word.
use Rattle.std.proofs.Common.{◌≡◌, ℕ, suc, ◌+◌, ◌<◌, ◌≤◌, ◌==◌, true, List, [], ◌∷◌, ◌++◌, take, drop, length, slice_index_or, refl, sym, ◌∙◌, ap, subst, arith, length-append}
use Rattle.std.proofs.lemmas.Bool.Decides.{nat_tests}
use Rattle.std.proofs.lemmas.List.{drop_all, drop_more, take_more, take_all}
use Rattle.ps_grammar.specs.declared.marks.Mark.{Mark}
use Rattle.ps_grammar.specs.declared.marks.Mark.TheVariants.{Open, Close}
use Rattle.ps_lists.specs.Nested.{Nesteds, word, group, none, followed}
use Rattle.ps_lists.specs.Lexemes.{marks}
use Rattle.ps_lists.specs.Spelling.{SpellAll, is_balanced}
use Rattle.ps_lists.specs.declared.lexemes.Lexeme.{Lexeme}
use Rattle.ps_lists.proofs.Stacks.{Stacked, stacked_all, stacked_close, stacked_open, stacked_word}

-- the words up to a place are written so, and those that are left close what is open
pub record IsUnfinished (ls : List Lexeme) (i : ℕ) (outer : List Nesteds) (us : Nesteds) : Type 0 where
  pub stacked : Stacked outer us (take i ls)
  pub balanced : is_balanced (length outer) (marks (drop i ls)) ≡ true

plain_mark : (depth : ℕ) (m : Mark) (ms : List Mark) → (m ≡ Open → ⊥) → (m ≡ Close → ⊥) → is_balanced depth (m ∷ ms) ≡ is_balanced depth ms
plain_mark depth Open ms o c = absurd (o refl)
plain_mark depth Close ms o c = absurd (c refl)
plain_mark depth _ ms o c = refl

-- the marks that are left begin with the mark at the place
left_marks : (ls : List Lexeme) (i : ℕ) (l : Lexeme) → i < length ls → l ≡ slice_index_or ls i l → marks (drop i ls) ≡ l.mark ∷ marks (drop (i + 1) ls)
left_marks ls i l lt is = ap marks (drop_more ls i l lt) ∙ ap (λ x. x.mark ∷ marks (drop (i + 1) ls)) (sym is)

one_more : (ls : List Lexeme) (i : ℕ) (l : Lexeme) → i < length ls → l ≡ slice_index_or ls i l → take i ls ++ l ∷ [] ≡ take (i + 1) ls
one_more ls i l lt is = ap (λ x. take i ls ++ x ∷ []) is ∙ sym (take_more ls i l lt)

module _ (ls : List Lexeme) (i : ℕ) (l : Lexeme) (lt : i < length ls) (is : l ≡ slice_index_or ls i l) (outer : List Nesteds) (us : Nesteds) (before : IsUnfinished ls i outer us) where
  pub next_word : (l.mark ≡ Open → ⊥) → (l.mark ≡ Close → ⊥) → IsUnfinished ls (i + 1) outer (followed us (word l))
  next_word o c = record {
    stacked = subst (λ (x : List Lexeme). Stacked outer (followed us (word l)) x) (one_more ls i l lt is) (stacked_word outer us (take i ls) l o c before.stacked);
    balanced = sym (ap (is_balanced (length outer)) (left_marks ls i l lt is) ∙ plain_mark (length outer) l.mark (marks (drop (i + 1) ls)) o c) ∙ before.balanced;
  }

  pub next_open : l.mark ≡ Open → IsUnfinished ls (i + 1) (outer ++ us ∷ []) none
  next_open o = record {
    stacked = subst (λ (x : List Lexeme). Stacked (outer ++ us ∷ []) none x) (one_more ls i l lt is) (stacked_open outer us (take i ls) l o before.stacked);
    balanced =
        let depth : length (outer ++ us ∷ []) ≡ suc (length outer) = omega (arith, length-append outer (us ∷ [])) in
        let here : is_balanced (length outer) (marks (drop i ls)) ≡ is_balanced (suc (length outer)) (marks (drop (i + 1) ls)) = ap (is_balanced (length outer)) (left_marks ls i l lt is) ∙ ap (λ m. is_balanced (length outer) (m ∷ marks (drop (i + 1) ls))) o in
        ap (λ n. is_balanced n (marks (drop (i + 1) ls))) depth ∙ sym here ∙ before.balanced;
  }

  pub next_close : (left : List Nesteds) (ts : Nesteds) → outer ≡ left ++ ts ∷ [] → l.mark ≡ Close → IsUnfinished ls (i + 1) left (followed ts (group us))
  next_close left ts e c = record {
    stacked = subst (λ (x : List Lexeme). Stacked left (followed ts (group us)) x) (one_more ls i l lt is) (stacked_close left ts us (take i ls) l c (subst (λ (x : List Nesteds). Stacked x us (take i ls)) e before.stacked));
    balanced =
        let depth : length outer ≡ suc (length left) = omega (arith, ap length e, length-append left (ts ∷ [])) in
        let here : is_balanced (length outer) (marks (drop i ls)) ≡ is_balanced (length left) (marks (drop (i + 1) ls)) = ap (is_balanced (length outer)) (left_marks ls i l lt is) ∙ ap (λ m. is_balanced (length outer) (m ∷ marks (drop (i + 1) ls))) c ∙ ap (λ n. is_balanced n (Close ∷ marks (drop (i + 1) ls))) depth in
        sym here ∙ before.balanced;
  }

-- where a parenthesis closes, one is open
pub some_open : (ls : List Lexeme) (i : ℕ) (l : Lexeme) (us : Nesteds) → i < length ls → l ≡ slice_index_or ls i l → l.mark ≡ Close → IsUnfinished ls i [] us → ⊥
some_open ls i l us lt is c before =
    let here = ap (is_balanced 0) (left_marks ls i l lt is) ∙ ap (λ m. is_balanced 0 (m ∷ marks (drop (i + 1) ls))) c in
    let none_left = sym here ∙ before.balanced in
    cc

no_depth : (outer : List Nesteds) → (length outer == 0) ≡ true → outer ≡ []
no_depth [] e = refl
no_depth (ts ∷ outer) e = grind (arith, nat_tests)

-- at the end no parenthesis is open
pub all_closed : (ls : List Lexeme) (i : ℕ) (outer : List Nesteds) (us : Nesteds) → length ls ≤ i → IsUnfinished ls i outer us → outer ≡ []
all_closed ls i outer us h before =
    let shut : (length outer == 0) ≡ true = sym (ap (λ x. is_balanced (length outer) (marks x)) (drop_all i ls h)) ∙ before.balanced in
    no_depth outer shut

-- at the end all is written
pub finished : (ls : List Lexeme) (i : ℕ) (outer : List Nesteds) (us : Nesteds) → length ls ≤ i → IsUnfinished ls i outer us → SpellAll us ls
finished ls i outer us h before =
    subst (λ (x : List Lexeme). SpellAll us x) (take_all i ls h) (stacked_all outer us (take i ls) (all_closed ls i outer us h before) before.stacked)

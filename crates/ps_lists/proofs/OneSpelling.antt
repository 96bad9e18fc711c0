-- Words are written by one list only.
use Rattle.std.proofs.Common.{◌≡◌, List, [], ◌∷◌, ◌++◌, refl, sym, ◌∙◌, ap, subst, append_assoc}
use Rattle.ps_grammar.specs.declared.marks.Mark.TheVariants.{Close}
use Rattle.ps_lists.specs.Nested.{Nested, Nesteds, word, group, more}
use Rattle.ps_lists.specs.Spelling.{Spells, SpellAll}
use Rattle.ps_lists.specs.Spelling.Spells.{plain, between}
use Rattle.ps_lists.specs.Spelling.SpellAll.{nothing, one_more}
use Rattle.ps_lists.specs.declared.lexemes.Lexeme.{Lexeme}

-- nothing follows, or a parenthesis that closes
abbrev IsEnd : List Lexeme → Type 0
IsEnd [] = Unit {0}
IsEnd (l ∷ ls) = l.mark ≡ Close

-- a word or a list begins with another word
begins : (t : Nested) (ls xs : List Lexeme) → Spells t ls → IsEnd (ls ++ xs) → ⊥
begins _ _ xs (plain l o c) end = c end
begins _ _ xs (between left right ts ls o c s) end = cc

first_of_list : (l m : Lexeme) (ls ms : List Lexeme) → l ∷ ls ≡ m ∷ ms → l ≡ m
first_of_list l m ls ms e = cc

rest_of_list : (l m : Lexeme) (ls ms : List Lexeme) → l ∷ ls ≡ m ∷ ms → ls ≡ ms
rest_of_list l m ls ms e = cc

-- what stands between two parentheses, and what follows them
inside : (left other : Lexeme) (ls ms : List Lexeme) (right shut : Lexeme) (xs ys : List Lexeme) → (left ∷ (ls ++ right ∷ [])) ++ xs ≡ (other ∷ (ms ++ shut ∷ [])) ++ ys → ls ++ right ∷ xs ≡ ms ++ shut ∷ ys
inside left other ls ms right shut xs ys e =
    sym (append_assoc ls (right ∷ []) xs) ∙ rest_of_list left other _ _ e ∙ append_assoc ms (shut ∷ []) ys

regrouped : (ls ks xs ms js ys : List Lexeme) → (ls ++ ks) ++ xs ≡ (ms ++ js) ++ ys → ls ++ (ks ++ xs) ≡ ms ++ (js ++ ys)
regrouped ls ks xs ms js ys e = sym (append_assoc ls ks xs) ∙ e ∙ append_assoc ms js ys

mutual
  one_first : (t : Nested) (ls : List Lexeme) → Spells t ls → (u : Nested) (ms : List Lexeme) → Spells u ms → (xs ys : List Lexeme) → ls ++ xs ≡ ms ++ ys → (t ≡ u) × (xs ≡ ys)
  one_first _ _ (plain l o c) _ _ (plain m p q) xs ys e = (ap word (first_of_list l m xs ys e), rest_of_list l m xs ys e)
  one_first _ _ (plain l o c) _ _ (between left right us ms p q s) xs ys e = absurd (o (ap (λ x. x.mark) (first_of_list l left _ _ e) ∙ p))
  one_first _ _ (between left right ts ls o c s) _ _ (plain m p q) xs ys e = absurd (p (sym (ap (λ x. x.mark) (first_of_list left m _ _ e)) ∙ o))
  one_first _ _ (between left right ts ls o c s) _ _ (between other shut us ms p q r) xs ys e =
      let both = all_first ts ls s us ms r (right ∷ xs) (shut ∷ ys) c q (inside left other ls ms right shut xs ys e) in
      (ap group both.0, rest_of_list right shut xs ys both.1)

  all_first : (ts : Nesteds) (ls : List Lexeme) → SpellAll ts ls → (us : Nesteds) (ms : List Lexeme) → SpellAll us ms → (xs ys : List Lexeme) → IsEnd xs → IsEnd ys → ls ++ xs ≡ ms ++ ys → (ts ≡ us) × (xs ≡ ys)
  all_first _ _ nothing _ _ nothing xs ys x y e = (refl, e)
  all_first _ _ nothing _ _ (one_more u us ms js s r) xs ys x y e = absurd (begins u ms (js ++ ys) s (subst IsEnd (e ∙ append_assoc ms js ys) x))
  all_first _ _ (one_more t ts ls ks s r) _ _ nothing xs ys x y e = absurd (begins t ls (ks ++ xs) s (subst IsEnd (sym e ∙ append_assoc ls ks xs) y))
  all_first _ _ (one_more t ts ls ks s r) _ _ (one_more u us ms js v w) xs ys x y e =
      let here = one_first t ls s u ms v (ks ++ xs) (js ++ ys) (regrouped ls ks xs ms js ys e) in
      let later = all_first ts ks r us js w xs ys x y here.1 in
      (ap (λ z. more z ts) here.0 ∙ ap (more u) later.0, later.1)

-- one list is written so
pub one_spelling : (ts us : Nesteds) (ls : List Lexeme) → SpellAll ts ls → SpellAll us ls → ts ≡ us
one_spelling ts us ls s r = (all_first ts ls s us ls r [] [] tt tt refl).0

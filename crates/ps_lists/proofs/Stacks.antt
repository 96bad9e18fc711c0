-- Nested lists that are read word by word: what stands before each open parenthesis, the outermost first, and what stands after the last.
use Rattle.std.proofs.Common.{◌≡◌, List, [], ◌∷◌, ◌++◌, map, refl, sym, ap, subst, append_assoc, append-nil}
use Rattle.ps_grammar.specs.declared.marks.Mark.TheVariants.{Open, Close}
use Rattle.ps_lists.specs.Nested.{Nested, Nesteds, word, group, none, more, followed, nesteds}
use Rattle.ps_lists.specs.NestedViews.{nested}
use Rattle.ps_lists.specs.Spelling.{Spells, SpellAll}
use Rattle.ps_lists.specs.Spelling.Spells.{plain, between}
use Rattle.ps_lists.specs.Spelling.SpellAll.{nothing, one_more}
use Rattle.ps_lists.specs.declared.lexemes.Lexeme.{Lexeme}
use Rattle.ps_lists.specs.declared.trees.Tree.{Tree}

-- these words are written so
pub data Stacked : List Nesteds → Nesteds → List Lexeme → Type 0 where
  innermost : (us : Nesteds) (ls : List Lexeme) → SpellAll us ls → Stacked [] us ls
  around : (ts : Nesteds) (outer : List Nesteds) (us : Nesteds) (ls : List Lexeme) (left : Lexeme) (ms : List Lexeme) → SpellAll ts ls → left.mark ≡ Open → Stacked outer us ms → Stacked (ts ∷ outer) us (ls ++ left ∷ ms)

pub nesteds_more : (xs : List Tree) (x : Tree) → nesteds (map nested (xs ++ x ∷ [])) ≡ followed (nesteds (map nested xs)) (nested x)
nesteds_more [] x = refl
nesteds_more (t ∷ xs) x = ap (more (nested t)) (nesteds_more xs x)

-- one more is written after the others
spell_more : (ts : Nesteds) (t : Nested) (ls ms : List Lexeme) → SpellAll ts ls → Spells t ms → SpellAll (followed ts t) (ls ++ ms)
spell_more _ t _ ms nothing s = subst (λ (x : List Lexeme). SpellAll (more t none) x) (append-nil ms) (one_more t none ms [] s nothing)
spell_more _ t _ ms (one_more u us ls ks here rest) s =
    subst (λ (x : List Lexeme). SpellAll (more u (followed us t)) x) (sym (append_assoc ls ks ms)) (one_more u (followed us t) ls (ks ++ ms) here (spell_more us t ks ms rest s))

after_left : (ls ms ks : List Lexeme) (left : Lexeme) → ls ++ left ∷ (ms ++ ks) ≡ (ls ++ left ∷ ms) ++ ks
after_left ls ms ks left = sym (append_assoc ls (left ∷ ms) ks)

-- one more after the last open parenthesis
pub stacked_more : (outer : List Nesteds) (us : Nesteds) (t : Nested) (ls ms : List Lexeme) → Stacked outer us ls → Spells t ms → Stacked outer (followed us t) (ls ++ ms)
stacked_more _ _ t _ ms (innermost us ls s) own = innermost (followed us t) (ls ++ ms) (spell_more us t ls ms s own)
stacked_more _ _ t _ ms (around ts outer us ls left ks s opens rest) own =
    subst (λ (x : List Lexeme). Stacked (ts ∷ outer) (followed us t) x) (after_left ls ks ms left) (around ts outer (followed us t) ls left (ks ++ ms) s opens (stacked_more outer us t ks ms rest own))

pub stacked_word : (outer : List Nesteds) (us : Nesteds) (ls : List Lexeme) (l : Lexeme) → (l.mark ≡ Open → ⊥) → (l.mark ≡ Close → ⊥) → Stacked outer us ls → Stacked outer (followed us (word l)) (ls ++ l ∷ [])
stacked_word outer us ls l o c s = stacked_more outer us (word l) ls (l ∷ []) s (plain l o c)

-- one open parenthesis more
pub stacked_open : (outer : List Nesteds) (us : Nesteds) (ls : List Lexeme) (left : Lexeme) → left.mark ≡ Open → Stacked outer us ls → Stacked (outer ++ us ∷ []) none (ls ++ left ∷ [])
stacked_open _ _ _ left o (innermost us ls s) = around us [] none ls left [] s o (innermost none [] nothing)
stacked_open _ _ _ left o (around ts outer us ls first ms s opens rest) =
    subst (λ (x : List Lexeme). Stacked (ts ∷ (outer ++ us ∷ [])) none x) (after_left ls ms (left ∷ []) first) (around ts (outer ++ us ∷ []) none ls first (ms ++ left ∷ []) s opens (stacked_open outer us ms left o rest))

-- a list without an open parenthesis
unstacked : (us : Nesteds) (ls : List Lexeme) → Stacked [] us ls → SpellAll us ls
unstacked us ls (innermost _ _ s) = s

-- the last open parenthesis is closed
pub stacked_close : (outer : List Nesteds) (ts us : Nesteds) (ls : List Lexeme) (right : Lexeme) → right.mark ≡ Close → Stacked (outer ++ ts ∷ []) us ls → Stacked outer (followed ts (group us)) (ls ++ right ∷ [])
stacked_close [] ts us _ right c (around _ _ _ ls left ms s opens rest) =
    subst (λ (x : List Lexeme). Stacked [] (followed ts (group us)) x) (after_left ls ms (right ∷ []) left) (innermost (followed ts (group us)) _ (spell_more ts (group us) ls _ s (between left right us ms opens c (unstacked us ms rest))))
stacked_close (o ∷ outer) ts us _ right c (around _ _ _ ls left ms s opens rest) =
    subst (λ (x : List Lexeme). Stacked (o ∷ outer) (followed ts (group us)) x) (after_left ls ms (right ∷ []) left) (around o outer (followed ts (group us)) ls left (ms ++ right ∷ []) s opens (stacked_close outer ts us ms right c rest))

-- where no parenthesis is open, all is written
pub stacked_all : (outer : List Nesteds) (us : Nesteds) (ls : List Lexeme) → outer ≡ [] → Stacked outer us ls → SpellAll us ls
stacked_all [] us ls e s = unstacked us ls s
stacked_all (ts ∷ outer) us ls e s = absurd (cc)

-- How nested lists are written: each word as it is, and each list between two parentheses.
use Rattle.std.specs.Prelude.{◌≡◌, ℕ, zero, suc, ◌==◌, Bool, false, List, [], ◌∷◌, ◌++◌}
use Rattle.ps_grammar.specs.declared.marks.Mark.{Mark}
use Rattle.ps_grammar.specs.declared.marks.Mark.TheVariants.{Open, Close}
use Rattle.ps_lists.specs.Nested.{Nested, Nesteds, word, group, none, more}
use Rattle.ps_lists.specs.declared.lexemes.Lexeme.{Lexeme}

mutual
  -- a word or a list is written as these words
  pub data Spells : Nested → List Lexeme → Type 0 where
    plain : (l : Lexeme) → (l.mark ≡ Open → ⊥) → (l.mark ≡ Close → ⊥) → Spells (word l) (l ∷ [])
    between : (left right : Lexeme) (ts : Nesteds) (ls : List Lexeme) → left.mark ≡ Open → right.mark ≡ Close → SpellAll ts ls → Spells (group ts) (left ∷ (ls ++ right ∷ []))

  -- the same of several, one after another
  pub data SpellAll : Nesteds → List Lexeme → Type 0 where
    nothing : SpellAll none []
    one_more : (t : Nested) (ts : Nesteds) (ls ms : List Lexeme) → Spells t ls → SpellAll ts ms → SpellAll (more t ts) (ls ++ ms)

-- Each parenthesis that closes has one that opens, and each that opens is closed, where so many are open before.
abbrev pub is_balanced : ℕ → List Mark → Bool
is_balanced depth [] = depth == 0
is_balanced depth (Open ∷ ms) = is_balanced (suc depth) ms
is_balanced zero (Close ∷ ms) = false
is_balanced (suc depth) (Close ∷ ms) = is_balanced depth ms
is_balanced depth (_ ∷ ms) = is_balanced depth ms

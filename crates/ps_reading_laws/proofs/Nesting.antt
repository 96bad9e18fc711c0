-- Words whose parentheses are balanced write nested lists.
use Rattle.std.proofs.Common.{◌≡◌, ◌⊎◌, ℕ, zero, suc, ◌+◌, ◌<◌, ◌≤◌, true, List, [], ◌∷◌, ◌++◌, length, slice_index_or, refl, ap, subst, inl, inr, arith}
use Rattle.std.proofs.lemmas.Bool.{cases_lt}
use Rattle.std.proofs.lemmas.List.{get_or_default}
use Rattle.ps_grammar.specs.declared.marks.Mark.TheVariants.{Open, Close}
use Rattle.ps_lists.specs.Lexemes.{marks}
use Rattle.ps_lists.specs.Nested.{Nesteds, word, group, none, followed}
use Rattle.ps_lists.specs.Places.{no_word}
use Rattle.ps_lists.specs.Spelling.{SpellAll, is_balanced}
use Rattle.ps_lists.specs.Spelling.SpellAll.{nothing}
use Rattle.ps_lists.specs.declared.lexemes.Lexeme.{Lexeme}
use Rattle.ps_lists.proofs.Stacks.Stacked.{innermost}
use Rattle.ps_lists.proofs.Unfinished.{IsUnfinished, finished, next_close, next_open, next_word, some_open}
use Rattle.ps_reading_laws.proofs.Cases.{this_or_other}

-- a list is empty, or has a last item
last_of : {X : Type 0} (xs : List X) → (xs ≡ []) ⊎ ((before : List X) × (x : X) × (xs ≡ before ++ x ∷ []))
last_of [] = inl refl
last_of (x ∷ xs) =
    elim (last_of xs) [
      | inl empty ↦ inr ([], x, ap (λ l. x ∷ l) empty)
      | inr last ↦ inr (x ∷ last.0, last.1, ap (λ l. x ∷ l) last.2)
    ]

module _ (ls : List Lexeme) where
  -- the words after a place can be read, if so many are left at most
  abbrev Goes : ℕ → Type 0
  Goes room = (i : ℕ) (outer : List Nesteds) (us : Nesteds) → length ls ≤ i + room → IsUnfinished ls i outer us → (ts : Nesteds) × SpellAll ts ls

  closed : (room i : ℕ) (l : Lexeme) (outer : List Nesteds) (us : Nesteds) → i < length ls → length ls ≤ i + suc room → l ≡ slice_index_or ls i l → l.mark ≡ Close → IsUnfinished ls i outer us → Goes room → (ts : Nesteds) × SpellAll ts ls
  closed room i l outer us lt h is c before goes =
      elim (last_of outer) [
        | inl shut ↦ absurd (some_open ls i l us lt is c (subst (λ (o : List Nesteds). IsUnfinished ls i o us) shut before))
        | inr last ↦ goes (i + 1) last.0 (followed last.1 (group us)) (omega arith) (next_close ls i l lt is outer us before last.0 last.1 last.2 c)
      ]

  one_word : (room i : ℕ) (l : Lexeme) (outer : List Nesteds) (us : Nesteds) → i < length ls → length ls ≤ i + suc room → l ≡ slice_index_or ls i l → IsUnfinished ls i outer us → Goes room → (ts : Nesteds) × SpellAll ts ls
  one_word room i l outer us lt h is before goes =
      elim (this_or_other Open l.mark) [
        | inl opens ↦ goes (i + 1) (outer ++ us ∷ []) none (omega arith) (next_open ls i l lt is outer us before opens)
        | inr no_open ↦ elim (this_or_other Close l.mark) [
          | inl closes ↦ closed room i l outer us lt h is closes before goes
          | inr no_close ↦ goes (i + 1) outer (followed us (word l)) (omega arith) (next_word ls i l lt is outer us before no_open no_close)
        ]
      ]

  spelt_from : (room : ℕ) → Goes room
  spelt_from zero i outer us h before = (us, finished ls i outer us (omega arith) before)
  spelt_from (suc room) i outer us h before =
      elim (cases_lt i (length ls)) [
        | inr past ↦ (us, finished ls i outer us past before)
        | inl lt ↦
            let l : Lexeme = slice_index_or ls i no_word in
            one_word room i l outer us lt h (get_or_default ls i no_word l lt) before (spelt_from room)
      ]

-- words whose parentheses are balanced write nested lists
pub spelt : (ls : List Lexeme) → is_balanced 0 (marks ls) ≡ true → (ts : Nesteds) × SpellAll ts ls
spelt ls balanced = spelt_from ls (length ls) 0 [] none (omega arith) (record { stacked = innermost none [] nothing; balanced = balanced })

-- Where tokens and words begin.
use Rattle.std.proofs.Common.{◌≡◌, ℕ, zero, suc, List, [], ◌∷◌, Option, None, Some, IfOk, Result, Ok, Err, take, unwrap_or, refl, ◌∙◌, ap, subst}
use Rattle.ps_world.specs.Names.{Table}
use Rattle.ps_text.specs.declared.lexing.Token.{Token}
use Rattle.ps_grammar.specs.declared.symbols.Symbol.{Symbol}
use Rattle.ps_lists.specs.Lexemes.{lexemes_of, marks, table_after}
use Rattle.ps_lists.specs.Nested.{Nesteds}
use Rattle.ps_lists.specs.Spelling.{SpellAll}
use Rattle.ps_lists.specs.declared.lexemes.Lexeme.{Lexeme}
use Rattle.ps_script.specs.Judged.{BeginAlike, Fits, IsJudged, begin_of, closed, in_scope, place}
use Rattle.ps_script.specs.Scopes.{strays}
use Rattle.ps_script.proofs.Judgements.{misfit_judged, scoped_answer}

begun : (bytes : List ℕ) (table : Table) (tokens : List Token) → BeginAlike tokens (lexemes_of bytes table tokens).0
begun bytes table [] = refl
begun bytes table (t ∷ tokens) = ap (λ xs. t.from ∷ xs) (begun bytes (table_after bytes table t) tokens)

-- each word begins where its token does
pub words_begin : (bytes : List ℕ) (table now : Table) (tokens : List Token) (ls : List Lexeme) → lexemes_of bytes table tokens ≡ (ls, now) → BeginAlike tokens ls
words_begin bytes table now tokens ls e = subst (λ (x : List Lexeme × Table). BeginAlike tokens x.0) e (begun bytes table tokens)

-- so a word and a token at one place begin at one byte
same_place : (bytes : List ℕ) (tokens : List Token) (ls : List Lexeme) (i : ℕ) → BeginAlike tokens ls → begin_of bytes ls i ≡ place bytes tokens i
same_place bytes [] [] i e = refl
same_place bytes [] (l ∷ ls) i e = absurd (cc)
same_place bytes (t ∷ tokens) [] i e = absurd (cc)
same_place bytes (t ∷ tokens) (l ∷ ls) zero e = cc
same_place bytes (t ∷ tokens) (l ∷ ls) (suc i) e = same_place bytes tokens ls i (cc)

-- ---- words that are judged

pub misfit_words : (start : List Symbol) (bytes : List ℕ) (tokens : List Token) (ls : List Lexeme) (i at : ℕ) → (ts : Nesteds) × SpellAll ts (closed (take i ls)) × (at ≡ unwrap_or (strays [] ts) (begin_of bytes ls i)) → BeginAlike tokens ls → Fits start (marks ls) (Some i) → IsJudged start bytes tokens ls (Err at)
misfit_words start bytes tokens ls i at found alike fits =
    misfit_judged start bytes tokens ls i at (found.0, found.1, found.2 ∙ ap (unwrap_or (strays [] found.0)) (same_place bytes tokens ls i alike)) fits

-- an answer to whole words is one to words of which all fit
pub scoped_words : {E : Type 0} (bytes : List ℕ) (ls : List Lexeme) (found : Option ℕ) (answer : Result (Result Nesteds ℕ) E) → found ≡ None → IfOk answer (λ r. (ts : Nesteds) × SpellAll ts ls × (r ≡ in_scope (strays [] ts) ts)) → IfOk answer (λ r. (start : List Symbol) (tokens : List Token) → BeginAlike tokens ls → Fits start (marks ls) found → IsJudged start bytes tokens ls r)
scoped_words bytes ls found (Ok r) e h = λ start tokens alike fits. scoped_answer {E = ℕ} bytes tokens ls found (Ok r) e h start fits
scoped_words bytes ls found (Err error) e h = tt

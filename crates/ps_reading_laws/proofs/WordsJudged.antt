-- The words of a line are judged to be something.
use Rattle.std.proofs.Common.{◌≡◌, ℕ, List, [], true, Option, None, Some, Result, Ok, Err, take, unwrap_or, refl, inl, inr}
use Rattle.ps_text.specs.declared.lexing.Token.{Token}
use Rattle.ps_grammar.specs.declared.symbols.Symbol.{Symbol}
use Rattle.ps_lists.specs.Lexemes.{marks}
use Rattle.ps_lists.specs.Nested.{Nesteds}
use Rattle.ps_lists.specs.Spelling.{is_balanced}
use Rattle.ps_lists.specs.declared.lexemes.Lexeme.{Lexeme}
use Rattle.ps_script.specs.Judged.{Fits, IsJudged, closed, front, in_scope, place}
use Rattle.ps_script.specs.Scopes.{strays}
use Rattle.ps_script.proofs.Judgements.{misfit_judged, scoped_answer}
use Rattle.ps_reading_laws.proofs.Judging.{judged}
use Rattle.ps_reading_laws.proofs.Nesting.{spelt}

-- they are so where what stands before the first that doesn't fit is balanced once its lists are closed
pub words_judged : (start : List Symbol) (bytes : List ℕ) (tokens : List Token) (ls : List Lexeme) → ((found : Option ℕ) → Fits start (marks ls) found → is_balanced 0 (marks (front found ls)) ≡ true) → (r : Result Nesteds ℕ) × IsJudged start bytes tokens ls r
words_judged start bytes tokens ls balance =
    elim (judged start (marks ls)) [
      | inl fits ↦
          let ts = spelt ls (balance None fits) in
          let r : Result Nesteds ℕ = in_scope (strays [] ts.0) ts.0 in
          (r, scoped_answer {E = ℕ} bytes tokens ls None (Ok r) refl (ts.0, ts.1, refl) start fits)
      | inr fault ↦
          let ts = spelt (closed (take fault.0 ls)) (balance (Some fault.0) fault.1) in
          let at : ℕ = unwrap_or (strays [] ts.0) (place bytes tokens fault.0) in
          (Err at, misfit_judged start bytes tokens ls fault.0 at (ts.0, ts.1, refl) fault.1)
    ]

-- Reading keeps a table of names one.
use Rattle.std.proofs.Common.{◌≡◌, ℕ, ◌<◌, Bool, suc, zero, true, false, if◌then◌else◌, Option, Some, None, is_ok, List, [], ◌∷◌, codes, map, slice_range, slice_index_or, refl, ap, ◌∙◌, subst, arith}
use Rattle.ps_world.specs.Names.{Table}
use Rattle.ps_world.specs.Lines.{same_text}
use Rattle.ps_world.specs.declared.domains.Domain.{Domain}
use Rattle.ps_text.specs.Names.{is_name, IsNameText, AreNames}
use Rattle.ps_text.specs.Words.{pieces}
use Rattle.ps_text.specs.Decimals.{number_of}
use Rattle.ps_text.specs.Tokens.{begins_number, class_of, is_marked, span_of}
use Rattle.ps_text.specs.declared.lexing.Class.{Class}
use Rattle.ps_text.specs.declared.lexing.Class.TheVariants as class
use Rattle.ps_text.specs.declared.lexing.Token.{Token}
use Rattle.ps_pddl.specs.Steps.{Read}
use Rattle.ps_lists.specs.Lexemes.{lexemes_of, table_after}
use Rattle.ps_pddl.specs.Reading.{HasWords, IsRead}
use Rattle.ps_pddl.specs.Reading.IsRead.{without_class, without_shape, with_meaning}
use Rattle.ps_lists.specs.declared.lexemes.Lexeme.{Lexeme}
use Rattle.ps_pddl.proofs.ReadNames.{named_names}
use Rattle.ps_inputs.specs.Input.{first_names}

-- ---- a domain's text

-- a choice isn't this class where neither side is
neither : (c : Class) (b : Bool) (x y : Option Class) → (x ≡ Some c → ⊥) → (y ≡ Some c → ⊥) → (if b then x else y) ≡ Some c → ⊥
neither c true x y p q e = p e
neither c false x y p q e = q e

-- the class of a word that is neither a sign nor a variable
abbrev class_past : List ℕ → Option Class
class_past w =
    if is_marked 58 w then Some class.Keyword
    else (if begins_number w then (if is_ok (number_of w) then Some class.Number else None)
    else (if same_text w (codes "#t") then Some class.Continuous
    else (if is_name w then Some class.Name else None)))

after_lexemes : (bytes : List ℕ) (t : Table) (tokens : List Token) → map class_of (pieces bytes (map span_of tokens)) ≡ map (λ x. Some x.class) tokens → AreNames t → AreNames (lexemes_of bytes t tokens).1
after_lexemes bytes t [] e n = n
after_lexemes bytes t (x ∷ tokens) e n =
    let first : class_of (slice_range bytes x.from x.to) ≡ Some x.class = cc in
    let others : map class_of (pieces bytes (map span_of tokens)) ≡ map (λ y. Some y.class) tokens = cc in
    after_lexemes bytes (table_after bytes t x) tokens others (named_names t x.class (slice_range bytes x.from x.to) first n)

after_words : (t after : Table) (bytes : List ℕ) (ls : List Lexeme) → HasWords t bytes ls after → AreNames t → AreNames after
after_words t after bytes ls h n =
    let classed = ap (map class_of) h.are_tokens.marked ∙ h.are_tokens.classed in
    subst AreNames (ap (λ x. x.1) h.words) (after_lexemes bytes t h.tokens classed n)

-- a domain's names are put into a table of names
pub after_read : (t after : Table) (bytes : List ℕ) (read : Read Domain) → IsRead t bytes read after → AreNames t → AreNames after
after_read t after bytes read h n =
    elim h as (λ r a i. AreNames a) [
      | without_class at f ↦ n
      | without_shape ls a f has refuses ↦ after_words t a bytes ls has n
      | with_meaning ls a ts r has right shallow spelt means ↦ after_words t a bytes ls has n
    ]

-- the first table is one
pub AreNames-first : AreNames first_names
AreNames-first = record {
  texts = λ k d lt. at k d lt;
  apart = λ i j p q e. omega arith;
  first = refl;
} where
  at : (k : ℕ) (d : List ℕ) → k < 1 → IsNameText (slice_index_or (codes "object" ∷ []) k d)
  at zero d lt = record { name = refl; lower_case = refl }
  at (suc k) d lt = absurd (omega arith)

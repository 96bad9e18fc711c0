-- The table of names after a line of the terminal.
use Rattle.std.proofs.Common.{◌≡◌, ℕ, List, [], ◌∷◌, codes, drop, slice_range, Some, All, Result, Ok, Err, IfOk, OnErr, refl, ap, subst}
use Rattle.std.proofs.lemmas.List.Elements.{All-head, All-tail}
use Rattle.ps_world.specs.Names.{Table}
use Rattle.ps_text.specs.Names.{AreNames, Keeps, folded, interned}
use Rattle.ps_text.specs.Tokens.{class_of}
use Rattle.ps_text.specs.declared.lexing.Class.{Class}
use Rattle.ps_text.specs.declared.lexing.Class.TheVariants as class
use Rattle.ps_text.specs.declared.lexing.Token.{Token}
use Rattle.ps_text.proofs.Folds.{IsNameText-folded}
use Rattle.ps_text.proofs.Kept.{kept_along, kept_interned, kept_same}
use Rattle.ps_text.proofs.Tables.{AreNames-interned}
use Rattle.ps_lists.specs.Lexemes.{IsTokenOf, lexemes_of, name_within, named, table_after}
use Rattle.ps_lists.proofs.TokenNames.{are_tokens_of, is_name-class, is_name-variable}
use Rattle.ps_script.specs.Lines.{IsRead, with_run_plan}
use Rattle.ps_script.specs.Lines.IsRead.{nothing, source, source_nothing, run_plan, run_nothing, without_class, without_number, without_form, without_shape, good}
use Rattle.ps_script.specs.declared.reading.Read.{Read}
use Rattle.ps_entries.proofs.KnownNames.{no_fault}

-- a table keeps its names, and stays one of names
pub record Goes (t u : Table) : Type 0 where
  pub kept : Keeps t u
  pub names : AreNames t → AreNames u

pub goes_nowhere : (t : Table) → Goes t t
goes_nowhere t = record { kept = λ n lt. refl; names = λ h. h }

goes_along : (t u v : Table) → Goes t u → Goes u v → Goes t v
goes_along t u v p q = record { kept = kept_along t u v p.kept q.kept; names = λ h. q.names (p.names h) }

goes_named : (t : Table) (c : Class) (word : List ℕ) → class_of word ≡ Some c → Goes t (named t (name_within c word))
goes_named t class.Name word h =
    record {
      kept = kept_interned t (folded word);
      names = λ names. AreNames-interned t (folded word) names (IsNameText-folded word (no_fault word (is_name-class word h)));
    }
goes_named t class.Variable word h =
    record {
      kept = kept_interned t (folded (drop 1 word));
      names = λ names. AreNames-interned t (folded (drop 1 word)) names (IsNameText-folded (drop 1 word) (no_fault (drop 1 word) (is_name-variable word h)));
    }
goes_named t class.LeftParen word h = goes_nowhere t
goes_named t class.RightParen word h = goes_nowhere t
goes_named t class.Sign word h = goes_nowhere t
goes_named t class.Keyword word h = goes_nowhere t
goes_named t class.Number word h = goes_nowhere t
goes_named t class.Continuous word h = goes_nowhere t

goes_lexemes : (bytes : List ℕ) (t : Table) (tokens : List Token) → All (IsTokenOf bytes) tokens → Goes t (lexemes_of bytes t tokens).1
goes_lexemes bytes t [] of = goes_nowhere t
goes_lexemes bytes t (token ∷ tokens) of =
    let first = All-head (IsTokenOf bytes) token tokens of in
    let next = table_after bytes t token in
    goes_along t next (lexemes_of bytes next tokens).1 (goes_named t token.class (slice_range bytes token.from token.to) first.class) (goes_lexemes bytes next tokens (All-tail (IsTokenOf bytes) token tokens of))

goes_fixed : (t : Table) (word : List ℕ) → (AreNames t → AreNames (interned t word)) → Goes t (interned t word)
goes_fixed t word names = record { kept = kept_interned t word; names = names }

goes_run_plan : (t : Table) → Goes t (with_run_plan t)
goes_run_plan t =
    let run = goes_fixed t (codes "run") (λ h. AreNames-interned t (codes "run") h (record { name = refl; lower_case = refl })) in
    let next = interned t (codes "run") in
    let plan = goes_fixed next (codes "plan") (λ h. AreNames-interned next (codes "plan") h (record { name = refl; lower_case = refl })) in
    goes_along t next (interned next (codes "plan")) run plan

-- what a line does to the table
pub goes_read : (t : Table) (bytes : List ℕ) (r : Read) (after : Table) → IsRead t bytes r after → Goes t after
goes_read t bytes _ _ (nothing e) = goes_nowhere t
goes_read t bytes _ _ (source file e s f) = goes_nowhere t
goes_read t bytes _ _ (source_nothing e s f) = goes_nowhere t
goes_read t bytes _ _ (run_plan file e s p f) = goes_run_plan t
goes_read t bytes _ _ (run_nothing e s p f) = goes_nowhere t
goes_read t bytes _ _ (without_class at plain x) = goes_nowhere t
goes_read t bytes _ _ (without_number at plain x) = goes_nowhere t
goes_read t bytes _ _ (without_form tokens plain x e) = goes_nowhere t
goes_read t bytes _ _ (without_shape f tokens ls after at is w x) = goes_nowhere t
goes_read t bytes _ _ (good f tokens ls after ts command is w p m) =
    subst (Goes t) (ap (λ x. x.1) w) (goes_lexemes bytes t tokens (are_tokens_of bytes tokens is.are_tokens))

-- what an answer of the reader of lines says of the table
pub kept_answer : {E : Type 0} (t : Table) (bytes : List ℕ) (answer : Result Read E) (after : Table) → IfOk answer (λ r. IsRead t bytes r after) → OnErr answer (after ≡ t) → Keeps t after
kept_answer t bytes (Ok r) after x e = (goes_read t bytes r after x).kept
kept_answer t bytes (Err error) after x e = kept_same t after e

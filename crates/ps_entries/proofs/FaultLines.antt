-- Faults after the head of a journal.
use Rattle.std.proofs.Common.{◌≡◌, ℕ, ◌-◌, List, [], ◌∷◌, ◌++◌, length, take, drop, Some, Result, Err, IfSome, inr, sym, ap, ◌∙◌, subst, arith}
use Rattle.std.proofs.lemmas.List.{take_all}
use Rattle.ps_world.specs.Failures.{refusal_of}
use Rattle.ps_world.specs.Lines.{lines_of}
use Rattle.ps_world.specs.Names.{Table}
use Rattle.ps_world.specs.declared.failures.Failure.{Failure}
use Rattle.ps_world.specs.declared.failures.Failure.TheVariants.{OutOfMemory, Refused}
use Rattle.ps_rules.specs.Heads.{Head, IsHead, Settings, head_lines, line_after, settings_line, title}
use Rattle.ps_text.specs.Words.{pieces}
use Rattle.ps_text.specs.declared.spans.Span.{Span}
use Rattle.ps_entries.specs.Journals.{BeginsWith, HasOther, IsFault, IsOther}
use Rattle.ps_entries.specs.declared.heads.Heading.TheVariants.{Headed}
use Rattle.ps_entries.specs.declared.journals.JournalRefusal.{JournalRefusal}
use Rattle.ps_entries.specs.declared.journals.JournalRefusal.TheVariants as refusal

module _ (names : Table) (bytes : List ℕ) (head : Head) (lines : List (List ℕ)) (good : IsHead head) (headed : lines_of bytes ≡ head_lines head ++ lines) where
  fault-after : (r : JournalRefusal) → IsOther (line_after head) names lines r → IsFault names bytes r
  fault-after refusal.Header other = absurd other
  fault-after (refusal.Line at) other = inr (record { head = head; good = good; lines = lines; headed = headed; first = other })

  -- a line after the head that is none of a journal is a fault
  failure-after : (A B : Type 0) (why : Failure JournalRefusal) → IfSome (refusal_of {A = A} (Err why)) (IsOther (line_after head) names lines)
      → IfSome (refusal_of {A = B} (Err why)) (IsFault names bytes)
  failure-after A B (Refused r) other = fault-after r other
  failure-after A B OutOfMemory other = tt

  -- the same of two answers that are the same failure
  pub result-after : {A B : Type 0} (r : Result A (Failure JournalRefusal)) (t : Result B (Failure JournalRefusal)) (why : Failure JournalRefusal) → r ≡ Err why → t ≡ Err why
      → IfSome (refusal_of r) (IsOther (line_after head) names lines) → IfSome (refusal_of t) (IsFault names bytes)
  result-after {A} {B} r t why er et other =
      subst (λ x. IfSome (refusal_of x) (IsFault names bytes)) (sym et)
      (failure-after A B why (subst (λ x. IfSome (refusal_of x) (IsOther (line_after head) names lines)) er other))

-- the lines after two
after-two : (bytes : List ℕ) (spans : List Span) (x y : List ℕ) (rest : List (List ℕ)) → pieces bytes spans ≡ x ∷ y ∷ rest
    → pieces bytes (take (length spans - 2) (drop 2 spans)) ≡ rest
after-two bytes [] x y rest e = absurd (cc)
after-two bytes (s ∷ []) x y rest e = absurd (cc)
after-two bytes (s ∷ t ∷ more) x y rest e =
    let same : pieces bytes more ≡ rest = cc in
    ap (pieces bytes) (take_all (length (s ∷ t ∷ more) - 2) more (omega arith)) ∙ same

-- the lines after the head of two lines
pub headed-two : (bytes : List ℕ) (spans : List Span) (s : Settings) → pieces bytes spans ≡ lines_of bytes → BeginsWith (lines_of bytes) (Headed (Some s))
    → lines_of bytes ≡ head_lines (Some s) ++ pieces bytes (take (length spans - 2) (drop 2 spans))
headed-two bytes spans s split b =
    b.1.1 ∙ ap (λ ls. title ∷ settings_line s ∷ ls) (sym (after-two bytes spans title (settings_line s) b.1.0 (split ∙ b.1.1)))

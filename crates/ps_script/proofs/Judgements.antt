-- What the words of a line are judged to be is one thing.
use Rattle.std.proofs.Common.{◌≡◌, ℕ, List, [], Option, None, Some, IfOk, Result, Ok, Err, take, unwrap_or, refl, sym, ap, subst}
use Rattle.ps_text.specs.declared.lexing.Token.{Token}
use Rattle.ps_grammar.specs.Shape.{Derives, IsShallowFrom}
use Rattle.ps_grammar.specs.declared.symbols.Symbol.{Symbol}
use Rattle.ps_grammar.proofs.OneFault.{first_faults_are_one, first_faults_are_real}
use Rattle.ps_lists.specs.Lexemes.{marks}
use Rattle.ps_lists.specs.Nested.{Nesteds}
use Rattle.ps_lists.specs.Spelling.{SpellAll}
use Rattle.ps_lists.specs.declared.lexemes.Lexeme.{Lexeme}
use Rattle.ps_lists.proofs.OneSpelling.{one_spelling}
use Rattle.ps_script.specs.Judged.{Fits, IsJudged, closed, in_scope, place}
use Rattle.ps_script.specs.Judged.IsJudged.{fitting, stray, misfit}
use Rattle.ps_script.specs.Scopes.{strays}

module _ (start : List Symbol) (bytes : List ℕ) (tokens : List Token) (ls : List Lexeme) where
  -- ---- by what was found out

  pub misfit_judged : (i at : ℕ) → (ts : Nesteds) × SpellAll ts (closed (take i ls)) × (at ≡ unwrap_or (strays [] ts) (place bytes tokens i)) → Fits start (marks ls) (Some i) → IsJudged start bytes tokens ls (Err at)
  misfit_judged i at found fits = subst (λ (n : ℕ). IsJudged start bytes tokens ls (Err n)) (sym found.2) (misfit i found.0 fits found.1)

  scope_judged : (ts : Nesteds) (o : Option ℕ) → SpellAll ts ls → strays [] ts ≡ o → Fits start (marks ls) None → IsJudged start bytes tokens ls (in_scope o ts)
  scope_judged ts None spelt e fits = fitting ts fits.0 fits.1 spelt e
  scope_judged ts (Some at) spelt e fits = stray ts at fits.0 fits.1 spelt e

  fitting_judged : (found : Result Nesteds ℕ) → (ts : Nesteds) × SpellAll ts ls × (found ≡ in_scope (strays [] ts) ts) → Fits start (marks ls) None → IsJudged start bytes tokens ls found
  fitting_judged found told fits =
      subst (λ (r : Result Nesteds ℕ). IsJudged start bytes tokens ls r) (sym told.2) (scope_judged told.0 (strays [] told.0) told.1 refl fits)

  -- what is known where all words fit
  pub record IsFitting (ts : Nesteds) : Type 0 where
    pub derived : Derives start (marks ls)
    pub shallow : IsShallowFrom start (marks ls)
    pub spelt : SpellAll ts ls
    pub in_scope : strays [] ts ≡ None

  pub fitting_parts : (r : Result Nesteds ℕ) → IsJudged start bytes tokens ls r → IfOk r IsFitting
  fitting_parts _ (fitting ts d h p n) = record { derived = d; shallow = h; spelt = p; in_scope = n }
  fitting_parts _ (stray ts at d h p n) = tt
  fitting_parts _ (misfit i ts f p) = tt

  -- ---- one thing

  in_and_out : (ts us : Nesteds) (at : ℕ) → SpellAll ts ls → SpellAll us ls → strays [] ts ≡ None → strays [] us ≡ Some at → ⊥
  in_and_out ts us at p q n s =
      let same : strays [] ts ≡ strays [] us = ap (strays []) (one_spelling ts us ls p q) in
      cc

  same_stray : (ts us : Nesteds) (a b : ℕ) → SpellAll ts ls → SpellAll us ls → strays [] ts ≡ Some a → strays [] us ≡ Some b → a ≡ b
  same_stray ts us a b p q n s =
      let same : strays [] ts ≡ strays [] us = ap (strays []) (one_spelling ts us ls p q) in
      cc

  same_misfit : (i k : ℕ) (ts us : Nesteds) → i ≡ k → SpellAll ts (closed (take i ls)) → SpellAll us (closed (take k ls)) → unwrap_or (strays [] ts) (place bytes tokens i) ≡ unwrap_or (strays [] us) (place bytes tokens k)
  same_misfit i k ts us e p q =
      let same : ts ≡ us = one_spelling ts us (closed (take k ls)) (subst (λ (n : ℕ). SpellAll ts (closed (take n ls))) e p) q in
      rw (e, same) refl

  pub judged_one : (r s : Result Nesteds ℕ) → IsJudged start bytes tokens ls r → IsJudged start bytes tokens ls s → r ≡ s
  judged_one _ _ (fitting ts d h p n) (fitting us e k q m) = ap Ok (one_spelling ts us ls p q)
  judged_one _ _ (fitting ts d h p n) (stray us at e k q m) = absurd (in_and_out ts us at p q n m)
  judged_one _ _ (fitting ts d h p n) (misfit i us f q) = absurd (first_faults_are_real start (marks ls) i f d h)
  judged_one _ _ (stray ts at d h p n) (fitting us e k q m) = absurd (in_and_out us ts at q p m n)
  judged_one _ _ (stray ts at d h p n) (stray us to e k q m) = ap Err (same_stray ts us at to p q n m)
  judged_one _ _ (stray ts at d h p n) (misfit i us f q) = absurd (first_faults_are_real start (marks ls) i f d h)
  judged_one _ _ (misfit i ts f p) (fitting us e k q m) = absurd (first_faults_are_real start (marks ls) i f e k)
  judged_one _ _ (misfit i ts f p) (stray us at e k q m) = absurd (first_faults_are_real start (marks ls) i f e k)
  judged_one _ _ (misfit i ts f p) (misfit k us g q) = ap Err (same_misfit i k ts us (first_faults_are_one start (marks ls) i k f g) p q)

-- an answer to whole words is one to words of which all fit
pub scoped_answer : {E : Type 0} (bytes : List ℕ) (tokens : List Token) (ls : List Lexeme) (found : Option ℕ) (answer : Result (Result Nesteds ℕ) E) → found ≡ None → IfOk answer (λ r. (ts : Nesteds) × SpellAll ts ls × (r ≡ in_scope (strays [] ts) ts)) → IfOk answer (λ r. (start : List Symbol) → Fits start (marks ls) found → IsJudged start bytes tokens ls r)
scoped_answer bytes tokens ls found (Ok r) e h = λ start fits. fitting_judged start bytes tokens ls r h (subst (λ (o : Option ℕ). Fits start (marks ls) o) e fits)
scoped_answer bytes tokens ls found (Err error) e h = tt

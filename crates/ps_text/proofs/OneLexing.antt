-- A text has one list of tokens at most, or one fault.
use Rattle.std.proofs.Common.{◌≡◌, ℕ, zero, suc, ◌+◌, ◌<◌, ◌≤◌, List, [], ◌∷◌, map, length, take, get_or, slice_range, Option, Some, None, Result, Err, IsSome, All, refl, sym, ap, subst, ◌∙◌, inl, inr, arith}
use Rattle.std.proofs.lemmas.Bool.{cases_order}
use Rattle.std.proofs.lemmas.List.{length-map}
use Rattle.std.proofs.lemmas.List.Elements.{All-head, All-tail}
use Rattle.std.specs.List.{AllPairs}
use Rattle.std.specs.Option.{ok_or}
use Rattle.ps_text.specs.declared.lexing.Class.{Class}
use Rattle.ps_text.specs.declared.lexing.LexRefusal.{LexRefusal}
use Rattle.ps_text.specs.declared.lexing.Token.{Token}
use Rattle.ps_text.specs.Words.{words}
use Rattle.ps_text.specs.Tokens.{class_of, class_at, fault_of_word, span_of, IsWordAt, AreTokens, IsFirstFault}
use Rattle.ps_text.specs.Laws.{TokensAreOne, FaultsAreOne, TokensAreFaultless}
use Rattle.ps_text.proofs.Counts.{count, count-is}
use Rattle.ps_text.proofs.TokenSteps.{have_classes}
use Rattle.ps_text.proofs.WordPlaces.{number, count-word, word-is, risen, same_place, same_end, word_before}

-- ---- tokens

-- tokens at words whose numbers rise from a number on, below another
record Rise (bytes : List ℕ) (low high : ℕ) (ts : List Token) : Type 0 where
  placed : All (λ t. IsWordAt bytes t.from t.to) ts
  in_order : AllPairs (λ a b. a.to ≤ b.from) ts
  above : All (λ t. low ≤ number bytes t.from) ts
  below : All (λ t. number bytes t.from < high) ts

module _ (bytes : List ℕ) (low high : ℕ) (t : Token) (ts : List Token) (r : Rise bytes low high (t ∷ ts)) where
  first_at : IsWordAt bytes t.from t.to
  first_at = All-head (λ t. IsWordAt bytes t.from t.to) t ts r.placed

  first_above : low ≤ number bytes t.from
  first_above = All-head (λ t. low ≤ number bytes t.from) t ts r.above

  first_below : number bytes t.from < high
  first_below = All-head (λ t. number bytes t.from < high) t ts r.below

  -- the other tokens have larger numbers
  others_rise : Rise bytes (suc (number bytes t.from)) high ts
  others_rise =
      record {
        placed = All-tail (λ t. IsWordAt bytes t.from t.to) t ts r.placed;
        in_order = λ i j d h l. r.in_order (suc i) (suc j) d (omega arith) (omega arith);
        above = λ k d l.
            let longer = first_at.longer in
            let after : t.to ≤ (get_or ts k d).from = r.in_order zero (suc k) d (omega arith) (omega arith) in
            risen bytes t.from t.to (get_or ts k d).from first_at (omega arith);
        below = All-tail (λ t. number bytes t.from < high) t ts r.below;
      }

-- there are no more such tokens than numbers
few : (bytes : List ℕ) (low high : ℕ) (ts : List Token) → Rise bytes low high ts → low ≤ high → low + length ts ≤ high
few bytes low high [] r h = omega arith
few bytes low high (t ∷ ts) r h =
    let below = first_below bytes low high t ts r in
    omega (arith, first_above bytes low high t ts r, few bytes (suc (number bytes t.from)) high ts (others_rise bytes low high t ts r) below)

-- the first of as many tokens as numbers has the lowest number
lowest : (bytes : List ℕ) (low high : ℕ) (t : Token) (ts : List Token) → Rise bytes low high (t ∷ ts) → low + length (t ∷ ts) ≡ high → number bytes t.from ≡ low
lowest bytes low high t ts r e =
    let below = first_below bytes low high t ts r in
    omega (arith, first_above bytes low high t ts r, few bytes (suc (number bytes t.from)) high ts (others_rise bytes low high t ts r) below)

abbrev token : Class → ℕ → ℕ → Token
token class from to = record { class = class; from = from; to = to }

same_token : (t u : Token) → t.from ≡ u.from → t.to ≡ u.to → t.class ≡ u.class → t ≡ u
same_token t u from to class = ap (λ k. token t.class k t.to) from ∙ ap (λ k. token t.class u.from k) to ∙ ap (λ c. token c u.from u.to) class

same_tokens : (bytes : List ℕ) (low high : ℕ) (ts us : List Token) → Rise bytes low high ts → Rise bytes low high us → low + length ts ≡ high → low + length us ≡ high → map (λ t. Some t.class) ts ≡ map (λ t. Some t.class) us → ts ≡ us
same_tokens bytes low high [] [] r s e g c = refl
same_tokens bytes low high [] (u ∷ us) r s e g c = absurd (omega arith)
same_tokens bytes low high (t ∷ ts) [] r s e g c = absurd (omega arith)
same_tokens bytes low high (t ∷ ts) (u ∷ us) r s e g c =
    let here = lowest bytes low high t ts r e in
    let there = lowest bytes low high u us s g in
    let w = first_at bytes low high t ts r in
    let v = first_at bytes low high u us s in
    let from : t.from ≡ u.from = same_place bytes t.from t.to u.from u.to w v (here ∙ sym there) in
    let to : t.to ≡ u.to = same_end bytes t.from t.to u.to w (subst (λ k. IsWordAt bytes k u.to) (sym from) v) in
    let class : t.class ≡ u.class = cc in
    let classes : map (λ t. Some t.class) ts ≡ map (λ t. Some t.class) us = cc in
    let next = subst (λ n. Rise bytes (suc n) high ts) here (others_rise bytes low high t ts r) in
    let other = subst (λ n. Rise bytes (suc n) high us) there (others_rise bytes low high u us s) in
    let rest = same_tokens bytes (suc low) high ts us next other (omega arith) (omega arith) classes in
    ap (λ x. x ∷ ts) (same_token t u from to class) ∙ ap (λ l. u ∷ l) rest

module _ (bytes : List ℕ) (ts : List Token) (are : AreTokens bytes ts) where
  all_rise : Rise bytes 0 (count bytes) ts
  all_rise =
      record {
        placed = are.placed;
        in_order = are.in_order;
        above = λ k d l. omega arith;
        below = λ k d l. omega (arith, count-word bytes (get_or ts k d).from (get_or ts k d).to (are.placed k d l));
      }

  as_many : 0 + length ts ≡ count bytes
  as_many = omega (arith, count-is bytes, ap length are.marked, length-map (map span_of ts) (λ s. slice_range bytes s.from s.to), length-map ts span_of)

pub tokens_are_one : TokensAreOne
tokens_are_one bytes ts us are also =
    same_tokens bytes 0 (count bytes) ts us (all_rise bytes ts are) (all_rise bytes us also) (as_many bytes ts are) (as_many bytes us also) (sym are.classed ∙ also.classed)

-- ---- faults

classless : (o : Option Class) (e f : LexRefusal) → ok_or o e ≡ Err f → IsSome o → ⊥
classless None e f h some = absurd (cc)
classless (Some c) e f h some = absurd (cc)

-- a first fault's word stands after no other fault's
not_before : (bytes : List ℕ) (at other : ℕ) (f g : LexRefusal) → IsFirstFault bytes at f → IsFirstFault bytes other g → at < other → ⊥
not_before bytes at other f g x y h =
    let rise = risen bytes at x.to other x.placed h in
    let classed : IsSome (class_of (get_or (words (take other bytes)) (number bytes at) [])) = y.before (number bytes at) [] (omega (arith, count-is (take other bytes))) in
    let some = subst (λ w. IsSome (class_of w)) (word_before bytes at x.to other y.to [] x.placed y.placed rise) classed in
    classless (class_of (slice_range bytes at x.to)) (fault_of_word at (slice_range bytes at x.to)) f x.fault_is some

same_fault : (f g : LexRefusal) (r : Result Class LexRefusal) → r ≡ Err f → r ≡ Err g → f ≡ g
same_fault f g r h k = cc

pub faults_are_one : FaultsAreOne
faults_are_one bytes at other f g x y =
    let same : at ≡ other = elim (cases_order at other) [
      | inl same ↦ same
      | inr apart ↦ elim apart [
        | inl before ↦ absurd (not_before bytes at other f g x y before)
        | inr after ↦ absurd (not_before bytes other at g f y x after)
      ]
    ] in
    let placed : IsWordAt bytes at y.to = subst (λ k. IsWordAt bytes k y.to) (sym same) y.placed in
    let end : x.to ≡ y.to = same_end bytes at x.to y.to x.placed placed in
    let fault : class_at at (slice_range bytes at x.to) ≡ Err g = ap (λ k. class_at at (slice_range bytes at k)) end ∙ ap (λ k. class_at k (slice_range bytes k y.to)) same ∙ y.fault_is in
    (same, same_fault f g (class_at at (slice_range bytes at x.to)) x.fault_is fault)

pub tokens_are_faultless : TokensAreFaultless
tokens_are_faultless bytes at f ts x are =
    let all = have_classes (words bytes) ts are.classed in
    let within = count-word bytes at x.to x.placed in
    let classed : IsSome (class_of (get_or (words bytes) (number bytes at) [])) = all (number bytes at) [] (omega (arith, count-is bytes)) in
    let some = subst (λ w. IsSome (class_of w)) (word-is bytes at x.to x.placed []) classed in
    classless (class_of (slice_range bytes at x.to)) (fault_of_word at (slice_range bytes at x.to)) f x.fault_is some

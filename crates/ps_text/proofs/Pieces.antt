-- Pieces of a text, one after another, and its lines.
use Rattle.std.proofs.Common.{◌≡◌, ℕ, zero, suc, ◌+◌, ◌-◌, ◌<◌, ◌≤◌, ◌==◌, Bool, true, false, not, List, [], ◌∷◌, ◌++◌, length, take, drop, position, slice_range, unwrap_or, Option, refl, sym, ap, ◌∙◌, inl, inr, arith, append_assoc, append-nil, one-add, slice_index_or}
use Rattle.std.proofs.lemmas.List.{map_push, length_push, length-drop, drop-drop, drop_all, drop_more}
use Rattle.std.proofs.lemmas.List.Elements.{All-nil, All-push}
use Rattle.std.proofs.lemmas.List.Sums.{prefix_len-le-length}
use Rattle.std.proofs.lemmas.Bool.{cases_Bool, cases_lt, lt-ltb, le-ltb}
use Rattle.std.specs.List.{position_or_len}
use Rattle.ps_world.specs.Lines.{lines_of, lengthened}
use Rattle.ps_text.specs.declared.spans.Span.{Span}
use Rattle.ps_text.specs.Words.{pieces, AreWithin, IsWithin}

-- ---- the first place that passes a test

module _ {X : Type 0} (p : X → Bool) where
  pub first-le : (xs : List X) → position_or_len p xs ≤ length xs
  first-le xs = prefix_len-le-length (λ x. not (p x)) xs

  pub first-yes : (x : X) (xs : List X) → p x ≡ true → position_or_len p (x ∷ xs) ≡ 0
  first-yes x xs e = rw e

  pub first-no : (x : X) (xs : List X) → p x ≡ false → position_or_len p (x ∷ xs) ≡ suc (position_or_len p xs)
  first-no x xs e = rw e (one-add (position_or_len p xs))

  pub unwrap_or-position : (xs : List X) → unwrap_or (position p xs) (length xs) ≡ position_or_len p xs
  unwrap_or-position xs =
      elim (cases_lt (position_or_len p xs) (length xs)) [
        | inl h ↦ rw (lt-ltb _ _ h)
        | inr h ↦ rw (le-ltb _ _ h) (omega (arith, first-le xs))
      ]

  pub first-from : (xs rest : List X) (from count : ℕ) (found : Option ℕ) → rest ≡ drop from xs → found ≡ position p rest → count ≡ unwrap_or found (length rest) → from + count ≡ from + position_or_len p (drop from xs)
  first-from xs rest from count found r f c = ap (λ n. from + n) (c ∙ ap (λ o. unwrap_or o (length rest)) f ∙ unwrap_or-position rest ∙ ap (position_or_len p) r)

-- ---- pieces

pub pieces_push : (bytes : List ℕ) (spans : List Span) (s : Span) → pieces bytes (spans ++ s ∷ []) ≡ pieces bytes spans ++ slice_range bytes s.from s.to ∷ []
pieces_push bytes spans s = map_push _ spans s

-- these spans mark the parts of a text that stand before a place
pub record Marked (parts : List ℕ → List (List ℕ)) (bytes : List ℕ) (spans : List Span) (from : ℕ) : Type 0 where
  pub place : from ≤ length bytes
  pub joined : pieces bytes spans ++ parts (drop from bytes) ≡ parts bytes
  pub within : AreWithin bytes spans
  pub few : length spans ≤ from

module _ (parts : List ℕ → List (List ℕ)) (bytes : List ℕ) where
  pub Marked-none : Marked parts bytes [] 0
  Marked-none = record { place = omega arith; joined = refl; within = All-nil (IsWithin bytes); few = omega arith }

  -- one more part
  pub Marked-more : (spans more : List Span) (s : Span) (next : ℕ) → Marked parts bytes spans s.from → more ≡ spans ++ s ∷ [] → s.from ≤ s.to → s.to ≤ length bytes → s.from < next → next ≤ length bytes
      → parts (drop s.from bytes) ≡ slice_range bytes s.from s.to ∷ parts (drop next bytes) → Marked parts bytes more next
  Marked-more spans more s next m is h l n k e =
      record {
        place = k;
        joined =
            ap (λ l. pieces bytes l ++ parts (drop next bytes)) is
            ∙ ap (λ l. l ++ parts (drop next bytes)) (pieces_push bytes spans s)
            ∙ append_assoc (pieces bytes spans) (slice_range bytes s.from s.to ∷ []) (parts (drop next bytes))
            ∙ ap (λ l. pieces bytes spans ++ l) (sym e)
            ∙ m.joined;
        within = rw is (All-push (IsWithin bytes) spans s m.within (h, l));
        few = rw is (omega (arith, m.few, length_push spans s));
      }

  pub Marked-all : (spans : List Span) (from : ℕ) → Marked parts bytes spans from → length bytes ≤ from → parts [] ≡ [] → pieces bytes spans ≡ parts bytes
  Marked-all spans from m h none =
      sym (append-nil (pieces bytes spans)) ∙ ap (λ l. pieces bytes spans ++ l) (sym none ∙ sym (ap parts (drop_all from bytes h))) ∙ m.joined

-- ---- lines

abbrev pub is_lf : ℕ → Bool
is_lf b = b == 10

pub lines_of-lf : (b : ℕ) (bs : List ℕ) → (b == 10) ≡ true → lines_of (b ∷ bs) ≡ [] ∷ lines_of bs
lines_of-lf b bs h = rw h

pub lines_of-more : (b : ℕ) (bs : List ℕ) → (b == 10) ≡ false → lines_of (b ∷ bs) ≡ lengthened b (lines_of bs)
lines_of-more b bs h = rw h

pub lines_of-first : (xs : List ℕ) (n : ℕ) → position_or_len is_lf xs ≡ n → 0 < length xs → lines_of xs ≡ take n xs ∷ lines_of (drop (suc n) xs)
lines_of-first [] n e h = absurd (omega arith)
lines_of-first (b ∷ bs) zero e h =
    elim (cases_Bool (b == 10)) [
      | inl lf ↦ lines_of-lf b bs lf
      | inr other ↦ absurd (omega (arith, sym (first-no is_lf b bs other) ∙ e))
    ]
lines_of-first (b ∷ []) (suc n) e h =
    elim (cases_Bool (b == 10)) [
      | inl lf ↦ absurd (omega (arith, sym (first-yes is_lf b [] lf) ∙ e))
      | inr other ↦
          let last : n ≡ 0 = omega (arith, sym (first-no is_lf b [] other) ∙ e) in
          rw last (lines_of-more b [] other)
    ]
lines_of-first (b ∷ c ∷ cs) (suc n) e h =
    elim (cases_Bool (b == 10)) [
      | inl lf ↦ absurd (omega (arith, sym (first-yes is_lf b (c ∷ cs) lf) ∙ e))
      | inr other ↦
          let here : position_or_len is_lf (c ∷ cs) ≡ n = omega (arith, sym (first-no is_lf b (c ∷ cs) other) ∙ e) in
          lines_of-more b (c ∷ cs) other ∙ ap (lengthened b) (lines_of-first (c ∷ cs) n here (omega arith))
    ]

-- the line at a place, and the lines after it
pub lines_of-step : (bytes : List ℕ) (from to next : ℕ) → from < length bytes → to ≡ from + position_or_len is_lf (drop from bytes) → (to < length bytes → next ≡ to + 1) → (length bytes ≤ to → next ≡ to)
    → lines_of (drop from bytes) ≡ slice_range bytes from to ∷ lines_of (drop next bytes)
lines_of-step bytes from to next h e less all =
    let n = position_or_len is_lf (drop from bytes) in
    let some : 0 < length (drop from bytes) = omega (arith, length-drop from bytes) in
    let count : to - from ≡ n = omega arith in
    let rest : drop (suc n) (drop from bytes) ≡ drop next bytes = drop-drop (suc n) from bytes ∙ elim (cases_lt to (length bytes)) [
      | inl lt ↦ ap (λ k. drop k bytes) (omega (arith, less lt))
      | inr le ↦ drop_all (from + suc n) bytes (omega arith) ∙ sym (drop_all next bytes (omega (arith, all le)))
    ] in
    rw (count, ← rest) (lines_of-first (drop from bytes) n refl some)

pub pieces_more : (bytes : List ℕ) (spans : List Span) (i : ℕ) (s : Span) (line : List ℕ) → i < length spans → line ≡ slice_range bytes (slice_index_or spans i s).from (slice_index_or spans i s).to → pieces bytes (drop i spans) ≡ line ∷ pieces bytes (drop (i + 1) spans)
pieces_more bytes spans i s line lt l = rw (drop_more spans i s lt, l) refl

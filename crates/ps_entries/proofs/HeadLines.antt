-- A line of settings says them, and no others.
use Rattle.std.proofs.Common.{◌≡◌, ◌⊎◌, inl, inr, ℕ, ◌-◌, ◌^◌, ◌≤◌, Bool, ◌&&◌, true, false, if◌then◌else◌, List, [], ◌∷◌, ◌++◌, codes, length, take, drop, slice_range, slice_index_or, nat_le, Option, Some, None, Result, Ok, Err, IfOk, refl, sym, ap, ◌∙◌, subst, arith}
use Rattle.std.proofs.lemmas.Bool.{and_from, and_parts}
use Rattle.std.proofs.lemmas.Bool.Decides.{nat_tests}
use Rattle.std.proofs.lemmas.List.{take_all}
use Rattle.std.specs.Fmt.{decimal}
use Rattle.ps_world.specs.Lines.{lines_of, same_text}
use Rattle.ps_world.proofs.SameTexts.{same_text-itself, same_text-is}
use Rattle.ps_rules.specs.Heads.{AreSettings, Head, IsHead, Settings, bare_title, head_lines, settings_line, title}
use Rattle.ps_text.specs.Words.{pieces, words}
use Rattle.ps_text.specs.declared.spans.Span.{Span}
use Rattle.ps_entries.specs.Heads.{are_settings, believed_settings, settings_at}
use Rattle.ps_entries.specs.Journals.{BeginsWith, HasSettings, SaysOrNot}
use Rattle.ps_entries.specs.declared.heads.Heading.{Heading}
use Rattle.ps_entries.specs.declared.heads.Heading.TheVariants.{Headed, Unsettled, Untitled}
use Rattle.ps_entries.specs.Words.{up_to, whole_number}
use Rattle.ps_entries.proofs.HeadWords.{is_run-decimal, words-last, words-then}
use Rattle.ps_entries.proofs.Numbers.{up_to-is, whole_number-decimal}

-- the words of a line of settings
words-settings : (s : Settings) → AreSettings s
    → words (settings_line s) ≡ codes "settings" ∷ codes "budget" ∷ decimal s.0 ∷ codes "replans" ∷ decimal s.1 ∷ []
words-settings s h =
    let last = codes "replans" ++ 32 ∷ decimal s.1 in
    words-then (codes "settings") (codes "budget" ++ 32 ∷ (decimal s.0 ++ 32 ∷ last)) refl
    ∙ ap (λ ws. codes "settings" ∷ ws)
    (words-then (codes "budget") (decimal s.0 ++ 32 ∷ last) refl
    ∙ ap (λ ws. codes "budget" ∷ ws)
    (words-then (decimal s.0) last (is_run-decimal s.0 (omega (arith, h.1)))
    ∙ ap (λ ws. decimal s.0 ∷ ws)
    (words-then (codes "replans") (decimal s.1) refl
    ∙ ap (λ ws. codes "replans" ∷ ws) (words-last (decimal s.1) (is_run-decimal s.1 (omega (arith, h.2)))))))

-- they say the settings
settings-read : (s : Settings) → AreSettings s → settings_at (words (settings_line s)) ≡ Some s
settings-read s h =
    let budget : up_to (2 ^ 32 - 1) (whole_number (decimal s.0)) ≡ Some s.0 =
    ap (up_to (2 ^ 32 - 1)) (whole_number-decimal s.0 (omega (arith, h.1))) ∙ up_to-is (2 ^ 32 - 1) s.0 (omega (arith, h.1)) in
    let replans : up_to (2 ^ 8 - 1) (whole_number (decimal s.1)) ≡ Some s.1 =
    ap (up_to (2 ^ 8 - 1)) (whole_number-decimal s.1 (omega (arith, h.2))) ∙ up_to-is (2 ^ 8 - 1) s.1 (omega (arith, h.2)) in
    ap settings_at (words-settings s h) ∙ rw (budget, replans) refl

are_settings-from : (s : Settings) → AreSettings s → are_settings s ≡ true
are_settings-from s h = grind (arith, nat_tests)

are_settings-to : (s : Settings) → are_settings s ≡ true → AreSettings s
are_settings-to s h =
    let a = and_parts (nat_le 1 s.0) (nat_le s.0 200000 && nat_le s.1 8) h in
    let b = and_parts (nat_le s.0 200000) (nat_le s.1 8) a.1 in
    (grind (arith, nat_tests), grind (arith, nat_tests), grind (arith, nat_tests))

module _ (line : List ℕ) where
  -- settings that the line's words say, believed or not
  of_test : (found : Settings) (o : Option Settings) (b : Bool) → settings_at (words line) ≡ Some found → are_settings found && same_text (settings_line found) line ≡ b
      → o ≡ (if b then Some found else None) → SaysOrNot line o
  of_test found o true at test is =
      let parts = and_parts (are_settings found) (same_text (settings_line found) line) test in
      subst (SaysOrNot line) (sym is) (are_settings-to found parts.0, sym (same_text-is (settings_line found) line parts.1))
  of_test found o false at test is = subst (SaysOrNot line) (sym is) (λ s h. λ same.
      let read : settings_at (words line) ≡ Some s = ap (λ l. settings_at (words l)) same ∙ settings-read s h in
      let one : Some found ≡ Some s = sym at ∙ read in
      let own : found ≡ s = cc in
      let printed : same_text (settings_line found) line ≡ true =
      subst (λ l. same_text (settings_line found) l ≡ true) (ap settings_line own ∙ sym same) (same_text-itself (settings_line found)) in
      let ranged : are_settings found ≡ true = ap are_settings own ∙ are_settings-from s h in
      let all : are_settings found && same_text (settings_line found) line ≡ true = and_from _ _ ranged printed in
      absurd (cc))

  -- what is believed of them
  pub said_answer : {E : Type 0} (found : Settings) (r : Result (Option Settings) E) → settings_at (words line) ≡ Some found
      → IfOk r (λ o. o ≡ believed_settings found line) → IfOk r (SaysOrNot line)
  said_answer found (Ok o) at is = of_test found o (are_settings found && same_text (settings_line found) line) at refl is
  said_answer found (Err e) at is = tt

  -- they say none
  pub said_nothing : settings_at (words line) ≡ None → SaysOrNot line None
  said_nothing none = λ s h. λ same.
      let read : settings_at (words line) ≡ Some s = ap (λ l. settings_at (words l)) same ∙ settings-read s h in
      absurd (cc)

-- ---- one head

-- lines of settings differ where the settings do
pub settings_one : (s t : Settings) → AreSettings s → AreSettings t → settings_line s ≡ settings_line t → s ≡ t
settings_one s t hs ht e =
    let both : Some s ≡ Some t = sym (settings-read s hs) ∙ ap (λ l. settings_at (words l)) e ∙ settings-read t ht in
    cc

-- the two titles differ in their last byte
pub titles-apart : {A : Type 0} → bare_title ≡ title → A
titles-apart e =
    let last : 49 ≡ 50 = ap (λ l. slice_index_or l 16 0) e in
    absurd (omega (arith, last))

first_of : (x y : List ℕ) (xs ys : List (List ℕ)) → x ∷ xs ≡ y ∷ ys → (x ≡ y) × (xs ≡ ys)
first_of x y xs ys e = (cc, cc)

-- lines begin with one head at most
pub heads_one : (g h : Head) (xs ys : List (List ℕ)) → IsHead g → IsHead h → head_lines g ++ xs ≡ head_lines h ++ ys → (g ≡ h) × (xs ≡ ys)
heads_one None None xs ys hg hh e = (refl, (first_of bare_title bare_title xs ys e).1)
heads_one None (Some t) xs ys hg hh e = titles-apart (first_of bare_title title xs (settings_line t ∷ ys) e).0
heads_one (Some s) None xs ys hg hh e = titles-apart (sym (first_of title bare_title (settings_line s ∷ xs) ys e).0)
heads_one (Some s) (Some t) xs ys hg hh e =
    let second = first_of (settings_line s) (settings_line t) xs ys (first_of title title (settings_line s ∷ xs) (settings_line t ∷ ys) e).1 in
    (ap (λ u. Some u) (settings_one s t hg hh second.0), second.1)

-- ---- the first lines

whole : (s : Span) (more : List Span) → take (length (s ∷ more) - 1) more ≡ more
whole s more = take_all (length (s ∷ more) - 1) more (omega arith)

module _ (bytes : List ℕ) where
  -- the line of the span at the beginning
  abbrev pub first_line : List Span → Span → List ℕ
  first_line spans d = slice_range bytes (slice_index_or spans 0 d).from (slice_index_or spans 0 d).to

  -- lines whose first is this text
  pub begins-with : (spans : List Span) (d : Span) (text : List ℕ) → 1 ≤ length spans → same_text (first_line spans d) text ≡ true
      → pieces bytes spans ≡ text ∷ pieces bytes (take (length spans - 1) (drop 1 spans))
  begins-with [] d text some same = absurd (omega (arith, some))
  begins-with (s ∷ more) d text some same =
      ap (λ l. l ∷ pieces bytes more) (same_text-is (slice_range bytes s.from s.to) text same)
      ∙ ap (λ ss. text ∷ pieces bytes ss) (sym (whole s more))

  -- after the title stands a line of settings
  pub settled-some : (rest : List Span) (d : Span) (o : Option Settings) (t : Settings) → 1 ≤ length rest → SaysOrNot (first_line rest d) o → o ≡ Some t
      → BeginsWith (title ∷ pieces bytes rest) (Headed (Some t))
  settled-some [] d o t some says is = absurd (omega (arith, some))
  settled-some (s ∷ more) d o t some says is =
      let said = subst (SaysOrNot (slice_range bytes s.from s.to)) is says in
      (said.0, (pieces bytes more, ap (λ l. title ∷ l ∷ pieces bytes more) said.1))

  -- after it stands another line
  pub settled-none : (rest : List Span) (d : Span) (o : Option Settings) → 1 ≤ length rest → SaysOrNot (first_line rest d) o → o ≡ None
      → BeginsWith (title ∷ pieces bytes rest) Unsettled
  settled-none [] d o some says is = absurd (omega (arith, some))
  settled-none (s ∷ more) d o some says is =
      let said = subst (SaysOrNot (slice_range bytes s.from s.to)) is says in (
        (pieces bytes (s ∷ more), refl),
        λ t rest h. λ e.
            said t h (first_of (slice_range bytes s.from s.to) (settings_line t) (pieces bytes more) rest (first_of title title (pieces bytes (s ∷ more)) (settings_line t ∷ rest) e).1).0,
      )

-- what a text's lines begin with tells which settings it says
pub has-settings : (text : List ℕ) (h : Head) → BeginsWith (lines_of text) (Headed h) → HasSettings text h
has-settings text (Some s) b = (b.0, b.1)
has-settings text None b = λ s rest good. λ e. titles-apart (first_of bare_title title b.1.0 (settings_line s ∷ rest) (sym b.1.1 ∙ e)).0

pub untitled-settings : (text : List ℕ) → BeginsWith (lines_of text) Untitled → HasSettings text None
untitled-settings text b = λ s rest good. λ e. (b (settings_line s ∷ rest)).1 e

pub unsettled-settings : (text : List ℕ) → BeginsWith (lines_of text) Unsettled → HasSettings text None
unsettled-settings text b = λ s rest good. λ e. b.1 s rest good e

-- what the lines of a text begin with
pub begins-text : (bytes : List ℕ) (spans shown : List Span) (found h : Heading) → pieces bytes spans ≡ lines_of bytes → shown ≡ spans
    → BeginsWith (pieces bytes shown) found → found ≡ h → BeginsWith (lines_of bytes) h
begins-text bytes spans shown found h split same begins is =
    subst (λ ls. BeginsWith ls h) split (subst (λ ss. BeginsWith (pieces bytes ss) h) same (subst (BeginsWith (pieces bytes shown)) is begins))

-- a text that begins with no head says no settings
pub other-settings : (bytes : List ℕ) (spans shown : List Span) (found : Heading) → pieces bytes spans ≡ lines_of bytes → shown ≡ spans
    → BeginsWith (pieces bytes shown) found → (found ≡ Untitled) ⊎ (found ≡ Unsettled) → HasSettings bytes None
other-settings bytes spans shown found split same begins (inl is) = untitled-settings bytes (begins-text bytes spans shown found Untitled split same begins is)
other-settings bytes spans shown found split same begins (inr is) = unsettled-settings bytes (begins-text bytes spans shown found Unsettled split same begins is)

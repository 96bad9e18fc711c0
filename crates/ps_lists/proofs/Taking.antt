-- What the symbols of the grammar take of nested lists: the marks of a text, list by list.
use Rattle.std.proofs.Common.{◌≡◌, ℕ, zero, suc, ◌<◌, ◌≤◌, Bool, true, false, if◌then◌else◌, List, [], ◌∷◌, ◌++◌, take, Option, None, Some, slice_get, unwrap_or, refl, sym, ◌∙◌, ap, subst, inl, inr, append_assoc, arith}
use Rattle.std.specs.Option.{option_and_then}
use Rattle.std.proofs.Math.Dec.{leb}
use Rattle.std.proofs.lemmas.Bool.{cases_lt, leb-true, le-leb}
use Rattle.std.proofs.lemmas.List.{map-append}
use Rattle.ps_grammar.specs.Rules.{step}
use Rattle.ps_grammar.specs.Forms.{opens}
use Rattle.ps_grammar.specs.Shape.{IsDomainShape, IsShallow, OpensTooMany, deepest, opens_level, text_start, next_wanted, run}
use Rattle.ps_grammar.specs.Symbols.{level}
use Rattle.ps_grammar.specs.declared.marks.Mark.{Mark}
use Rattle.ps_grammar.specs.declared.marks.Mark.TheVariants.{Open, Close}
use Rattle.ps_grammar.specs.declared.symbols.Symbol.{Symbol}
use Rattle.ps_grammar.specs.declared.symbols.Symbol.TheVariants.{InEffect}
use Rattle.ps_grammar.specs.declared.symbols.EffectPart.TheVariants.{BodyHead}
use Rattle.ps_grammar.proofs.Runs.{derived_of_run, run_of_derived}
use Rattle.ps_lists.specs.Lexemes.{marks}
use Rattle.ps_lists.specs.Nested.{Nested, Nesteds, word, group, none, more}
use Rattle.ps_lists.specs.Spelling.{Spells, SpellAll}
use Rattle.ps_lists.specs.Spelling.Spells.{plain, between}
use Rattle.ps_lists.specs.Spelling.SpellAll.{nothing, one_more}
use Rattle.ps_lists.specs.declared.lexemes.Lexeme.{Lexeme}

-- the text may go on, and what is wanted next is so
abbrev pub Follows : (List Symbol → Type 0) → Option (List Symbol) → Type 0
Follows After None = ⊥
Follows After (Some st) = After st

-- what a symbol leads to at a word: at no parenthesis
abbrev pub word_step : Symbol → Mark → Option (List Symbol)
word_step s Open = None
word_step s Close = None
word_step s m = step s m

-- this where the mark opens no level, or one that may be opened where so many are open
abbrev pub allowed : Bool → ℕ → Option (List Symbol) → Option (List Symbol)
allowed false n o = o
allowed true n o = if leb (suc n) deepest then o else None

-- the word opens a level where the symbol is wanted
abbrev pub opens_word : Symbol → Mark → Bool
opens_word s Open = false
opens_word s m = opens (Some s) m

-- what is wanted after a word
abbrev pub after_word : List Symbol → Mark → Option (List Symbol)
after_word [] m = None
after_word (s ∷ st) m = allowed (opens_word s m) (level (s ∷ st)) (option_and_then (λ new. Some (new ++ st)) (word_step s m))

-- ---- lists

abbrev mutual
  -- the word or list fits where these symbols are wanted, no parenthesis in it opens too many levels, and what is wanted after it is so
  pub Takes : Nested → (List Symbol → Type 0) → List Symbol → Type 0
  Takes (word l) After st = Follows After (after_word st l.mark)
  Takes (group ts) After st = (level st < deepest) × Follows (λ now. TakesAll ts After now) (next_wanted st Open)

  -- the same of several and the parenthesis that closes after them
  pub TakesAll : Nesteds → (List Symbol → Type 0) → List Symbol → Type 0
  TakesAll none After st = Follows After (next_wanted st Close)
  TakesAll (more t ts) After st = Takes t (λ now. TakesAll ts After now) st

-- ---- marks

-- a level may be opened where the mark opens one
abbrev pub Allowed : Mark → List Symbol → Type 0
Allowed m st = opens_level st (Some m) ≡ true → level st < deepest

-- the marks fit where these symbols are wanted, none opens too many levels, and what is wanted after them is so
abbrev pub Passes : List Mark → (List Symbol → Type 0) → List Symbol → Type 0
Passes [] After st = After st
Passes (m ∷ ms) After st = Allowed m st × Follows (λ now. Passes ms After now) (next_wanted st m)

-- nothing more is wanted
abbrev pub IsDone : List Symbol → Type 0
IsDone st = st ≡ []

-- a parenthesis that closes opens no level
shuts_itself : (wanted : Option Symbol) → opens wanted Close ≡ true → ⊥
shuts_itself None e = absurd (cc)
shuts_itself (Some (InEffect (BodyHead reach))) e = absurd (cc)
shuts_itself (Some s) e = absurd (cc)

-- a parenthesis opens a level
opens_itself : (wanted : Option Symbol) → opens wanted Open ≡ true
opens_itself None = refl
opens_itself (Some (InEffect (BodyHead reach))) = refl
opens_itself (Some s) = refl

pub word_is_plain : (s : Symbol) (m : Mark) → (m ≡ Open → ⊥) → (m ≡ Close → ⊥) → word_step s m ≡ step s m
word_is_plain s Open o c = absurd (o refl)
word_is_plain s Close o c = absurd (c refl)
word_is_plain s _ o c = refl

opens_word_is : (s : Symbol) (m : Mark) → (m ≡ Open → ⊥) → opens_word s m ≡ opens (Some s) m
opens_word_is s Open o = absurd (o refl)
opens_word_is s _ o = refl

fits_below : (b : Bool) (n : ℕ) → leb (suc n) deepest ≡ b → (After : List Symbol → Type 0) (o : Option (List Symbol)) → Follows After (if b then o else None) → (n < deepest) × Follows After o
fits_below true n e After o h =
    let below : suc n ≤ deepest = leb-true (suc n) deepest e in
    (omega (arith, below), h)
fits_below false n e After o h = absurd h

-- what is allowed goes on, and opens no level too many
pub of_allowed : (b : Bool) (n : ℕ) (After : List Symbol → Type 0) (o : Option (List Symbol)) → Follows After (allowed b n o) → (b ≡ true → n < deepest) × Follows After o
of_allowed false n After o h = (λ e. absurd (cc), h)
of_allowed true n After o h =
    let both = fits_below (leb (suc n) deepest) n refl After o h in
    (λ e. both.0, both.1)

-- and the other way round
pub to_allowed : (b : Bool) (n : ℕ) (After : List Symbol → Type 0) (o : Option (List Symbol)) → (b ≡ true → n < deepest) → Follows After o → Follows After (allowed b n o)
to_allowed false n After o below h = h
to_allowed true n After o below h =
    let lower : n < deepest = below refl in
    let fits : leb (suc n) deepest ≡ true = le-leb (suc n) deepest (omega (arith, lower)) in
    subst (λ (b : Bool). Follows After (if b then o else None)) (sym fits) h

-- a word that is taken passes
passes_of_word : (st : List Symbol) (m : Mark) → (m ≡ Open → ⊥) → (m ≡ Close → ⊥) → (After : List Symbol → Type 0) → Follows After (after_word st m) → Allowed m st × Follows After (next_wanted st m)
passes_of_word [] m o c After h = absurd h
passes_of_word (s ∷ st) m o c After h =
    let both = of_allowed (opens_word s m) (level (s ∷ st)) After (option_and_then (λ new. Some (new ++ st)) (word_step s m)) h in
    (λ e. both.0 (opens_word_is s m o ∙ e), subst (λ x. Follows After (option_and_then (λ new. Some (new ++ st)) x)) (word_is_plain s m o c) both.1)

-- and the other way round
word_of_passes : (st : List Symbol) (m : Mark) → (m ≡ Open → ⊥) → (m ≡ Close → ⊥) → (After : List Symbol → Type 0) → Allowed m st → Follows After (next_wanted st m) → Follows After (after_word st m)
word_of_passes [] m o c After below h = absurd h
word_of_passes (s ∷ st) m o c After below h =
    to_allowed (opens_word s m) (level (s ∷ st)) After (option_and_then (λ new. Some (new ++ st)) (word_step s m)) (λ e. below (sym (opens_word_is s m o) ∙ e)) (subst (λ x. Follows After (option_and_then (λ new. Some (new ++ st)) x)) (sym (word_is_plain s m o c)) h)

pub follows_more : (A B : List Symbol → Type 0) (o : Option (List Symbol)) → ((st : List Symbol) → A st → B st) → Follows A o → Follows B o
follows_more A B None f h = h
follows_more A B (Some st) f h = f st h

mutual
  -- a list that is taken and leaves something so leaves what follows from that
  pub takes_more : (t : Nested) (A B : List Symbol → Type 0) (st : List Symbol) → ((now : List Symbol) → A now → B now) → Takes t A st → Takes t B st
  takes_more (word l) A B st f h = follows_more A B (after_word st l.mark) f h
  takes_more (group ts) A B st f h = (h.0, follows_more (TakesAll ts A) (TakesAll ts B) (next_wanted st Open) (λ now k. all_takes_more ts A B now f k) h.1)

  all_takes_more : (ts : Nesteds) (A B : List Symbol → Type 0) (st : List Symbol) → ((now : List Symbol) → A now → B now) → TakesAll ts A st → TakesAll ts B st
  all_takes_more none A B st f h = follows_more A B (next_wanted st Close) f h
  all_takes_more (more t ts) A B st f h = takes_more t (TakesAll ts A) (TakesAll ts B) st (λ now k. all_takes_more ts A B now f k) h

-- ---- lists and their marks

pub group_marks : (left right : Lexeme) (ls : List Lexeme) (ms : List Mark) → left.mark ≡ Open → right.mark ≡ Close → marks (left ∷ (ls ++ right ∷ [])) ++ ms ≡ Open ∷ (marks ls ++ Close ∷ ms)
group_marks left right ls ms o c =
    ap (λ x. left.mark ∷ (x ++ ms)) (map-append (λ l. l.mark) ls (right ∷ [])) ∙ ap (λ x. left.mark ∷ x) (append_assoc (marks ls) (right.mark ∷ []) ms) ∙ ap (λ m. m ∷ (marks ls ++ right.mark ∷ ms)) o ∙ ap (λ m. Open ∷ (marks ls ++ m ∷ ms)) c

pub marks_more : (ls ks : List Lexeme) (ms : List Mark) → marks (ls ++ ks) ++ ms ≡ marks ls ++ (marks ks ++ ms)
marks_more ls ks ms = ap (λ x. x ++ ms) (map-append (λ l. l.mark) ls ks) ∙ append_assoc (marks ls) (marks ks) ms

mutual
  -- the marks of a list that is taken pass
  pub passes_of_takes : (t : Nested) (ls : List Lexeme) → Spells t ls → (ms : List Mark) (After : List Symbol → Type 0) (st : List Symbol) → Takes t (λ now. Passes ms After now) st → Passes (marks ls ++ ms) After st
  passes_of_takes _ _ (plain l o c) ms After st h = passes_of_word st l.mark o c (λ now. Passes ms After now) h
  passes_of_takes _ _ (between left right ts ls o c s) ms After st h =
      subst (λ (x : List Mark). Passes x After st) (sym (group_marks left right ls ms o c)) (λ _. h.0, follows_more (TakesAll ts (λ now. Passes ms After now)) (λ now. Passes (marks ls ++ Close ∷ ms) After now) (next_wanted st Open) (λ now k. passes_of_all ts ls s ms After now k) h.1)

  pub passes_of_all : (ts : Nesteds) (ls : List Lexeme) → SpellAll ts ls → (ms : List Mark) (After : List Symbol → Type 0) (st : List Symbol) → TakesAll ts (λ now. Passes ms After now) st → Passes (marks ls ++ Close ∷ ms) After st
  passes_of_all _ _ nothing ms After st h = (λ e. absurd (shuts_itself (slice_get st 0) e), h)
  passes_of_all _ _ (one_more t ts ls ks s r) ms After st h =
      subst (λ (x : List Mark). Passes x After st) (sym (marks_more ls ks (Close ∷ ms))) (passes_of_takes t ls s (marks ks ++ Close ∷ ms) After st (takes_more t (TakesAll ts (λ now. Passes ms After now)) (λ now. Passes (marks ks ++ Close ∷ ms) After now) st (λ now k. passes_of_all ts ks r ms After now k) h))

mutual
  -- a list whose marks pass is taken
  pub takes_of_passes : (t : Nested) (ls : List Lexeme) → Spells t ls → (ms : List Mark) (After : List Symbol → Type 0) (st : List Symbol) → Passes (marks ls ++ ms) After st → Takes t (λ now. Passes ms After now) st
  takes_of_passes _ _ (plain l o c) ms After st h = word_of_passes st l.mark o c (λ now. Passes ms After now) h.0 h.1
  takes_of_passes _ _ (between left right ts ls o c s) ms After st h =
      let k = subst (λ (x : List Mark). Passes x After st) (group_marks left right ls ms o c) h in
      (k.0 (opens_itself (slice_get st 0)), follows_more (λ now. Passes (marks ls ++ Close ∷ ms) After now) (TakesAll ts (λ now. Passes ms After now)) (next_wanted st Open) (λ now j. all_of_passes ts ls s ms After now j) k.1)

  pub all_of_passes : (ts : Nesteds) (ls : List Lexeme) → SpellAll ts ls → (ms : List Mark) (After : List Symbol → Type 0) (st : List Symbol) → Passes (marks ls ++ Close ∷ ms) After st → TakesAll ts (λ now. Passes ms After now) st
  all_of_passes _ _ nothing ms After st h = h.1
  all_of_passes _ _ (one_more t ts ls ks s r) ms After st h =
      let k = subst (λ (x : List Mark). Passes x After st) (marks_more ls ks (Close ∷ ms)) h in
      takes_more t (λ now. Passes (marks ks ++ Close ∷ ms) After now) (TakesAll ts (λ now. Passes ms After now)) st (λ now j. all_of_passes ts ks r ms After now j) (takes_of_passes t ls s (marks ks ++ Close ∷ ms) After st k)

-- ---- marks and derivations

-- marks that pass to the end are derived
pub run_of_passes : (ms : List Mark) (st : List Symbol) → Passes ms IsDone st → run st ms ≡ Some []
run_of_passes [] st h = ap Some h
run_of_passes (m ∷ ms) st h =
    (elim (next_wanted st m) as (λ o. Follows (λ now. Passes ms IsDone now) o → option_and_then (λ next. run next ms) o ≡ Some []) [ None ↦ λ k. absurd k | Some now ↦ λ k. run_of_passes ms now k ]) h.1

-- a mark of those that pass opens no level too many
pub flat_of_passes : (ms : List Mark) (st : List Symbol) (at : ℕ) → Passes ms IsDone st → OpensTooMany (unwrap_or (run st (take at ms)) []) (slice_get ms at) → ⊥
flat_of_passes [] st at h deep =
    let none : false ≡ true = deep.0 in
    absurd (cc)
flat_of_passes (m ∷ ms) st zero h deep =
    let room : level st < deepest = h.0 deep.0 in
    omega (arith, room, deep.1)
flat_of_passes (m ∷ ms) st (suc at) h deep =
    (elim (next_wanted st m) as (λ o. Follows (λ now. Passes ms IsDone now) o → OpensTooMany (unwrap_or (option_and_then (λ next. run next (take at ms)) o) []) (slice_get ms at) → ⊥) [ None ↦ λ k d. k | Some now ↦ λ k d. flat_of_passes ms now at k d ]) h.1 deep

pub allowed_of_flat : (m : Mark) (st : List Symbol) → (OpensTooMany st (Some m) → ⊥) → Allowed m st
allowed_of_flat m st flat e =
    elim (cases_lt (level st) deepest) [
      | inl h ↦ h
      | inr h ↦ absurd (flat (e, h))
    ]

-- marks that are derived pass where none opens a level too many
pub passes_of_run : (ms : List Mark) (st : List Symbol) → run st ms ≡ Some [] → ((at : ℕ) → OpensTooMany (unwrap_or (run st (take at ms)) []) (slice_get ms at) → ⊥) → Passes ms IsDone st
passes_of_run [] st e flat = cc
passes_of_run (m ∷ ms) st e flat = (
  allowed_of_flat m st (flat 0),
  (elim (next_wanted st m) as (λ o. option_and_then (λ next. run next ms) o ≡ Some [] → ((at : ℕ) → OpensTooMany (unwrap_or (option_and_then (λ next. run next (take at ms)) o) []) (slice_get ms at) → ⊥) → Follows (λ now. Passes ms IsDone now) o) [
    | None ↦ λ d f. absurd (cc)
    | Some now ↦ λ d f. passes_of_run ms now d f
  ])
      e
      (λ at deep. flat (suc at) deep),
)

-- ---- texts

takes_nothing : (t : Nested) (After : List Symbol → Type 0) → Takes t After [] → ⊥
takes_nothing (word l) After h = h
takes_nothing (group ts) After h = h.1

one_list : (ls : List Lexeme) → marks (ls ++ []) ≡ marks ls ++ []
one_list ls = map-append (λ l. l.mark) ls []

-- a text whose one list fits where a text is wanted passes
passes_of_text : (ts : Nesteds) (ls : List Lexeme) (t : Nested) → ts ≡ more t none → SpellAll ts ls → Takes t IsDone text_start → Passes (marks ls) IsDone text_start
passes_of_text _ _ t e nothing h = absurd (cc)
passes_of_text _ _ t e (one_more u _ ls _ s nothing) h =
    let same : u ≡ t = cc in
    rw one_list (passes_of_takes u ls s [] IsDone text_start (rw same h))
passes_of_text _ _ t e (one_more u _ ls _ s (one_more v us ks js p q)) h = absurd (cc)

-- a text of one list that is taken where a text is wanted is judged to be a domain's
pub judged_of_taken : (t : Nested) (ls : List Lexeme) → SpellAll (more t none) ls → Takes t IsDone text_start → IsDomainShape (marks ls) × IsShallow (marks ls)
judged_of_taken t ls s h =
    let passes : Passes (marks ls) IsDone text_start = passes_of_text (more t none) ls t refl s h in
    (derived_of_run text_start (marks ls) (run_of_passes (marks ls) text_start passes), λ at deep. flat_of_passes (marks ls) text_start at passes deep)

-- the marks of a judged text pass
passes_of_judged : (ms : List Mark) → IsDomainShape ms → IsShallow ms → Passes ms IsDone text_start
passes_of_judged ms d flat = passes_of_run ms text_start (run_of_derived text_start ms d) flat

-- what is true of every list that is taken where a text is wanted, with nothing wanted after it, is true of a judged text
pub taken_of_judged : (P : Nesteds → Type 0) → ((t : Nested) (After : List Symbol → Type 0) → Takes t After text_start → P (more t none) × After []) → (ts : Nesteds) (ls : List Lexeme) → SpellAll ts ls → IsDomainShape (marks ls) → IsShallow (marks ls) → P ts
taken_of_judged P f _ _ nothing d flat =
    let none_wanted : text_start ≡ [] = passes_of_judged [] d flat in
    absurd (cc)
taken_of_judged P f _ _ (one_more t _ ls _ s nothing) d flat =
    (f t (λ now. Passes [] IsDone now) (takes_of_passes t ls s [] IsDone text_start (rw one_list at (passes_of_judged (marks (ls ++ [])) d flat)))).0
taken_of_judged P f _ _ (one_more t _ ls _ s (one_more u us ks js v w)) d flat =
    let all : Passes (marks (ls ++ (ks ++ js))) IsDone text_start = passes_of_judged (marks (ls ++ (ks ++ js))) d flat in
    let later : Passes (marks (ks ++ js)) IsDone [] =
    (f t (λ now. Passes (marks (ks ++ js)) IsDone now) (takes_of_passes t ls s (marks (ks ++ js)) IsDone text_start (rw map-append at all))).1 in
    absurd (takes_nothing u (λ now. Passes (marks js) IsDone now) (takes_of_passes u ks v (marks js) IsDone [] (rw map-append at later)))

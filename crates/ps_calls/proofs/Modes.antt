-- The mode of what words ask for is their first.
use Rattle.std.proofs.Common.{◌≡◌, ℕ, Bool, true, false, ◌||◌, Option, Some, None, IfSome, inl, inr, ap, ◌∙◌, option_map, option_and_then, List, [], ◌∷◌, codes, if◌then◌else◌, refl, sym, subst}
use Rattle.ps_world.specs.Lines.{same_text}
use Rattle.ps_world.proofs.SameTexts.{same_text-is}
use Rattle.ps_words.specs.Words.{Request, SessionRequest, asked_by, asked_in, asked_of, budget_in, carts_in, check_app, check_of, edit_app, editing_of, gen_app, generation_of, journal_app, is_well_formed, mode_of, plan_app, planning_of, replans_in, replay_of, replay_with, rows_read, session_app, session_of, session_with, text_in, validate_app, validation_of, workers_in}
use Rattle.ps_words.specs.Words.Request.{a_generation, a_session, a_check, a_validation, a_planning, a_replay, an_editing}
use Rattle.ps_words.specs.declared.commands.Mode.{Mode}
use Rattle.ps_words.specs.declared.commands.Mode.TheVariants as mode
use Rattle.ps_inputs.specs.Input.{argument, is_judging, is_quiet}
use Rattle.ps_calls.specs.Laws.{IsToJudge, IsToRun}

-- the first word is this one
abbrev begins : List (List ℕ) → List ℕ → Type 0
begins ws word = same_text (argument ws 0) word ≡ true

-- the mode in which a journal is judged, and written anew or isn't
abbrev replay_mode : Bool → Mode
replay_mode true = mode.Migrate
replay_mode false = mode.Replay

-- the mode of what is asked for
abbrev mode_in : Request → Mode
mode_in (a_session s) = mode.Session
mode_in (a_check domain) = mode.Check
mode_in (a_validation domain script plan) = mode.Validate
mode_in (a_planning domain script budget) = mode.Plan
mode_in (a_replay q) = replay_mode q.migrates
mode_in (an_editing domain script) = mode.Edit
mode_in (a_generation n) = mode.Gen

-- the word of a mode
abbrev word_of : Mode → List ℕ
word_of mode.Session = codes "session"
word_of mode.Check = codes "check"
word_of mode.Validate = codes "validate"
word_of mode.Plan = codes "plan"
word_of mode.Replay = codes "replay"
word_of mode.Migrate = codes "migrate"
word_of mode.Edit = codes "edit"
word_of mode.Gen = codes "gen"

-- what is made of something in a mode is of that mode
made-mode : {A : Type 0} (f : A → Request) (m : Mode) → ((a : A) → mode_in (f a) ≡ m) → (o : Option A) → IfSome (option_map f o) (λ asked. mode_in asked ≡ m)
made-mode f m h None = tt
made-mode f m h (Some a) = h a

next-mode : {A : Type 0} (f : A → Option Request) (m : Mode) → ((a : A) → IfSome (f a) (λ asked. mode_in asked ≡ m)) → (o : Option A) → IfSome (option_and_then f o) (λ asked. mode_in asked ≡ m)
next-mode f m h None = tt
next-mode f m h (Some a) = h a

-- what words ask for in a mode in which a journal is judged is of that mode
journal-mode : (migrates : Bool) (o : Option _) → IfSome (option_and_then (replay_of migrates) o) (λ asked. mode_in asked ≡ replay_mode migrates)
journal-mode migrates o =
    next-mode (replay_of migrates) (replay_mode migrates)
    (λ rows. next-mode (λ b. option_map (λ r. replay_with migrates rows b r) (replans_in rows)) (replay_mode migrates)
    (λ b. made-mode (λ r. replay_with migrates rows b r) (replay_mode migrates) (λ r. refl) (replans_in rows)) (budget_in rows)) o

-- what words ask for in a mode is of that mode
in-mode : (m : Mode) (words : List (List ℕ)) → IfSome (asked_in m words) (λ asked. mode_in asked ≡ m)
in-mode mode.Session words =
    next-mode session_of mode.Session
    (λ rows. next-mode (λ w. option_and_then (λ b. option_map (λ r. session_with rows w b r) (replans_in rows)) (budget_in rows)) mode.Session
    (λ w. next-mode (λ b. option_map (λ r. session_with rows w b r) (replans_in rows)) mode.Session
    (λ b. made-mode (λ r. session_with rows w b r) mode.Session (λ r. refl) (replans_in rows)) (budget_in rows)) (workers_in rows)) (rows_read session_app words)
in-mode mode.Check words = made-mode check_of mode.Check (λ rows. refl) (rows_read check_app words)
in-mode mode.Validate words = made-mode validation_of mode.Validate (λ rows. refl) (rows_read validate_app words)
in-mode mode.Plan words =
    next-mode planning_of mode.Plan
    (λ rows. made-mode (a_planning (text_in (codes "domain") rows) (text_in (codes "script") rows)) mode.Plan (λ n. refl) (budget_in rows)) (rows_read plan_app words)
in-mode mode.Replay words = journal-mode false (rows_read (journal_app (codes "replay")) words)
in-mode mode.Migrate words = journal-mode true (rows_read (journal_app (codes "migrate")) words)
in-mode mode.Edit words = made-mode editing_of mode.Edit (λ rows. refl) (rows_read edit_app words)
in-mode mode.Gen words = next-mode generation_of mode.Gen (λ rows. made-mode a_generation mode.Gen (λ n. refl) (carts_in rows)) (rows_read gen_app words)

-- the mode is one that this word names
abbrev IsNamed : List ℕ → Option Mode → Type 0
IsNamed word o = IfSome o (λ m. same_text word (word_of m) ≡ true)

-- the modes that are tried, from the last to the first
abbrev gen_if : Bool → Option Mode
gen_if b = if b then Some mode.Gen else None

abbrev edit_if : List ℕ → Bool → Option Mode
edit_if word b = if b then Some mode.Edit else gen_if (same_text word (codes "gen"))

abbrev migrate_if : List ℕ → Bool → Option Mode
migrate_if word b = if b then Some mode.Migrate else edit_if word (same_text word (codes "edit"))

abbrev replay_if : List ℕ → Bool → Option Mode
replay_if word b = if b then Some mode.Replay else migrate_if word (same_text word (codes "migrate"))

abbrev plan_if : List ℕ → Bool → Option Mode
plan_if word b = if b then Some mode.Plan else replay_if word (same_text word (codes "replay"))

abbrev validate_if : List ℕ → Bool → Option Mode
validate_if word b = if b then Some mode.Validate else plan_if word (same_text word (codes "plan"))

abbrev check_if : List ℕ → Bool → Option Mode
check_if word b = if b then Some mode.Check else validate_if word (same_text word (codes "validate"))

by-gen : (word : List ℕ) (b : Bool) → same_text word (codes "gen") ≡ b → IsNamed word (gen_if b)
by-gen word true is = is
by-gen word false is = tt

by-edit : (word : List ℕ) (b : Bool) → same_text word (codes "edit") ≡ b → IsNamed word (edit_if word b)
by-edit word true is = is
by-edit word false is = by-gen word (same_text word (codes "gen")) refl

by-migrate : (word : List ℕ) (b : Bool) → same_text word (codes "migrate") ≡ b → IsNamed word (migrate_if word b)
by-migrate word true is = is
by-migrate word false is = by-edit word (same_text word (codes "edit")) refl

by-replay : (word : List ℕ) (b : Bool) → same_text word (codes "replay") ≡ b → IsNamed word (replay_if word b)
by-replay word true is = is
by-replay word false is = by-migrate word (same_text word (codes "migrate")) refl

by-plan : (word : List ℕ) (b : Bool) → same_text word (codes "plan") ≡ b → IsNamed word (plan_if word b)
by-plan word true is = is
by-plan word false is = by-replay word (same_text word (codes "replay")) refl

by-validate : (word : List ℕ) (b : Bool) → same_text word (codes "validate") ≡ b → IsNamed word (validate_if word b)
by-validate word true is = is
by-validate word false is = by-plan word (same_text word (codes "plan")) refl

by-check : (word : List ℕ) (b : Bool) → same_text word (codes "check") ≡ b → IsNamed word (check_if word b)
by-check word true is = is
by-check word false is = by-validate word (same_text word (codes "validate")) refl

by-session : (word : List ℕ) (b : Bool) → same_text word (codes "session") ≡ b → IsNamed word (if b then Some mode.Session else check_if word (same_text word (codes "check")))
by-session word true is = is
by-session word false is = by-check word (same_text word (codes "check")) refl

-- a mode's word is the one that names it
named-mode : (word : List ℕ) → IsNamed word (mode_of word)
named-mode word = by-session word (same_text word (codes "session")) refl

by-form : (first : List ℕ) (words : List (List ℕ)) (m : Mode) → same_text first (word_of m) ≡ true → (formed : Bool) → IfSome (if formed then asked_in m words else None) (λ asked. same_text first (word_of (mode_in asked)) ≡ true)
by-form first words m named false = tt
by-form first words m named true = by-asked (asked_in m words) (in-mode m words) where
  by-asked : (o : Option Request) → IfSome o (λ asked. mode_in asked ≡ m) → IfSome o (λ asked. same_text first (word_of (mode_in asked)) ≡ true)
  by-asked None of_mode = tt
  by-asked (Some asked) of_mode = subst (λ k. same_text first (word_of k) ≡ true) (sym of_mode) named

by-mode : (first : List ℕ) (words rest : List (List ℕ)) (o : Option Mode) → IfSome o (λ m. same_text first (word_of m) ≡ true) → IfSome (asked_by words rest o) (λ asked. same_text first (word_of (mode_in asked)) ≡ true)
by-mode first words rest None named = tt
by-mode first words rest (Some m) named = by-form first words m named (is_well_formed rest)

-- the first word is that of the mode that is asked for
first-word : (ws : List (List ℕ)) → IfSome (asked_of ws) (λ asked. begins ws (word_of (mode_in asked)))
unfolding asked_of
first-word [] = tt
first-word (first ∷ rest) = by-mode first (first ∷ rest) rest (mode_of first) (named-mode first)

begins-asked : (ws : List (List ℕ)) (r : Request) → asked_of ws ≡ Some r → begins ws (word_of (mode_in r))
begins-asked ws r e = subst (λ (o : Option Request). IfSome o (λ asked. begins ws (word_of (mode_in asked)))) e (first-word ws)

-- whether a word is that of a mode that judges a text
abbrev judging : List ℕ → Bool
judging word =
    same_text word (codes "check")
    || (same_text word (codes "validate") || (same_text word (codes "replay") || same_text word (codes "migrate")))

-- whether it is that of a mode that always returns
abbrev quiet : List ℕ → Bool
quiet word = same_text word (codes "edit") || judging word

loud-word : (word : List ℕ) → word ≡ codes "session" → quiet word ≡ false
loud-word word e = subst (λ (w : List ℕ). quiet w ≡ false) (sym e) refl

loud-gen : (word : List ℕ) → word ≡ codes "gen" → quiet word ≡ false
loud-gen word e = subst (λ (w : List ℕ). quiet w ≡ false) (sym e) refl

loud-plan : (word : List ℕ) → word ≡ codes "plan" → quiet word ≡ false
loud-plan word e = subst (λ (w : List ℕ). quiet w ≡ false) (sym e) refl

judging-none : (word other : List ℕ) → judging other ≡ false → word ≡ other → judging word ≡ false
judging-none word other none e = subst (λ (w : List ℕ). judging w ≡ false) (sym e) none

judging-validate : (word : List ℕ) → word ≡ codes "validate" → judging word ≡ true
judging-validate word e = subst (λ (w : List ℕ). judging w ≡ true) (sym e) refl

judging-replay : (word : List ℕ) (migrates : Bool) → word ≡ word_of (replay_mode migrates) → judging word ≡ true
judging-replay word false e = subst (λ (w : List ℕ). judging w ≡ true) (sym e) refl
judging-replay word true e = subst (λ (w : List ℕ). judging w ≡ true) (sym e) refl

-- a session isn't asked for by the words of a mode that always returns
pub session-loud : (ws : List (List ℕ)) (s : SessionRequest) → asked_of ws ≡ Some (a_session s) → is_quiet ws ≡ false
session-loud ws s e = loud-word (argument ws 0) (same_text-is (argument ws 0) (codes "session") (begins-asked ws (a_session s) e))

-- and neither is a generation
pub generation-loud : (ws : List (List ℕ)) (n : ℕ) → asked_of ws ≡ Some (a_generation n) → is_quiet ws ≡ false
generation-loud ws n e = loud-gen (argument ws 0) (same_text-is (argument ws 0) (codes "gen") (begins-asked ws (a_generation n) e))

-- nor is a planning
pub planning-loud : (ws : List (List ℕ)) (domain script : List ℕ) (budget : ℕ) → asked_of ws ≡ Some (a_planning domain script budget) → is_quiet ws ≡ false
planning-loud ws domain script budget e = loud-plan (argument ws 0) (same_text-is (argument ws 0) (codes "plan") (begins-asked ws (a_planning domain script budget) e))

-- the words of a mode that judges a text don't ask for lines to be done
pub running-unjudged : (ws : List (List ℕ)) (r : Request) → asked_of ws ≡ Some r → IsToRun r → is_judging ws ≡ false
running-unjudged ws r e (inl h) =
    let asked : asked_of ws ≡ Some (a_session h.0) = e ∙ ap Some h.1 in
    judging-none (argument ws 0) (codes "session") refl (same_text-is (argument ws 0) (codes "session") (begins-asked ws (a_session h.0) asked))
running-unjudged ws r e (inr (inl h)) =
    let asked : asked_of ws ≡ Some (a_generation h.0) = e ∙ ap Some h.1 in
    judging-none (argument ws 0) (codes "gen") refl (same_text-is (argument ws 0) (codes "gen") (begins-asked ws (a_generation h.0) asked))
running-unjudged ws r e (inr (inr (inr h))) =
    let asked : asked_of ws ≡ Some (a_planning h.0 h.1 h.2) = e ∙ ap Some h.3 in
    judging-none (argument ws 0) (codes "plan") refl (same_text-is (argument ws 0) (codes "plan") (begins-asked ws (a_planning h.0 h.1 h.2) asked))
running-unjudged ws r e (inr (inr (inl h))) =
    let asked : asked_of ws ≡ Some (an_editing h.0 h.1) = e ∙ ap Some h.2 in
    judging-none (argument ws 0) (codes "edit") refl (same_text-is (argument ws 0) (codes "edit") (begins-asked ws (an_editing h.0 h.1) asked))

-- they ask for a plan or a journal to be judged
pub judging-judged : (ws : List (List ℕ)) (r : Request) → asked_of ws ≡ Some r → IsToJudge r → is_judging ws ≡ true
judging-judged ws r e (inl h) =
    let asked : asked_of ws ≡ Some (a_validation h.0 h.1 h.2) = e ∙ ap Some h.3 in
    judging-validate (argument ws 0) (same_text-is (argument ws 0) (codes "validate") (begins-asked ws (a_validation h.0 h.1 h.2) asked))
judging-judged ws r e (inr h) =
    let asked : asked_of ws ≡ Some (a_replay h.0) = e ∙ ap Some h.1 in
    let migrates = h.0.migrates in
    judging-replay (argument ws 0) migrates (same_text-is (argument ws 0) (word_of (replay_mode migrates)) (begins-asked ws (a_replay h.0) asked))

-- Scripts that are read from files consist of command lines, and of no more than a script may have.
use Rattle.std.proofs.Common.{◌≡◌, ℕ, zero, suc, ◌+◌, ◌<◌, ◌≤◌, Bool, true, false, if◌then◌else◌, nat_lt, Option, Some, None, List, [], ◌∷◌, ◌++◌, All, length, refl, inl, inr, subst, arith}
use Rattle.std.proofs.lemmas.Bool.{cases_Bool, cases_lt}
use Rattle.std.proofs.lemmas.Bool.Decides.{nat_tests}
use Rattle.std.proofs.lemmas.List.{length-append}
use Rattle.std.proofs.lemmas.List.Elements.{All-append, All-cons, All-map, All-nil}
use Rattle.ps_text.specs.ScriptLines.{script_lines}
use Rattle.ps_script.specs.Files.{after_run, file_in, is_run_plan, is_source}
use Rattle.ps_script.specs.Kinds.{IsKind}
use Rattle.ps_script.specs.Lines.{is_nothing}
use Rattle.ps_script.specs.declared.kinds.Kind.TheVariants.{Command}
use Rattle.ps_words.specs.Words.{Request}
use Rattle.ps_words.specs.Words.Request.{a_session, a_check, a_validation, a_planning, a_replay, an_editing, a_generation}
use Rattle.ps_inputs.specs.Flats.{Flat, Flattened, followed, is_quit, no_line, on_source, one_line, plan_line, script_in, source_line, step, walk, with_room}
use Rattle.ps_inputs.specs.Flats.Flattened.{plain, with_plan, too_deep}
use Rattle.ps_inputs.specs.Input.{InputTexts, Material, named_texts, reading_of, texts_in, texts_of}
use Rattle.ps_inputs.specs.Reading.{Reading, Texts, after_files, and_then, most_lines, read_file}
use Rattle.ps_inputs.specs.Reading.Reading.{gives, faulty, unknown}
use Rattle.ps_inputs.proofs.GeneratedLines.{script_commands}
use Rattle.ps_input_laws.specs.Readings.{FlattenedScriptsAreCommands, IsCommandLine}

-- ---- what reading gives

-- what reading gives, if anything, is so
abbrev GivesOnly : {A : Type 0} → Reading A → (A → Type 0) → Type 0
GivesOnly (gives files value) claim = claim value
GivesOnly (faulty files fault) claim = Unit {0}
GivesOnly (unknown files) claim = Unit {0}

-- files that were read before change nothing
given_after : {B : Type 0} (so : B → Type 0) (files : List (List ℕ)) (part : Reading B) → GivesOnly part so → GivesOnly (after_files files part) so
given_after so files (gives more value) h = h
given_after so files (faulty more fault) h = tt
given_after so files (unknown more) h = tt

-- what follows a part that gives what is so
given_then : {A B : Type 0} (was : A → Type 0) (so : B → Type 0) (first : Reading A) (more : A → Reading B) → GivesOnly first was → ((a : A) → was a → GivesOnly (more a) so) → GivesOnly (and_then first more) so
given_then was so (gives files value) more h each = given_after so files (more value) (each value h)
given_then was so (faulty files fault) more h each = tt
given_then was so (unknown files) more h each = tt

-- what follows any part
given_next : {A B : Type 0} (so : B → Type 0) (first : Reading A) (more : A → Reading B) → ((a : A) → GivesOnly (more a) so) → GivesOnly (and_then first more) so
given_next so (gives files value) more each = given_after so files (more value) (each value)
given_next so (faulty files fault) more each = tt
given_next so (unknown files) more each = tt

-- ---- one line

-- command lines, no more after n others than a script may have
abbrev AreFew : ℕ → Flat → Type 0
AreFew n flat = All IsCommandLine flat.lines × (n + length flat.lines ≤ most_lines)

-- reading gives such lines, where the others are no more either
abbrev GivesFew : ℕ → Reading Flat → Type 0
GivesFew n part = n ≤ most_lines → GivesOnly part (AreFew n)

no_line_few : (n : ℕ) → GivesFew n (gives [] no_line)
no_line_few n le = (All-nil IsCommandLine, omega arith)

room_few : (n : ℕ) (part : Reading Flat) → (n < most_lines → GivesOnly part (AreFew n)) → GivesOnly (with_room n part) (AreFew n)
room_few n part h =
    elim (cases_lt n most_lines) [
      | inl lt ↦ let room : nat_lt n most_lines ≡ true = grind (arith, nat_tests) in rw room (h lt)
      | inr full ↦ let room : nat_lt n most_lines ≡ false = grind (arith, nat_tests) in rw room tt
    ]

-- one command line, where there is room for it
one_few : (n : ℕ) (line : Flattened) (ended : Bool) → IsCommandLine line → n < most_lines → AreFew n (record { lines = line ∷ []; ended = ended })
one_few n line ended is lt = (All-cons IsCommandLine line [] is (All-nil IsCommandLine), omega arith)

line_few : (n : ℕ) (line : Flattened) (ended : Bool) → IsCommandLine line → GivesFew n (one_line n line ended)
line_few n line ended is le = room_few n (gives [] (record { lines = line ∷ []; ended = ended })) (one_few n line ended is)

module _ (texts : Texts) (named : ℕ → List ℕ → Reading Flat) (all_few : (n : ℕ) (file : List ℕ) → GivesFew n (named n file)) where
  source_few : (n : ℕ) (bytes : List ℕ) (file : Option (List ℕ)) → (file ≡ None → IsKind bytes Command) → GivesFew n (source_line named n bytes file)
  source_few n bytes None is = line_few n (plain bytes) (is_quit bytes) (is refl)
  source_few n bytes (Some file) is = all_few n file

  plan_few : (n : ℕ) (bytes : List ℕ) (file : Option (List ℕ)) → (file ≡ None → IsKind bytes Command) → GivesFew n (plan_line texts n bytes file)
  plan_few n bytes None is le = line_few n (plain bytes) (is_quit bytes) (is refl) le
  plan_few n bytes (Some file) is le =
      let more = λ (plan : List ℕ). gives [] (record { lines = with_plan bytes plan ∷ []; ended = false }) in
      room_few n (and_then (read_file texts file) more)
      (λ lt. given_next (AreFew n) (read_file texts file) more (λ plan. one_few n (with_plan bytes plan) false tt lt))

  step_few : (n : ℕ) (bytes : List ℕ) → GivesFew n (step texts named n bytes)
  step_few n bytes =
      elim (cases_Bool (is_nothing bytes)) [
        | inl none ↦ rw none (no_line_few n)
        | inr some ↦ elim (cases_Bool (is_source bytes)) [
          | inl is ↦ rw (some, is) (source_few n bytes (file_in (after_run bytes)) (λ e. (some, inl (is, e))))
          | inr other ↦ elim (cases_Bool (is_run_plan bytes)) [
            | inl is ↦ rw (some, other, is) (plan_few n bytes (file_in (after_run (after_run bytes))) (λ e. (some, inr (other, inr e))))
            | inr neither ↦ rw (some, other, neither) (line_few n (plain bytes) (is_quit bytes) (some, inr (other, inl neither)))
          ]
        ]
      ]

  -- ---- the lines of a file

  -- these command lines and then those
  abbrev joined : Flat → Flat → Flat
  joined now more = record { lines = now.lines ++ more.lines; ended = more.ended }

  joined_few : (n : ℕ) (now more : Flat) → AreFew n now → AreFew (n + length now.lines) more → AreFew n (joined now more)
  joined_few n now more h g = (All-append IsCommandLine now.lines more.lines h.0 g.0, omega (arith, length-append now.lines more.lines, g.1))

  followed_few : (n : ℕ) (now : Flat) (rest : Reading Flat) → AreFew n now → GivesFew (n + length now.lines) rest → GivesOnly (followed now rest) (AreFew n)
  followed_few n now rest h g =
      elim now.ended as (λ b. GivesOnly (if b then gives [] now else and_then rest (λ more. gives [] (joined now more))) (AreFew n)) [
        | true ↦ h
        | false ↦ given_then (AreFew (n + length now.lines)) (AreFew n) rest (λ more. gives [] (joined now more)) (g h.1) (λ more is. joined_few n now more h is)
      ]

  walk_few : (lines : List (List ℕ)) (n : ℕ) → GivesFew n (walk texts named n lines)
  walk_few [] n le = no_line_few n le
  walk_few (bytes ∷ rest) n le =
      let more = λ (now : Flat). followed now (walk texts named (n + length now.lines) rest) in
      given_then (AreFew n) (AreFew n) (step texts named n bytes) more (step_few n bytes le)
      (λ now is. followed_few n now (walk texts named (n + length now.lines) rest) is (walk_few rest (n + length now.lines)))

-- ---- files

file_few : (levels : ℕ) (texts : Texts) (n : ℕ) (file : List ℕ) → GivesFew n (on_source levels texts n file)
unfolding on_source
file_few zero texts n file le = line_few n too_deep false tt le
file_few (suc levels) texts n file le =
    given_next (AreFew n) (read_file texts file) (λ t. walk texts (on_source levels texts) n (script_lines t))
    (λ t. walk_few texts (on_source levels texts) (file_few levels texts) (script_lines t) n le)

-- the command lines of a script
script_few : (texts : Texts) (file : List ℕ) → GivesOnly (script_in texts file) (AreFew 0)
script_few texts file = file_few 5 texts 0 file (omega arith)

-- there are no more of them than a script may have
few_commands : (flat : Flat) → AreFew 0 flat → All IsCommandLine flat.lines × (length flat.lines ≤ most_lines)
few_commands flat is = (is.0, omega (arith, is.1))

pub flattened_scripts_are_commands : FlattenedScriptsAreCommands
flattened_scripts_are_commands texts file used flat e =
    few_commands flat (subst (λ (part : Reading Flat). GivesOnly part (AreFew 0)) e (script_few texts file))

-- ---- requests

-- the script of an input consists of few command lines
abbrev HasFew : InputTexts → Type 0
HasFew texts = All IsCommandLine texts.script × (length texts.script ≤ most_lines)

input_few : (texts : Texts) (domain script : List ℕ) (members : List (List ℕ)) → GivesOnly (texts_in texts domain script members) HasFew
unfolding texts_in
input_few texts domain script members =
    given_next HasFew (read_file texts domain) _ (λ d.
    given_then (AreFew 0) HasFew (script_in texts script) _ (script_few texts script) (λ flat is.
    given_next HasFew (named_texts texts members) _ (λ ms. few_commands flat is)))

pub scripts_of_inputs_are_few : (texts : Texts) (domain script : List ℕ) (members used : List (List ℕ)) (input : InputTexts) → texts_in texts domain script members ≡ gives used input → All IsCommandLine input.script × (length input.script ≤ most_lines)
scripts_of_inputs_are_few texts domain script members used input e =
    subst (λ (part : Reading InputTexts). GivesOnly part HasFew) e (input_few texts domain script members)

-- the script of what a request's files hold consists of command lines
abbrev HasCommands : Material → Type 0
HasCommands m = All IsCommandLine (texts_of m).script

request_commands : (texts : Texts) (request : Request) → GivesOnly (reading_of texts request) HasCommands
unfolding reading_of
request_commands texts (a_session s) =
    given_then HasFew HasCommands (texts_in texts s.domain s.script s.members) _ (input_few texts s.domain s.script s.members) (λ input is. is.0)
request_commands texts (a_check file) = given_next HasCommands (read_file texts file) _ (λ domain. All-nil IsCommandLine)
request_commands texts (a_validation domain script plan) =
    given_then HasFew HasCommands (texts_in texts domain script []) _ (input_few texts domain script []) (λ input is.
    given_next HasCommands (read_file texts plan) _ (λ t. is.0))
request_commands texts (a_planning domain script budget) =
    given_then HasFew HasCommands (texts_in texts domain script []) _ (input_few texts domain script []) (λ input is. is.0)
request_commands texts (a_replay r) =
    given_then HasFew HasCommands (texts_in texts r.domain r.script r.members) _ (input_few texts r.domain r.script r.members) (λ input is.
    given_next HasCommands (read_file texts r.journal) _ (λ t. is.0))
request_commands texts (an_editing domain script) =
    given_next HasCommands (read_file texts domain) _ (λ d.
    given_then (AreFew 0) HasCommands (script_in texts script) _ (script_few texts script) (λ flat is. is.0))
request_commands texts (a_generation carts) = All-map IsCommandLine plain _ (script_commands carts)

pub scripts_of_requests_are_commands : (texts : Texts) (request : Request) (used : List (List ℕ)) (m : Material) → reading_of texts request ≡ gives used m → All IsCommandLine (texts_of m).script
scripts_of_requests_are_commands texts request used m e =
    subst (λ (part : Reading Material). GivesOnly part HasCommands) e (request_commands texts request)

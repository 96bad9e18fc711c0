-- What the words of the command line ask for, or that they aren't in the grammar.
use Rattle.std.specs.Prelude.{ℕ, ◌≤◌, Bool, true, false, not, ◌&&◌, ◌||◌, ◌==◌, nat_le, nat_lt, if◌then◌else◌, Option, Some, None, option_map, option_and_then, unwrap_or, List, [], ◌∷◌, map, length, codes, string_bytes, slice_index_or}
use Rattle.std.specs.List.{list_all, list_any, before_first, after_first}
use Rattle.std.specs.Str.Parse.{digits_value}
use Rattle.std.specs.declared.alloc.Global.{Global}
use Rattle.std.specs.declared.string.String.{String}
use Rattle.clap.specs.Faults.{fault_of}
use Rattle.clap.specs.Kinds.{Kinds}
use Rattle.clap.specs.Simple.{App, matches_of, new_rule, new_shape}
use Rattle.clap.specs.Walk.{Row, Rule, Text, all_of, first_of}
use Rattle.clap.specs.declared.builder.action.ArgAction.TheVariants.{Append, Set, SetTrue}
use Rattle.ps_world.specs.Lines.{same_text}
use Rattle.ps_words.specs.declared.asked.Asked.{Asked}
use Rattle.ps_words.specs.declared.asked.Asked.TheVariants.{Session, Check, Validate, Plan, Replay, Edit, Generate}
use Rattle.ps_words.specs.declared.asked.ReplaySettings.{ReplaySettings}
use Rattle.ps_words.specs.declared.asked.Settings.{Settings}
use Rattle.ps_words.specs.declared.commands.Mode.{Mode}
use Rattle.ps_words.specs.declared.commands.Mode.TheVariants as mode

-- the bytes of each word
abbrev pub word_texts : List (String Global) → List Text
word_texts words = map string_bytes words

-- ---- what is asked for

-- what a session is to do: its files, those of its members last, how many workers there are, how many states a search may reach, how often a
-- run's plan may be made anew, whether turns are ordered, and whether reports are told
pub record SessionRequest : Type 0 where
  pub domain : Text
  pub script : Text
  pub members : List Text
  pub workers : ℕ
  pub budget : ℕ
  pub replans : ℕ
  pub ordered : Bool
  pub reports : Bool

-- what a replay is to judge, and by what: its files, those of its members last, how many states a search may reach, how often a run's
-- plan may be made anew, and whether the journal is to be written anew where it is legal
pub record ReplayRequest : Type 0 where
  pub domain : Text
  pub script : Text
  pub journal : Text
  pub members : List Text
  pub budget : ℕ
  pub replans : ℕ
  pub migrates : Bool

-- what the words ask for, with the names of files as they stand in the words
pub data Request : Type 0 where
  a_session : SessionRequest → Request
  a_check : Text → Request
  a_validation : Text → Text → Text → Request
  a_planning : Text → Text → ℕ → Request
  a_replay : ReplayRequest → Request
  an_editing : Text → Text → Request
  a_generation : ℕ → Request

-- the most workers
abbrev pub most_workers : ℕ
most_workers = 16

-- the most states that a search may be let reach
abbrev pub most_budget : ℕ
most_budget = 200000

-- how often a plan may be made anew in a run, at most
abbrev pub most_replans : ℕ
most_replans = 8

-- the most carts of a generated session
abbrev pub most_carts : ℕ
most_carts = 100

-- the numbers that are asked for are in their ranges
abbrev pub IsInRange : Request → Type 0
IsInRange (a_session s) = (1 ≤ s.workers) × (s.workers ≤ most_workers) × (1 ≤ s.budget) × (s.budget ≤ most_budget) × (s.replans ≤ most_replans)
IsInRange (a_check domain) = Unit {0}
IsInRange (a_validation domain script plan) = Unit {0}
IsInRange (a_planning domain script budget) = (1 ≤ budget) × (budget ≤ most_budget)
IsInRange (a_replay r) = (1 ≤ r.budget) × (r.budget ≤ most_budget) × (r.replans ≤ most_replans)
IsInRange (an_editing domain script) = Unit {0}
IsInRange (a_generation carts) = (1 ≤ carts) × (carts ≤ most_carts)

-- what these settings of a session say
abbrev pub settings_said : Settings → SessionRequest
settings_said s = record {
  domain = s.domain.now;
  script = s.script.now;
  members = map (λ t. t.now) s.members.items;
  workers = s.workers;
  budget = s.budget;
  replans = s.replans;
  ordered = s.ordered;
  reports = s.reports;
}

-- what these settings of a replay say
abbrev pub replay_said : ReplaySettings → ReplayRequest
replay_said s = record {
  domain = s.domain.now;
  script = s.script.now;
  journal = s.journal.now;
  members = map (λ t. t.now) s.members.items;
  budget = s.budget;
  replans = s.replans;
  migrates = s.migrates;
}

-- what a value of the program's type says
abbrev pub said : Asked → Request
said (Session settings) = a_session (settings_said settings)
said (Check domain) = a_check domain.now
said (Validate domain script plan) = a_validation domain.now script.now plan.now
said (Plan domain script budget) = a_planning domain.now script.now budget
said (Replay settings) = a_replay (replay_said settings)
said (Edit domain script) = an_editing domain.now script.now
said (Generate carts) = a_generation carts

-- ---- the form of the words after the mode

-- an option begins with `-`
abbrev pub is_option : Text → Bool
is_option word = slice_index_or word 0 0 == 45

-- a value isn't empty and doesn't begin with `-`
abbrev pub is_value : Text → Bool
is_value text = nat_lt 0 (length text) && not (is_option text)

-- a word is bare that is empty, `-` or `--`
abbrev pub is_bare : Text → Bool
is_bare word = same_text word [] || (same_text word (codes "-") || same_text word (codes "--"))

-- no word is bare
abbrev pub has_no_bare : List Text → Bool
has_no_bare words = not (list_any is_bare words)

-- whether a byte is `=`
abbrev pub is_equals : ℕ → Bool
is_equals byte = byte == 61

-- an option's name is what stands before its first `=`, or all of it
abbrev pub name_of : Text → Text
name_of word = before_first is_equals word

-- the word is an option of this name
abbrev pub is_named : Text → Text → Bool
is_named name word = is_option word && same_text (name_of word) name

-- one of the words is an option of this name
abbrev pub has_named : Text → List Text → Bool
has_named name words = list_any (is_named name) words

-- the word is an option whose name one of the others has
abbrev pub is_repeated : Text → List Text → Bool
is_repeated word others = is_option word && has_named (name_of word) others

-- no two options have one name
abbrev pub has_distinct_options : List Text → Bool
has_distinct_options [] = true
has_distinct_options (word ∷ words) = not (is_repeated word words) && has_distinct_options words

-- the word has an `=`
abbrev pub has_equals : Text → Bool
has_equals word = list_any is_equals word

-- what stands after the first `=` of the word, or nothing
abbrev pub attached : Text → Text
attached word = after_first is_equals word

-- if the word is an option with an `=`, it has a value after the first
abbrev pub has_good_value : Text → Bool
has_good_value word = not (is_option word) || (not (has_equals word) || is_value (attached word))

-- each option with an `=` has a value after the first
abbrev pub has_good_values : List Text → Bool
has_good_values words = list_all has_good_value words

-- the options that have no value
abbrev pub flags : List Text
flags = codes "--ordered" ∷ codes "--reports" ∷ []

-- an option whose value is the next word: it has no `=`, and isn't one that has no value
abbrev pub awaits_value : Text → Bool
awaits_value word = is_option word && (not (has_equals word) && not (list_any (same_text word) flags))

-- one of the words is an option
abbrev pub has_option : List Text → Bool
has_option words = list_any is_option words

-- No option stands after a member word, which is a word that is neither an option nor the value of the word before it. Whether
-- the word before the first of these awaits a value is told.
abbrev pub options_stand_first : Bool → List Text → Bool
options_stand_first awaited [] = true
options_stand_first awaited (word ∷ words) =
    if is_option word || awaited then options_stand_first (awaits_value word) words else not (has_option words)

-- the words after the mode have the form of options with their values, and of member words after them, whatever the options are called
abbrev pub is_well_formed : List Text → Bool
is_well_formed words = has_no_bare words && (has_distinct_options words && (has_good_values words && options_stand_first false words))

-- ---- the commands

-- an option `--id` with one value
abbrev pub option_rule : Text → Bool → Rule
option_rule id required = record (new_rule id) { long = Some id; action = Some Set; required = required }

-- an option `--id` with no value
abbrev pub flag_rule : Text → Rule
flag_rule id = record (new_rule id) { long = Some id; action = Some SetTrue }

-- one word after the options, which has to be there
abbrev pub word_rule : Text → Rule
word_rule id = record (new_rule id) { action = Some Set; required = true }

-- any number of words after the options
abbrev pub words_rule : Text → Rule
words_rule id = record (new_rule id) { action = Some Append }

-- a command with these options, which has no help and no version of its own
abbrev pub command_of : Text → List Rule → App
command_of name rules = record {
  top = record (new_shape name) { rules = rules; disable_help_flag = true; disable_version_flag = true };
  subs = [];
}

-- session --domain F --script F, what may be set, and members
unfoldable pub session_app : App
session_app = command_of (codes "session") (
    option_rule (codes "domain") true ∷ option_rule (codes "script") true
    ∷ option_rule (codes "workers") false ∷ option_rule (codes "budget") false ∷ option_rule (codes "replans") false
    ∷ flag_rule (codes "ordered") ∷ flag_rule (codes "reports") ∷ words_rule (codes "members") ∷ [])

-- check --domain F
unfoldable pub check_app : App
check_app = command_of (codes "check") (option_rule (codes "domain") true ∷ [])

-- validate --domain F --script F --plan F
unfoldable pub validate_app : App
validate_app = command_of (codes "validate") (
    option_rule (codes "domain") true ∷ option_rule (codes "script") true ∷ option_rule (codes "plan") true ∷ [])

-- plan --domain F --script F, and what may be set
unfoldable pub plan_app : App
plan_app = command_of (codes "plan") (
    option_rule (codes "domain") true ∷ option_rule (codes "script") true ∷ option_rule (codes "budget") false ∷ [])

-- replay or migrate, --domain F --script F --journal F, what may be set, and members
unfoldable pub journal_app : Text → App
journal_app name = command_of name (
    option_rule (codes "domain") true ∷ option_rule (codes "script") true ∷ option_rule (codes "journal") true
    ∷ option_rule (codes "budget") false ∷ option_rule (codes "replans") false ∷ words_rule (codes "members") ∷ [])

-- edit --domain F --script F
unfoldable pub edit_app : App
edit_app = command_of (codes "edit") (option_rule (codes "domain") true ∷ option_rule (codes "script") true ∷ [])

-- gen N
unfoldable pub gen_app : App
gen_app = command_of (codes "gen") (word_rule (codes "carts") ∷ [])

-- the command of a mode
abbrev pub mode_app : Mode → App
mode_app mode.Session = session_app
mode_app mode.Check = check_app
mode_app mode.Validate = validate_app
mode_app mode.Plan = plan_app
mode_app mode.Replay = journal_app (codes "replay")
mode_app mode.Migrate = journal_app (codes "migrate")
mode_app mode.Edit = edit_app
mode_app mode.Gen = gen_app

-- what the words give for each option, where there is no fault in them
abbrev pub unless_faulty : Kinds → List Row → Option (List Row)
unless_faulty [] rows = Some rows
unless_faulty (k ∷ ks) rows = None

-- what the words give for each option of a command, or nothing where the command doesn't take them
unfoldable pub rows_read : App → List Text → Option (List Row)
rows_read app words = unless_faulty (fault_of app words) (matches_of app words)

-- ---- the values of options

-- the text of an option
abbrev pub text_in : Text → List Row → Text
text_in id rows = unwrap_or (first_of id rows) []

-- the words after the options
abbrev pub words_in : Text → List Row → List Text
words_in id rows = unwrap_or (all_of id rows) []

-- whether an option with no value was given
abbrev pub is_set_in : Text → List Row → Bool
is_set_in id rows = same_text (text_in id rows) (codes "true")

-- whether a byte is a decimal digit
abbrev pub is_digit : ℕ → Bool
is_digit byte = nat_le 48 byte && nat_le byte 57

-- each byte is a decimal digit
abbrev pub are_digits : Text → Bool
are_digits text = list_all is_digit text

-- a number is written with 1 to 9 decimal digits
abbrev pub is_number : Text → Bool
is_number text = nat_lt 0 (length text) && (nat_le (length text) 9 && are_digits text)

-- the number that a text writes, if it writes one
abbrev pub number_of : Text → Option ℕ
number_of text = if is_number text then Some (digits_value 10 text) else None

-- the number, if it is from low to high
abbrev pub within : ℕ → ℕ → ℕ → Option ℕ
within low high number = if nat_le low number && nat_le number high then Some number else None

-- the number that a text writes, if it writes one from low to high
abbrev pub number_in : ℕ → ℕ → Text → Option ℕ
number_in low high text = option_and_then (within low high) (number_of text)

-- the number of an option that may be left out, where `usual` is what it then is
abbrev pub number_or : ℕ → ℕ → ℕ → Option Text → Option ℕ
number_or usual low high None = Some usual
number_or usual low high (Some text) = number_in low high text

-- how many workers there are
abbrev pub workers_in : List Row → Option ℕ
workers_in rows = number_or 2 1 most_workers (first_of (codes "workers") rows)

-- how many states a search may reach before it gives up
abbrev pub budget_in : List Row → Option ℕ
budget_in rows = number_or 20000 1 most_budget (first_of (codes "budget") rows)

-- how often a plan may be made anew in a run
abbrev pub replans_in : List Row → Option ℕ
replans_in rows = number_or 3 0 most_replans (first_of (codes "replans") rows)

-- ---- what the words ask for

-- a session with these numbers
abbrev pub session_with : List Row → ℕ → ℕ → ℕ → Request
session_with rows workers budget replans = a_session (record {
  domain = text_in (codes "domain") rows;
  script = text_in (codes "script") rows;
  members = words_in (codes "members") rows;
  workers = workers;
  budget = budget;
  replans = replans;
  ordered = is_set_in (codes "ordered") rows;
  reports = is_set_in (codes "reports") rows;
})

-- the session that is asked for, where each number has its form and its range
abbrev pub session_of : List Row → Option Request
session_of rows = option_and_then (λ workers. option_and_then (λ budget. option_map (λ replans. session_with rows workers budget replans)
    (replans_in rows)) (budget_in rows)) (workers_in rows)

-- the check that is asked for
abbrev pub check_of : List Row → Request
check_of rows = a_check (text_in (codes "domain") rows)

-- the validation that is asked for
abbrev pub validation_of : List Row → Request
validation_of rows = a_validation (text_in (codes "domain") rows) (text_in (codes "script") rows) (text_in (codes "plan") rows)

-- the plan that is asked for, where its number has its form and its range
abbrev pub planning_of : List Row → Option Request
planning_of rows = option_map (a_planning (text_in (codes "domain") rows) (text_in (codes "script") rows)) (budget_in rows)

-- a replay with these numbers, where the journal is to be written anew or isn't
abbrev pub replay_with : Bool → List Row → ℕ → ℕ → Request
replay_with migrates rows budget replans = a_replay (record {
  domain = text_in (codes "domain") rows;
  script = text_in (codes "script") rows;
  journal = text_in (codes "journal") rows;
  members = words_in (codes "members") rows;
  budget = budget;
  replans = replans;
  migrates = migrates;
})

-- the replay that is asked for, where each number has its form and its range
abbrev pub replay_of : Bool → List Row → Option Request
replay_of migrates rows = option_and_then (λ budget. option_map (λ replans. replay_with migrates rows budget replans)
    (replans_in rows)) (budget_in rows)

-- the editing that is asked for
abbrev pub editing_of : List Row → Request
editing_of rows = an_editing (text_in (codes "domain") rows) (text_in (codes "script") rows)

-- how many carts a generated session has, if the word is a number in its range
abbrev pub carts_in : List Row → Option ℕ
carts_in rows = number_in 1 most_carts (text_in (codes "carts") rows)

-- the generated session that is asked for, where the number of its carts has its form and its range
abbrev pub generation_of : List Row → Option Request
generation_of rows = option_map a_generation (carts_in rows)

-- the mode of this name
abbrev pub mode_of : Text → Option Mode
mode_of word = if same_text word (codes "session") then Some mode.Session
    else (if same_text word (codes "check") then Some mode.Check
    else (if same_text word (codes "validate") then Some mode.Validate
    else (if same_text word (codes "plan") then Some mode.Plan
    else (if same_text word (codes "replay") then Some mode.Replay
    else (if same_text word (codes "migrate") then Some mode.Migrate
    else (if same_text word (codes "edit") then Some mode.Edit
    else (if same_text word (codes "gen") then Some mode.Gen else None)))))))

-- what the words ask for in a mode, by what they give for the options of its command
abbrev pub asked_from : Mode → List Row → Option Request
asked_from mode.Session rows = session_of rows
asked_from mode.Check rows = Some (check_of rows)
asked_from mode.Validate rows = Some (validation_of rows)
asked_from mode.Plan rows = planning_of rows
asked_from mode.Replay rows = replay_of false rows
asked_from mode.Migrate rows = replay_of true rows
asked_from mode.Edit rows = Some (editing_of rows)
asked_from mode.Gen rows = generation_of rows

-- what the words ask for in a mode, where its command takes them
abbrev pub asked_in : Mode → List Text → Option Request
asked_in mode.Session words = option_and_then session_of (rows_read session_app words)
asked_in mode.Check words = option_map check_of (rows_read check_app words)
asked_in mode.Validate words = option_map validation_of (rows_read validate_app words)
asked_in mode.Plan words = option_and_then planning_of (rows_read plan_app words)
asked_in mode.Replay words = option_and_then (replay_of false) (rows_read (journal_app (codes "replay")) words)
asked_in mode.Migrate words = option_and_then (replay_of true) (rows_read (journal_app (codes "migrate")) words)
asked_in mode.Edit words = option_map editing_of (rows_read edit_app words)
asked_in mode.Gen words = option_and_then generation_of (rows_read gen_app words)

-- what the words ask for where their first is this mode, and these follow it
abbrev pub asked_by : List Text → List Text → Option Mode → Option Request
asked_by words rest None = None
asked_by words rest (Some m) = if is_well_formed rest then asked_in m words else None

-- What the words ask for, or nothing where they aren't in the grammar: the first is a mode, the others have the form of options
-- with their values before member words, the mode's command takes them, and each number has its form and its range.
unfoldable pub asked_of : List Text → Option Request
asked_of [] = None
asked_of (first ∷ rest) = asked_by (first ∷ rest) rest (mode_of first)

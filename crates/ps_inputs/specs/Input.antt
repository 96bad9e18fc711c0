-- The input of a call: what its words and the texts of its files say.
use Rattle.std.specs.Prelude.{◌≡◌, ℕ, Bool, false, ◌||◌, ◌⊎◌, Some, None, Ok, Err, List, [], ◌∷◌, ◌++◌, codes, map, slice_index_or}
use Rattle.ps_world.specs.Names.{Table}
use Rattle.ps_world.specs.Lines.{same_text, line_end}
use Rattle.ps_world.specs.declared.domains.Domain.{Domain}
use Rattle.ps_machine.specs.declared.inputs.Input.{Input}
use Rattle.ps_machine.specs.declared.inputs.Line.{Line}
use Rattle.ps_words.specs.Words.{Request, SessionRequest}
use Rattle.ps_words.specs.Words.Request.{a_session, a_check, a_validation, a_planning, a_replay, an_editing, a_generation}
use Rattle.ps_rules.specs.Heads.{Settings}
use Rattle.ps_entries.specs.Journals.{HasSettings}
use Rattle.ps_gen.specs.Texts as generator
use Rattle.ps_pddl.specs.Reading.{IsRead}
use Rattle.ps_pddl.specs.declared.refusals.DomainRefusal.{DomainRefusal}
use Rattle.ps_inputs.specs.DomainFaults.{cause_text}
use Rattle.ps_inputs.specs.Reading.{Reading, Texts, and_then, read_file}
use Rattle.ps_inputs.specs.Reading.Reading.{gives}
use Rattle.ps_inputs.specs.Flats.{Flattened, script_in}
use Rattle.ps_inputs.specs.Flats.Flattened.{plain}
use Rattle.ps_inputs.specs.Scripts.{IsScript, word_of}
use Rattle.ps_inputs.specs.Members.{AreAtFault, AreMembers, NamedText, first_repeated, is_crowd}
use Rattle.ps_inputs.specs.declared.faults.Fault.{Fault}
use Rattle.ps_inputs.specs.declared.faults.Fault.TheVariants.{NoDomain}
use Rattle.ps_inputs.specs.declared.works.Editing.{Editing as EditingWork}
use Rattle.ps_inputs.specs.declared.works.Work.{Work}
use Rattle.ps_inputs.specs.declared.works.Work.TheVariants.{Session, Check, Validation, Planning, Replay, Editing, Generation}

-- ---- the texts

-- The texts of an input: that of the domain, the command lines of the script, and those of the members.
pub record InputTexts : Type 0 where
  pub domain : List ℕ
  pub script : List Flattened
  pub members : List NamedText

-- What the files of a request hold: for a session what is asked for and its input's texts; for a check the domain's text; for a plan to be
-- validated an input's texts and the text of the plan; for a plan that is searched for its budget and an input's texts; for a replay its
-- budget and how often a plan may be made anew, an input's texts and the text of the journal; for a problem that is to be prepared the domain's text and the script's command lines; for a generation, which
-- has no files, how many carts there are.
pub data Material : Type 0 where
  for_session : SessionRequest → InputTexts → Material
  for_check : List ℕ → Material
  for_validation : InputTexts → List ℕ → Material
  for_planning : ℕ → InputTexts → Material
  for_replay : ℕ → ℕ → InputTexts → List ℕ → Material
  for_editing : List ℕ → List Flattened → Material
  for_generation : ℕ → Material

-- the generator's members
abbrev pub generated_members : List NamedText
generated_members =
    record { file = codes "carrier"; text = generator.carrier_text }
    ∷ record { file = codes "helper"; text = generator.helper_text } ∷ []

-- the generator's texts of an input with so many carts
abbrev pub generated : ℕ → InputTexts
generated carts = record {
  domain = generator.domain_text;
  script = map plain (generator.script_lines carts);
  members = generated_members;
}

-- reading files, one after another
abbrev pub named_texts : Texts → List (List ℕ) → Reading (List NamedText)
named_texts texts [] = gives [] []
named_texts texts (file ∷ files) =
    and_then (read_file texts file) (λ t.
    and_then (named_texts texts files) (λ more.
    gives [] (record { file = file; text = t } ∷ more)))

-- reading the files of an input: the domain's, the script's with the files that it names where they stand, then the members'
unfoldable pub texts_in : Texts → List ℕ → List ℕ → List (List ℕ) → Reading InputTexts
texts_in texts domain_file script_file member_files =
    and_then (read_file texts domain_file) (λ domain.
    and_then (script_in texts script_file) (λ script.
    and_then (named_texts texts member_files) (λ members.
    gives [] (record { domain = domain; script = script.lines; members = members }))))

-- reading the files of a request: the input's, then the plan's or the journal's
unfoldable pub reading_of : Texts → Request → Reading Material
reading_of texts (a_session s) =
    and_then (texts_in texts s.domain s.script s.members) (λ input.
    gives [] (for_session s input))
reading_of texts (a_check file) =
    and_then (read_file texts file) (λ domain.
    gives [] (for_check domain))
reading_of texts (a_validation domain_file script_file plan_file) =
    and_then (texts_in texts domain_file script_file []) (λ input.
    and_then (read_file texts plan_file) (λ plan.
    gives [] (for_validation input plan)))
reading_of texts (a_planning domain_file script_file budget) =
    and_then (texts_in texts domain_file script_file []) (λ input.
    gives [] (for_planning budget input))
reading_of texts (a_replay r) =
    and_then (texts_in texts r.domain r.script r.members) (λ input.
    and_then (read_file texts r.journal) (λ journal.
    gives [] (for_replay r.budget r.replans input journal)))
reading_of texts (an_editing domain_file script_file) =
    and_then (read_file texts domain_file) (λ domain.
    and_then (script_in texts script_file) (λ script.
    gives [] (for_editing domain script.lines)))
reading_of texts (a_generation carts) = gives [] (for_generation carts)

-- reading the text of the domain alone: its file, or the generator's text
abbrev pub domain_in : Texts → Request → Reading (List ℕ)
domain_in texts (a_session s) = read_file texts s.domain
domain_in texts (a_check file) = read_file texts file
domain_in texts (a_validation domain script plan) = read_file texts domain
domain_in texts (a_planning domain script budget) = read_file texts domain
domain_in texts (a_replay r) = read_file texts r.domain
domain_in texts (an_editing domain script) = read_file texts domain
domain_in texts (a_generation carts) = gives [] generator.domain_text

-- the texts of the input; a check has that of the domain alone, and a problem that is to be prepared has no members
abbrev pub texts_of : Material → InputTexts
texts_of (for_session asked input) = input
texts_of (for_check domain) = record { domain = domain; script = []; members = [] }
texts_of (for_validation input plan) = input
texts_of (for_planning budget input) = input
texts_of (for_replay budget replans input journal) = input
texts_of (for_editing domain script) = record { domain = domain; script = script; members = [] }
texts_of (for_generation carts) = generated carts

-- the text of the domain
abbrev pub domain_text_of : Material → List ℕ
domain_text_of m = (texts_of m).domain

-- ---- what the texts are read as

-- the table before any text: the name `object` alone
abbrev pub first_names : Table
first_names = codes "object" ∷ []

-- a domain's text is read as this domain, with this table after it
abbrev pub IsDomain : List ℕ → Domain → Table → Type 0
IsDomain text d after = IsRead first_names text (Ok d) after

-- Texts are read as this input, with this table after them. Names are numbered in the order in which the texts have them, the domain's
-- first, then the script's and the members'. There are at most 64 performers and 16 observers, and no name stands twice. A solver may look
-- at as many states as the budget says, and a run's plan may be made anew so many times.
pub record IsInput (budget replans : ℕ) (texts : InputTexts) (i : Input) (names : Table) : Type 0 where
  pub between : Table
  pub read : IsDomain texts.domain i.domain between
  pub named : Table
  pub lines : IsScript between texts.script i.lines named
  pub members : AreMembers i.domain named texts.members i.members names
  pub few : is_crowd i.members ≡ false
  pub apart : first_repeated i.members ≡ None
  pub bounded : i.budget ≡ budget
  pub renewed : i.replans ≡ replans

-- Texts are read as the domain and the lines of a problem that is to be prepared, with the table after them, and with what each line
-- says to an editor alone.
pub record IsPrepared (domain : List ℕ) (script : List Flattened) (e : EditingWork) : Type 0 where
  pub between : Table
  pub read : IsDomain domain e.domain between
  pub lines : IsScript between script e.lines.items e.names
  pub words : e.words.items ≡ map word_of script

-- how many states a search may reach where the words don't say
abbrev pub usual_budget : ℕ
usual_budget = 20000

-- how often a run's plan may be made anew where the words don't say
abbrev pub usual_replans : ℕ
usual_replans = 3

-- a replay goes by these settings, where the words say those: by those that the head of its journal says, or by those of the words where
-- it says none
abbrev pub GoesBy : Settings → List ℕ → Settings → Type 0
GoesBy words journal s = HasSettings journal (Some s) ⊎ (HasSettings journal None × (s ≡ words))

-- the texts are read as this work; a session has so many workers as are asked for, and its turns are ordered where that is asked for
abbrev pub IsWork : Material → Work → Type 0
IsWork (for_session asked input) (Session s) =
    IsInput asked.budget asked.replans input s.input s.names × (s.workers ≡ asked.workers) × (s.ordered ≡ asked.ordered)
IsWork (for_check domain) (Check c) = IsDomain domain c.domain c.names
IsWork (for_validation input plan) (Validation v) = IsInput 0 0 input v.input v.names × (v.plan.items ≡ plan)
IsWork (for_planning budget input) (Planning p) = IsInput budget 0 input p.input p.names
IsWork (for_replay budget replans input journal) (Replay r) =
    ((s : Settings) × GoesBy (budget, replans) journal s × IsInput s.0 s.1 input r.input r.names) × (r.journal.items ≡ journal)
IsWork (for_editing domain script) (Editing e) = IsPrepared domain script e
IsWork (for_generation carts) (Generation g) =
    IsInput usual_budget usual_replans (generated carts) g.input g.names × (g.carts ≡ carts)
IsWork m w = ⊥

-- The work is of the kind that is asked for: the reports of a session are told, and a journal is written anew, where that is asked for, and as
-- many carts are generated.
abbrev pub IsAsked : Request → Work → Type 0
IsAsked (a_session s) (Session t) = t.reports ≡ s.reports
IsAsked (a_check file) (Check c) = Unit {0}
IsAsked (a_validation domain script plan) (Validation v) = Unit {0}
IsAsked (a_planning domain script budget) (Planning p) = Unit {0}
IsAsked (a_replay r) (Replay w) = w.migrates ≡ r.migrates
IsAsked (an_editing domain script) (Editing e) = Unit {0}
IsAsked (a_generation carts) (Generation g) = g.carts ≡ carts
IsAsked r w = ⊥

-- ---- the lines for what is at fault

-- the words are none that the program knows
abbrev pub usage_line : List ℕ
usage_line = codes "plansys: usage" ++ line_end

-- the domain's text is no domain, for this cause
abbrev pub domain_line : List ℕ → List ℕ
domain_line cause = codes "plansys: domain: " ++ (cause ++ line_end)

-- the text of a file is no member, for this cause
abbrev pub member_line : List ℕ → List ℕ → List ℕ
member_line file cause = codes "plansys: " ++ (file ++ (codes ": " ++ (cause ++ line_end)))

-- there are too many members
abbrev pub crowd_line : List ℕ
crowd_line = codes "plansys: members: Limit" ++ line_end

-- a member has the name of an earlier one
abbrev pub twice_line : List ℕ → List ℕ
twice_line name = codes "plansys: members: Twice " ++ (name ++ line_end)

-- a file can't be read
abbrev pub cannot_read_line : List ℕ → List ℕ
cannot_read_line file = codes "plansys: cannot read " ++ (file ++ line_end)

-- a file is too long
abbrev pub too_long_line : List ℕ → List ℕ
too_long_line file = codes "plansys: " ++ (file ++ (codes ": TooLong" ++ line_end))

-- a script with its files has too many command lines
abbrev pub lines_line : List ℕ
lines_line = codes "plansys: script: Lines" ++ line_end

-- the journal can't be written
abbrev pub cannot_write_line : List ℕ
cannot_write_line = codes "plansys: cannot write" ++ line_end

-- there isn't memory enough
abbrev pub out_of_memory_line : List ℕ
out_of_memory_line = codes "plansys: out of memory" ++ line_end

-- a domain's text is no domain, for the cause that these words say
pub record IsNoDomain (text cause : List ℕ) : Type 0 where
  pub refusal : DomainRefusal
  pub after : Table
  pub read : IsRead first_names text (Err refusal) after
  pub said : cause_text after refusal ≡ cause

-- ---- what is at fault with the texts

-- Texts are those of a domain and of a script's lines, with this table after them.
pub record IsBegun (texts : InputTexts) (d : Domain) (names : Table) : Type 0 where
  pub between : Table
  pub read : IsDomain texts.domain d between
  pub given : List Line
  pub lines : IsScript between texts.script given names

-- the texts of the members are at fault, where the domain's is good
abbrev pub HasBadMembers : InputTexts → Fault → Type 0
HasBadMembers texts fault = (d : Domain) × (names : Table) × IsBegun texts d names × AreAtFault d names texts.members fault

-- what is at fault with the texts of an input: the domain's text is none, or else the members are at fault
abbrev pub HasFault : InputTexts → Fault → Type 0
HasFault texts (NoDomain cause) = IsNoDomain texts.domain cause.items
HasFault texts fault = HasBadMembers texts fault

-- ---- the mode

-- the word at a place, or none
abbrev pub argument : List (List ℕ) → ℕ → List ℕ
argument ws i = slice_index_or ws i []

-- whether the first word is that of a mode that judges a text
abbrev pub is_judging : List (List ℕ) → Bool
is_judging ws =
    same_text (argument ws 0) (codes "check")
    || (same_text (argument ws 0) (codes "validate")
    || (same_text (argument ws 0) (codes "replay") || same_text (argument ws 0) (codes "migrate")))

-- whether the first word is that of a mode that always returns
abbrev pub is_quiet : List (List ℕ) → Bool
is_quiet ws = same_text (argument ws 0) (codes "edit") || is_judging ws

-- What reading each part of the input comes to.
use Rattle.std.specs.Prelude.{◌≡◌, ℕ, ◌≤◌, ◌<◌, Bool, true, false, Result, Ok, Err, None, Some, List, [], ◌∷◌, ◌++◌, length, map}
use Rattle.std.specs.Global.{Vec}
use Rattle.ps_world.specs.Names.{Table, name_text}
use Rattle.ps_world.specs.declared.failures.Failure.{Failure}
use Rattle.ps_world.specs.declared.failures.Failure.TheVariants.{Refused, OutOfMemory}
use Rattle.ps_world.specs.declared.names.Name.{Name}
use Rattle.ps_world.specs.declared.domains.Domain.{Domain}
use Rattle.ps_machine.specs.declared.inputs.Line.{Line}
use Rattle.ps_machine.specs.declared.members.Member.{Member}
use Rattle.ps_members.specs.Members.{IsMember}
use Rattle.ps_members.specs.declared.refusals.ScriptRefusal.{ScriptRefusal}
use Rattle.ps_text.specs.Outside.{FilesView}
use Rattle.ps_text.specs.ScriptLines.{script_lines}
use Rattle.ps_script.specs.Lines.{IsRead}
use Rattle.ps_script.specs.declared.reading.Read.TheVariants as read
use Rattle.ps_rules.specs.Heads.{Settings}
use Rattle.ps_words.specs.Words.{Request}
use Rattle.ps_words.specs.Words.Request.{a_generation}
use Rattle.ps_gen.specs.Texts as generator
use Rattle.ps_inputs.specs.Reading.{MayGive, Reading, Texts, most_lines, read_file}
use Rattle.ps_inputs.specs.Reading.Reading.{gives}
use Rattle.ps_inputs.specs.Members.{AreAtFault, AreMembers, IsNoMember, NamedText, first_repeated, is_crowd, member_cause}
use Rattle.ps_inputs.specs.Flats.{Flat, Flattened, on_source, one_line, plain_line, plan_line, script_in, step, walk}
use Rattle.ps_inputs.specs.Flats.Flattened.{plain, too_deep}
use Rattle.ps_inputs.specs.Scripts.{IsScript, word_of}
use Rattle.ps_inputs.specs.Input.{GoesBy, HasBadMembers, InputTexts, IsAsked, IsDomain, IsInput, IsNoDomain, IsWork, Material, domain_in, domain_text_of, generated, named_texts, reading_of, texts_in, texts_of}
use Rattle.ps_inputs.specs.Faults.{ReadsPart}
use Rattle.ps_inputs.specs.declared.faults.Fault.{Fault}
use Rattle.ps_inputs.specs.declared.faults.Fault.TheVariants.{NoDomain, NoMember, Crowd, Twice, Lines}
use Rattle.ps_inputs.specs.declared.reading.domains.Judged.{Judged}
use Rattle.ps_inputs.specs.declared.reading.members.MemberText.{MemberText}
use Rattle.ps_inputs.specs.declared.reading.inputs.Unjudged.{Unjudged}
use Rattle.ps_inputs.specs.declared.judging.Loaded.{Loaded}
use Rattle.ps_inputs.specs.declared.reading.scripts.Script.{Script}
use Rattle.ps_inputs.specs.declared.works.Work.{Work}

-- ---- a file

-- reading the text of a file
abbrev pub ReadsText : List ℕ → FilesView → FilesView → Result (Vec ℕ) (Failure Fault) → Type 0
ReadsText file old new r = ReadsPart (read_file old.told file) old new (λ t v. v.items ≡ t) r

-- ---- the domain

-- a text is judged to be this domain, or none, with this table after it
abbrev pub IsJudgedAs : List ℕ → Table → Result Domain Fault → Type 0
IsJudgedAs text names (Ok d) = IsDomain text d names
IsJudgedAs text names (Err (NoDomain cause)) = IsNoDomain text cause.items
IsJudgedAs text names (Err fault) = ⊥

abbrev pub IsJudged : List ℕ → Judged → Type 0
IsJudged text j = IsJudgedAs text j.names j.domain

-- reading the file of a domain, and judging its text
abbrev pub ReadsDomainFile : List ℕ → FilesView → FilesView → Result Judged (Failure Fault) → Type 0
ReadsDomainFile file old new r = ReadsPart (read_file old.told file) old new IsJudged r

-- ---- command lines

-- there is room for one line after so many, or there is none
abbrev pub HasRoom : ℕ → Result (Unit {0}) (Failure Fault) → Type 0
HasRoom n (Ok u) = n < most_lines
HasRoom n (Err (Refused Lines)) = most_lines ≤ n
HasRoom n (Err failure) = ⊥

-- Command lines were read after the lines before them: each is one line more, with what it says to an editor alone, there are not too many, and
-- the answer is whether the last of them ends the script.
pub record IsAdded (before after : Script) (flat : Flat) (ended : Bool) : Type 0 where
  pub lines : List Line
  pub read : IsScript before.names flat.lines lines after.names
  pub added : after.lines.items ≡ before.lines.items ++ lines
  pub words : after.words.items ≡ before.words.items ++ map word_of flat.lines
  pub count : length lines ≡ length flat.lines
  pub few : length after.lines.items ≤ most_lines
  pub ends : flat.ended ≡ ended

-- reading command lines after those of a script
abbrev pub Adds : Reading Flat → FilesView → FilesView → Script → Script → Result Bool (Failure Fault) → Type 0
Adds part old new before after r = ReadsPart part old new (IsAdded before after) r

-- how many lines a script has so far
abbrev pub count_of : Script → ℕ
count_of s = length s.lines.items

-- a command line is read as a line, which stands after the lines before it
abbrev pub IsPushed : List ℕ → Script → Script → Type 0
IsPushed bytes before after =
    (line : Line) × IsRead before.names bytes (read.Line line) after.names
    × (after.lines.items ≡ before.lines.items ++ line ∷ [])

-- command lines are read one after another, and stand after the lines before them, a line for each
abbrev pub ArePushed : List (List ℕ) → Script → Script → Type 0
ArePushed commands before after =
    (lines : List Line) × IsScript before.names (map plain commands) lines after.names
    × (after.lines.items ≡ before.lines.items ++ lines) × (length lines ≡ length commands)

-- reading a line that names no file, which reads none
abbrev pub PutsPlain : List ℕ → Script → Script → Result Bool (Failure Fault) → Type 0
PutsPlain bytes before after r = (files : FilesView) → Adds (plain_line (count_of before) bytes) files files before after r

-- a script with this table in place of its own
abbrev pub with_names : Table → Script → Script
with_names names s = record { names = names; lines = s.lines; words = s.words }

-- Putting the line that a command line was read as, after which the script has its table: the same as reading it, with the table before it.
abbrev pub PutsLine : List ℕ → Line → Script → Script → Result Bool (Failure Fault) → Type 0
PutsLine bytes line before after r =
    (names : Table) → IsRead names bytes (read.Line line) before.names → PutsPlain bytes (with_names names before) after r

-- a line that stands too deep, which reads no file
abbrev pub PutsDeep : Script → Script → Result Bool (Failure Fault) → Type 0
PutsDeep before after r = (files : FilesView) → Adds (one_line (count_of before) too_deep false) files files before after r

-- reading a line that runs the plan in a file, and the file
abbrev pub PutsPlan : List ℕ → List ℕ → FilesView → FilesView → Script → Script → Result Bool (Failure Fault) → Type 0
PutsPlan bytes file old new before after r = Adds (plan_line old.told (count_of before) bytes (Some file)) old new before after r

-- reading the file of a line that was read, which runs the plan in it: the same as reading that line, with the table before it
abbrev pub PutsReadPlan : List ℕ → FilesView → FilesView → Script → Script → Result Bool (Failure Fault) → Type 0
PutsReadPlan file old new before after r =
    (bytes : List ℕ) (names : Table) → IsRead names bytes (read.RunPlan file) before.names
    → PutsPlan bytes file old new (with_names names before) after r

-- reading a file that is named where so many levels of files may still be opened
abbrev pub Opens : ℕ → List ℕ → FilesView → FilesView → Script → Script → Result Bool (Failure Fault) → Type 0
Opens levels file old new before after r = Adds (on_source levels old.told (count_of before) file) old new before after r

-- reading one line of a file, which may name a file
abbrev pub ReadsFileLine : ℕ → List ℕ → FilesView → FilesView → Script → Script → Result Bool (Failure Fault) → Type 0
ReadsFileLine levels bytes old new before after r = Adds (step old.told (on_source levels old.told) (count_of before) bytes) old new before after r

-- reading these lines of a file
abbrev pub WalksLines : ℕ → List (List ℕ) → FilesView → FilesView → Script → Script → Result Bool (Failure Fault) → Type 0
WalksLines levels ls old new before after r = Adds (walk old.told (on_source levels old.told) (count_of before) ls) old new before after r

-- reading the lines of a text
abbrev pub Walks : ℕ → List ℕ → FilesView → FilesView → Script → Script → Result Bool (Failure Fault) → Type 0
Walks levels text old new before after r = WalksLines levels (script_lines text) old new before after r

-- The command lines, read with a table before them, are the lines of this script, and not too many.
pub record IsScriptFrom (names : Table) (commands : List Flattened) (script : Script) : Type 0 where
  pub read : IsScript names commands script.lines.items script.names
  pub few : length script.lines.items ≤ most_lines

-- the same, and what each of them says to an editor alone
abbrev pub IsWordedFrom : Table → List Flattened → Script → Type 0
IsWordedFrom names commands script = IsScriptFrom names commands script × (script.words.items ≡ map word_of commands)

-- reading the script in a file
abbrev pub ReadsScript : Table → List ℕ → FilesView → FilesView → Result Script (Failure Fault) → Type 0
ReadsScript names file old new r = ReadsPart (script_in old.told file) old new (λ flat. IsWordedFrom names flat.lines) r

-- ---- members

-- the text of a member
abbrev pub named : MemberText → NamedText
named m = record { file = m.file.items; text = m.text.items }

-- this is the text of a member, with the name of its file
abbrev pub IsNamed : List ℕ → List ℕ → MemberText → Type 0
IsNamed file text m = named m ≡ record { file = file; text = text }

-- reading the texts of members
abbrev pub ReadsMembers : List (List ℕ) → FilesView → FilesView → Result (Vec MemberText) (Failure Fault) → Type 0
ReadsMembers member_files old new r = ReadsPart (named_texts old.told member_files) old new (λ texts v. map named v.items ≡ texts) r

-- reading the text of one member: it is one, or this is its fault
abbrev pub ReadsMember : Domain → Table → NamedText → Table → Result Member (Failure Fault) → Type 0
ReadsMember d table one after (Ok m) = IsMember d table one.text (Ok m) after
ReadsMember d table one after (Err (Refused (NoMember file cause))) =
    (refusal : ScriptRefusal) × IsMember d table one.text (Err refusal) after
    × (file.items ≡ one.file) × (cause.items ≡ member_cause refusal)
ReadsMember d table one after (Err (Refused fault)) = ⊥
ReadsMember d table one after (Err OutOfMemory) = Unit {0}

-- reading texts: they are these members, or the first that is none is at fault
abbrev pub ReadsAll : Domain → Table → List NamedText → Table → Result (Vec Member) (Failure Fault) → Type 0
ReadsAll d first texts after (Ok ms) = AreMembers d first texts ms.items after
ReadsAll d first texts after (Err (Refused (NoMember file cause))) = IsNoMember d first texts file.items cause.items
ReadsAll d first texts after (Err (Refused fault)) = ⊥
ReadsAll d first texts after (Err OutOfMemory) = Unit {0}

-- the members aren't too many, and no name stands twice, or one of these isn't so
abbrev pub MayBeTogether : Table → List Member → Result (Unit {0}) (Failure Fault) → Type 0
MayBeTogether names ms (Ok u) = (is_crowd ms ≡ false) × (first_repeated ms ≡ None)
MayBeTogether names ms (Err (Refused Crowd)) = is_crowd ms ≡ true
MayBeTogether names ms (Err (Refused (Twice name))) =
    (is_crowd ms ≡ false) × (again : Name) × (first_repeated ms ≡ Some again) × (name.items ≡ name_text names again)
MayBeTogether names ms (Err (Refused fault)) = ⊥
MayBeTogether names ms (Err OutOfMemory) = Unit {0}

-- judging the texts of members: they are these members, who may be together, or they are at fault
abbrev pub JudgesMembers : Domain → Table → List NamedText → Table → Result (Vec Member) (Failure Fault) → Type 0
JudgesMembers d first texts after (Ok ms) =
    AreMembers d first texts ms.items after × (is_crowd ms.items ≡ false) × (first_repeated ms.items ≡ None)
JudgesMembers d first texts after (Err (Refused fault)) = AreAtFault d first texts fault
JudgesMembers d first texts after (Err OutOfMemory) = Unit {0}

-- ---- the input

-- What was read of the texts of an input, where reading the domain's alone comes to this: the domain is judged, and so is what that
-- gives, where it is told; the lines are those of the script, with the table after them; the members' texts are kept.
pub record IsUnjudged (domain : Reading (List ℕ)) (texts : InputTexts) (u : Unjudged) : Type 0 where
  pub between : Table
  pub judged : IsJudgedAs texts.domain between u.domain
  pub told_judged : MayGive domain (λ text. IsJudgedAs text between u.domain)
  pub lines : IsScript between texts.script u.lines.items u.names
  pub few : length u.lines.items ≤ most_lines
  pub members : map named u.members.items ≡ texts.members

-- reading the texts of an input
abbrev pub ReadsInput : List ℕ → List ℕ → List (List ℕ) → FilesView → FilesView → Result Unjudged (Failure Fault) → Type 0
ReadsInput domain_file script_file member_files old new r =
    ReadsPart (texts_in old.told domain_file script_file member_files) old new (IsUnjudged (read_file old.told domain_file)) r

-- the generator's texts were read
abbrev pub IsGenerated : ℕ → Unjudged → Type 0
IsGenerated carts u = IsUnjudged (gives [] generator.domain_text) (generated carts) u

-- judging members beside a domain and lines, with the table after these
abbrev pub Joins : Table → Domain → List Line → List NamedText → ℕ → ℕ → Result Loaded (Failure Fault) → Type 0
Joins first d lines texts budget replans (Ok l) =
    AreMembers d first texts l.input.members l.names
    × (is_crowd l.input.members ≡ false) × (first_repeated l.input.members ≡ None)
    × (l.input.domain ≡ d) × (l.input.lines ≡ lines) × (l.input.budget ≡ budget) × (l.input.replans ≡ replans)
Joins first d lines texts budget replans (Err (Refused fault)) = AreAtFault d first texts fault
Joins first d lines texts budget replans (Err OutOfMemory) = Unit {0}

-- texts are an input, with few lines, or they have this fault; and where it is that of the domain, so has its text read alone, where
-- that is told
abbrev pub IsJudgedInput : Reading (List ℕ) → InputTexts → ℕ → ℕ → Result Loaded (Failure Fault) → Type 0
IsJudgedInput domain texts budget replans (Ok l) = IsInput budget replans texts l.input l.names × (length l.input.lines ≤ most_lines)
IsJudgedInput domain texts budget replans (Err (Refused (NoDomain cause))) =
    IsNoDomain texts.domain cause.items × MayGive domain (λ text. IsNoDomain text cause.items)
IsJudgedInput domain texts budget replans (Err (Refused fault)) = HasBadMembers texts fault
IsJudgedInput domain texts budget replans (Err OutOfMemory) = Unit {0}

-- judging what was read of any texts
abbrev pub Judges : Unjudged → ℕ → ℕ → Result Loaded (Failure Fault) → Type 0
Judges u budget replans r =
    (domain : Reading (List ℕ)) (texts : InputTexts) → IsUnjudged domain texts u → IsJudgedInput domain texts budget replans r

-- ---- the work

-- reading the text of a journal, and finding the settings that a replay of it goes by, where the words say these
abbrev pub ReadsJournal : Settings → List ℕ → FilesView → FilesView → Result (Vec ℕ × Settings) (Failure Fault) → Type 0
ReadsJournal words file old new r = ReadsPart (read_file old.told file) old new (λ t journal. (journal.0.items ≡ t) × GoesBy words t journal.1) r

-- what the files hold is the work that is asked for, or it has this fault; where its domain's text is none, so is that text read alone,
-- where it is told
abbrev pub IsAnswered : Texts → Request → Material → Result Work Fault → Type 0
IsAnswered texts request m (Ok w) = IsAsked request w × IsWork m w
IsAnswered texts request m (Err (NoDomain cause)) =
    IsNoDomain (domain_text_of m) cause.items × MayGive (domain_in texts request) (λ text. IsNoDomain text cause.items)
IsAnswered texts request m (Err fault) = HasBadMembers (texts_of m) fault

-- a fault of what was read is a failure as one of reading is
abbrev pub flat : Result (Result Work Fault) (Failure Fault) → Result Work (Failure Fault)
flat (Ok (Ok work)) = Ok work
flat (Ok (Err fault)) = Err (Refused fault)
flat (Err failure) = Err failure

-- Reading all files of a request, and judging their texts: the answer is the work, or the fault of what was read, or why reading was ended.
pub record LoadsRequest (request : Request) (old new : FilesView) (r : Result Work (Failure Fault)) : Type 0 where
  pub answer : Result (Result Work Fault) (Failure Fault)
  pub reads : ReadsPart (reading_of old.told request) old new (IsAnswered old.told request) answer
  pub is : flat answer ≡ r

-- judging the generator's texts, which reads no file
abbrev pub Generates : ℕ → Result Work (Failure Fault) → Type 0
Generates carts r = (files : FilesView) → LoadsRequest (a_generation carts) files files r

-- The work, by what its files hold.
use Rattle.std.proofs.Common.{◌≡◌, ℕ, ◌≤◌, Result, Ok, Err, List, [], length, map, refl, sym, ap, ◌∙◌, subst}
use Rattle.std.specs.Global.{Vec}
use Rattle.ps_world.specs.Names.{Table}
use Rattle.ps_world.specs.declared.failures.Failure.{Failure}
use Rattle.ps_world.specs.declared.failures.Failure.TheVariants.{Refused, OutOfMemory}
use Rattle.ps_text.specs.Outside.{FilesView}
use Rattle.ps_world.specs.declared.domains.Domain.{Domain}
use Rattle.ps_machine.specs.declared.inputs.Input.{Input}
use Rattle.ps_machine.specs.declared.inputs.Line.{Line}
use Rattle.ps_pddl.proofs.SoundReadings.{readings_are_well_formed}
use Rattle.ps_problem.specs.WellKnown.{HasConstants}
use Rattle.ps_words.specs.Words.{ReplayRequest, Request, SessionRequest}
use Rattle.ps_words.specs.Words.Request.{a_session, a_check, a_validation, a_planning, a_replay, an_editing, a_generation}
use Rattle.ps_inputs.specs.Reading.{MayGive, Reading, Texts, and_then, read_file}
use Rattle.ps_inputs.specs.Reading.Reading.{gives}
use Rattle.ps_inputs.specs.Flats.{Flat, script_in}
use Rattle.ps_inputs.specs.Scripts.{IsScript}
use Rattle.ps_inputs.specs.Members.{AreAtFault, AreMembers, NamedText}
use Rattle.ps_inputs.specs.Input.{GoesBy, HasBadMembers, InputTexts, IsBegun, IsDomain, IsInput, Material, domain_in, domain_text_of, first_names, generated, named_texts, reading_of, texts_in, texts_of}
use Rattle.ps_rules.specs.Heads.{Settings}
use Rattle.ps_inputs.specs.Input.Material.{for_session, for_check, for_validation, for_planning, for_replay, for_editing, for_generation}
use Rattle.ps_inputs.specs.Faults.{ReadsPart}
use Rattle.ps_inputs.specs.Parts.{Generates, IsAnswered, IsGenerated, IsJudged, IsJudgedAs, IsJudgedInput, IsScriptFrom, IsUnjudged, IsWordedFrom, Joins, Judges, LoadsRequest, ReadsDomainFile, ReadsInput, ReadsJournal, ReadsMembers, ReadsScript, ReadsText, flat, named}
use Rattle.ps_inputs.specs.declared.judging.Loaded.{Loaded}
use Rattle.ps_inputs.specs.declared.reading.domains.Judged.{Judged}
use Rattle.ps_inputs.specs.declared.reading.inputs.Unjudged.{Unjudged}
use Rattle.ps_inputs.specs.declared.reading.members.MemberText.{MemberText}
use Rattle.ps_inputs.specs.declared.reading.scripts.Script.{Script}
use Rattle.ps_inputs.specs.declared.faults.Fault.{Fault}
use Rattle.ps_inputs.specs.declared.faults.Fault.TheVariants.{Usage, NoDomain, NoMember, Crowd, Twice, TooLong, Lines, Unread}
use Rattle.ps_inputs.specs.declared.works.Editing.{Editing}
use Rattle.ps_inputs.specs.declared.works.Generation.{Generation}
use Rattle.ps_inputs.specs.declared.works.Planning.{Planning}
use Rattle.ps_inputs.specs.declared.works.Replay.{Replay}
use Rattle.ps_inputs.specs.declared.works.Session.{Session}
use Rattle.ps_inputs.specs.declared.works.Validation.{Validation}
use Rattle.ps_inputs.specs.declared.works.Work.{Work}
use Rattle.ps_inputs.specs.declared.works.Work.TheVariants as work
use Rattle.ps_inputs.specs.declared.works.Work.TheVariants.{Check}
use Rattle.ps_inputs.proofs.ReadParts.{give_be, out_of_memory, read_nothing, then_ended, then_read}

-- ---- the answer

-- reading all files of a request comes to this, where a fault of what was read is told as such
abbrev Answers : Request → FilesView → FilesView → Result (Result Work Fault) (Failure Fault) → Type 0
Answers request old new answer = ReadsPart (reading_of old.told request) old new (IsAnswered old.told request) answer

loads : (request : Request) (old new : FilesView) (answer : Result (Result Work Fault) (Failure Fault)) → Answers request old new answer → LoadsRequest request old new (flat answer)
loads request old new answer h = record { answer = answer; reads = h; is = refl }

-- memory runs out after all files are read
starved : (request : Request) (old new : FilesView) → new.failed ≡ old.failed → new.told ≡ old.told → LoadsRequest request old new (Err OutOfMemory)
starved request old new failed same = loads request old new (Err OutOfMemory) (out_of_memory (reading_of old.told request) old new failed same)

-- ---- the domain

-- a text that is judged to be a domain is that domain
pub judged_domain : (text : List ℕ) (j : Judged) (d : Domain) → j.domain ≡ Ok d → IsJudged text j → IsDomain text d j.names
judged_domain text j d e is = subst (IsJudgedAs text j.names) e is

-- one that isn't has its fault
judged_fault : (texts : Texts) (names : Table) (request : Request) (m : Material) (fault : Fault) → IsJudgedAs (domain_text_of m) names (Err fault) → MayGive (domain_in texts request) (λ text. IsJudgedAs text names (Err fault)) → IsAnswered texts request m (Err fault)
judged_fault texts names request m Usage is told = absurd is
judged_fault texts names request m (NoDomain cause) is told = (is, told)
judged_fault texts names request m (NoMember file cause) is told = absurd is
judged_fault texts names request m Crowd is told = absurd is
judged_fault texts names request m (Twice name) is told = absurd is
judged_fault texts names request m (TooLong file) is told = absurd is
judged_fault texts names request m Lines is told = absurd is
judged_fault texts names request m (Unread file) is told = absurd is

-- the text of a domain's file is judged too, where that is told
told_judged : (file : List ℕ) (old new : FilesView) (j : Judged) (judged : Result Domain Fault) → j.domain ≡ judged → ReadsDomainFile file old new (Ok j) → MayGive (read_file old.told file) (λ text. IsJudgedAs text j.names judged)
told_judged file old new j judged e h =
    give_be (read_file old.told file) h.given.0 h.given.1 (λ text. IsJudgedAs text j.names judged) h.given.2 (subst (IsJudgedAs h.given.1 j.names) e h.given.4)

-- ---- a check

module _ (file : List ℕ) (old new : FilesView) where
  pub check_unread : (why : Failure Fault) → ReadsDomainFile file old new (Err why) → LoadsRequest (a_check file) old new (Err why)
  unfolding reading_of
  check_unread why h = loads (a_check file) old new (Err why) (then_ended (read_file old.told file) (λ d. gives [] (for_check d)) old new why h)

  check_read : (j : Judged) (r : Result Work Fault) → ReadsDomainFile file old new (Ok j) → ((d : List ℕ) → IsJudged d j → IsAnswered old.told (a_check file) (for_check d) r) → LoadsRequest (a_check file) old new (flat (Ok r))
  unfolding reading_of
  check_read j r h f = loads (a_check file) old new (Ok r) (then_read (read_file old.told file) (λ t d. gives [] (for_check d)) old new new j (Ok r) h (λ d is. read_nothing new (for_check d) r (f d is)))

  pub check_good : (j : Judged) (d : Domain) → j.domain ≡ Ok d → ReadsDomainFile file old new (Ok j) → LoadsRequest (a_check file) old new (Ok (Check (record { names = j.names; domain = d })))
  check_good j d e h = check_read j (Ok (Check (record { names = j.names; domain = d }))) h (λ text is. (tt, judged_domain text j d e is))

  pub check_bad : (j : Judged) (fault : Fault) → j.domain ≡ Err fault → ReadsDomainFile file old new (Ok j) → LoadsRequest (a_check file) old new (Err (Refused fault))
  check_bad j fault e h = check_read j (Err fault) h (λ text is. judged_fault old.told j.names (a_check file) (for_check text) fault (subst (IsJudgedAs text j.names) e is) (told_judged file old new j (Err fault) e h))

  -- memory runs out after the file is read
  pub check_starved : (j : Judged) → ReadsDomainFile file old new (Ok j) → LoadsRequest (a_check file) old new (Err OutOfMemory)
  check_starved j h = starved (a_check file) old new (h.failed) (h.same)

-- ---- the texts of an input

module _ (domain_file script_file : List ℕ) (member_files : List (List ℕ)) (old : FilesView) where
  -- what the members' texts give
  abbrev input_of : List ℕ → Flat → List NamedText → Reading InputTexts
  input_of d flat members = gives [] (record { domain = d; script = flat.lines; members = members })

  abbrev members_after : Texts → List ℕ → Flat → Reading InputTexts
  members_after t d flat = and_then (named_texts t member_files) (input_of d flat)

  abbrev script_after : Texts → List ℕ → Reading InputTexts
  script_after t d = and_then (script_in t script_file) (members_after t d)

  pub input_undomained : (new : FilesView) (why : Failure Fault) → ReadsDomainFile domain_file old new (Err why) → ReadsInput domain_file script_file member_files old new (Err why)
  unfolding texts_in
  input_undomained new why h = then_ended (read_file old.told domain_file) (script_after old.told) old new why h

  module _ (middle : FilesView) (j : Judged) (first : ReadsDomainFile domain_file old middle (Ok j)) where
    pub input_unscripted : (new : FilesView) (why : Failure Fault) → ReadsScript j.names script_file middle new (Err why) → ReadsInput domain_file script_file member_files old new (Err why)
    unfolding texts_in
    input_unscripted new why h =
        then_read (read_file old.told domain_file) script_after old middle new j (Err why) first (λ d is. then_ended (script_in middle.told script_file) (members_after middle.told d) middle new why h)

    module _ (later new : FilesView) (script : Script) (second : ReadsScript j.names script_file middle later (Ok script)) where
      pub input_unmembered : (why : Failure Fault) → ReadsMembers member_files later new (Err why) → ReadsInput domain_file script_file member_files old new (Err why)
      unfolding texts_in
      input_unmembered why h =
          then_read (read_file old.told domain_file) script_after old middle new j (Err why) first
          (λ d is. then_read (script_in middle.told script_file) (λ t flat. members_after t d flat) middle later new script (Err why) second
          (λ flat are. then_ended (named_texts later.told member_files) (input_of d flat) later new why h))

      unjudged : (u : Unjudged) (d : List ℕ) (flat : Flat) (members : List NamedText) → u.names ≡ script.names → u.domain ≡ j.domain → u.lines.items ≡ script.lines.items → IsJudged d j → IsScriptFrom j.names flat.lines script → map named u.members.items ≡ members → IsUnjudged (read_file old.told domain_file) (record { domain = d; script = flat.lines; members = members }) u
      unjudged u d flat members names domain lines is are same = record {
        between = j.names;
        judged = subst (IsJudgedAs d j.names) (sym domain) is;
        told_judged = told_judged domain_file old middle j u.domain (sym domain) first;
        lines = subst (λ (t : Table). IsScript j.names flat.lines u.lines.items t) (sym names) (subst (λ (ls : List Line). IsScript j.names flat.lines ls script.names) (sym lines) are.read);
        few = subst (λ (ls : List Line). length ls ≤ 10000) (sym lines) are.few;
        members = same;
      }

      pub input_read : (u : Unjudged) (v : Vec MemberText) → u.names ≡ script.names → u.domain ≡ j.domain → u.lines.items ≡ script.lines.items → u.members.items ≡ v.items → ReadsMembers member_files later new (Ok v) → ReadsInput domain_file script_file member_files old new (Ok u)
      unfolding texts_in
      input_read u v names domain lines kept h =
          then_read (read_file old.told domain_file) script_after old middle new j (Ok u) first
          (λ d is. then_read (script_in middle.told script_file) (λ t flat. members_after t d flat) middle later new script (Ok u) second
          (λ flat are. then_read (named_texts later.told member_files) (λ t members. input_of d flat members) later new new v (Ok u) h
          (λ members same. read_nothing new (record { domain = d; script = flat.lines; members = members }) u (unjudged u d flat members names domain lines is are.0 (ap (map named) kept ∙ same)))))

-- ---- the input that texts are

module _ (domain : Reading (List ℕ)) (texts : InputTexts) (u : Unjudged) (budget replans : ℕ) (read : IsUnjudged domain texts u) where
  module _ (d : Domain) (good : u.domain ≡ Ok d) where
    read_domain : IsDomain texts.domain d read.between
    read_domain = subst (IsJudgedAs texts.domain read.between) good read.judged

    begun : IsBegun texts d u.names
    begun = record { between = read.between; read = read_domain; given = u.lines.items; lines = read.lines }

    -- the members are at fault
    bad_members : (fault : Fault) → AreAtFault d u.names (map named u.members.items) fault → HasBadMembers texts fault
    bad_members fault is = (d, u.names, begun, subst (λ (ts : List NamedText). AreAtFault d u.names ts fault) read.members is)

    joined_input : (l : Loaded) → Joins u.names d u.lines.items (map named u.members.items) budget replans (Ok l) → IsInput budget replans texts l.input l.names
    joined_input l is = record {
      between = read.between;
      read = subst (λ (x : Domain). IsDomain texts.domain x read.between) (sym is.3) read_domain;
      named = u.names;
      lines = subst (λ (ls : List Line). IsScript read.between texts.script ls u.names) (sym is.4) read.lines;
      members = subst (λ (x : Domain). AreMembers x u.names texts.members l.input.members l.names) (sym is.3) (subst (λ (ts : List NamedText). AreMembers d u.names ts l.input.members l.names) read.members is.0);
      few = is.1;
      apart = is.2;
      bounded = is.5;
      renewed = is.6;
    }

    pub judged_input : (r : Result Loaded (Failure Fault)) → Joins u.names d u.lines.items (map named u.members.items) budget replans r → IsJudgedInput domain texts budget replans r
    judged_input (Ok l) is = (joined_input l is, subst (λ (ls : List Line). length ls ≤ 10000) (sym is.4) read.few)
    judged_input (Err (Refused Usage)) is = absurd is
    judged_input (Err (Refused (NoDomain cause))) is = absurd is
    judged_input (Err (Refused (NoMember file cause))) is = bad_members (NoMember file cause) is
    judged_input (Err (Refused Crowd)) is = bad_members Crowd is
    judged_input (Err (Refused (Twice name))) is = bad_members (Twice name) is
    judged_input (Err (Refused (TooLong file))) is = absurd is
    judged_input (Err (Refused Lines)) is = absurd is
    judged_input (Err (Refused (Unread file))) is = absurd is
    judged_input (Err OutOfMemory) is = tt

  no_domain : (fault : Fault) → IsJudgedAs texts.domain read.between (Err fault) → MayGive domain (λ text. IsJudgedAs text read.between (Err fault)) → IsJudgedInput domain texts budget replans (Err (Refused fault))
  no_domain Usage is also = absurd is
  no_domain (NoDomain cause) is also = (is, also)
  no_domain (NoMember file cause) is also = absurd is
  no_domain Crowd is also = absurd is
  no_domain (Twice name) is also = absurd is
  no_domain (TooLong file) is also = absurd is
  no_domain Lines is also = absurd is
  no_domain (Unread file) is also = absurd is

  -- the domain's text is none
  pub undomained : (fault : Fault) → u.domain ≡ Err fault → IsJudgedInput domain texts budget replans (Err (Refused fault))
  undomained fault bad =
      no_domain fault (subst (IsJudgedAs texts.domain read.between) bad read.judged)
      (subst (λ (r : Result Domain Fault). MayGive domain (λ text. IsJudgedAs text read.between r)) bad read.told_judged)

-- a fault of the texts is the answer
answered_fault : (told : Texts) (request : Request) (m : Material) (budget replans : ℕ) (fault : Fault) → IsJudgedInput (domain_in told request) (texts_of m) budget replans (Err (Refused fault)) → IsAnswered told request m (Err fault)
answered_fault told request m budget replans Usage is = is
answered_fault told request m budget replans (NoDomain cause) is = is
answered_fault told request m budget replans (NoMember file cause) is = is
answered_fault told request m budget replans Crowd is = is
answered_fault told request m budget replans (Twice name) is = is
answered_fault told request m budget replans (TooLong file) is = is
answered_fault told request m budget replans Lines is = is
answered_fault told request m budget replans (Unread file) is = is

-- ---- a session

module _ (s : SessionRequest) (old new : FilesView) where
  -- what its texts give
  abbrev session_of : InputTexts → Reading Material
  session_of input = gives [] (for_session s input)

  pub session_unread : (why : Failure Fault) → ReadsInput s.domain s.script s.members old new (Err why) → LoadsRequest (a_session s) old new (Err why)
  unfolding reading_of
  session_unread why h = loads (a_session s) old new (Err why) (then_ended (texts_in old.told s.domain s.script s.members) session_of old new why h)

  module _ (u : Unjudged) (h : ReadsInput s.domain s.script s.members old new (Ok u)) where
    session_read : (r : Result Work Fault) → ((input : InputTexts) → IsUnjudged (read_file old.told s.domain) input u → IsAnswered old.told (a_session s) (for_session s input) r) → LoadsRequest (a_session s) old new (flat (Ok r))
    unfolding reading_of
    session_read r f =
        loads (a_session s) old new (Ok r)
        (then_read (texts_in old.told s.domain s.script s.members) (λ t input. session_of input) old new new u (Ok r) h
        (λ input is. read_nothing new (for_session s input) r (f input is)))

    pub session_good : (l : Loaded) (w : Session) → w.names ≡ l.names → w.input ≡ l.input → w.workers ≡ s.workers → w.ordered ≡ s.ordered → w.reports ≡ s.reports → Judges u s.budget s.replans (Ok l) → LoadsRequest (a_session s) old new (Ok (work.Session w))
    session_good l w names input workers ordered reports judges =
        session_read (Ok (work.Session w))
        (λ texts is. (
          reports,
          (
            subst (λ (t : Table). IsInput s.budget s.replans texts w.input t) (sym names)
                (subst (λ (i : Input). IsInput s.budget s.replans texts i l.names) (sym input) (judges (read_file old.told s.domain) texts is).0),
            workers,
            ordered,
          ),
        ))

    -- memory runs out after all files are read
    pub session_starved : LoadsRequest (a_session s) old new (Err OutOfMemory)
    session_starved = starved (a_session s) old new h.failed h.same

    pub session_unjudged : (why : Failure Fault) → Judges u s.budget s.replans (Err why) → LoadsRequest (a_session s) old new (Err why)
    session_unjudged OutOfMemory judges = session_starved
    session_unjudged (Refused fault) judges =
        session_read (Err fault) (λ texts is. answered_fault old.told (a_session s) (for_session s texts) s.budget s.replans fault (judges (read_file old.told s.domain) texts is))

-- ---- an input and one file more, that of a plan or a journal

module _ (request : Request) (domain_file script_file last_file : List ℕ) (member_files : List (List ℕ)) (made : InputTexts → List ℕ → Material) (old : FilesView) where
  -- what the last text gives
  abbrev last_of : InputTexts → List ℕ → Reading Material
  last_of input last = gives [] (made input last)

  abbrev last_after : Texts → InputTexts → Reading Material
  last_after t input = and_then (read_file t last_file) (last_of input)

  -- what reading all of them comes to
  abbrev LoadsAll : FilesView → Result (Result Work Fault) (Failure Fault) → Type 0
  LoadsAll new answer =
      ReadsPart (and_then (texts_in old.told domain_file script_file member_files) (last_after old.told)) old new (IsAnswered old.told request) answer

  input_unread : (new : FilesView) (why : Failure Fault) → ReadsInput domain_file script_file member_files old new (Err why) → LoadsAll new (Err why)
  input_unread new why h = then_ended (texts_in old.told domain_file script_file member_files) (last_after old.told) old new why h

  module _ (middle new : FilesView) (u : Unjudged) (first : ReadsInput domain_file script_file member_files old middle (Ok u)) where
    last_unread : (why : Failure Fault) → ReadsText last_file middle new (Err why) → LoadsAll new (Err why)
    last_unread why h =
        then_read (texts_in old.told domain_file script_file member_files) last_after old middle new u (Err why) first
        (λ input is. then_ended (read_file middle.told last_file) (last_of input) middle new why h)

    last_read : (last : Vec ℕ) → ReadsText last_file middle new (Ok last) → (r : Result Work Fault) → ((input : InputTexts) → IsUnjudged (read_file old.told domain_file) input u → IsAnswered old.told request (made input last.items) r) → LoadsAll new (Ok r)
    last_read last h r f =
        then_read (texts_in old.told domain_file script_file member_files) last_after old middle new u (Ok r) first
        (λ input is. then_read (read_file middle.told last_file) (λ t x. last_of input x) middle new new last (Ok r) h
        (λ x e. read_nothing new (made input x) r (subst (λ (y : List ℕ). IsAnswered old.told request (made input y) r) e (f input is))))

-- ---- a plan that is to be validated

module _ (domain_file script_file plan_file : List ℕ) (old : FilesView) where
  abbrev validation_request : Request
  validation_request = a_validation domain_file script_file plan_file

  pub validation_unread : (new : FilesView) (why : Failure Fault) → ReadsInput domain_file script_file [] old new (Err why) → LoadsRequest validation_request old new (Err why)
  unfolding reading_of
  validation_unread new why h = loads validation_request old new (Err why) (input_unread validation_request domain_file script_file plan_file [] for_validation old new why h)

  module _ (middle new : FilesView) (u : Unjudged) (first : ReadsInput domain_file script_file [] old middle (Ok u)) where
    pub validation_unplanned : (why : Failure Fault) → ReadsText plan_file middle new (Err why) → LoadsRequest validation_request old new (Err why)
    unfolding reading_of
    validation_unplanned why h = loads validation_request old new (Err why) (last_unread validation_request domain_file script_file plan_file [] for_validation old middle new u first why h)

    module _ (plan : Vec ℕ) (h : ReadsText plan_file middle new (Ok plan)) where
      validation_read : (r : Result Work Fault) → ((input : InputTexts) → IsUnjudged (read_file old.told domain_file) input u → IsAnswered old.told validation_request (for_validation input plan.items) r) → LoadsRequest validation_request old new (flat (Ok r))
      unfolding reading_of
      validation_read r f = loads validation_request old new (Ok r) (last_read validation_request domain_file script_file plan_file [] for_validation old middle new u first plan h r f)

      pub validation_good : (l : Loaded) (w : Validation) → w.names ≡ l.names → w.input ≡ l.input → w.plan ≡ plan → Judges u 0 0 (Ok l) → LoadsRequest validation_request old new (Ok (work.Validation w))
      validation_good l w names input same judges =
          validation_read (Ok (work.Validation w))
          (λ texts is. (
            tt,
            (
              subst (λ (t : Table). IsInput 0 0 texts w.input t) (sym names) (subst (λ (i : Input). IsInput 0 0 texts i l.names) (sym input) (judges (read_file old.told domain_file) texts is).0),
              ap (λ (v : Vec ℕ). v.items) same,
            ),
          ))

      -- memory runs out after all files are read
      pub validation_starved : LoadsRequest validation_request old new (Err OutOfMemory)
      validation_starved = starved validation_request old new (h.failed ∙ first.failed) (h.same ∙ first.same)

      pub validation_unjudged : (why : Failure Fault) → Judges u 0 0 (Err why) → LoadsRequest validation_request old new (Err why)
      validation_unjudged OutOfMemory judges = validation_starved
      validation_unjudged (Refused fault) judges =
          validation_read (Err fault) (λ texts is. answered_fault old.told validation_request (for_validation texts plan.items) 0 0 fault (judges (read_file old.told domain_file) texts is))

-- ---- a plan that is searched for

module _ (domain_file script_file : List ℕ) (budget : ℕ) (old new : FilesView) where
  abbrev planning_request : Request
  planning_request = a_planning domain_file script_file budget

  -- what its texts give
  abbrev planning_of : InputTexts → Reading Material
  planning_of input = gives [] (for_planning budget input)

  pub planning_unread : (why : Failure Fault) → ReadsInput domain_file script_file [] old new (Err why) → LoadsRequest planning_request old new (Err why)
  unfolding reading_of
  planning_unread why h = loads planning_request old new (Err why) (then_ended (texts_in old.told domain_file script_file []) planning_of old new why h)

  module _ (u : Unjudged) (h : ReadsInput domain_file script_file [] old new (Ok u)) where
    planning_read : (r : Result Work Fault) → ((input : InputTexts) → IsUnjudged (read_file old.told domain_file) input u → IsAnswered old.told planning_request (for_planning budget input) r) → LoadsRequest planning_request old new (flat (Ok r))
    unfolding reading_of
    planning_read r f =
        loads planning_request old new (Ok r)
        (then_read (texts_in old.told domain_file script_file []) (λ t input. planning_of input) old new new u (Ok r) h
        (λ input is. read_nothing new (for_planning budget input) r (f input is)))

    pub planning_good : (l : Loaded) (w : Planning) → w.names ≡ l.names → w.input ≡ l.input → Judges u budget 0 (Ok l) → LoadsRequest planning_request old new (Ok (work.Planning w))
    planning_good l w names input judges =
        planning_read (Ok (work.Planning w))
        (λ texts is. (
          tt,
          subst (λ (t : Table). IsInput budget 0 texts w.input t) (sym names)
              (subst (λ (i : Input). IsInput budget 0 texts i l.names) (sym input) (judges (read_file old.told domain_file) texts is).0),
        ))

    -- memory runs out after all files are read
    pub planning_starved : LoadsRequest planning_request old new (Err OutOfMemory)
    planning_starved = starved planning_request old new h.failed h.same

    pub planning_unjudged : (why : Failure Fault) → Judges u budget 0 (Err why) → LoadsRequest planning_request old new (Err why)
    planning_unjudged OutOfMemory judges = planning_starved
    planning_unjudged (Refused fault) judges =
        planning_read (Err fault) (λ texts is. answered_fault old.told planning_request (for_planning budget texts) budget 0 fault (judges (read_file old.told domain_file) texts is))

-- ---- a replay

-- the text of a journal was read, and the settings to go by were found
pub journal_read : (words : Settings) (file : List ℕ) (old new : FilesView) (text : Vec ℕ) (own : Settings) → ReadsText file old new (Ok text) → GoesBy words text.items own → ReadsJournal words file old new (Ok (text, own))
journal_read words file old new text own h goes = record {
  given = (h.given.0, h.given.1, h.given.2, h.given.3, (h.given.4, subst (λ (t : List ℕ). GoesBy words t own) h.given.4 goes));
  ended = tt;
  failed = h.failed;
  same = h.same;
}

module _ (words : Settings) (file : List ℕ) (old new : FilesView) (journal : Vec ℕ × Settings) (h : ReadsJournal words file old new (Ok journal)) where
  pub journal_text : ReadsText file old new (Ok journal.0)
  journal_text = record { given = (h.given.0, h.given.1, h.given.2, h.given.3, h.given.4.0); ended = tt; failed = h.failed; same = h.same }

  pub journal_goes : GoesBy words journal.0.items journal.1
  journal_goes = subst (λ (t : List ℕ). GoesBy words t journal.1) (sym h.given.4.0) h.given.4.1

module _ (s : ReplayRequest) (old : FilesView) where
  pub replay_unread : (new : FilesView) (why : Failure Fault) → ReadsInput s.domain s.script s.members old new (Err why) → LoadsRequest (a_replay s) old new (Err why)
  unfolding reading_of
  replay_unread new why h = loads (a_replay s) old new (Err why) (input_unread (a_replay s) s.domain s.script s.journal s.members (for_replay s.budget s.replans) old new why h)

  module _ (middle new : FilesView) (u : Unjudged) (first : ReadsInput s.domain s.script s.members old middle (Ok u)) where
    pub replay_unrecorded : (why : Failure Fault) → ReadsText s.journal middle new (Err why) → LoadsRequest (a_replay s) old new (Err why)
    unfolding reading_of
    replay_unrecorded why h = loads (a_replay s) old new (Err why) (last_unread (a_replay s) s.domain s.script s.journal s.members (for_replay s.budget s.replans) old middle new u first why h)

    module _ (journal : Vec ℕ) (h : ReadsText s.journal middle new (Ok journal)) where
      replay_read : (r : Result Work Fault) → ((input : InputTexts) → IsUnjudged (read_file old.told s.domain) input u → IsAnswered old.told (a_replay s) (for_replay s.budget s.replans input journal.items) r) → LoadsRequest (a_replay s) old new (flat (Ok r))
      unfolding reading_of
      replay_read r f = loads (a_replay s) old new (Ok r) (last_read (a_replay s) s.domain s.script s.journal s.members (for_replay s.budget s.replans) old middle new u first journal h r f)

      pub replay_good : (t : Settings) → GoesBy (s.budget, s.replans) journal.items t → (l : Loaded) (w : Replay) → w.names ≡ l.names → w.input ≡ l.input → w.journal ≡ journal
          → w.migrates ≡ s.migrates → Judges u t.0 t.1 (Ok l) → LoadsRequest (a_replay s) old new (Ok (work.Replay w))
      replay_good t goes l w names input same migrates judges =
          replay_read (Ok (work.Replay w))
          (λ texts is. (
            migrates,
            (
              (
                t,
                goes,
                subst (λ (n : Table). IsInput t.0 t.1 texts w.input n) (sym names)
                    (subst (λ (i : Input). IsInput t.0 t.1 texts i l.names) (sym input) (judges (read_file old.told s.domain) texts is).0),
              ),
              ap (λ (v : Vec ℕ). v.items) same,
            ),
          ))

      -- memory runs out after all files are read
      pub replay_starved : LoadsRequest (a_replay s) old new (Err OutOfMemory)
      replay_starved = starved (a_replay s) old new (h.failed ∙ first.failed) (h.same ∙ first.same)

      pub replay_unjudged : (t : Settings) (why : Failure Fault) → Judges u t.0 t.1 (Err why) → LoadsRequest (a_replay s) old new (Err why)
      replay_unjudged t OutOfMemory judges = replay_starved
      replay_unjudged t (Refused fault) judges =
          replay_read (Err fault)
          (λ texts is. answered_fault old.told (a_replay s) (for_replay s.budget s.replans texts journal.items) t.0 t.1 fault (judges (read_file old.told s.domain) texts is))

-- ---- a generation

-- memory runs out
pub generation_starved : (carts : ℕ) → Generates carts (Err OutOfMemory)
generation_starved carts files = starved (a_generation carts) files files refl refl

module _ (carts : ℕ) (u : Unjudged) (is : IsGenerated carts u) where
  generation_read : (r : Result Work Fault) → ((told : Texts) → IsAnswered told (a_generation carts) (for_generation carts) r) → Generates carts (flat (Ok r))
  unfolding reading_of
  generation_read r f files = loads (a_generation carts) files files (Ok r) (read_nothing files (for_generation carts) r (f files.told))

  pub generation_good : (l : Loaded) (w : Generation) → w.carts ≡ carts → w.names ≡ l.names → w.input ≡ l.input → Judges u 20000 3 (Ok l) → Generates carts (Ok (work.Generation w))
  generation_good l w count names input judges =
      generation_read (Ok (work.Generation w))
      (λ told. (
        count,
        (
          subst (λ (t : Table). IsInput 20000 3 (generated carts) w.input t) (sym names)
              (subst (λ (i : Input). IsInput 20000 3 (generated carts) i l.names) (sym input) (judges (domain_in told (a_generation carts)) (generated carts) is).0),
          count,
        ),
      ))

  pub generation_unjudged : (why : Failure Fault) → Judges u 20000 3 (Err why) → Generates carts (Err why)
  generation_unjudged OutOfMemory judges = generation_starved carts
  generation_unjudged (Refused fault) judges =
      generation_read (Err fault)
      (λ told. answered_fault told (a_generation carts) (for_generation carts) 20000 3 fault (judges (domain_in told (a_generation carts)) (generated carts) is))

-- ---- a problem that is to be prepared

-- a domain that was read has few constants, each of them once and of a declared type
pub has_constants : (text : List ℕ) (d : Domain) (names : Table) → IsDomain text d names → HasConstants d
has_constants text d names is =
    let constants = (readings_are_well_formed first_names text d names is).constants in
    record { few = constants.few; apart = constants.apart; kinds = constants.kinds }

module _ (domain_file script_file : List ℕ) (old : FilesView) where
  -- what the script's text gives
  abbrev editing_of : List ℕ → Flat → Reading Material
  editing_of d flat = gives [] (for_editing d flat.lines)

  abbrev editing_after : Texts → List ℕ → Reading Material
  editing_after t d = and_then (script_in t script_file) (editing_of d)

  pub editing_undomained : (new : FilesView) (why : Failure Fault) → ReadsDomainFile domain_file old new (Err why) → LoadsRequest (an_editing domain_file script_file) old new (Err why)
  unfolding reading_of
  editing_undomained new why h = loads (an_editing domain_file script_file) old new (Err why) (then_ended (read_file old.told domain_file) (editing_after old.told) old new why h)

  module _ (middle : FilesView) (j : Judged) (first : ReadsDomainFile domain_file old middle (Ok j)) where
    pub editing_unscripted : (new : FilesView) (why : Failure Fault) → ReadsScript j.names script_file middle new (Err why) → LoadsRequest (an_editing domain_file script_file) old new (Err why)
    unfolding reading_of
    editing_unscripted new why h =
        loads (an_editing domain_file script_file) old new (Err why)
        (then_read (read_file old.told domain_file) editing_after old middle new j (Err why) first (λ d is. then_ended (script_in middle.told script_file) (editing_of d) middle new why h))

    module _ (new : FilesView) (script : Script) (second : ReadsScript j.names script_file middle new (Ok script)) where
      editing_read : (r : Result Work Fault) → ((d : List ℕ) (flat : Flat) → IsJudged d j → IsWordedFrom j.names flat.lines script → IsAnswered old.told (an_editing domain_file script_file) (for_editing d flat.lines) r) → LoadsRequest (an_editing domain_file script_file) old new (flat (Ok r))
      unfolding reading_of
      editing_read r f =
          loads (an_editing domain_file script_file) old new (Ok r)
          (then_read (read_file old.told domain_file) editing_after old middle new j (Ok r) first
          (λ d is. then_read (script_in middle.told script_file) (λ t flat. editing_of d flat) middle new new script (Ok r) second
          (λ flat are. read_nothing new (for_editing d flat.lines) r (f d flat is are))))

      pub editing_good : (d : Domain) → j.domain ≡ Ok d → (e : Editing) → e.names ≡ script.names → e.domain ≡ d → e.lines.items ≡ script.lines.items → e.words.items ≡ script.words.items → LoadsRequest (an_editing domain_file script_file) old new (Ok (work.Editing e))
      editing_good d good e names same lines words =
          editing_read (Ok (work.Editing e))
          (λ text flat is are. (
            tt,
            record {
              between = j.names;
              read = subst (λ (x : Domain). IsDomain text x j.names) (sym same) (judged_domain text j d good is);
              lines = subst (λ (t : Table). IsScript j.names flat.lines e.lines.items t) (sym names) (subst (λ (ls : List Line). IsScript j.names flat.lines ls script.names) (sym lines) are.0.read);
              words = words ∙ are.1;
            },
          ))

      pub editing_bad : (fault : Fault) → j.domain ≡ Err fault → LoadsRequest (an_editing domain_file script_file) old new (Err (Refused fault))
      editing_bad fault bad =
          editing_read (Err fault)
          (λ text flat is are. judged_fault old.told j.names (an_editing domain_file script_file) (for_editing text flat.lines) fault (subst (IsJudgedAs text j.names) bad is) (told_judged domain_file old middle j (Err fault) bad first))

      -- memory runs out after all files are read
      pub editing_starved : LoadsRequest (an_editing domain_file script_file) old new (Err OutOfMemory)
      editing_starved = starved (an_editing domain_file script_file) old new (second.failed ∙ first.failed) (second.same ∙ first.same)

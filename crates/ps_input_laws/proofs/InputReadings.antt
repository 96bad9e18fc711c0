-- The texts of an input, whose script consists of command lines, are read as an input or have a fault.
use Rattle.std.proofs.Common.{◌≡◌, ◌⊎◌, ℕ, ◌≤◌, false, Some, None, Result, Ok, Err, List, [], ◌∷◌, ◌++◌, All, append_assoc, length, refl, sym, subst, inl, inr, arith}
use Rattle.std.proofs.lemmas.Bool.{cases_Bool}
use Rattle.std.proofs.lemmas.List.{append-nil}
use Rattle.ps_world.specs.Names.{Table, name_text}
use Rattle.ps_world.specs.declared.domains.Domain.{Domain}
use Rattle.ps_world.specs.declared.names.Name.{Name}
use Rattle.ps_machine.specs.declared.inputs.Input.{Input}
use Rattle.ps_machine.specs.declared.inputs.Line.{Line}
use Rattle.ps_machine.specs.declared.members.Member.{Member}
use Rattle.ps_members.specs.Members.{IsMember}
use Rattle.ps_members.specs.declared.refusals.ScriptRefusal.{ScriptRefusal}
use Rattle.ps_pddl.specs.Reading.{IsRead}
use Rattle.ps_pddl.specs.declared.refusals.DomainRefusal.{DomainRefusal}
use Rattle.ps_reading_laws.proofs.Cases.{found}
use Rattle.ps_reading_laws.proofs.DomainReadings.{every_text_is_read}
use Rattle.ps_reading_laws.proofs.MemberReadings.{every_member_is_read}
use Rattle.ps_words.specs.Words.{most_budget, most_replans}
use Rattle.ps_inputs.specs.DomainFaults.{cause_text}
use Rattle.ps_inputs.specs.Input.{InputTexts, IsBegun, IsDomain, IsInput, first_names, texts_of}
use Rattle.ps_inputs.specs.Members.{AreMembers, IsNoMember, NamedText, first_repeated, is_crowd, member_cause}
use Rattle.ps_inputs.specs.Members.AreMembers.{nobody, one_more}
use Rattle.ps_inputs.specs.Reading.{most_lines}
use Rattle.ps_inputs.specs.Scripts.{IsScript}
use Rattle.ps_input_laws.specs.Laws.{IsReadInput}
use Rattle.ps_input_laws.specs.Readings.{AreLimitedOrFaulty, AreReadOrFaulty, EveryInputIsRead, EveryRequestIsRead, EverySessionIsRead, IsCommandLine}
use Rattle.ps_input_laws.specs.Readings.AreFaulty.{no_domain, no_member, crowd, twice}
use Rattle.ps_input_laws.proofs.FlattenedScripts.{scripts_of_inputs_are_few, scripts_of_requests_are_commands}
use Rattle.ps_input_laws.proofs.ScriptReadings.{every_script_is_read, lines_few}

-- ---- members

module _ (d : Domain) (first : Table) where
  -- texts are read as members, or the first that is none is this
  abbrev AreMembersOrNot : List NamedText → Type 0
  AreMembersOrNot texts =
      ((ms : List Member) × (after : Table) × AreMembers d first texts ms after)
      ⊎ ((file : List ℕ) × (cause : List ℕ) × IsNoMember d first texts file cause)

  module _ (before : List NamedText) (ms : List Member) (table : Table) (are : AreMembers d first before ms table) (one : NamedText) (rest : List NamedText) where
    -- the members before a text, that of the text, and those of the rest
    member_next : (read : Result Member ScriptRefusal) (after : Table) → IsMember d table one.text read after → ((more : List Member) (names : Table) → AreMembers d first (before ++ one ∷ []) more names → AreMembersOrNot ((before ++ one ∷ []) ++ rest)) → AreMembersOrNot (before ++ one ∷ rest)
    member_next (Ok m) after is go =
        subst AreMembersOrNot (append_assoc before (one ∷ []) rest) (go (ms ++ m ∷ []) after (one_more before ms table one m after are is))
    member_next (Err refusal) after is go = inr (
      one.file,
      member_cause refusal,
      record {
        before = before;
        members = ms;
        table = table;
        read = are;
        one = one;
        rest = rest;
        parts = refl;
        named = refl;
        refusal = refusal;
        after = after;
        fault = is;
        said = refl;
      },
    )

  members_from : (rest before : List NamedText) (ms : List Member) (table : Table) → AreMembers d first before ms table → AreMembersOrNot (before ++ rest)
  members_from [] before ms table are = inl (ms, table, subst (λ (texts : List NamedText). AreMembers d first texts ms table) (sym (append-nil before)) are)
  members_from (one ∷ rest) before ms table are =
      let read = every_member_is_read d table one.text in
      member_next before ms table are one rest read.0 read.1 read.2 (λ more names were. members_from rest (before ++ one ∷ []) more names were)

  members_or_not : (texts : List NamedText) → AreMembersOrNot texts
  members_or_not texts = members_from texts [] [] first nobody

-- ---- inputs

module _ (texts : InputTexts) (d : Domain) (between named : Table) (given : List Line) (domain : IsDomain texts.domain d between) (lines : IsScript between texts.script given named) where
  begun : IsBegun texts d named
  begun = record { between = between; read = domain; given = given; lines = lines }

  module _ (ms : List Member) (names : Table) (members : AreMembers d named texts.members ms names) where
    whole : is_crowd ms ≡ false → first_repeated ms ≡ None → AreReadOrFaulty texts
    whole few apart = inl (λ budget replans. (
      record { domain = d; members = ms; lines = given; budget = budget; replans = replans },
      names,
      record {
        between = between;
        read = domain;
        named = named;
        lines = lines;
        members = members;
        few = few;
        apart = apart;
        bounded = refl;
        renewed = refl;
      },
    ))

    repeats_name : (again : Name) → is_crowd ms ≡ false → first_repeated ms ≡ Some again → AreReadOrFaulty texts
    repeats_name again few repeats =
        inr (twice d named (name_text names again) begun (record { members = ms; after = names; read = members; few = few; again = again; repeats = repeats; said = refl }))

    together : AreReadOrFaulty texts
    together =
        elim (cases_Bool (is_crowd ms)) [
          | inl many ↦ inr (crowd d named begun (record { members = ms; after = names; read = members; many = many }))
          | inr few ↦ elim (found (first_repeated ms)) [
            | inl again ↦ repeats_name again.0 few again.1
            | inr apart ↦ whole few apart
          ]
        ]

  with_members : AreReadOrFaulty texts
  with_members =
      elim (members_or_not d named texts.members) [
        | inl are ↦ together are.0 are.1 are.2
        | inr none ↦ inr (no_member d named none.0 none.1 begun none.2)
      ]

with_domain : (texts : InputTexts) → All IsCommandLine texts.script → (read : Result Domain DomainRefusal) (after : Table) → IsRead first_names texts.domain read after → AreReadOrFaulty texts
with_domain texts are (Ok d) after is =
    let script = every_script_is_read after texts.script are in
    with_members texts d after script.1 script.0 is script.2
with_domain texts are (Err refusal) after is =
    inr (no_domain (cause_text after refusal) (record { refusal = refusal; after = after; read = is; said = refl }))

pub every_input_is_read : EveryInputIsRead
every_input_is_read texts are =
    let domain = every_text_is_read first_names texts.domain in
    with_domain texts are domain.0 domain.1 domain.2

pub every_request_is_read : EveryRequestIsRead
every_request_is_read files request used m e =
    every_input_is_read (texts_of m) (scripts_of_requests_are_commands files request used m e)

-- ---- sessions

module _ (texts : InputTexts) (budget replans : ℕ) (some : 1 ≤ budget) (bounded : budget ≤ most_budget) (seldom : replans ≤ most_replans) (short : length texts.script ≤ most_lines) where
  -- an input of few lines is within the limits of a session
  within_limits : (i : Input) (table : Table) → IsInput budget replans texts i table → IsReadInput table i
  within_limits i table is = record {
    budget = budget;
    replans = replans;
    texts = texts;
    read = is;
    some_budget = some;
    bounded_budget = bounded;
    few_replans = seldom;
    few_lines = omega (arith, short, lines_few is.between texts.script i.lines is.named is.lines);
  }

  limited : AreReadOrFaulty texts → AreLimitedOrFaulty budget replans texts
  limited (inl read) =
      let is = read budget replans in
      inl (is.0, is.1, is.2, within_limits is.0 is.1 is.2)
  limited (inr fault) = inr fault

pub every_session_is_read : EverySessionIsRead
every_session_is_read files domain script members budget replans used texts some bounded seldom e =
    let few = scripts_of_inputs_are_few files domain script members used texts e in
    limited texts budget replans some bounded seldom few.1 (every_input_is_read texts few.0)

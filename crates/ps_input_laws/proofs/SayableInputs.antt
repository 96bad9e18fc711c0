-- What stands in an input that is read can be said.
use Rattle.std.proofs.Common.{ℕ, Ok, List, [], ◌∷◌, All}
use Rattle.std.proofs.lemmas.List.Elements.{All-nil, All-cons, All-append, All-weaker}
use Rattle.ps_world.specs.Names.{Table}
use Rattle.ps_world.specs.declared.domains.Domain.{Domain}
use Rattle.ps_machine.specs.declared.inputs.Input.{Input}
use Rattle.ps_machine.specs.declared.members.Member.{Member}
use Rattle.ps_text.specs.Names.{AreNames, Keeps}
use Rattle.ps_text.proofs.Kept.{kept_along}
use Rattle.ps_history_laws.specs.Inputs.{IsSayableMember}
use Rattle.ps_history_laws.proofs.Kept.{domain-in, member-in}
use Rattle.ps_history_laws.proofs.ReadDomains.{domains_are_sayable}
use Rattle.ps_history_laws.proofs.ReadMembers.{members_are_sayable}
use Rattle.ps_history_laws.proofs.ReadUnits.{Follows}
use Rattle.ps_inputs.specs.Input.{InputTexts, IsInput, first_names}
use Rattle.ps_inputs.specs.Members.{AreMembers, NamedText}
use Rattle.ps_inputs.specs.Members.AreMembers.{nobody, one_more}
use Rattle.ps_inputs.proofs.TableNames.{AreNames-first, after_read}
use Rattle.ps_input_laws.specs.Laws.{InputsAreSayable}
use Rattle.ps_input_laws.proofs.SayableLines.{lines_later, script_said}
use Rattle.ps_input_laws.proofs.TablesFollow.{member_follows, members_follow, script_follows}

-- members can be said with each table that keeps the names
members_later : (t u : Table) → Keeps t u → (ms : List Member) → All (IsSayableMember t) ms → All (IsSayableMember u) ms
members_later t u keeps ms h = All-weaker (IsSayableMember t) (IsSayableMember u) (member-in t u keeps) ms h

-- members that are read can be said with the table after their texts
members_said : (d : Domain) (first : Table) (texts : List NamedText) (ms : List Member) (after : Table) → AreNames first → AreMembers d first texts ms after → All (IsSayableMember after) ms
members_said d first _ _ _ known nobody = All-nil (IsSayableMember first)
members_said d first _ _ after known (one_more before ms table one m _ are is) =
    let names = (members_follow d first before ms table known are).names in
    let follows = member_follows d table one.text m after names is in
    let earlier = members_later table after follows.keeps ms (members_said d first before ms table known are) in
    All-append (IsSayableMember after) ms (m ∷ []) earlier
    (All-cons (IsSayableMember after) m [] (members_are_sayable d table one.text m after names is) (All-nil (IsSayableMember after)))

module _ (budget replans : ℕ) (texts : InputTexts) (i : Input) (names : Table) (is : IsInput budget replans texts i names) where
  -- the table after the domain is one of names
  names_between : AreNames is.between
  names_between = after_read first_names is.between texts.domain (Ok i.domain) is.read AreNames-first

  -- that after the script follows it
  after_lines : Follows is.between is.named
  after_lines = script_follows is.between texts.script i.lines is.named names_between is.lines

  -- and that after the members follows that one
  after_members : Follows is.named names
  after_members = members_follow i.domain is.named texts.members i.members names after_lines.names is.members

  -- so the table after an input is one of names
  pub names_after_input : AreNames names
  names_after_input = after_members.names

pub inputs_are_sayable : InputsAreSayable
inputs_are_sayable budget replans texts i names is =
    let known = names_between budget replans texts i names is in
    let lines = after_lines budget replans texts i names is in
    let members = after_members budget replans texts i names is in
    let keeps = kept_along is.between is.named names lines.keeps members.keeps in
    let domain = domains_are_sayable first_names texts.domain i.domain is.between AreNames-first is.read in
    record {
      domain = domain-in is.between names keeps i.domain domain;
      lines = lines_later is.named names members.keeps i.lines (script_said is.between texts.script i.lines is.named known is.lines);
      members = members_said i.domain is.named texts.members i.members names lines.names is.members;
    }

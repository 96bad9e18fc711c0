-- The members that texts are, or what is at fault with the texts.
use Rattle.std.specs.Prelude.{◌≡◌, ℕ, Bool, true, false, ◌||◌, nat_lt, if◌then◌else◌, Option, Some, None, Ok, Err, List, [], ◌∷◌, ◌++◌, codes, filter_map, length}
use Rattle.std.specs.List.{list_any}
use Rattle.ps_world.specs.Names.{Table, name_text, same_name}
use Rattle.ps_world.specs.declared.domains.Domain.{Domain}
use Rattle.ps_world.specs.declared.names.Name.{Name}
use Rattle.ps_machine.specs.Texts.{line_cause_text}
use Rattle.ps_machine.specs.declared.members.Member.{Member}
use Rattle.ps_rules.specs.Members.{as_observer, as_performer}
use Rattle.ps_rules.specs.Sound.{member_name}
use Rattle.ps_members.specs.Members.{IsMember}
use Rattle.ps_members.specs.declared.refusals.ScriptRefusal.{ScriptRefusal}
use Rattle.ps_members.specs.declared.refusals.ScriptRefusal.TheVariants.{Line, NoAction, Arity, NoFinish, Limit}
use Rattle.ps_inputs.specs.DomainFaults.{at_place, at_place_with}
use Rattle.ps_inputs.specs.declared.faults.Fault.{Fault}
use Rattle.ps_inputs.specs.declared.faults.Fault.TheVariants.{NoMember, Crowd, Twice}

-- the text of a member, with the name of its file
pub record NamedText : Type 0 where
  pub file : List ℕ
  pub text : List ℕ

-- Texts, read one after another, are these members of a domain: the first is read with the first table, each other one with the table
-- after the text before it, and the last table is that after the last text.
pub data AreMembers (d : Domain) (first : Table) : List NamedText → List Member → Table → Type 0 where
  nobody : AreMembers d first [] [] first
  one_more : (before : List NamedText) (members : List Member) (table : Table) (one : NamedText) (m : Member) (after : Table) → AreMembers d first before members table → IsMember d table one.text (Ok m) after → AreMembers d first (before ++ one ∷ []) (members ++ m ∷ []) after

-- ---- who there may be

-- how many performers there are at most
abbrev pub most_performers : ℕ
most_performers = 64

-- how many observers there are at most
abbrev pub most_observers : ℕ
most_observers = 16

-- there are more performers or observers than there may be
abbrev pub is_crowd : List Member → Bool
is_crowd ms =
    nat_lt most_performers (length (filter_map as_performer ms)) || nat_lt most_observers (length (filter_map as_observer ms))

-- one of these members has this name
abbrev pub has_member : Name → List Member → Bool
has_member n ms = list_any (λ m. same_name (member_name m) n) ms

-- the name of the first of the later members that a member before it has
abbrev pub repeated : List Member → List Member → Option Name
repeated before [] = None
repeated before (m ∷ later) =
    if has_member (member_name m) before then Some (member_name m) else repeated (before ++ m ∷ []) later

-- the name of the first member that an earlier one has
abbrev pub first_repeated : List Member → Option Name
first_repeated ms = repeated [] ms

-- ---- what is at fault

-- why a text is no member, with the line
abbrev pub member_cause : ScriptRefusal → List ℕ
member_cause (Line n cause) = at_place_with (codes "Line") n (line_cause_text cause)
member_cause (NoAction n) = at_place (codes "NoAction") n
member_cause (Arity n) = at_place (codes "Arity") n
member_cause (NoFinish n) = at_place (codes "NoFinish") n
member_cause (Limit n) = at_place (codes "Limit") n

-- The first of the texts that is no member is that of this file, for the cause that these words say.
pub record IsNoMember (d : Domain) (first : Table) (texts : List NamedText) (file cause : List ℕ) : Type 0 where
  pub before : List NamedText
  pub members : List Member
  pub table : Table
  pub read : AreMembers d first before members table
  pub one : NamedText
  pub rest : List NamedText
  pub parts : texts ≡ before ++ one ∷ rest
  pub named : file ≡ one.file
  pub refusal : ScriptRefusal
  pub after : Table
  pub fault : IsMember d table one.text (Err refusal) after
  pub said : cause ≡ member_cause refusal

-- The members are more than there may be.
pub record AreCrowd (d : Domain) (first : Table) (texts : List NamedText) : Type 0 where
  pub members : List Member
  pub after : Table
  pub read : AreMembers d first texts members after
  pub many : is_crowd members ≡ true

-- The members aren't too many, but this is the text of the first name that an earlier one has.
pub record IsTwice (d : Domain) (first : Table) (texts : List NamedText) (name : List ℕ) : Type 0 where
  pub members : List Member
  pub after : Table
  pub read : AreMembers d first texts members after
  pub few : is_crowd members ≡ false
  pub again : Name
  pub repeats : first_repeated members ≡ Some again
  pub said : name ≡ name_text after again

-- What is at fault with the texts of members: the first that is none; then that there are too many; then that a name stands twice.
abbrev pub AreAtFault : Domain → Table → List NamedText → Fault → Type 0
AreAtFault d first texts (NoMember file cause) = IsNoMember d first texts file.items cause.items
AreAtFault d first texts Crowd = AreCrowd d first texts
AreAtFault d first texts (Twice name) = IsTwice d first texts name.items
AreAtFault d first texts fault = ⊥

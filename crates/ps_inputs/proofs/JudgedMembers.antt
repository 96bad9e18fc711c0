-- The members that texts are, text by text.
use Rattle.std.proofs.Common.{◌≡◌, ℕ, ◌+◌, ◌<◌, Result, Ok, Err, List, [], ◌∷◌, ◌++◌, drop, length, map, take, slice_index_or, sym, ap, ◌∙◌, subst}
use Rattle.std.proofs.Math.Seq.{take-length}
use Rattle.std.proofs.lemmas.List.{drop_more, map-append, take-append-drop, take_more}
use Rattle.std.specs.Global.{Vec}
use Rattle.ps_world.specs.Names.{Table}
use Rattle.ps_world.specs.declared.domains.Domain.{Domain}
use Rattle.ps_world.specs.declared.failures.Failure.{Failure}
use Rattle.ps_world.specs.declared.failures.Failure.TheVariants.{Refused, OutOfMemory}
use Rattle.ps_machine.specs.declared.members.Member.{Member}
use Rattle.ps_members.specs.Members.{IsMember}
use Rattle.ps_inputs.specs.Members.{AreMembers, NamedText}
use Rattle.ps_inputs.specs.Members.AreMembers.{one_more}
use Rattle.ps_inputs.specs.Parts.{JudgesMembers, MayBeTogether, ReadsAll, ReadsMember, named}
use Rattle.ps_inputs.specs.declared.faults.Fault.{Fault}
use Rattle.ps_inputs.specs.declared.faults.Fault.TheVariants.{Usage, NoDomain, NoMember, Crowd, Twice, TooLong, Lines, Unread}
use Rattle.ps_inputs.specs.declared.reading.members.MemberText.{MemberText}

-- the texts before a place
abbrev pub texts_before : List MemberText → ℕ → List NamedText
texts_before texts i = map named (take i texts)

texts_more : (texts : List MemberText) (i : ℕ) (d one : MemberText) → i < length texts → one ≡ slice_index_or texts i d → texts_before texts (i + 1) ≡ texts_before texts i ++ named one ∷ []
texts_more texts i d one lt here =
    ap (map named) (take_more texts i d lt ∙ ap (λ (t : MemberText). take i texts ++ t ∷ []) (sym here)) ∙ map-append named (take i texts) (one ∷ [])

-- all texts are those before a place, that at the place, and those after it
texts_parts : (texts : List MemberText) (i : ℕ) (d one : MemberText) → i < length texts → one ≡ slice_index_or texts i d → map named texts ≡ texts_before texts i ++ named one ∷ map named (drop (i + 1) texts)
texts_parts texts i d one lt here =
    ap (map named) (sym (take-append-drop i texts) ∙ ap (λ (ts : List MemberText). take i texts ++ ts) (drop_more texts i d lt ∙ ap (λ (t : MemberText). t ∷ drop (i + 1) texts) (sym here)))
    ∙ map-append named (take i texts) (one ∷ drop (i + 1) texts)

module _ (d : Domain) (first table after : Table) (texts : List MemberText) (i : ℕ) (other one : MemberText) (lt : i < length texts) (here : one ≡ slice_index_or texts i other) (members : List Member) (before : AreMembers d first (texts_before texts i) members table) where
  -- the text at a place is a member
  pub member_more : (answer : Result Member (Failure Fault)) (m : Member) (more : List Member) → ReadsMember d table (named one) after answer → answer ≡ Ok m → more ≡ members ++ m ∷ [] → AreMembers d first (texts_before texts (i + 1)) more after
  member_more answer m more reads is pushed =
      let read : IsMember d table (named one).text (Ok m) after = subst (ReadsMember d table (named one) after) is reads in
      subst (λ (ms : List Member). AreMembers d first (texts_before texts (i + 1)) ms after) (sym pushed)
      (subst (λ (ts : List NamedText). AreMembers d first ts (members ++ m ∷ []) after) (sym (texts_more texts i other one lt here))
      (one_more (texts_before texts i) members table (named one) m after before read))

  no_member : (why : Failure Fault) → ReadsMember d table (named one) after (Err why) → ReadsAll d first (map named texts) after (Err why)
  no_member (Refused Usage) h = h
  no_member (Refused (NoDomain cause)) h = h
  no_member (Refused (NoMember file cause)) h = record {
    before = texts_before texts i;
    members = members;
    table = table;
    read = before;
    one = named one;
    rest = map named (drop (i + 1) texts);
    parts = texts_parts texts i other one lt here;
    named = h.2;
    refusal = h.0;
    after = after;
    fault = h.1;
    said = h.3;
  }
  no_member (Refused Crowd) h = h
  no_member (Refused (Twice name)) h = h
  no_member (Refused (TooLong file)) h = h
  no_member (Refused Lines) h = h
  no_member (Refused (Unread file)) h = h
  no_member OutOfMemory h = tt

  -- the text at a place is none
  pub member_fault : (answer : Result Member (Failure Fault)) (why : Failure Fault) → ReadsMember d table (named one) after answer → answer ≡ Err why → ReadsAll d first (map named texts) after (Err why)
  member_fault answer why reads is = no_member why (subst (ReadsMember d table (named one) after) is reads)

-- all texts are members
pub members_whole : (d : Domain) (first after : Table) (texts : List MemberText) (i : ℕ) (all : Vec Member) → i ≡ length texts → AreMembers d first (texts_before texts i) all.items after → ReadsAll d first (map named texts) after (Ok all)
members_whole d first after texts i all count are =
    subst (λ (ts : List MemberText). AreMembers d first (map named ts) all.items after) (ap (λ (n : ℕ). take n texts) count ∙ take-length texts) are

-- ---- together

-- a fault of one text is one of all
pub each_at_fault : (d : Domain) (first after : Table) (texts : List NamedText) (why : Failure Fault) → ReadsAll d first texts after (Err why) → JudgesMembers d first texts after (Err why)
each_at_fault d first after texts (Refused Usage) h = h
each_at_fault d first after texts (Refused (NoDomain cause)) h = h
each_at_fault d first after texts (Refused (NoMember file cause)) h = h
each_at_fault d first after texts (Refused Crowd) h = absurd h
each_at_fault d first after texts (Refused (Twice name)) h = absurd h
each_at_fault d first after texts (Refused (TooLong file)) h = h
each_at_fault d first after texts (Refused Lines) h = h
each_at_fault d first after texts (Refused (Unread file)) h = h
each_at_fault d first after texts OutOfMemory h = tt

-- members who may not be together are at fault
pub together_fault : (d : Domain) (first after : Table) (texts : List NamedText) (ms : List Member) (why : Failure Fault) → AreMembers d first texts ms after → MayBeTogether after ms (Err why) → JudgesMembers d first texts after (Err why)
together_fault d first after texts ms (Refused Usage) are h = h
together_fault d first after texts ms (Refused (NoDomain cause)) are h = h
together_fault d first after texts ms (Refused (NoMember file cause)) are h = absurd h
together_fault d first after texts ms (Refused Crowd) are h = record { members = ms; after = after; read = are; many = h }
together_fault d first after texts ms (Refused (Twice name)) are h = record {
  members = ms;
  after = after;
  read = are;
  few = h.0;
  again = h.1;
  repeats = h.2;
  said = h.3;
}
together_fault d first after texts ms (Refused (TooLong file)) are h = h
together_fault d first after texts ms (Refused Lines) are h = h
together_fault d first after texts ms (Refused (Unread file)) are h = h
together_fault d first after texts ms OutOfMemory are h = tt

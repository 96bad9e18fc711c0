-- The members of an input that is read are sound.
use Rattle.std.proofs.Common.{◌≡◌, ◌≤◌, false, nat_lt, List, [], ◌∷◌, All, filter_map, length}
use Rattle.std.proofs.lemmas.List.Elements.{All-nil, All-cons, All-append}
use Rattle.std.proofs.lemmas.Bool.{or_parts, ltb-false}
use Rattle.ps_world.specs.Names.{Table}
use Rattle.ps_world.specs.declared.domains.Domain.{Domain}
use Rattle.ps_machine.specs.declared.members.Member.{Member}
use Rattle.ps_rules.specs.Members.{as_observer, as_performer}
use Rattle.ps_members.specs.Laws.{IsWholeMember, MembersAreWhole}
use Rattle.ps_inputs.specs.Members.{AreMembers, NamedText, is_crowd}
use Rattle.ps_inputs.specs.Members.AreMembers.{nobody, one_more}
use Rattle.ps_inputs.specs.Laws.{MembersAreSound}
use Rattle.ps_inputs.proofs.Together.{names_differ}

-- members who aren't a crowd are few
pub few_members : (ms : List Member) → is_crowd ms ≡ false → (length (filter_map as_performer ms) ≤ 64) × (length (filter_map as_observer ms) ≤ 16)
few_members ms h =
    let few = or_parts (nat_lt 64 (length (filter_map as_performer ms))) (nat_lt 16 (length (filter_map as_observer ms))) h in
    (ltb-false 64 (length (filter_map as_performer ms)) few.0, ltb-false 16 (length (filter_map as_observer ms)) few.1)

each_whole : MembersAreWhole → (d : Domain) (first : Table) (texts : List NamedText) (ms : List Member) (after : Table) → AreMembers d first texts ms after → All IsWholeMember ms
each_whole law d first _ _ _ nobody = All-nil IsWholeMember
each_whole law d first _ _ after (one_more before members table one m _ are is) =
    All-append IsWholeMember members (m ∷ []) (each_whole law d first before members table are)
    (All-cons IsWholeMember m [] (law d table one.text m after is) (All-nil IsWholeMember))

pub members_are_sound : MembersAreWhole → MembersAreSound
members_are_sound law budget replans texts i names is =
    let few = few_members i.members is.few in
    record {
      few_performers = few.0;
      few_observers = few.1;
      names_differ = names_differ i.members is.apart;
      whole = each_whole law i.domain is.named texts.members i.members names is.members;
    }

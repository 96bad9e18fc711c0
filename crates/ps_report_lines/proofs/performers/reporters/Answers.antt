use Rattle.std.proofs.Common.{◌≡◌, ℕ, ◌+◌, ◌<◌, List, [], ◌∷◌, ◌++◌, filter_map, get_or, length, map, take, ap, sym, ◌∙◌, arith}
use Rattle.std.proofs.lemmas.List.{map-append, take_more}
use Rattle.std.proofs.lemmas.List.Elements.{filter_map-append}
use Rattle.ps_world.specs.declared.names.Name.{Name}
use Rattle.ps_machine.specs.declared.members.Member.{Member}
use Rattle.ps_machine.specs.declared.members.Performer.{Performer}
use Rattle.ps_rules.specs.Members.{as_performer}
use Rattle.ps_report_lines.proofs.performers.reporters.Goals as goal

-- the names of the performers among these members
abbrev names_of : List Member → List Name
names_of ms = map (λ (p : Performer). p.name) (filter_map as_performer ms)

-- one member more
one-more : (ms : List Member) (k : ℕ) (m : Member) → k < length ms → get_or ms k m ≡ m → names_of (take (k + 1) ms) ≡ names_of (take k ms) ++ names_of (m ∷ [])
one-more ms k m h same =
    ap names_of (take_more ms k m h ∙ ap (λ y. take k ms ++ y ∷ []) same)
    ∙ ap (map (λ (p : Performer). p.name)) (filter_map-append as_performer (take k ms) (m ∷ []))
    ∙ map-append (λ (p : Performer). p.name) (filter_map as_performer (take k ms)) (filter_map as_performer (m ∷ []))

pub loop-member-preserved : goal.loop-member-preserved
loop-member-preserved c =
    c.in_ok-push_reporter.ensures
    ∙ ap (λ (ns : List Name). ns ++ names_of (c.member-item.result ∷ [])) c.loop-member.invariant
    ∙ sym (one-more c.as_slice-member-items.result.now c.loop-member.member-index c.member-item.result (omega arith) (sym c.member-item.is))

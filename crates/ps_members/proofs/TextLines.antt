-- What a text is, one line after another.
use Rattle.std.proofs.Common.{◌≡◌, ℕ, suc, ◌+◌, ◌<◌, Bool, true, false, List, [], ◌∷◌, drop, length, slice_index_or, slice_range, Result, Ok, Err, sym, ◌∙◌, ap, subst, arith}
use Rattle.std.proofs.lemmas.List.{drop_all}
use Rattle.ps_world.specs.Failures.{Gives}
use Rattle.ps_world.specs.Names.{Table}
use Rattle.ps_world.specs.declared.domains.Domain.{Domain}
use Rattle.ps_world.specs.declared.failures.Failure.{Failure}
use Rattle.ps_world.specs.declared.failures.Failure.TheVariants.{Refused, OutOfMemory}
use Rattle.ps_machine.specs.declared.inputs.LineCause.{LineCause}
use Rattle.ps_machine.specs.declared.members.Member.{Member}
use Rattle.ps_text.specs.ScriptLines.{script_lines}
use Rattle.ps_text.specs.Words.{pieces}
use Rattle.ps_text.specs.declared.spans.Span.{Span}
use Rattle.ps_text.proofs.Pieces.{pieces_more}
use Rattle.ps_script.specs.Lines.{is_nothing}
use Rattle.ps_members.specs.Answers.{OnAnswer}
use Rattle.ps_members.specs.Lines.{IsSaid}
use Rattle.ps_members.specs.Members.{AreLines, IsMember, Leads, at_end}
use Rattle.ps_members.specs.Members.AreLines.{none_left, fault, good}
use Rattle.ps_members.specs.Members.Leads.{nothing, bad, said}
use Rattle.ps_members.specs.Moves.{moved}
use Rattle.ps_members.specs.declared.places.Place.{Place}
use Rattle.ps_members.specs.declared.places.Place.TheVariants.{Beginning}
use Rattle.ps_members.specs.declared.places.Said.{Said}
use Rattle.ps_members.specs.declared.refusals.ScriptRefusal.{ScriptRefusal}
use Rattle.ps_members.specs.declared.refusals.ScriptRefusal.TheVariants.{Line}

-- ---- one line

pub nothing_leads : (d : Domain) (n : ℕ) (at : Place) (table : Table) (line : List ℕ) (b : Bool) → b ≡ is_nothing line → b ≡ true → Leads d n at table line (Ok at) table
nothing_leads d n at table line b e t = nothing (sym e ∙ t)

pub bad_leads : (d : Domain) (n : ℕ) (at : Place) (table after : Table) (line : List ℕ) (b : Bool) (answer : Result Said (Failure LineCause)) (failure : Failure LineCause) (c e : LineCause) → b ≡ is_nothing line → b ≡ false → OnAnswer (λ r. IsSaid at table line r after) answer → answer ≡ Err failure → failure ≡ Refused c → e ≡ c → Leads d n at table line (Err (Line n e)) after
bad_leads d n at table after line b answer failure c e i f is was why same =
    let here : IsSaid at table line (Err e) after = subst (OnAnswer (λ r. IsSaid at table line r after)) (was ∙ ap Err (why ∙ ap Refused (sym same))) is in
    bad e after (sym i ∙ f) here

leads_on : (d : Domain) (n : ℕ) (at : Place) (table after : Table) (line : List ℕ) (s : Said) (next : Result Place (Failure ScriptRefusal)) → is_nothing line ≡ false → IsSaid at table line (Ok s) after → Gives (λ place. place) next (moved d n at s) → OnAnswer (λ r. Leads d n at table line r after) next
leads_on d n at table after line s (Ok place) e is gives = subst (λ (x : Result Place ScriptRefusal). Leads d n at table line x after) gives (said s after e is)
leads_on d n at table after line s (Err (Refused why)) e is gives = subst (λ (x : Result Place ScriptRefusal). Leads d n at table line x after) gives (said s after e is)
leads_on d n at table after line s (Err OutOfMemory) e is gives = tt

pub said_leads : (d : Domain) (n : ℕ) (at : Place) (table after : Table) (line : List ℕ) (b : Bool) (answer : Result Said (Failure LineCause)) (s : Said) (next : Result Place (Failure ScriptRefusal)) → b ≡ is_nothing line → b ≡ false → OnAnswer (λ r. IsSaid at table line r after) answer → answer ≡ Ok s → Gives (λ place. place) next (moved d n at s) → OnAnswer (λ r. Leads d n at table line r after) next
said_leads d n at table after line b answer s next i f is was gives =
    leads_on d n at table after line s next (sym i ∙ f) (subst (OnAnswer (λ r. IsSaid at table line r after)) was is) gives

-- ---- the lines that are left

-- what the lines from this place on are, the text is
abbrev pub Follows : Domain → Table → List ℕ → List Span → ℕ → Place → Table → Type 0
Follows d first bytes spans i at table =
    (r : Result Member ScriptRefusal) (after : Table) → AreLines d (suc i) at table (pieces bytes (drop i spans)) r after → IsMember d first bytes r after

pub all_follow : (d : Domain) (first : Table) (bytes : List ℕ) (spans : List Span) → pieces bytes spans ≡ script_lines bytes → Follows d first bytes spans 0 Beginning first
all_follow d first bytes spans e r after are = subst (λ (ls : List (List ℕ)). AreLines d 1 Beginning first ls r after) e are

-- the same, where there is a line here
abbrev FollowsLine : Domain → Table → List ℕ → List Span → ℕ → Place → Table → List ℕ → Type 0
FollowsLine d first bytes spans i at table line =
    (r : Result Member ScriptRefusal) (after : Table) → AreLines d (suc i) at table (line ∷ pieces bytes (drop (i + 1) spans)) r after → IsMember d first bytes r after

line_here : (d : Domain) (first table : Table) (bytes : List ℕ) (spans : List Span) (i : ℕ) (at : Place) (s : Span) (line : List ℕ) → Follows d first bytes spans i at table → i < length spans → line ≡ slice_range bytes (slice_index_or spans i s).from (slice_index_or spans i s).to → FollowsLine d first bytes spans i at table line
line_here d first table bytes spans i at s line f lt l r after are =
    f r after (subst (λ (ls : List (List ℕ)). AreLines d (suc i) at table ls r after) (sym (pieces_more bytes spans i s line lt l)) are)

one_more : (i : ℕ) → i + 1 ≡ suc i
one_more i = omega arith

pub good_follows : (d : Domain) (first table middle : Table) (bytes : List ℕ) (spans : List Span) (i n : ℕ) (at next : Place) (s : Span) (line : List ℕ) (answer : Result Place (Failure ScriptRefusal)) → Follows d first bytes spans i at table → i < length spans → line ≡ slice_range bytes (slice_index_or spans i s).from (slice_index_or spans i s).to → n ≡ i + 1 → OnAnswer (λ r. Leads d n at table line r middle) answer → answer ≡ Ok next → Follows d first bytes spans (i + 1) next middle
good_follows d first table middle bytes spans i n at next s line answer f lt l number leads is r after are =
    let ok : Leads d n at table line (Ok next) middle = subst (OnAnswer (λ r. Leads d n at table line r middle)) is leads in
    let here : Leads d (suc i) at table line (Ok next) middle = subst (λ (k : ℕ). Leads d k at table line (Ok next) middle) (number ∙ one_more i) ok in
    line_here d first table bytes spans i at s line f lt l r after (good (suc i) at next table middle after line (pieces bytes (drop (i + 1) spans)) r here (subst (λ (k : ℕ). AreLines d (suc k) next middle (pieces bytes (drop (i + 1) spans)) r after) (one_more i) are))

fault_here : (d : Domain) (first table after : Table) (bytes : List ℕ) (spans : List Span) (i n : ℕ) (at : Place) (s : Span) (line : List ℕ) (failure : Failure ScriptRefusal) → Follows d first bytes spans i at table → i < length spans → line ≡ slice_range bytes (slice_index_or spans i s).from (slice_index_or spans i s).to → n ≡ i + 1 → OnAnswer (λ r. Leads d n at table line r after) (Err failure) → OnAnswer (λ r. IsMember d first bytes r after) (Err failure)
fault_here d first table after bytes spans i n at s line (Refused why) f lt l number leads =
    let here : Leads d (suc i) at table line (Err why) after = subst (λ (k : ℕ). Leads d k at table line (Err why) after) (number ∙ one_more i) leads in
    line_here d first table bytes spans i at s line f lt l (Err why) after (fault (suc i) at table line (pieces bytes (drop (i + 1) spans)) why after here)
fault_here d first table after bytes spans i n at s line OutOfMemory f lt l number leads = tt

pub fault_follows : (d : Domain) (first table after : Table) (bytes : List ℕ) (spans : List Span) (i n : ℕ) (at : Place) (s : Span) (line : List ℕ) (answer : Result Place (Failure ScriptRefusal)) (failure : Failure ScriptRefusal) → Follows d first bytes spans i at table → i < length spans → line ≡ slice_range bytes (slice_index_or spans i s).from (slice_index_or spans i s).to → n ≡ i + 1 → OnAnswer (λ r. Leads d n at table line r after) answer → answer ≡ Err failure → OnAnswer (λ r. IsMember d first bytes r after) (Err failure)
fault_follows d first table after bytes spans i n at s line answer failure f lt l number leads is =
    fault_here d first table after bytes spans i n at s line failure f lt l number (subst (OnAnswer (λ r. Leads d n at table line r after)) is leads)

end_here : (d : Domain) (first table : Table) (bytes : List ℕ) (spans : List Span) (i : ℕ) (at : Place) → Follows d first bytes spans i at table → drop i spans ≡ [] → IsMember d first bytes (at_end (suc i) at) table
end_here d first table bytes spans i at f e =
    f (at_end (suc i) at) table (subst (λ (ls : List Span). AreLines d (suc i) at table (pieces bytes ls) (at_end (suc i) at) table) (sym e) (none_left (suc i) at table))

answered : (d : Domain) (first table : Table) (bytes : List ℕ) (n : ℕ) (at : Place) (answer : Result Member (Failure ScriptRefusal)) → IsMember d first bytes (at_end n at) table → Gives (λ member. member) answer (at_end n at) → OnAnswer (λ r. IsMember d first bytes r table) answer
answered d first table bytes n at (Ok m) is gives = subst (λ (x : Result Member ScriptRefusal). IsMember d first bytes x table) gives is
answered d first table bytes n at (Err (Refused why)) is gives = subst (λ (x : Result Member ScriptRefusal). IsMember d first bytes x table) gives is
answered d first table bytes n at (Err OutOfMemory) is gives = tt

pub end_follows : (d : Domain) (first table : Table) (bytes : List ℕ) (spans : List Span) (i n : ℕ) (at : Place) (answer : Result Member (Failure ScriptRefusal)) → Follows d first bytes spans i at table → i ≡ length spans → n ≡ length spans + 1 → Gives (λ member. member) answer (at_end n at) → OnAnswer (λ r. IsMember d first bytes r table) answer
end_follows d first table bytes spans i n at answer f all number gives =
    let left : drop i spans ≡ [] = drop_all i spans (omega (arith, all)) in
    let next : suc i ≡ n = omega (arith, all, number) in
    answered d first table bytes n at answer (subst (λ (k : ℕ). IsMember d first bytes (at_end k at) table) next (end_here d first table bytes spans i at f left)) gives

-- How the work that is handed out stays with those who work.
use Rattle.std.proofs.Common.{◌≡◌, ℕ, zero, suc, ◌==◌, ◌&&◌, true, false, Option, Some, None, IfSome, List, [], ◌∷◌, filter_map, map, slice_get, slice_index_or, refl, ap, sym, ◌∙◌, inl, inr}
use Rattle.std.specs.Option.{option_map_or, unwrap_or}
use Rattle.std.proofs.lemmas.Bool.{cond-false, cond-true, false_from_ne_true}
use Rattle.ps_world.specs.Names.{same_name}
use Rattle.ps_world.specs.declared.names.Name.{Name}
use Rattle.ps_machine.specs.declared.inputs.Input.{Input}
use Rattle.ps_machine.specs.declared.members.Member.{Member}
use Rattle.ps_machine.specs.declared.members.Member.TheVariants as member
use Rattle.ps_machine.specs.declared.members.Performer.{Performer}
use Rattle.ps_machine.specs.declared.journal.Event.{Event}
use Rattle.ps_machine.specs.declared.journal.Event.TheVariants as event
use Rattle.ps_machine.specs.declared.journal.Entry.{Entry}
use Rattle.std.specs.List.{AllPairs}
use Rattle.ps_world.proofs.SameTexts.{name_itself}
use Rattle.ps_world.proofs.Optionals.{none_not_some, some_same}
use Rattle.ps_action.proofs.Facts.{same_name-is}
use Rattle.ps_rules.specs.Auctions.{is_last, is_working, says_working}
use Rattle.ps_rules.specs.Choices.{with_block}
use Rattle.ps_rules.specs.Legal.{is_legal}
use Rattle.ps_rules.specs.Members.{as_performer}
use Rattle.ps_rules.specs.Sound.{IsSound, member_name}
use Rattle.ps_actors.proofs.Hearing.{hearing_stays}
use Rattle.ps_progress_laws.proofs.Blocks.{working-block}
use Rattle.ps_progress_laws.proofs.Lists.{In}
use Rattle.ps_progress_laws.proofs.Picking.{clash, pick_no, stays}
use Rattle.ps_progress_laws.proofs.SoundMembers.{all-one, differ-head, differ-tail}
use Rattle.ps_ledger.specs.Members.{place_in}
use Rattle.ps_board.specs.Grants.{AreOut, granted, performer_names}
use Rattle.ps_board.specs.Kept.{HaveHeard}

-- ---- the name of a performer stands at one place

abbrev named : List Member → List Name
named ms = map (λ p. p.name) (filter_map as_performer ms)

named-member : (ms : List Member) (k : ℕ) (n : Name) → slice_get (named ms) k ≡ Some n → (p : Performer) × In (member.Performer p) ms × (p.name ≡ n)
named-member [] k n e = none_not_some n e
named-member (member.Observer o ∷ ms) k n e = let w = named-member ms k n e in (w.0, inr w.1, w.2)
named-member (member.Performer p ∷ ms) zero n e = (p, inl refl, some_same p.name n e)
named-member (member.Performer p ∷ ms) (suc k) n e = let w = named-member ms k n e in (w.0, inr w.1, w.2)

place-of : (ms : List Member) → AllPairs (λ a b. same_name (member_name a) (member_name b) ≡ false) ms → (k : ℕ) (n : Name) → slice_get (named ms) k ≡ Some n → place_in (named ms) n ≡ k
place-of [] differ k n e = none_not_some n e
place-of (member.Observer o ∷ ms) differ k n e = place-of ms (differ-tail (member.Observer o) ms differ) k n e
place-of (member.Performer p ∷ ms) differ zero n e =
    cond-true (same_name n p.name) 0 (suc (place_in (named ms) n)) (ap (same_name n) (some_same p.name n e) ∙ name_itself n)
place-of (member.Performer p ∷ ms) differ (suc k) n e =
    let w = named-member ms k n e in
    let apart : same_name p.name n ≡ false =
    ap (same_name p.name) (sym w.2)
    ∙ all-one (λ b. same_name p.name (member_name b) ≡ false) ms (differ-head (member.Performer p) ms differ) (member.Performer w.0) w.1 in
    let not_first : same_name n p.name ≡ false =
    false_from_ne_true (same_name n p.name) (λ t. clash (same_name p.name n) (ap (same_name p.name) (same_name-is n p.name t) ∙ name_itself p.name) apart) in
    cond-false (same_name n p.name) 0 (suc (place_in (named ms) n)) not_first ∙ ap suc (place-of ms (differ-tail (member.Performer p) ms differ) k n e)

pub place-is : (i : Input) → IsSound i → (k : ℕ) (n : Name) → slice_get (performer_names i) k ≡ Some n → place_in (performer_names i) n ≡ k
place-is i sound k n e = place-of i.members sound.names_differ k n e

-- names at two places differ
pub names-apart : (i : Input) → IsSound i → (j k : ℕ) (m n : Name) → slice_get (performer_names i) j ≡ Some m → slice_get (performer_names i) k ≡ Some n → (j ≡ k → ⊥) → same_name m n ≡ false
names-apart i sound j k m n e f differ =
    false_from_ne_true (same_name m n) (λ t.
    differ (sym (place-is i sound j m e) ∙ ap (place_in (performer_names i)) (same_name-is m n t) ∙ place-is i sound k n f))

-- ---- work goes on

working-on : (r : ℕ) (p : Name) (es : List Entry) (e : Event) → is_last r p e ≡ false → is_working r p es ≡ true → unwrap_or (says_working r p e) (is_working r p es) ≡ true
working-on r p es (event.Begin s q) last works = stays ((r == s) && same_name p q) (is_working r p es) works
working-on r p es (event.Finish s q ok) last works = pick_no ((r == s) && same_name p q) false (is_working r p es) last ∙ works
working-on r p es (event.Stopped s q) last works = pick_no ((r == s) && same_name p q) false (is_working r p es) last ∙ works
working-on r p es e last works = works

-- who works does so after a block of an event by which it neither finishes nor stops
pub works-on : (i : Input) (es : List Entry) (hand : ℕ) (e : Event) (r : ℕ) (p : Name) → is_last r p e ≡ false → is_working r p es ≡ true → is_working r p (with_block i hand es e) ≡ true
works-on i es hand e r p last works = working-block i es (record { hand = hand; what = e }) r p ∙ working-on r p es e last works

-- an event by which nobody whose grant is out finishes or stops
abbrev pub Spares : Input → List (Option ℕ) → Event → Type 0
Spares i grants e = (p r : ℕ) (name : Name) → slice_get (performer_names i) p ≡ Some name → granted grants p ≡ Some r → is_last r name e ≡ false

pub out-block : (i : Input) (es : List Entry) (hand : ℕ) (grants : List (Option ℕ)) (e : Event) → AreOut i es grants → Spares i grants e → AreOut i (with_block i hand es e) grants
out-block i es hand grants e out spares = record {
  all = out.all;
  working = λ p r name at its. works-on i es hand e r name (spares p r name at its) (out.working p r name at its);
}

pub heard-block : (i : Input) (es : List Entry) (hand : ℕ) (heard : List ℕ) (e : Event) → is_legal i es e ≡ true → HaveHeard i es heard → HaveHeard i (with_block i hand es e) heard
heard-block i es hand heard e legal have = record {
  all = have.all;
  each = λ p name at. hearing_stays i es (record { hand = hand; what = e }) name (slice_index_or heard p 0) legal (have.each p name at);
}

-- ---- after a turn in which this is done, if something is

pub out-turn : (i : Input) (es : List Entry) (hand : ℕ) (grants : List (Option ℕ)) (done : Option Event) → AreOut i es grants → IfSome done (Spares i grants)
    → AreOut i (option_map_or (with_block i hand es) done es) grants
out-turn i es hand grants None out spares = out
out-turn i es hand grants (Some e) out spares = out-block i es hand grants e out spares

pub heard-turn : (i : Input) (es : List Entry) (hand : ℕ) (heard : List ℕ) (done : Option Event) → IfSome done (λ e. is_legal i es e ≡ true) → HaveHeard i es heard
    → HaveHeard i (option_map_or (with_block i hand es) done es) heard
heard-turn i es hand heard None legal have = have
heard-turn i es hand heard (Some e) legal have = heard-block i es hand heard e legal have

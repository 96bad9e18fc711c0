-- What a performer's turn hands out.
use Rattle.std.proofs.Common.{◌≡◌, ℕ, ◌<◌, ◌&&◌, not, Bool, true, false, Option, Some, None, is_none, option_and_then, option_map, if◌then◌else◌, List, length, slice_get, slice_set, refl, ap, sym, ◌∙◌}
use Rattle.std.proofs.lemmas.List.{get_or-set_same}
use Rattle.std.specs.Option.{option_map_or}
use Rattle.ps_world.specs.declared.names.Name.{Name}
use Rattle.ps_machine.specs.declared.inputs.Input.{Input}
use Rattle.ps_machine.specs.declared.members.Unit.{Unit as Task}
use Rattle.ps_machine.specs.declared.journal.Event.{Event}
use Rattle.ps_machine.specs.declared.journal.Entry.{Entry}
use Rattle.ps_rules.specs.Auctions.{is_working}
use Rattle.ps_rules.specs.Choices.{performed, with_block, work_of}
use Rattle.ps_rules.specs.Runs.{is_running}
use Rattle.ps_rules.specs.Sound.{IsSound}
use Rattle.ps_progress_laws.specs.Working.{unit_due}
use Rattle.ps_ledger.specs.Members.{place_in}
use Rattle.ps_board.specs.declared.board.Shown.{Shown}
use Rattle.ps_board.specs.declared.whole.Parts.{Parts}
use Rattle.ps_board.specs.declared.works.Grant.{Grant}
use Rattle.ps_board.specs.declared.works.Turn.{Turn}
use Rattle.ps_board.specs.declared.works.Turn.TheVariants as turn
use Rattle.ps_board.specs.Board.{handing, is_free, IsOut, performing, performing_answer, with_done}
use Rattle.ps_board.specs.Parts.{with_turn}
use Rattle.ps_board.specs.Grants.{grant_for, granted, granted_after, performed_answer, performer_names, turn_of}
use Rattle.ps_board.specs.Kept.{IsKept}
use Rattle.ps_board.proofs.Granting.{place-is}
use Rattle.ps_board.proofs.Keeping.{out-more, work-works}

-- ---- a turn of one who may do something

pub performing-is : (b : Shown) (p : ℕ) (n : Name) → is_free b p ≡ true → slice_get (performer_names b.input) p ≡ Some n → performing b p ≡ performed b.input n b.entries
performing-is b p n free at =
    ap (λ x. if x then option_and_then (λ m. performed b.input m b.entries) (slice_get (performer_names b.input) p) else None) free
    ∙ ap (option_and_then (λ m. performed b.input m b.entries)) at

pub handing-is : (b : Shown) (p : ℕ) (n : Name) → is_free b p ≡ true → slice_get (performer_names b.input) p ≡ Some n → handing b p ≡ grant_for b.input b.entries n
handing-is b p n free at =
    ap (λ x. if x then option_and_then (grant_for b.input b.entries) (slice_get (performer_names b.input) p) else None) free
    ∙ ap (option_and_then (grant_for b.input b.entries)) at

pub answer-is : (b : Shown) (p : ℕ) (n : Name) → is_free b p ≡ true → slice_get (performer_names b.input) p ≡ Some n → performing_answer b p ≡ performed_answer b.input b.entries n
answer-is b p n free at = ap (λ o. turn_of o (handing b p)) (performing-is b p n free at) ∙ ap (turn_of (performed b.input n b.entries)) (handing-is b p n free at)

none-out : (g : Option ℕ) → is_none g ≡ true → g ≡ None
none-out None e = refl
none-out (Some r) e = absurd (cc)

-- no grant of one who may do something is out
pub free-none : (b : Shown) (p : ℕ) → is_free b p ≡ true → granted b.grants p ≡ None
free-none b p free = by-tests (is_running b.entries) (not b.halted) free
  where
    by-tests : (live goes : Bool) → (live && (goes && is_none (granted b.grants p))) ≡ true → granted b.grants p ≡ None
    by-tests true true e = none-out (granted b.grants p) e
    by-tests true false e = absurd (cc)
    by-tests false goes e = absurd (cc)

pub free-goes : (b : Shown) (p : ℕ) → is_free b p ≡ true → b.halted ≡ false
free-goes b p free = by-tests (is_running b.entries) b.halted (is_none (granted b.grants p)) free
  where
    by-tests : (live halted none : Bool) → (live && (not halted && none)) ≡ true → halted ≡ false
    by-tests true true none e = absurd (cc)
    by-tests true false none e = refl
    by-tests false halted none e = absurd (cc)

pub free-live : (b : Shown) (p : ℕ) → is_free b p ≡ true → is_running b.entries ≡ true
free-live b p free = by-tests (is_running b.entries) (not b.halted && is_none (granted b.grants p)) free
  where
    by-tests : (live rest : Bool) → (live && rest) ≡ true → live ≡ true
    by-tests true rest e = refl
    by-tests false rest e = absurd (cc)

-- ---- a grant that is handed out

of-turn : (n : Name) (o : Option Event) (w : Option (ℕ × Task)) (g : Grant) → turn_of o (option_map (λ w. record { r = w.0; by = n; unit = w.1 }) w) ≡ turn.Work g
    → (o ≡ None) × (g.by ≡ n) × (w ≡ Some (g.r, g.unit))
of-turn n (Some e) w g is = absurd (cc)
of-turn n None None g is = absurd (cc)
of-turn n None (Some w) g is =
    let same : record { r = w.0; by = n; unit = w.1 } ≡ g = cc in
    (refl, ap (λ x. x.by) (sym same), ap (λ x. Some (x.r, x.unit)) same)

pub handed : (i : Input) (es : List Entry) (n : Name) (t : Turn) (g : Grant) → t ≡ performed_answer i es n → t ≡ turn.Work g
    → (performed i n es ≡ None) × (g.by ≡ n) × (work_of i n es ≡ Some (g.r, g.unit))
handed i es n t g answer is = of-turn n (performed i n es) (work_of i n es) g (sym answer ∙ is)

-- it is noted, and whose it is works
pub kept-handed : (old new : Parts) (hand : ℕ) (grants : List (Option ℕ)) (heard : List ℕ) (halted : Bool) (p : ℕ) (n : Name) (t : Turn) → IsKept new grants heard halted → new.input ≡ old.input
    → new.entries.items ≡ with_turn old hand (performed old.input n old.entries.items) → slice_get (performer_names old.input) p ≡ Some n → t ≡ performed_answer old.input old.entries.items n
    → IsKept new (granted_after grants p t) heard halted
kept-handed old new hand grants heard halted p n turn.Did k input entries at answer = k
kept-handed old new hand grants heard halted p n turn.Nothing k input entries at answer = k
kept-handed old new hand grants heard halted p n (turn.Work g) k input entries at answer =
    let w = handed old.input old.entries.items n (turn.Work g) g answer refl in
    let still : new.entries.items ≡ old.entries.items = entries ∙ ap (λ o. option_map_or (with_block old.input hand old.entries.items) o old.entries.items) w.0 in
    let works : is_working g.r n new.entries.items ≡ true = ap (is_working g.r n) still ∙ (work-works old.input n old.entries.items g.r g.unit w.2).0 in
    record {
      parts = k.parts;
      shown = k.shown;
      out = out-more new.input new.entries.items grants k.out p g.r n (ap (λ i. slice_get (performer_names i) p) input ∙ at) works;
      heard = k.heard;
      live = k.live;
    }

-- and it is out
pub out-is : (b new : Shown) (hand p : ℕ) (n : Name) (t : Turn) → IsSound b.input → p < length b.grants → slice_get (performer_names b.input) p ≡ Some n → t ≡ performed_answer b.input b.entries n
    → new.input ≡ b.input → new.entries ≡ with_done b hand (performed b.input n b.entries) → new.grants ≡ granted_after b.grants p t → (g : Grant) → t ≡ turn.Work g → IsOut new g
out-is b new hand p n t sound below at answer input entries grants g is =
    let w = handed b.input b.entries n t g answer is in
    let still : new.entries ≡ b.entries = entries ∙ ap (λ o. option_map_or (with_block b.input hand b.entries) o b.entries) w.0 in
    let place : place_in (performer_names new.input) g.by ≡ p = ap (λ i. place_in (performer_names i) g.by) input ∙ ap (place_in (performer_names b.input)) w.1 ∙ place-is b.input sound p n at in
    let noted : new.grants ≡ slice_set b.grants p (Some g.r) = grants ∙ ap (granted_after b.grants p) is in
    record {
      request = ap (granted new.grants) place ∙ ap (λ gs. granted gs p) noted ∙ get_or-set_same b.grants p (Some g.r) None below;
      unit = ap (λ i. unit_due i g.r g.by new.entries) input ∙ ap (λ x. unit_due b.input g.r x new.entries) w.1 ∙ ap (unit_due b.input g.r n) still
          ∙ (work-works b.input n b.entries g.r g.unit w.2).2;
    }

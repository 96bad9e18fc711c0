-- What the turns of members come to where no run was halted and no grant is out.
use Rattle.std.proofs.Common.{◌≡◌, ℕ, zero, suc, ◌<◌, ◌&&◌, not, Bool, true, false, Option, Some, None, is_none, option_map, option_and_then, if◌then◌else◌, List, [], ◌∷◌, length, slice_get, slice_index_or, slice_set, refl, arith, ap, sym, ◌∙◌}
use Rattle.std.specs.Option.{option_map_or}
use Rattle.std.proofs.lemmas.List.{length-map}
use Rattle.ps_world.specs.declared.names.Name.{Name}
use Rattle.ps_world.proofs.Optionals.{none_not_some}
use Rattle.ps_machine.specs.declared.inputs.Input.{Input}
use Rattle.ps_machine.specs.declared.members.Unit.{Unit as Task}
use Rattle.ps_machine.specs.declared.journal.Event.{Event}
use Rattle.ps_machine.specs.declared.journal.Entry.{Entry}
use Rattle.ps_rules.specs.Runs.{is_running}
use Rattle.ps_rules.specs.Members.{performers}
use Rattle.ps_rules.specs.Choices.{performed, performer_turn, with_block, work_of}
use Rattle.ps_progress_laws.specs.Working.{recorded}
use Rattle.ps_board.specs.Board.{grants_after, grants_without, handing, IsAtRest, IsOut, is_free, number_of, performing, performing_answer, recording, with_done}
use Rattle.ps_board.specs.Grants.{grant_for, granted, granted_after, performer_names, turn_of}
use Rattle.ps_board.specs.declared.board.Shown.{Shown}
use Rattle.ps_board.specs.declared.works.Grant.{Grant}
use Rattle.ps_board.specs.declared.works.Turn.{Turn}
use Rattle.ps_board.specs.declared.works.Turn.TheVariants as turn
use Rattle.ps_pool.specs.Rounds.{after_performer}
use Rattle.ps_pool.proofs.Recorded.{work-recorded}

-- ---- answers

-- work is handed out where nothing is done before it
turn-work : (o : Option Event) (w : Option (ℕ × Task)) (mark : ℕ × Task → Grant) (g : Grant) → turn_of o (option_map mark w) ≡ turn.Work g
    → (o ≡ None) × ((v : ℕ × Task) × (w ≡ Some v) × (mark v ≡ g))
turn-work (Some e) w mark g is = absurd (cc)
turn-work None None mark g is = absurd (cc)
turn-work None (Some v) mark g is = let same : mark v ≡ g = cc in (refl, (v, refl, same))

-- ---- names

name-at : (xs : List Name) (k : ℕ) → k < length xs → (n : Name) × (slice_get xs k ≡ Some n)
name-at [] k l = absurd (omega (arith, l))
name-at (x ∷ xs) zero l = (x, refl)
name-at (x ∷ xs) (suc k) l = name-at xs k (omega (arith, l))

performer-named : (i : Input) (p : ℕ) → p < length (performers i) → (n : Name) × (slice_get (performer_names i) p ≡ Some n)
performer-named i p l = name-at (performer_names i) p (let e = length-map (performers i) (λ w. w.name) in omega (arith, e, l))

-- ---- grants

cleared : (gs : List (Option ℕ)) (p : ℕ) (x : Option ℕ) → ((q : ℕ) → slice_index_or gs q None ≡ None) → (q : ℕ) → slice_index_or (slice_set (slice_set gs p x) p None) q None ≡ None
cleared [] p x h q = refl
cleared (g ∷ gs) zero x h zero = refl
cleared (g ∷ gs) zero x h (suc q) = h (suc q)
cleared (g ∷ gs) (suc p) x h zero = h zero
cleared (g ∷ gs) (suc p) x h (suc q) = cleared gs p x (λ r. h (suc r)) q

-- the one grant that is out is where it was put
out-at : (gs : List (Option ℕ)) (p k : ℕ) (x : Option ℕ) (r : ℕ) → ((q : ℕ) → slice_index_or gs q None ≡ None) → slice_index_or (slice_set gs p x) k None ≡ Some r → k ≡ p
out-at [] p k x r h e = none_not_some r e
out-at (g ∷ gs) zero zero x r h e = refl
out-at (g ∷ gs) zero (suc k) x r h e = none_not_some r (sym (h (suc k)) ∙ e)
out-at (g ∷ gs) (suc p) zero x r h e = none_not_some r (sym (h zero) ∙ e)
out-at (g ∷ gs) (suc p) (suc k) x r h e = ap (λ (n : ℕ). suc n) (out-at gs p k x r (λ q. h (suc q)) e)

-- ---- a performer's turn

module _ (b : Shown) (p : ℕ) (rest : IsAtRest b) where
  free-so : is_free b p ≡ is_running b.entries
  free-so =
      ap (λ h. is_running b.entries && (not h && is_none (granted b.grants p))) rest.halted
      ∙ ap (λ g. is_running b.entries && (true && is_none g)) (rest.all_in p)
      ∙ and-so (is_running b.entries)
    where
      and-so : (x : Bool) → (x && (true && true)) ≡ x
      and-so true = refl
      and-so false = refl

  -- the turn and its parts, where a run is open or isn't
  abbrev whole : Bool → Name → Option Event
  whole live name = if live then performer_turn b.input name b.entries else None

  abbrev first : Bool → Name → Option Event
  first live name = if live then performed b.input name b.entries else None

  abbrev work : Bool → Name → Option Grant
  work live name = if live then grant_for b.input b.entries name else None

  module _ (name : Name) (at : slice_get (performer_names b.input) p ≡ Some name) where
    performing-so : performing b p ≡ first (is_running b.entries) name
    performing-so =
        ap (λ t. if t then option_and_then (λ n. performed b.input n b.entries) (slice_get (performer_names b.input) p) else None) free-so
        ∙ ap (λ o. if is_running b.entries then option_and_then (λ n. performed b.input n b.entries) o else None) at

    handing-so : handing b p ≡ work (is_running b.entries) name
    handing-so =
        ap (λ t. if t then option_and_then (grant_for b.input b.entries) (slice_get (performer_names b.input) p) else None) free-so
        ∙ ap (λ o. if is_running b.entries then option_and_then (grant_for b.input b.entries) o else None) at

    whole-so : after_performer b.input p b.entries ≡ option_map_or (with_block b.input 1 b.entries) (whole (is_running b.entries) name) b.entries
    whole-so =
        ap (λ o. option_map_or (with_block b.input 1 b.entries) (if is_running b.entries then option_and_then (λ n. performer_turn b.input n b.entries) o else None) b.entries) at

    answer-so : performing_answer b p ≡ turn_of (first (is_running b.entries) name) (work (is_running b.entries) name)
    answer-so = ap (λ o. turn_of o (handing b p)) performing-so ∙ ap (turn_of (first (is_running b.entries) name)) handing-so

    -- it works
    work-so : (live : Bool) (g : Grant) → turn_of (first live name) (work live name) ≡ turn.Work g
        → (first live name ≡ None) × (g.by ≡ name) × (recorded b.input b.entries g.r name ≡ whole live name)
    work-so true g is =
        let w = turn-work (performed b.input name b.entries) (work_of b.input name b.entries) (λ w. record { r = w.0; by = name; unit = w.1 }) g is in
        let same = (w.1).2 in (
          w.0,
          sym (ap (λ (h : Grant). h.by) same),
          ap (λ (h : Grant). recorded b.input b.entries h.r name) (sym same) ∙ work-recorded b.input b.entries name (w.1).0 w.0 (w.1).1,
        )
    work-so false g is = absurd (cc)

-- what is appended where work was handed out, done and handed in, and that no grant is out then
pub record Worked (b : Shown) (p : ℕ) (entries : List Entry) (grants : List (Option ℕ)) : Type 0 where
  pub whole : entries ≡ after_performer b.input p b.entries
  pub all_in : (q : ℕ) → granted grants q ≡ None

pub work-turn : (b mid : Shown) (p : ℕ) (t : Turn) (g : Grant) (entries : List Entry) (grants : List (Option ℕ)) → IsAtRest b → p < length (performers b.input)
    → t ≡ turn.Work g → t ≡ performing_answer b p → IsOut mid g → mid.input ≡ b.input → mid.entries ≡ with_done b 1 (performing b p) → mid.grants ≡ grants_after b p
    → entries ≡ with_done mid 1 (recording mid g) → grants ≡ grants_without mid g → Worked b p entries grants
work-turn b mid p t g entries grants rest l work is out same_input idle given handed taken =
    let n = performer-named b.input p l in
    let w = work-so b p rest n.0 n.1 (is_running b.entries) g (sym (answer-so b p rest n.0 n.1) ∙ sym is ∙ work) in
    let same : mid.entries ≡ b.entries = idle ∙ ap (λ o. option_map_or (with_block b.input 1 b.entries) o b.entries) (performing-so b p rest n.0 n.1 ∙ w.0) in
    let did : recording mid g ≡ whole b p rest (is_running b.entries) n.0 =
    ap (λ i. recorded i mid.entries g.r g.by) same_input ∙ ap (λ es. recorded b.input es g.r g.by) same ∙ ap (recorded b.input b.entries g.r) (w.1) ∙ w.2 in
    let kept : mid.grants ≡ slice_set b.grants p (Some g.r) = given ∙ ap (granted_after b.grants p) (sym is ∙ work) in
    let place : number_of mid g ≡ p = out-at b.grants p (number_of mid g) (Some g.r) g.r rest.all_in (ap (λ gs. granted gs (number_of mid g)) (sym kept) ∙ out.request) in
    let now : grants ≡ slice_set (slice_set b.grants p (Some g.r)) p None = taken ∙ ap (λ k. slice_set mid.grants k None) place ∙ ap (λ gs. slice_set gs p None) kept in
    record {
      whole =
          handed
          ∙ ap (λ i. option_map_or (with_block i 1 mid.entries) (recording mid g) mid.entries) same_input
          ∙ ap (λ es. option_map_or (with_block b.input 1 es) (recording mid g) es) same
          ∙ ap (λ o. option_map_or (with_block b.input 1 b.entries) o b.entries) did
          ∙ sym (whole-so b p rest n.0 n.1);
      all_in = λ q. ap (λ gs. granted gs q) now ∙ cleared b.grants p (Some g.r) rest.all_in q;
    }

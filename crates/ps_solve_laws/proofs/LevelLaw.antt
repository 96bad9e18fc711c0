-- What the next level has.
use Rattle.std.proofs.Common.{◌≡◌, ℕ, zero, suc, Bool, true, false, cond, ◌||◌, List, [], ◌∷◌, ◌++◌, Option, Some, None, option_map, option_and_then, Result, Ok, Err, map, filter_map, flat_map, refl, ap, sym, ◌∙◌, inl, inr, subst}
use Rattle.std.specs.List.{Contains, cons_option, list_any}
use Rattle.std.specs.Result.{result_ok}
use Rattle.std.proofs.lemmas.List.Elements.{Contains-append_left, Contains-append_right}
use Rattle.std.proofs.lemmas.Bool.{or_right}
use Rattle.ps_world.specs.declared.domains.Domain.{Domain}
use Rattle.ps_world.specs.declared.known.Knowledge.{Knowledge}
use Rattle.ps_action.specs.declared.acts.Act.{Act}
use Rattle.ps_action.specs.declared.acts.GroundAction.{GroundAction}
use Rattle.ps_action.specs.Grounding.{ground_act}
use Rattle.ps_action.specs.Plans.{step}
use Rattle.ps_action.specs.Search.{level, possible_acts, reach, same_known}
use Rattle.ps_action.proofs.MadeValues.{or_rest}
use Rattle.ps_action.proofs.Contained.{or_cases}
use Rattle.ps_domain.proofs.Members.{Contains_from_has, Has, has_from_Contains, has_image, has_in_piece, has_mapped, has_piece}
use Rattle.ps_solve_laws.specs.Laws.{IsNext, LevelsGoOn}
use Rattle.ps_ground.specs.States.{State, at, state_of, stepped}
use Rattle.ps_ground.specs.Moves.{Node, grounds, move, moves}
use Rattle.ps_solve.specs.Nodes.{firsts, is_met, met, same_state, with_state}
use Rattle.ps_solve.proofs.Firsts.{AllMet, all_met, is_met-met, states}
use Rattle.ps_solve.proofs.Levels.{level_is, nodes, reach_is, reached}
use Rattle.ps_solve.proofs.SameStates.{met_more, same_known-at, state_itself, state_same}
use Rattle.ps_ground.proofs.Stepping.{next, next_at}

-- ---- what a list has

later_given : {Y : Type 0} (o : Option Y) (ys : List Y) (y : Y) → Has ys y → Has (cons_option o ys) y
later_given None ys y a = a
later_given (Some z) ys y a = inr a

module _ {X Y : Type 0} where
  given_from : (h : X → Option Y) (x : X) (xs : List X) (y : Y) (o : Option Y) → h x ≡ o → (Has (filter_map h xs) y → (z : X) × Has xs z × (h z ≡ Some y)) → Has (cons_option o (filter_map h xs)) y → (z : X) × Has (x ∷ xs) z × (h z ≡ Some y)
  given_from h x xs y None e rest a = let w = rest a in (w.0, inr w.1, w.2)
  given_from h x xs y (Some z) e rest (inl same) = (x, inl refl, e ∙ ap Some same)
  given_from h x xs y (Some z) e rest (inr a) = let w = rest a in (w.0, inr w.1, w.2)

  pub has_given : (h : X → Option Y) (xs : List X) (y : Y) → Has (filter_map h xs) y → (x : X) × Has xs x × (h x ≡ Some y)
  has_given h [] y a = absurd a
  has_given h (x ∷ xs) y a = given_from h x xs y (h x) refl (has_given h xs y) a

  given_at : (h : X → Option Y) (x : X) (xs : List X) (y : Y) (o : Option Y) → h x ≡ o → h x ≡ Some y → Has (cons_option o (filter_map h xs)) y
  given_at h x xs y None e s = absurd (cc)
  given_at h x xs y (Some z) e s = let same : z ≡ y = cc in inl same

  pub has_gift : (h : X → Option Y) (xs : List X) (x : X) (y : Y) → Has xs x → h x ≡ Some y → Has (filter_map h xs) y
  has_gift h [] x y a e = absurd a
  has_gift h (z ∷ zs) x y (inl same) e = given_at h z zs y (h z) refl (ap h same ∙ e)
  has_gift h (z ∷ zs) x y (inr a) e = later_given (h z) (filter_map h zs) y (has_gift h zs x y a e)

pub any_has : {X : Type 0} (p : X → Bool) (xs : List X) (x : X) → Has xs x → p x ≡ true → list_any p xs ≡ true
any_has p [] x a e = absurd a
any_has p (y ∷ ys) x (inl same) e = rw (ap p same ∙ e) refl
any_has p (y ∷ ys) x (inr a) e = or_right (p y) (list_any p ys) (any_has p ys x a e)

pub has_state : (s : State) (ns : List Node) → list_any (same_state s) (states ns) ≡ true → (x : Node) × Has ns x × (x.state ≡ s)
has_state s [] e = absurd (cc)
has_state s (n ∷ ns) e =
    elim (or_cases (same_state s n.state) (list_any (same_state s) (states ns)) e) [
      | inl here ↦ (n, inl refl, sym (state_same s n.state here))
      | inr there ↦ let w = has_state s ns there in (w.0, inr w.1, w.2)
    ]

pub any_state : (x : Node) (ns : List Node) → Has ns x → list_any (same_state x.state) (states ns) ≡ true
any_state x ns a = any_has (same_state x.state) (states ns) x.state (has_image (λ n. n.state) ns x a) (state_itself x.state)

first_at : (x n : Node) (ns : List Node) (seen : List State) (b : Bool) → is_met seen n.state ≡ b → ((more : List State) → Has (firsts more ns) x → Has ns x × (is_met more x.state ≡ false)) → Has (cond b (firsts seen ns) (n ∷ firsts (with_state seen n.state) ns)) x → Has (n ∷ ns) x × (is_met seen x.state ≡ false)
first_at x n ns seen true e rest a = let w = rest seen a in (inr w.0, w.1)
first_at x n ns seen false e rest (inl same) = (inl same, ap (λ (m : Node). is_met seen m.state) (sym same) ∙ e)
first_at x n ns seen false e rest (inr a) =
    let w = rest (with_state seen n.state) a in
    (inr w.0, or_rest (same_state x.state n.state) (is_met seen x.state) (sym (met_more x.state n.state seen) ∙ w.1))

-- a first node is one of the nodes, and its state wasn't met
pub is_first : (x : Node) (ns : List Node) (seen : List State) → Has (firsts seen ns) x → Has ns x × (is_met seen x.state ≡ false)
is_first x [] seen a = absurd a
is_first x (n ∷ ns) seen a = first_at x n ns seen (is_met seen n.state) refl (λ more. is_first x ns more) a

all_have : (s : State) (ss seen : List State) → AllMet seen ss → list_any (same_state s) ss ≡ true → is_met seen s ≡ true
all_have s [] seen a e = absurd (cc)
all_have s (t ∷ ss) seen a e =
    elim (or_cases (same_state s t) (list_any (same_state s) ss) e) [
      | inl here ↦ ap (is_met seen) (state_same s t here) ∙ a.0
      | inr there ↦ all_have s ss seen a.1 there
    ]

-- a state that wasn't met is that of a first node
pub has_first : (s : State) (ns : List Node) (seen : List State) → list_any (same_state s) (states ns) ≡ true → is_met seen s ≡ false → list_any (same_state s) (states (firsts seen ns)) ≡ true
has_first s ns seen e new =
    let all = all_have s (states ns) (met seen ns) (all_met seen ns) e in
    ap (λ b. b || list_any (same_state s) (states (firsts seen ns))) (sym new) ∙ sym (is_met-met s seen ns) ∙ all

-- ---- levels

module _ (d : Domain) (k : Knowledge) where
  known_state : (s : State) (ns : List Node) → list_any (same_state s) (states ns) ≡ true → Contains (map (λ (m : Node). at k m.state) ns) (at k s)
  known_state s ns e =
      let w = has_state s ns e in
      let P : State → Type 0 = λ t. Contains (map (λ (m : Node). at k m.state) ns) (at k t) in
      subst P w.2 (Contains_from_has _ _ (has_image (λ (m : Node). at k m.state) ns w.0 w.1))

  level_has : (n : ℕ) (s : State) → list_any (same_state s) (states (nodes d k n)) ≡ true → Contains (level d k n) (at k s)
  level_has n s e = let P : List Knowledge → Type 0 = λ ks. Contains ks (at k s) in subst P (sym (level_is d k n)) (known_state s (nodes d k n) e)

  -- what is met is among what is reached
  reach_has : (n : ℕ) (s : State) → is_met (reached d k n) s ≡ true → Contains (reach d k n) (at k s)
  reach_has zero s e =
      elim (or_cases (same_state s (state_of k)) false e) [
        | inl here ↦ Contains_from_has (k ∷ []) (at k s) (inl (sym (ap (at k) (state_same s (state_of k) here))))
        | inr none ↦ absurd (cc)
      ]
  reach_has (suc n) s e =
      elim (or_cases (is_met (reached d k n) s) (list_any (same_state s) (states (nodes d k (suc n)))) (sym (is_met-met s (reached d k n) (flat_map (moves d k (grounds d k)) (nodes d k n))) ∙ e)) [
        | inl old ↦ Contains-append_left (reach d k n) (level d k (suc n)) (at k s) (reach_has n s old)
        | inr new ↦ Contains-append_right (reach d k n) (level d k (suc n)) (at k s) (level_has (suc n) s new)
      ]

  has_reach : (n : ℕ) (s : State) → Contains (reach d k n) (at k s) → is_met (reached d k n) s ≡ true
  has_reach n s c =
      sym (reach_is d k n s)
      ∙ any_has (same_known (at k s)) (reach d k n) (at k s) (has_from_Contains _ _ c) (same_known-at k s s ∙ state_itself s)

  new_state : (b : Bool) (n : ℕ) (s : State) → is_met (reached d k n) s ≡ b → (¬ (Contains (reach d k n) (at k s))) → b ≡ false
  new_state true n s e h = absurd (h (reach_has n s e))
  new_state false n s e h = refl

  node_of : (n : ℕ) (l : Knowledge) → Contains (level d k n) l → (x : Node) × Has (nodes d k n) x × (at k x.state ≡ l)
  node_of n l c =
      let P : List Knowledge → Type 0 = λ ks. Contains ks l in
      has_mapped (λ (m : Node). at k m.state) (nodes d k n) l (has_from_Contains _ _ (subst P (level_is d k n) c))

  moved_to : (y x : Node) (g : GroundAction) (o : Option State) → option_map (λ s. record { state = s; path = y.path ++ g.act ∷ [] }) o ≡ Some x → o ≡ Some x.state
  moved_to y x g None e = absurd (cc)
  moved_to y x g (Some s) e =
      let same : record { state = s; path = y.path ++ g.act ∷ [] } ≡ x = cc in
      ap (λ (m : Node). Some m.state) same

  ok_from : {E : Type 0} (r : Result Knowledge E) (l : Knowledge) → result_ok r ≡ Some l → r ≡ Ok l
  ok_from (Ok m) l e = let same : m ≡ l = cc in ap Ok same
  ok_from (Err w) l e = absurd (cc)

  -- the step of a move
  step_to : (y x : Node) (act : Act) (g : GroundAction) → result_ok (ground_act d k.instances act) ≡ Some g → move d k y g ≡ Some x → step d (at k y.state) 0 act ≡ Ok (at k x.state)
  step_to y x act g e f =
      ok_from (step d (at k y.state) 0 act) (at k x.state) (
      next_at d k y.state 0 act ∙ ap (λ o. option_map (at k) (option_and_then (stepped d k y.state) o)) e
      ∙ ap (option_map (at k)) (moved_to y x g (stepped d k y.state g) f))

  is_next : (n : ℕ) (l : Knowledge) → Contains (level d k (suc n)) l → IsNext d k (level d k n) l × (¬ (Contains (reach d k n) l))
  is_next n l c =
      let found = node_of (suc n) l c in
      let x = found.0 in
      let first = is_first x (flat_map (moves d k (grounds d k)) (nodes d k n)) (reached d k n) found.1 in
      let from = has_piece (moves d k (grounds d k)) (nodes d k n) x first.0 in
      let by = has_given (move d k from.0) (grounds d k) x from.2 in
      let act = has_given (λ a. result_ok (ground_act d k.instances a)) (possible_acts d k) by.0 by.1 in
      let in_level : Contains (level d k n) (at k (from.0).state) = level_has n (from.0).state (any_state from.0 (nodes d k n) from.1) in
      let stepped_to = step_to from.0 x act.0 by.0 act.2 by.2 in (
        (at k (from.0).state, act.0, in_level, Contains_from_has _ _ act.1, stepped_to ∙ ap Ok found.2),
        λ old.
            let P : Knowledge → Type 0 = λ m. Contains (reach d k n) m in
            let was = has_reach n x.state (subst P (sym found.2) old) in
            let not = first.1 in
            cc,
      )

  some_ground : {E : Type 0} (act : Act) (r : Result GroundAction E) (f : GroundAction → Option State) (s : State) → option_and_then f (result_ok r) ≡ Some s → (g : GroundAction) × (result_ok r ≡ Some g) × (f g ≡ Some s)
  some_ground act (Ok g) f s e = (g, refl, e)
  some_ground act (Err w) f s e = absurd (cc)

  some_state : (o : Option State) (l : Knowledge) → option_map (at k) o ≡ Some l → (s : State) × (o ≡ Some s) × (at k s ≡ l)
  some_state None l e = absurd (cc)
  some_state (Some s) l e = let same : at k s ≡ l = cc in (s, refl, same)

  next_is : (n : ℕ) (l : Knowledge) → IsNext d k (level d k n) l → (¬ (Contains (reach d k n) l)) → Contains (level d k (suc n)) l
  next_is n l h new =
      let from = node_of n h.0 h.2 in
      let y = from.0 in
      let stepped_so : step d (at k y.state) 0 h.1 ≡ Ok l = ap (λ (m : Knowledge). step d m 0 h.1) from.2 ∙ h.4 in
      let to = some_state (next d k y.state h.1) l (sym (next_at d k y.state 0 h.1) ∙ ap result_ok stepped_so) in
      let s = to.0 in
      let by = some_ground h.1 (ground_act d k.instances h.1) (stepped d k y.state) s to.1 in
      let x : Node = record { state = s; path = y.path ++ (by.0).act ∷ [] } in
      let ground_there : Has (grounds d k) by.0 = has_gift (λ a. result_ok (ground_act d k.instances a)) (possible_acts d k) h.1 by.0 (has_from_Contains _ _ h.3) by.1 in
      let moved : move d k y by.0 ≡ Some x = ap (option_map (λ (t : State). let m : Node = record { state = t; path = y.path ++ (by.0).act ∷ [] } in m)) by.2 in
      let among = has_in_piece (moves d k (grounds d k)) (nodes d k n) y x from.1 (has_gift (move d k y) (grounds d k) by.0 x ground_there moved) in
      let P : Knowledge → Type 0 = λ m. ¬ (Contains (reach d k n) m) in
      let fresh_state = new_state (is_met (reached d k n) s) n s refl (subst P (sym to.2) new) in
      let there = has_first s (flat_map (moves d k (grounds d k)) (nodes d k n)) (reached d k n) (any_state x _ among) fresh_state in
      let Q : Knowledge → Type 0 = λ m. Contains (level d k (suc n)) m in
      subst Q to.2 (level_has (suc n) s there)

pub levels_go_on : LevelsGoOn
levels_go_on d k n l = (is_next d k n l, λ w. next_is d k n l w.0 w.1)

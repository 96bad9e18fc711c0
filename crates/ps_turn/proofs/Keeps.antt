-- A step of a seat that keeps its hand and its notes keeps the rule: it begins, gives or takes.
use Rattle.std.proofs.Common.{◌≡◌, ◌≢◌, ℕ, ◌<◌, true, false, List, [], ◌∷◌, ◌++◌, slice_index, slice_set, refl, sym, ap, ◌∙◌, subst, inl, inr, ⊎_elim, arith, eqb}
use Rattle.std.specs.Prelude.{Option, Some, None}
use Rattle.std.specs.List.{All}
use mathlib.Core.Option.{Option as Home, none, some, some-injective}
use native.Mathlib.Decide.{ℕ_discrete}
use mathlib.Core.Logic.{dite}
use prog.Atomic.{either}
use lib.ListN.{get_elem?}
use Rattle.atomic_table.specs.Table.{State, Me, step, Act, Allows, Valid, stepped, carried_after}
use Rattle.atomic_table.specs.Table.Act.{keeps, takes, gives}
use Rattle.atomic_table.proofs.Lists.{at_set, set_again, set_else, exchanged}
use Rattle.ps_world.proofs.Elements.{set_over}
use Rattle.ps_machine.specs.declared.inputs.Input.{Input}
use Rattle.ps_machine.specs.declared.journal.Entry.{Entry}
use Rattle.ps_turn.specs.Hands.{of_hand, IsBeginning, GoesOnBy, GoesOnByHands}
use Rattle.ps_turn.specs.Rule.{Founded, Known, AreKnown, AreApart, HasNote, Stands, Fits, AtHome, IsTaken, Kept, Rule}
use Rattle.ps_turn.specs.Turns.{told, Begins, Takes, Gives}
use Rattle.ps_turn.specs.declared.view.Note.{Note}
use Rattle.ps_turn.specs.declared.view.View.{View}
use Rattle.ps_turn.proofs.Lists.{of_hand-others, begins_still, is_beginning_of_itself, goes_on_still}

-- a view of the new list stands in the old one with the same hand and notes
pub record Was (views : List View) (j : ℕ) (u : View) : Type 0 where
  pub old : View
  pub at : get_elem? views j ≡ some old
  pub hand_is : u.hand ≡ old.hand
  pub notes_are : u.notes ≡ old.notes

pub was : (views : List View) (id : ℕ) (v w : View) → get_elem? views id ≡ some v → w.hand ≡ v.hand → w.notes ≡ v.notes
    → (j : ℕ) (u : View) → get_elem? (slice_set views id w) j ≡ some u → Was views j u
was views id v w at hand notes j u here =
    ⊎_elim
    (λ (t : (j ≡ id) × (w ≡ u)). record { old = v; at = ap (λ k. get_elem? views k) t.0 ∙ at; hand_is = ap (λ (x : View). x.hand) (sym t.1) ∙ hand; notes_are = ap (λ (x : View). x.notes) (sym t.1) ∙ notes })
    (λ (t : (j ≢ id) × (get_elem? views j ≡ some u)). record { old = u; at = t.1; hand_is = refl; notes_are = refl })
    (at_set views id j w u here)

-- a hand still stands where one view has become another with the same hand and notes
pub stands_still : (views : List View) (id : ℕ) (v w : View) (hand : ℕ) → get_elem? views id ≡ some v → w.hand ≡ v.hand → w.notes ≡ v.notes
    → Stands hand views → Stands hand (slice_set views id w)
stands_still views id v w hand at same notes s =
    dite (ℕ_discrete s.id id)
    (λ e.
    let one : s.view ≡ v = some-injective s.view v (sym s.at ∙ (ap (λ i. get_elem? views i) e ∙ at)) in
    let hand_is : s.view.hand ≡ w.hand = ap (λ (x : View). x.hand) one ∙ sym same in
    let notes_are : s.view.notes ≡ w.notes = ap (λ (x : View). x.notes) one ∙ sym notes in
    record {
      id = id;
      view = w;
      at = set_over views id v w at;
      live = subst (λ n. 0 < n) hand_is s.live;
      has = ⊎_elim (λ (t : s.view.hand ≡ hand). inl (sym hand_is ∙ t)) (λ (t : HasNote hand s.view.notes). inr (subst (λ ns. HasNote hand ns) notes_are t)) s.has;
    })
    (λ ne. record { id = s.id; view = s.view; at = set_else views id s.id w ne ∙ s.at; live = s.live; has = s.has })

module _ {X : Type 0} (history : X → List Entry) (input : X → Input) (founded : Founded) where
  -- where the seat's new view fits, and what fits and has another hand still does
  pub kept_with : (turn turn' : ℕ) (home home' : Home (Option X)) (log log' : List Entry) (made : ℕ) (views : List View) (id : ℕ) (v w : View)
      → Kept history input founded turn home log made views → get_elem? views id ≡ some v → 0 < v.hand → w.hand ≡ v.hand → w.notes ≡ v.notes
      → (turn' ≡ 0 → AtHome history input founded home' log') → ((turn' ≡ 0 → ⊥) → IsTaken turn' (slice_set views id w)) → Fits founded turn' home' log' made w
      → ((j : ℕ) (u : View) → get_elem? views j ≡ some u → 0 < u.hand → u.hand ≢ v.hand → Fits founded turn home log made u → Fits founded turn' home' log' made u)
      → GoesOnByHands made founded.base log'
      → Kept history input founded turn' home' log' made (slice_set views id w)
  kept_with turn turn' home home' log log' made views id v w k at live hand notes idle taken fits others after = record {
    few = k.few;
    idle = idle;
    taken = taken;
    each = λ j u here some_hand.
        ⊎_elim
        (λ (t : (j ≡ id) × (w ≡ u)). subst (λ (x : View). Fits founded turn' home' log' made x) t.1 fits)
        (λ (t : (j ≢ id) × (get_elem? views j ≡ some u)). others j u t.1 some_hand (λ same. t.0 (k.apart j id u v t.1 at some_hand same)) (k.each j u t.1 some_hand))
        (at_set views id j w u here);
    apart = λ i j a b here there some_hand same.
        let x = was views id v w at hand notes i a here in
        let y = was views id v w at hand notes j b there in
        k.apart i j x.old y.old x.at y.at (subst (λ n. 0 < n) x.hand_is some_hand) (sym x.hand_is ∙ (same ∙ y.hand_is));
    noted = λ i j a b here there some_hand other_hand has.
        let x = was views id v w at hand notes i a here in
        let y = was views id v w at hand notes j b there in
        k.noted i j x.old y.old x.at y.at (subst (λ n. 0 < n) x.hand_is some_hand) (subst (λ n. 0 < n) y.hand_is other_hand)
        (subst (λ n. HasNote n y.old.notes) x.hand_is (subst (λ ns. HasNote a.hand ns) y.notes_are has));
    stands = λ n some_hand within. stands_still views id v w n at hand notes (k.stands n some_hand within);
    once = λ i j a b n here there some_hand other_hand has also.
        let x = was views id v w at hand notes i a here in
        let y = was views id v w at hand notes j b there in
        k.once i j x.old y.old n x.at y.at (subst (λ m. 0 < m) x.hand_is some_hand) (subst (λ m. 0 < m) y.hand_is other_hand)
        (subst (λ ns. HasNote n ns) x.notes_are has) (subst (λ ns. HasNote n ns) y.notes_are also);
    notes_apart = λ j u here some_hand.
        let x = was views id v w at hand notes j u here in
        subst AreApart (sym x.notes_are) (k.notes_apart j x.old x.at (subst (λ n. 0 < n) x.hand_is some_hand));
    after = after;
  }

-- what another hand adds leaves what is known of a hand known
known_more : (base : List Entry) (made hand other : ℕ) (log log' more : List Entry) (seen mine : List Entry) → log' ≡ log ++ more → All (λ e. e.hand ≡ hand) more → other ≢ hand
    → Known base made log other seen mine → Known base made log' other seen mine
known_more base made hand other log log' more seen mine e all apart k = record {
  live = k.live;
  dealt = k.dealt;
  opened = k.opened;
  begins = subst (λ l. IsBeginning seen l) (sym e) (begins_still seen log more k.begins);
  own = k.own ∙ (sym (of_hand-others hand other log more apart all) ∙ ap (λ l. of_hand other l) (sym e));
}

are_known_more : (base : List Entry) (made hand : ℕ) (log log' more : List Entry) (notes : List Note) → log' ≡ log ++ more → All (λ e. e.hand ≡ hand) more → (HasNote hand notes → ⊥)
    → AreKnown base made log notes → AreKnown base made log' notes
are_known_more base made hand log log' more [] e all apart k = tt
are_known_more base made hand log log' more (n ∷ notes) e all apart k = (
  known_more base made hand n.hand log log' more n.seen n.mine e all (λ same. apart (inl same)) k.0,
  are_known_more base made hand log log' more notes e all (λ has. apart (inr has)) k.1,
)

module _ {X : Type 0} where
  one_carried : (x y : X) → ◌≡◌ {A = List (ℕ × Option X)} ((0, Some x) ∷ []) ((0, Some y) ∷ []) → x ≡ y
  one_carried x y e =
      let pair : ◌≡◌ {A = ℕ × Option X} (0, Some x) (0, Some y) = cc in
      let value : Some x ≡ Some y = ap (λ p. p.1) pair in
      cc

  -- a seat without the turn fits whatever the turn and the home are
  fits_aside : (founded : Founded) (turn turn' : ℕ) (home home' : Home (Option X)) (log log' : List Entry) (made : ℕ) (u : View)
      → (u.holds ≡ true → ⊥) → Known founded.base made log' u.hand u.seen u.mine → AreKnown founded.base made log' u.notes → Fits founded turn home log made u → Fits founded turn' home' log' made u
  fits_aside founded turn turn' home home' log log' made u aside known notes f = record {
    known = known;
    notes = notes;
    of_input = f.of_input;
    holding = λ h. absurd (aside h);
    opening = λ o. absurd (aside (f.opening o).0);
    dealer = f.dealer;
  }

module _ {X : Type 0} (history : X → List Entry) (input : X → Input) (founded : Founded) where
  -- no seat but the holder has the turn
  others_aside : (turn : ℕ) (home : Home (Option X)) (log : List Entry) (made : ℕ) (v u : View) → Fits founded turn home log made v → v.holds ≡ true
      → u.hand ≢ v.hand → Fits founded turn home log made u → u.holds ≡ true → ⊥
  others_aside turn home log made v u f holds apart g h = apart ((g.holding h).0 ∙ sym (f.holding holds).0)

  kept_by_begin : (turn : ℕ) (home : Home (Option X)) (log : List Entry) (made : ℕ) (views : List View) (id : ℕ) (v : View)
      → Kept history input founded turn home log made views → get_elem? views id ≡ some v → v.hand ≡ 1 → v.opening ≡ true
      → Kept history input founded 1 none log made (slice_set views id record v { opening = false })
  kept_by_begin turn home log made views id v k at first opening =
      let f = k.each id v at (subst (λ n. 0 < n) (sym first) (omega arith)) in
      let holds = (f.opening opening).0 in
      kept_with history input founded turn 1 home none log log made views id v record v { opening = false } k at (subst (λ n. 0 < n) (sym first) (omega arith)) refl refl
      (λ z. absurd (omega arith))
      (λ _. record { id = id; view = record v { opening = false }; at = set_over views id v record v { opening = false } at; hand_is = first; holds = holds })
      record { known = f.known; notes = f.notes; of_input = f.of_input; holding = λ h. (first, (f.holding holds).1); opening = λ o. absurd cc; dealer = f.dealer }
      (λ j u here some_hand apart g. fits_aside founded turn 1 home none log log made u (others_aside turn home log made v u f holds apart g) g.known g.notes g)
      k.after

  pub begin_allowed : (slots id : ℕ) (v : View) (me : Me (Option X) View) → me ≡ (v, []) → v.hand ≡ 1 → v.opening ≡ true
      → Allows (Rule history input founded) slots id me 0 (λ _. 1) (λ _. Begins (step slots 0 1 0 none) me 1)
  begin_allowed slots id v me e first opening =
      let P : Me (Option X) View → Type 0 = λ m. Allows (Rule history input founded) slots id m 0 (λ _. 1) (λ _. Begins (step slots 0 1 0 none) m 1) in
      subst P (sym e) (λ s r len at small.
      let f = r.kept.each id v at (subst (λ n. 0 < n) (sym first) (omega arith)) in
      let home_is : get_elem? s.homes 0 ≡ some (some None) = ap (λ hs. get_elem? hs 0) r.homes_are ∙ ap some (f.opening opening).1 in (
        record v { opening = false },
        takes 0 None,
        home_is,
        record {
          turn = 1;
          home = none;
          log = r.log;
          made = r.made;
          words_are = ap (λ ws. slice_set ws 0 1) r.words_are;
          homes_are = ap (λ hs. slice_set hs 0 none) r.homes_are;
          kept = kept_by_begin r.turn r.home r.log r.made s.views id v r.kept at first opening;
        },
        refl,
      ))

  kept_by_give : (turn : ℕ) (home : Home (Option X)) (log : List Entry) (made : ℕ) (views : List View) (id : ℕ) (v : View) (x : X)
      → Kept history input founded turn home log made views → get_elem? views id ≡ some v → 0 < v.hand → v.holds ≡ true → v.opening ≡ false
      → input x ≡ founded.input → GoesOnBy v.hand v.seen (history x)
      → Kept history input founded 0 (some (Some x)) (history x) made (slice_set views id (told v (history x) false))
  kept_by_give turn home log made views id v x k at live holds filled of_input goes =
      let f = k.each id v at live in
      let e : history x ≡ log ++ goes.0 = goes.1 ∙ ap (λ l. l ++ goes.0) (f.holding holds).1 in
      kept_with history input founded turn 0 home (some (Some x)) log (history x) made views id v (told v (history x) false) k at live refl refl
      (λ _. record { value = x; there = refl; history_is = refl; input_is = of_input })
      (λ some_turn. absurd (some_turn refl))
      record {
        known = record {
          live = live;
          dealt = f.known.dealt;
          opened = subst (λ l. IsBeginning founded.base l) (sym e) (begins_still founded.base log goes.0 (k.after.0, k.after.1));
          begins = is_beginning_of_itself (history x);
          own = refl;
        };
        notes = are_known_more founded.base made v.hand log (history x) goes.0 v.notes e goes.2 (k.noted id id v v at at live live) f.notes;
        of_input = f.of_input;
        holding = λ h. absurd cc;
        opening = λ o. absurd cc;
        dealer = f.dealer;
      }
      (λ j u here some_hand apart g.
      fits_aside founded turn 0 home (some (Some x)) log (history x) made u (others_aside turn home log made v u f holds apart g)
      (known_more founded.base made v.hand u.hand log (history x) goes.0 u.seen u.mine e goes.2 apart g.known)
      (are_known_more founded.base made v.hand log (history x) goes.0 u.notes e goes.2 (k.noted id j v u at here live some_hand) g.notes)
      g)
      (subst (λ l. GoesOnByHands made founded.base l) (sym e) (goes_on_still v.hand made founded.base log goes.0 live f.known.dealt k.after goes.2))

  pub give_allowed : (slots id : ℕ) (v : View) (x : X) (me : Me (Option X) View) → me ≡ (v, (0, Some x) ∷ []) → 0 < v.hand → v.holds ≡ true → v.opening ≡ false
      → input x ≡ founded.input → GoesOnBy v.hand v.seen (history x)
      → Allows (Rule history input founded) slots id me 0 (λ _. 0) (λ _. Gives history (step slots 0 0 0 none) me 0)
  give_allowed slots id v x me e live holds filled of_input goes =
      let P : Me (Option X) View → Type 0 = λ m. Allows (Rule history input founded) slots id m 0 (λ _. 0) (λ _. Gives history (step slots 0 0 0 none) m 0) in
      subst P (sym e) (λ s r len at small. (
        told v (history x) false,
        gives,
        tt,
        record {
          turn = 0;
          home = some (Some x);
          log = history x;
          made = r.made;
          words_are = ap (λ ws. slice_set ws 0 0) r.words_are;
          homes_are = ap (λ hs. slice_set hs 0 (some (Some x))) r.homes_are;
          kept = kept_by_give r.turn r.home r.log r.made s.views id v x r.kept at live holds filled of_input goes;
        },
        λ y held. ap (λ z. (told v (history z) false, [])) (one_carried x y held),
      ))

  kept_by_take : (home : Home (Option X)) (log : List Entry) (made : ℕ) (views : List View) (id : ℕ) (v : View)
      → Kept history input founded 0 home log made views → get_elem? views id ≡ some v → 0 < v.hand → v.opening ≡ false
      → Kept history input founded v.hand none log made (slice_set views id (told v log true))
  kept_by_take home log made views id v k at live filled =
      let f = k.each id v at live in
      kept_with history input founded 0 v.hand home none log log made views id v (told v log true) k at live refl refl
      (λ z. absurd (omega arith))
      (λ _. record { id = id; view = told v log true; at = set_over views id v (told v log true) at; hand_is = refl; holds = refl })
      record {
        known = record { live = live; dealt = f.known.dealt; opened = (k.after.0, k.after.1); begins = is_beginning_of_itself log; own = refl };
        notes = f.notes;
        of_input = f.of_input;
        holding = λ h. (refl, refl);
        opening = λ o. absurd cc;
        dealer = f.dealer;
      }
      (λ j u here some_hand apart g.
      fits_aside founded 0 v.hand home none log log made u (λ h. let none_there = (g.holding h).0 in absurd (omega arith)) g.known g.notes g)
      k.after

  -- how a take goes where the turn becomes m
  abbrev Goes : ℕ → ℕ → ℕ → View → State (Option X) View → ℕ → Type 0
  Goes slots id hand v s m = (w : View) × (a : Act (Option X)) × Valid s.homes [] a × Rule history input founded (stepped s 0 m id [] w a)
      × Takes history input (step slots 0 0 hand none) (v, []) (slice_index s.words 0) (w, carried_after [] a)

  wins : (slots id hand : ℕ) (v : View) (s : State (Option X) View) → hand ≡ v.hand → 0 < v.hand → v.opening ≡ false
      → Rule history input founded s → get_elem? s.views id ≡ some v → slice_index s.words 0 ≡ 0 → Goes slots id hand v s hand
  wins slots id hand v s hand_is live filled r at free =
      let turn_is : r.turn ≡ 0 = ap (λ ws. slice_index ws 0) (sym r.words_are) ∙ free in
      let h = r.kept.idle turn_is in
      let f = r.kept.each id v at live in
      let x = h.value in
      let k : Kept history input founded 0 r.home (history x) r.made s.views =
      subst (λ l. Kept history input founded 0 r.home l r.made s.views) (sym h.history_is) (subst (λ t. Kept history input founded t r.home r.log r.made s.views) turn_is r.kept) in (
        told v (history x) true,
        takes 0 (Some x),
        ap (λ hs. get_elem? hs 0) r.homes_are ∙ ap some h.there,
        record {
          turn = v.hand;
          home = none;
          log = history x;
          made = r.made;
          words_are = ap (λ ws. slice_set ws 0 hand) r.words_are ∙ ap (λ n. n ∷ []) hand_is;
          homes_are = ap (λ hs. slice_set hs 0 none) r.homes_are;
          kept = kept_by_take r.home (history x) r.made s.views id v k at live filled;
        },
        record {
          won = λ _. record {
            value = x;
            me_is = refl;
            of_input = f.of_input ∙ ap (λ (i : Input). Some i) (sym h.input_is);
            begins = subst (λ l. IsBeginning v.seen l) (sym h.history_is) f.known.begins;
            own = f.known.own ∙ ap (λ l. of_hand v.hand l) (sym h.history_is);
          };
          lost = λ taken. absurd (taken free);
        },
      )

  loses : (slots id hand : ℕ) (v : View) (s : State (Option X) View)
      → Rule history input founded s → get_elem? s.views id ≡ some v → slice_index s.words 0 ≢ 0 → Goes slots id hand v s (slice_index s.words 0)
  loses slots id hand v s r at taken =
      let n = slice_index s.words 0 in
      let turn_is : n ≡ r.turn = ap (λ ws. slice_index ws 0) r.words_are in (
        v,
        keeps,
        tt,
        record {
          turn = r.turn;
          home = r.home;
          log = r.log;
          made = r.made;
          words_are = ap (λ ws. slice_set ws 0 n) r.words_are ∙ ap (λ m. m ∷ []) turn_is;
          homes_are = r.homes_are;
          kept = subst (λ vs. Kept history input founded r.turn r.home r.log r.made vs) (sym (set_again s.views id v at)) r.kept;
        },
        record { won = λ free. absurd (taken free); lost = λ _. refl },
      )

  pub take_allowed : (slots id hand : ℕ) (v : View) (me : Me (Option X) View) → me ≡ (v, []) → hand ≡ v.hand → 0 < v.hand → v.opening ≡ false
      → Allows (Rule history input founded) slots id me 0 (λ n. either (eqb n 0) hand n) (Takes history input (step slots 0 0 hand none) me)
  take_allowed slots id hand v me e hand_is live filled =
      let P : Me (Option X) View → Type 0 = λ m. Allows (Rule history input founded) slots id m 0 (λ n. either (eqb n 0) hand n) (Takes history input (step slots 0 0 hand none) m) in
      subst P (sym e) (λ s r len at small. exchanged (slice_index s.words 0) 0 hand (Goes slots id hand v s) (wins slots id hand v s hand_is live filled r at) (loses slots id hand v s r at))

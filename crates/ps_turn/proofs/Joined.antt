-- Seats are put together, and what is there at the end.
use Rattle.std.proofs.Common.{◌≡◌, ◌≢◌, ◌⊎◌, ℕ, ◌<◌, ◌≤◌, false, List, [], slice_set, refl, sym, ap, ◌∙◌, subst, inl, inr, ⊎_elim, arith}
use Rattle.std.specs.Prelude.{Option, Some}
use mathlib.Core.Option.{Option as Home, some, some-injective}
use native.Mathlib.Decide.{ℕ_discrete}
use mathlib.Core.Logic.{dite}
use lib.ListN.{get_elem?}
use Rattle.atomic_table.specs.Table.{Joins, Final, Seen}
use Rattle.atomic_table.proofs.Lists.{at_set, set_else}
use Rattle.ps_world.proofs.Elements.{set_over}
use Rattle.ps_machine.specs.declared.inputs.Input.{Input}
use Rattle.ps_machine.specs.declared.journal.Entry.{Entry}
use Rattle.ps_turn.specs.Hands.{GoesOnByHands}
use Rattle.ps_turn.specs.Rule.{Founded, Known, AreKnown, AreApart, HasNote, Stands, Fits, Kept, Rule}
use Rattle.ps_turn.specs.Books.{Book}
use Rattle.ps_turn.specs.Seats.{founded_on, Tells}
use Rattle.ps_turn.specs.Turns.{spent, noting}
use Rattle.ps_turn.specs.declared.view.View.{View}
use Rattle.ps_turn.proofs.Lists.{goes_on_by_more}

-- a live seat after the join stood there before with the same hand, is not the one that was joined, and has no new note but the keeper's of that one's hand
record Stayed (views : List View) (id other : ℕ) (w : View) (j : ℕ) (u : View) : Type 0 where
  pub old : View
  pub at : get_elem? views j ≡ some old
  pub hand_is : u.hand ≡ old.hand
  pub apart : j ≢ other
  pub notes : (hand : ℕ) → HasNote hand u.notes → ((w.hand ≡ hand) × (j ≡ id)) ⊎ HasNote hand old.notes

stayed : (views : List View) (id other : ℕ) (v w : View) → get_elem? views id ≡ some v
    → (j : ℕ) (u : View) → get_elem? (slice_set (slice_set views id (noting v w)) other spent) j ≡ some u → 0 < u.hand → Stayed views id other w j u
stayed views id other v w at j u here live =
    ⊎_elim
    (λ (t : (j ≡ other) × (spent ≡ u)). absurd (let none_there : 0 ≡ u.hand = ap (λ (x : View). x.hand) t.1 in omega arith))
    (λ (t : (j ≢ other) × (get_elem? (slice_set views id (noting v w)) j ≡ some u)).
    ⊎_elim
    (λ (q : (j ≡ id) × (noting v w ≡ u)). record {
      old = v;
      at = ap (λ k. get_elem? views k) q.0 ∙ at;
      hand_is = ap (λ (x : View). x.hand) (sym q.1);
      apart = t.0;
      notes = λ hand has.
          let noted : (w.hand ≡ hand) ⊎ HasNote hand v.notes = subst (λ (x : View). HasNote hand x.notes) (sym q.1) has in
          ⊎_elim (λ (s : w.hand ≡ hand). inl (s, q.0)) (λ (s : HasNote hand v.notes). inr s) noted;
    })
    (λ (q : (j ≢ id) × (get_elem? views j ≡ some u)). record { old = u; at = q.1; hand_is = refl; apart = t.0; notes = λ hand has. inr has })
    (at_set views id j (noting v w) u t.1))
    (at_set (slice_set views id (noting v w)) other j spent u here)

-- a hand still stands once a seat without notes is joined to another
stands_joined : (views : List View) (id other : ℕ) (v w : View) (hand : ℕ) → get_elem? views id ≡ some v → get_elem? views other ≡ some w → other ≢ id → 0 < v.hand → w.notes ≡ []
    → Stands hand views → Stands hand (slice_set (slice_set views id (noting v w)) other spent)
stands_joined views id other v w hand at there two live alone s =
    let vs = slice_set views id (noting v w) in
    let kept : (j : ℕ) (u : View) → j ≢ other → get_elem? vs j ≡ some u → get_elem? (slice_set vs other spent) j ≡ some u =
    λ j u apart here. set_else vs other j spent apart ∙ here in
    let keeper : (w.hand ≡ hand) ⊎ ((v.hand ≡ hand) ⊎ HasNote hand v.notes) → Stands hand (slice_set vs other spent) =
    λ has. record {
      id = id;
      view = noting v w;
      at = kept id (noting v w) (λ q. two (sym q)) (set_over views id v (noting v w) at);
      live = live;
      has = ⊎_elim (λ t. inr (inl t)) (λ t. ⊎_elim inl (λ n. inr (inr n)) t) has;
    } in
    dite (ℕ_discrete s.id id)
    (λ e. let one : s.view ≡ v = some-injective s.view v (sym s.at ∙ (ap (λ i. get_elem? views i) e ∙ at)) in
    keeper (inr (subst (λ (x : View). (x.hand ≡ hand) ⊎ HasNote hand x.notes) one s.has)))
    (λ ne.
    dite (ℕ_discrete s.id other)
    (λ e. let one : s.view ≡ w = some-injective s.view w (sym s.at ∙ (ap (λ i. get_elem? views i) e ∙ there)) in
    let has : (w.hand ≡ hand) ⊎ HasNote hand w.notes = subst (λ (x : View). (x.hand ≡ hand) ⊎ HasNote hand x.notes) one s.has in
    keeper (⊎_elim (λ (t : w.hand ≡ hand). inl t) (λ (t : HasNote hand w.notes). absurd (subst (λ ns. HasNote hand ns) alone t)) has))
    (λ apart. record { id = s.id; view = s.view; at = kept s.id s.view apart (set_else views id s.id (noting v w) ne ∙ s.at); live = s.live; has = s.has }))

module _ {X : Type 0} (history : X → List Entry) (input : X → Input) (founded : Founded) where
  kept_by_join : (turn : ℕ) (home : Home (Option X)) (log : List Entry) (made : ℕ) (views : List View) (id other : ℕ) (v w : View)
      → Kept history input founded turn home log made views → get_elem? views id ≡ some v → get_elem? views other ≡ some w → other ≢ id
      → 0 < v.hand → 0 < w.hand → w.holds ≡ false → w.notes ≡ []
      → Kept history input founded turn home log made (slice_set (slice_set views id (noting v w)) other spent)
  kept_by_join turn home log made views id other v w k at there two live also aside alone =
      let vs = slice_set views id (noting v w) in
      let f = k.each id v at live in
      let g = k.each other w there also in
      let still : (j : ℕ) (u : View) → j ≢ other → get_elem? vs j ≡ some u → get_elem? (slice_set vs other spent) j ≡ some u =
      λ j u apart here. set_else vs other j spent apart ∙ here in
      let from = stayed views id other v w at in record {
        few = k.few;
        idle = k.idle;
        taken = λ some_turn.
            let t = k.taken some_turn in
            let apart : t.id ≢ other = λ e. let same : t.view ≡ w = some-injective t.view w (sym t.at ∙ (ap (λ i. get_elem? views i) e ∙ there)) in let h = sym t.holds ∙ (ap (λ (x : View). x.holds) same ∙ aside) in absurd cc in
            dite (ℕ_discrete t.id id)
            (λ e. let same : t.view ≡ v = some-injective t.view v (sym t.at ∙ (ap (λ i. get_elem? views i) e ∙ at)) in
            record {
              id = id;
              view = noting v w;
              at = still id (noting v w) (λ q. two (sym q)) (set_over views id v (noting v w) at);
              hand_is = ap (λ (x : View). x.hand) (sym same) ∙ t.hand_is;
              holds = ap (λ (x : View). x.holds) (sym same) ∙ t.holds;
            })
            (λ ne. record { id = t.id; view = t.view; at = still t.id t.view apart (set_else views id t.id (noting v w) ne ∙ t.at); hand_is = t.hand_is; holds = t.holds });
        each = λ j u here some_hand.
            ⊎_elim
            (λ (t : (j ≡ other) × (spent ≡ u)). absurd (let none_there : 0 ≡ u.hand = ap (λ (x : View). x.hand) t.1 in omega arith))
            (λ (t : (j ≢ other) × (get_elem? vs j ≡ some u)).
            ⊎_elim
            (λ (q : (j ≡ id) × (noting v w ≡ u)). subst (λ (x : View). Fits founded turn home log made x) q.1
            record { known = f.known; notes = (g.known, f.notes); of_input = f.of_input; holding = f.holding; opening = f.opening; dealer = f.dealer })
            (λ (q : (j ≢ id) × (get_elem? views j ≡ some u)). k.each j u q.1 some_hand)
            (at_set views id j (noting v w) u t.1))
            (at_set vs other j spent u here);
        apart = λ i j a b here over some_hand same.
            let x = from i a here some_hand in
            let y = from j b over (subst (λ n. 0 < n) same some_hand) in
            k.apart i j x.old y.old x.at y.at (subst (λ n. 0 < n) x.hand_is some_hand) (sym x.hand_is ∙ (same ∙ y.hand_is));
        noted = λ i j a b here over some_hand other_hand has.
            let x = from i a here some_hand in
            let y = from j b over other_hand in
            let real : 0 < x.old.hand = subst (λ n. 0 < n) x.hand_is some_hand in
            ⊎_elim
            (λ (same : (w.hand ≡ a.hand) × (j ≡ id)). x.apart (k.apart i other x.old w x.at there real (sym x.hand_is ∙ sym same.0)))
            (λ (t : HasNote a.hand y.old.notes). k.noted i j x.old y.old x.at y.at real (subst (λ n. 0 < n) y.hand_is other_hand) (subst (λ n. HasNote n y.old.notes) x.hand_is t))
            (y.notes a.hand has);
        stands = λ hand some_hand within. stands_joined views id other v w hand at there two live alone (k.stands hand some_hand within);
        once = λ i j a b hand here over some_hand other_hand has too.
            let x = from i a here some_hand in
            let y = from j b over other_hand in
            let real : 0 < x.old.hand = subst (λ n. 0 < n) x.hand_is some_hand in
            let real' : 0 < y.old.hand = subst (λ n. 0 < n) y.hand_is other_hand in
            ⊎_elim
            (λ (p : (w.hand ≡ hand) × (i ≡ id)).
            ⊎_elim
            (λ (q : (w.hand ≡ hand) × (j ≡ id)). p.1 ∙ sym q.1)
            (λ (q : HasNote hand y.old.notes). absurd (k.noted other j w y.old there y.at also real' (subst (λ n. HasNote n y.old.notes) (sym p.0) q)))
            (y.notes hand too))
            (λ (p : HasNote hand x.old.notes).
            ⊎_elim
            (λ (q : (w.hand ≡ hand) × (j ≡ id)). absurd (k.noted other i w x.old there x.at also real (subst (λ n. HasNote n x.old.notes) (sym q.0) p)))
            (λ (q : HasNote hand y.old.notes). k.once i j x.old y.old hand x.at y.at real real' p q)
            (y.notes hand too))
            (x.notes hand has);
        notes_apart = λ j u here some_hand.
            ⊎_elim
            (λ (t : (j ≡ other) × (spent ≡ u)). absurd (let none_there : 0 ≡ u.hand = ap (λ (x : View). x.hand) t.1 in omega arith))
            (λ (t : (j ≢ other) × (get_elem? vs j ≡ some u)).
            ⊎_elim
            (λ (q : (j ≡ id) × (noting v w ≡ u)). subst (λ (x : View). AreApart x.notes) q.1 (k.noted other id w v there at also live, k.notes_apart id v at live))
            (λ (q : (j ≢ id) × (get_elem? views j ≡ some u)). k.notes_apart j u q.1 some_hand)
            (at_set views id j (noting v w) u t.1))
            (at_set vs other j spent u here);
        after = k.after;
      }

  pub join_allowed : (id other : ℕ) (v w : View) → 0 < v.hand → 0 < w.hand → w.holds ≡ false → w.notes ≡ [] → Joins (Rule history input founded) id v other w (noting v w) spent
  join_allowed id other v w live also aside alone s r at two there = record {
    turn = r.turn;
    home = r.home;
    log = r.log;
    made = r.made;
    words_are = r.words_are;
    homes_are = r.homes_are;
    kept = kept_by_join r.turn r.home r.log r.made s.views id other v w r.kept at (sym (set_else s.views id other (noting v w) two) ∙ there) two live also aside alone;
  }

-- the value that is there at the end, and what it shows of the seats that were put together
pub record Ends {X : Type 0} (history : X → List Entry) (input : X → Input) (founded : Founded) (v : View) (slots : List (Option X)) : Type 0 where
  pub value : X
  pub there : get_elem? slots 0 ≡ some (Some value)
  pub input_is : input value ≡ founded.input
  pub after : GoesOnByHands founded.seats founded.base (history value)
  pub made : ℕ
  pub known : Known founded.base made (history value) v.hand v.seen v.mine
  pub notes : AreKnown founded.base made (history value) v.notes

module _ {X : Type 0} (history : X → List Entry) (input : X → Input) (founded : Founded) where
  -- where one seat has a note of every other and doesn't hold the turn, nobody does
  turn_is_free : (turn : ℕ) (home : Home (Option X)) (log : List Entry) (made : ℕ) (views : List View) (id : ℕ) (v : View)
      → Kept history input founded turn home log made views → get_elem? views id ≡ some v → 0 < v.hand → v.holds ≡ false
      → ((hand : ℕ) → 0 < hand → hand ≤ founded.seats → (v.hand ≡ hand) ⊎ HasNote hand v.notes) → (turn ≡ 0 → ⊥) → ⊥
  turn_is_free turn home log made views id v k at live aside all some_turn =
      let t = k.taken some_turn in
      let real : 0 < t.view.hand = let h = t.hand_is in omega arith in
      let f = k.each t.id t.view t.at real in
      let dealt : t.view.hand ≤ founded.seats = let d = f.known.dealt in let few = k.few in omega arith in
      ⊎_elim
      (λ (same : v.hand ≡ t.view.hand).
      let e = k.apart id t.id v t.view at t.at live same in
      let one : v ≡ t.view = some-injective v t.view (sym at ∙ (ap (λ i. get_elem? views i) e ∙ t.at)) in
      let h = sym aside ∙ (ap (λ (x : View). x.holds) one ∙ t.holds) in absurd cc)
      (λ (has : HasNote t.view.hand v.notes). k.noted t.id id t.view v t.at at real live has)
      (all t.view.hand real dealt)

  pub ends : (id : ℕ) (v : View) (words : List ℕ) (slots : List (Option X)) → Final (Seen (Rule history input founded) id v) words slots
      → 0 < v.hand → v.holds ≡ false → ((hand : ℕ) → 0 < hand → hand ≤ founded.seats → (v.hand ≡ hand) ⊎ HasNote hand v.notes)
      → Ends history input founded v slots
  ends id v words slots final live aside all =
      let s = final.0 in
      let r = final.1.0 in
      let k = r.kept in
      let at = final.1.1 in
      dite (ℕ_discrete r.turn 0)
      (λ free.
      let h = k.idle free in
      let f = k.each id v at live in record {
        value = h.value;
        there = final.4 0 (Some h.value) (ap (λ hs. get_elem? hs 0) r.homes_are ∙ ap some h.there);
        input_is = h.input_is;
        after = subst (λ l. GoesOnByHands founded.seats founded.base l) (sym h.history_is) (goes_on_by_more r.made founded.seats founded.base r.log k.few k.after);
        made = r.made;
        known = subst (λ l. Known founded.base r.made l v.hand v.seen v.mine) (sym h.history_is) f.known;
        notes = subst (λ l. AreKnown founded.base r.made l v.notes) (sym h.history_is) f.notes;
      })
      (λ taken. absurd (turn_is_free r.turn r.home r.log r.made s.views id v k at live aside all taken))

-- what the value at the end has to do with the book and with the seat that put the others together
pub record Ended {X : Type 0} (history : X → List Entry) (input : X → Input) (book : Book) (v : View) (x : X) : Type 0 where
  pub of_input : input x ≡ book.input
  pub grows : GoesOnByHands book.seats book.opened (history x)
  pub tells : Tells book.opened (history x) v

module _ {X : Type 0} (history : X → List Entry) (input : X → Input) (founded : Founded) (book : Book) (id : ℕ) (v : View) (words : List ℕ) (slots : List (Option X)) where
  -- the slot that is taken at the end has the value
  pub is_there : founded ≡ founded_on book → Final (Seen (Rule history input founded) id v) words slots → 0 < v.hand → v.holds ≡ false
      → ((hand : ℕ) → 0 < hand → hand ≤ book.seats → (v.hand ≡ hand) ⊎ HasNote hand v.notes)
      → (found : Option X) → get_elem? slots 0 ≡ some found → (x : X) × (found ≡ Some x) × Ended history input book v x
  is_there same final live aside all found at =
      let all' : (hand : ℕ) → 0 < hand → hand ≤ founded.seats → (v.hand ≡ hand) ⊎ HasNote hand v.notes =
      subst (λ n. (hand : ℕ) → 0 < hand → hand ≤ n → (v.hand ≡ hand) ⊎ HasNote hand v.notes) (ap (λ (f : Founded). f.seats) (sym same)) all in
      let e = ends history input founded id v words slots final live aside all' in (
        e.value,
        some-injective found (Some e.value) (sym at ∙ e.there),
        record {
          of_input = e.input_is ∙ ap (λ (f : Founded). f.input) same;
          grows = subst (λ (f : Founded). GoesOnByHands f.seats f.base (history e.value)) same e.after;
          tells = subst (λ (f : Founded). Tells f.base (history e.value) v) same (e.made, e.known, e.notes);
        },
      )

  pub ended : founded ≡ founded_on book → Final (Seen (Rule history input founded) id v) words slots → 0 < v.hand → v.holds ≡ false
      → ((hand : ℕ) → 0 < hand → hand ≤ book.seats → (v.hand ≡ hand) ⊎ HasNote hand v.notes)
      → (found : Option X) → get_elem? slots 0 ≡ some found → (x : X) → found ≡ Some x → Ended history input book v x
  ended same final live aside all found at x is =
      let t = is_there same final live aside all found at in
      let both : Some t.0 ≡ Some x = sym t.1 ∙ is in
      let one : t.0 ≡ x = cc in
      subst (λ y. Ended history input book v y) one t.2

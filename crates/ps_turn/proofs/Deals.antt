-- A book opens, seats are dealt and put together, and what is there at the end.
use Rattle.std.proofs.Common.{◌≡◌, ◌≢◌, ◌⊎◌, ℕ, ◌+◌, ◌<◌, ◌≤◌, true, List, [], ◌∷◌, ◌++◌, length, slice_set, replicate, refl, sym, ap, ◌∙◌, subst, inl, inr, ⊎_elim, arith}
use Rattle.std.specs.Prelude.{Option, Some, None}
use Rattle.std.proofs.lemmas.List.{append-nil}
use Rattle.std.proofs.lemmas.List.Elements.{All-nil}
use mathlib.Core.Option.{Option as Home, some}
use native.Mathlib.Decide.{ℕ_discrete}
use mathlib.Core.Logic.{dite}
use lib.ListN.{get_elem?}
use Rattle.atomic_table.specs.Table.{opening, Splits}
use Rattle.atomic_table.proofs.Lists.{at_set, at_longer}
use Rattle.ps_world.proofs.Elements.{set_over, at_end_or_before, at_only}
use Rattle.ps_machine.specs.declared.inputs.Input.{Input}
use Rattle.ps_machine.specs.declared.journal.Entry.{Entry}
use Rattle.ps_turn.specs.Hands.{of_hand, IsBeginning}
use Rattle.ps_turn.specs.Rule.{Founded, Known, AreKnown, AreApart, HasNote, Fits, Kept, Rule}
use Rattle.ps_turn.specs.Turns.{opener, dealer, newcomer}
use Rattle.ps_turn.specs.declared.view.Note.{Note}
use Rattle.ps_turn.specs.declared.view.View.{View}
use Rattle.ps_turn.proofs.Lists.{is_beginning_of_itself, goes_on_by_more, at_end}
use Rattle.ps_turn.proofs.Keeps.{Was, was, stands_still}

known_wider : (base : List Entry) (made more : ℕ) (log : List Entry) (hand : ℕ) (seen mine : List Entry) → made ≤ more → Known base made log hand seen mine → Known base more log hand seen mine
known_wider base made more log hand seen mine le k = record { live = k.live; dealt = omega arith; opened = k.opened; begins = k.begins; own = k.own }

are_known_wider : (base : List Entry) (made more : ℕ) (log : List Entry) (notes : List Note) → made ≤ more → AreKnown base made log notes → AreKnown base more log notes
are_known_wider base made more log [] le k = tt
are_known_wider base made more log (n ∷ notes) le k = (known_wider base made more log n.hand n.seen n.mine le k.0, are_known_wider base made more log notes le k.1)

-- a note is of a hand that was dealt
note_dealt : (base : List Entry) (made hand : ℕ) (log : List Entry) (notes : List Note) → HasNote hand notes → AreKnown base made log notes → hand ≤ made
note_dealt base made hand log [] has k = absurd has
note_dealt base made hand log (n ∷ notes) has k = ⊎_elim (λ (same : n.hand ≡ hand). subst (λ h. h ≤ made) same k.0.dealt) (λ (t : HasNote hand notes). note_dealt base made hand log notes t k.1) has

module _ {X : Type 0} (history : X → List Entry) (input : X → Input) (founded : Founded) where
  pub opens : 0 < founded.seats → Rule history input founded (opening (1 ∷ []) (replicate 1 None) (opener founded))
  opens real = record {
    turn = 1;
    home = some None;
    log = founded.base;
    made = 1;
    words_are = refl;
    homes_are = refl;
    kept = record {
      few = omega arith;
      idle = λ z. absurd (omega arith);
      taken = λ _. record { id = 0; view = opener founded; at = refl; hand_is = refl; holds = refl };
      each = λ id v at live. subst (λ (x : View). Fits {X = X} founded 1 (some None) founded.base 1 x) (at_only (opener founded) v id at).1 record {
        known = record { live = omega arith; dealt = omega arith; opened = is_beginning_of_itself founded.base; begins = is_beginning_of_itself founded.base; own = refl };
        notes = tt;
        of_input = refl;
        holding = λ _. (refl, refl);
        opening = λ _. (refl, refl);
        dealer = λ _. refl;
      };
      apart = λ i j v w at there live same. (at_only (opener founded) v i at).0 ∙ sym (at_only (opener founded) w j there).0;
      stands = λ hand live within. record { id = 0; view = opener founded; at = refl; live = omega arith; has = inl (omega arith) };
      noted = λ i j v w at there live also has. subst (λ (x : View). HasNote v.hand x.notes) (sym (at_only (opener founded) w j there).1) has;
      once = λ i j v w hand at there live also has other. (at_only (opener founded) v i at).0 ∙ sym (at_only (opener founded) w j there).0;
      notes_apart = λ id v at live. subst (λ (x : View). AreApart x.notes) (at_only (opener founded) v id at).1 tt;
      after = ([], sym (append-nil founded.base), All-nil (λ (e : Entry). (0 < e.hand) × (e.hand ≤ 1)));
    };
  }

  -- a live seat of the new list is one of the old, or the newcomer at the end
  grown : (views : List View) (id : ℕ) (v : View) → get_elem? views id ≡ some v
      → (j : ℕ) (u : View) → get_elem? (slice_set views id (dealer v) ++ newcomer v ∷ []) j ≡ some u → Was views j u ⊎ ((j ≡ length (slice_set views id (dealer v))) × (newcomer v ≡ u))
  grown views id v at j u here =
      ⊎_elim (λ t. inl (was views id v (dealer v) at refl refl j u t)) (λ t. inr t) (at_end_or_before (slice_set views id (dealer v)) (newcomer v) u j here)

  -- a seat that another hand deals beside still fits
  still_fits : (turn : ℕ) (home : Home (Option X)) (log : List Entry) (made more : ℕ) (u : View) → made ≤ more → (u.hand ≡ 1 → ⊥)
      → Fits founded turn home log made u → Fits founded turn home log more u
  still_fits turn home log made more u le apart f = record {
    known = known_wider founded.base made more log u.hand u.seen u.mine le f.known;
    notes = are_known_wider founded.base made more log u.notes le f.notes;
    of_input = f.of_input;
    holding = f.holding;
    opening = f.opening;
    dealer = λ first. absurd (apart first);
  }

  newcomer_fits : (turn : ℕ) (home : Home (Option X)) (log : List Entry) (v : View) → 0 < v.made → IsBeginning founded.base v.seen → v.seen ≡ log → v.input ≡ Some founded.input
      → Fits founded turn home log (v.made + 1) (newcomer v)
  newcomer_fits turn home log v real opened all of_input = record {
    known = record { live = omega arith; dealt = omega arith; opened = opened; begins = subst (λ l. IsBeginning l log) (sym all) (is_beginning_of_itself log); own = ap (λ l. of_hand (v.made + 1) l) all };
    notes = tt;
    of_input = of_input;
    holding = λ h. absurd cc;
    opening = λ o. absurd cc;
    dealer = λ first. absurd (omega arith);
  }

  kept_by_split : (turn : ℕ) (home : Home (Option X)) (log : List Entry) (views : List View) (id : ℕ) (v : View)
      → Kept history input founded turn home log v.made views → get_elem? views id ≡ some v → v.hand ≡ 1 → v.holds ≡ true → v.made < founded.seats
      → Kept history input founded turn home log (v.made + 1) (slice_set views id (dealer v) ++ newcomer v ∷ [])
  kept_by_split turn home log views id v k at first holds room =
      let live : 0 < v.hand = subst (λ n. 0 < n) (sym first) (omega arith) in
      let f = k.each id v at live in
      let real : 0 < v.made = let d = f.known.dealt in omega arith in
      let vs = slice_set views id (dealer v) in
      let dealt_before : (j : ℕ) (u : View) → Was views j u → 0 < u.hand → u.hand ≤ v.made =
      λ j u w some_hand. subst (λ n. n ≤ v.made) (sym w.hand_is) (k.each j w.old w.at (subst (λ n. 0 < n) w.hand_is some_hand)).known.dealt in record {
        few = omega arith;
        idle = k.idle;
        taken = λ _. record { id = id; view = dealer v; at = at_longer vs (newcomer v ∷ []) id (dealer v) (set_over views id v (dealer v) at); hand_is = (f.holding holds).0; holds = holds };
        each = λ j u here some_hand.
            ⊎_elim
            (λ (t : get_elem? vs j ≡ some u).
            ⊎_elim
            (λ (q : (j ≡ id) × (dealer v ≡ u)). subst (λ (x : View). Fits founded turn home log (v.made + 1) x) q.1 record {
              known = known_wider founded.base v.made (v.made + 1) log v.hand v.seen v.mine (omega arith) f.known;
              notes = are_known_wider founded.base v.made (v.made + 1) log v.notes (omega arith) f.notes;
              of_input = f.of_input;
              holding = f.holding;
              opening = f.opening;
              dealer = λ _. refl;
            })
            (λ (q : (j ≢ id) × (get_elem? views j ≡ some u)).
            still_fits turn home log v.made (v.made + 1) u (omega arith) (λ also. q.0 (k.apart j id u v q.1 at some_hand (also ∙ sym first))) (k.each j u q.1 some_hand))
            (at_set views id j (dealer v) u t))
            (λ (t : (j ≡ length vs) × (newcomer v ≡ u)). subst (λ (x : View). Fits founded turn home log (v.made + 1) x) t.1 (newcomer_fits turn home log v real f.known.opened (f.holding holds).1 f.of_input))
            (at_end_or_before vs (newcomer v) u j here);
        apart = λ i j a b here there some_hand same.
            ⊎_elim
            (λ (x : Was views i a).
            ⊎_elim
            (λ (y : Was views j b). k.apart i j x.old y.old x.at y.at (subst (λ n. 0 < n) x.hand_is some_hand) (sym x.hand_is ∙ (same ∙ y.hand_is)))
            (λ (y : (j ≡ length vs) × (newcomer v ≡ b)). let d = dealt_before i a x some_hand in let n : v.made + 1 ≡ b.hand = ap (λ (z : View). z.hand) y.1 in absurd (omega arith))
            (grown views id v at j b there))
            (λ (x : (i ≡ length vs) × (newcomer v ≡ a)).
            let n : v.made + 1 ≡ a.hand = ap (λ (z : View). z.hand) x.1 in
            ⊎_elim
            (λ (y : Was views j b). let d = dealt_before j b y (subst (λ m. 0 < m) same some_hand) in absurd (omega arith))
            (λ (y : (j ≡ length vs) × (newcomer v ≡ b)). x.0 ∙ sym y.0)
            (grown views id v at j b there))
            (grown views id v at i a here);
        noted = λ i j a b here there some_hand other_hand has.
            ⊎_elim
            (λ (y : Was views j b).
            let also : 0 < y.old.hand = subst (λ n. 0 < n) y.hand_is other_hand in
            let old_has : HasNote a.hand y.old.notes = subst (λ ns. HasNote a.hand ns) y.notes_are has in
            ⊎_elim
            (λ (x : Was views i a). k.noted i j x.old y.old x.at y.at (subst (λ n. 0 < n) x.hand_is some_hand) also (subst (λ n. HasNote n y.old.notes) x.hand_is old_has))
            (λ (x : (i ≡ length vs) × (newcomer v ≡ a)).
            let n : v.made + 1 ≡ a.hand = ap (λ (z : View). z.hand) x.1 in
            let d = note_dealt founded.base v.made a.hand log y.old.notes old_has (k.each j y.old y.at also).notes in
            absurd (omega arith))
            (grown views id v at i a here))
            (λ (y : (j ≡ length vs) × (newcomer v ≡ b)). subst (λ (z : View). HasNote a.hand z.notes) (sym y.1) has)
            (grown views id v at j b there);
        stands = λ hand some_hand within.
            dite (ℕ_discrete hand (v.made + 1))
            (λ e. record { id = length vs; view = newcomer v; at = at_end vs (newcomer v); live = omega arith; has = inl (sym e) })
            (λ ne. let s = stands_still views id v (dealer v) hand at refl refl (k.stands hand some_hand (omega arith)) in record { id = s.id; view = s.view; at = at_longer vs (newcomer v ∷ []) s.id s.view s.at; live = s.live; has = s.has });
        once = λ i j a b hand here there some_hand other_hand has also.
            ⊎_elim
            (λ (x : Was views i a).
            ⊎_elim
            (λ (y : Was views j b).
            k.once i j x.old y.old hand x.at y.at (subst (λ n. 0 < n) x.hand_is some_hand) (subst (λ n. 0 < n) y.hand_is other_hand)
            (subst (λ ns. HasNote hand ns) x.notes_are has) (subst (λ ns. HasNote hand ns) y.notes_are also))
            (λ (y : (j ≡ length vs) × (newcomer v ≡ b)). absurd (subst (λ (z : View). HasNote hand z.notes) (sym y.1) also))
            (grown views id v at j b there))
            (λ (x : (i ≡ length vs) × (newcomer v ≡ a)). absurd (subst (λ (z : View). HasNote hand z.notes) (sym x.1) has))
            (grown views id v at i a here);
        notes_apart = λ j u here some_hand.
            ⊎_elim
            (λ (x : Was views j u). subst AreApart (sym x.notes_are) (k.notes_apart j x.old x.at (subst (λ n. 0 < n) x.hand_is some_hand)))
            (λ (x : (j ≡ length vs) × (newcomer v ≡ u)). subst (λ (z : View). AreApart z.notes) x.1 tt)
            (grown views id v at j u here);
        after = goes_on_by_more v.made (v.made + 1) founded.base log (omega arith) k.after;
      }

  pub split_allowed : (id : ℕ) (v : View) → v.hand ≡ 1 → v.holds ≡ true → v.made < founded.seats → Splits (Rule history input founded) id v (dealer v) (newcomer v)
  split_allowed id v first holds room s r at =
      let made_is : v.made ≡ r.made = (r.kept.each id v at (subst (λ n. 0 < n) (sym first) (omega arith))).dealer first in record {
        turn = r.turn;
        home = r.home;
        log = r.log;
        made = v.made + 1;
        words_are = r.words_are;
        homes_are = r.homes_are;
        kept = kept_by_split r.turn r.home r.log s.views id v (subst (λ m. Kept history input founded r.turn r.home r.log m s.views) (sym made_is) r.kept) at first holds room;
      }

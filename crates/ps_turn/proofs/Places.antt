-- Lists of seats, as a book opens with them and as it closes.
use Rattle.std.proofs.Common.{◌≡◌, ◌⊎◌, ℕ, zero, suc, ◌+◌, ◌-◌, ◌<◌, ◌≤◌, List, [], ◌∷◌, ◌++◌, map, length, sym, ap, ◌∙◌, subst, inl, inr, ⊎_elim, arith}
use Rattle.std.specs.List.{All, Any, range_with_len}
use Rattle.std.proofs.lemmas.List.Elements.{All-nil, All-cons, Contains-get_or}
use Rattle.std.proofs.lemmas.List.FromFn.{map-range_with_len_more, length-map-range_with_len, get_or-map-range_with_len}
use lib.ListN.{get_or}
use Rattle.ps_machine.specs.declared.journal.Entry.{Entry}
use Rattle.ps_turn.specs.Books.{Book, Place, new_place, hands, Agrees, IsFree, AreAll}
use Rattle.ps_turn.specs.Rule.{Known, AreKnown, HasNote}
use Rattle.ps_turn.specs.Seats.{place_note}
use Rattle.ps_turn.specs.declared.view.Note.{Note}

-- one more seat is dealt
pub dealt_more : (book : Book) (made : ℕ) (xs ys : List Place) (seat : Place) → 1 ≤ made → xs ≡ map (new_place book) (range_with_len 2 (made - 1))
    → ys ≡ xs ++ seat ∷ [] → seat ≡ new_place book (made + 1) → ys ≡ map (new_place book) (range_with_len 2 (made + 1 - 1))
dealt_more book made xs ys seat some_made before pushed is =
    let f = new_place book in
    let n : made - 1 + 1 ≡ made + 1 - 1 = omega arith in
    let more = map-range_with_len_more f 2 (made - 1) (made + 1) (omega arith) in
    pushed ∙ (ap (λ zs. zs ++ seat ∷ []) before ∙ (ap (λ (p : Place). map f (range_with_len 2 (made - 1)) ++ p ∷ []) is ∙ (sym more ∙ ap (λ k. map f (range_with_len 2 k)) n)))

-- a hand among the seats is the last one's, or one of the others has a note of it
hand_noted : (hand : ℕ) (left : List Place) (last : Place) (k : ℕ) (x : Place) → k < length (left ++ last ∷ []) → get_or (left ++ last ∷ []) k x ≡ x → x.hand ≡ hand
    → (last.hand ≡ hand) ⊎ HasNote hand (map place_note left)
hand_noted hand [] last zero x less here is = inl (ap (λ (p : Place). p.hand) here ∙ is)
hand_noted hand [] last (suc k) x less here is = absurd (omega arith)
hand_noted hand (p ∷ left) last zero x less here is = inr (inl (ap (λ (p : Place). p.hand) here ∙ is))
hand_noted hand (p ∷ left) last (suc k) x less here is =
    ⊎_elim (λ (t : last.hand ≡ hand). inl t) (λ (t : HasNote hand (map place_note left)). inr (inr t)) (hand_noted hand left last k x (omega arith) here is)

pub all_noted : (hand keeper : ℕ) (places left : List Place) (last : Place) (notes : List Note) → places ≡ left ++ last ∷ [] → notes ≡ map place_note left → keeper ≡ last.hand
    → Any (λ (place : Place). place.hand ≡ hand) places → (keeper ≡ hand) ⊎ HasNote hand notes
all_noted hand keeper places left last notes split noted kept any =
    let moved : Any (λ (place : Place). place.hand ≡ hand) (left ++ last ∷ []) = subst (λ ps. Any (λ (place : Place). place.hand ≡ hand) ps) split any in
    ⊎_elim (λ (t : last.hand ≡ hand). inl (kept ∙ t)) (λ (t : HasNote hand (map place_note left)). inr (subst (λ ns. HasNote hand ns) (sym noted) t))
    (hand_noted hand left last moved.0 moved.1 moved.2 moved.3 moved.4)

-- each seat agrees with the history where its note is known, and the last one is known too
known_agree : (base : List Entry) (made : ℕ) (log : List Entry) (left : List Place) (last : Place) → Known base made log last.hand last.seen last.mine → AreKnown base made log (map place_note left)
    → All (Agrees base log) (left ++ last ∷ [])
known_agree base made log [] last known notes =
    All-cons (Agrees base log) last [] record { opened = known.opened; begins = known.begins; own = known.own } (All-nil (Agrees base log))
known_agree base made log (p ∷ left) last known notes =
    All-cons (Agrees base log) p (left ++ last ∷ []) record { opened = notes.0.opened; begins = notes.0.begins; own = notes.0.own } (known_agree base made log left last known notes.1)

pub all_agree : (base : List Entry) (made : ℕ) (log : List Entry) (places left : List Place) (last : Place) (notes : List Note) → places ≡ left ++ last ∷ [] → notes ≡ map place_note left
    → Known base made log last.hand last.seen last.mine → AreKnown base made log notes → All (Agrees base log) places
all_agree base made log places left last notes split noted known are =
    subst (All (Agrees base log)) (sym split) (known_agree base made log left last known (subst (AreKnown base made log) noted are))

-- seats that came back in their order, each with its hand and without the turn, are all of the book's
pub all_back : (book : Book) (count : ℕ) (places back : List Place) → book.seats ≡ count → places ≡ map (new_place book) (hands count) → length back ≡ length places
    → ((i : ℕ) (d : Place) → i < length places → IsFree book (get_or back i d) × ((get_or back i d).hand ≡ (get_or places i d).hand)) → AreAll book back
all_back book count places back seats opened len each =
    let f = new_place book in
    let many : length places ≡ count = ap (λ (ps : List Place). length ps) opened ∙ length-map-range_with_len f 1 count in (
      (λ k d less. (each k d (omega arith)).0),
      (λ hand live within.
          let d = new_place book hand in
          let x = get_or back (hand - 1) d in
          let here : hand - 1 < length places = omega arith in
          let c = Contains-get_or back (hand - 1) d (omega arith) in
          let dealt = ap (λ ps. get_or ps (hand - 1) d) opened ∙ get_or-map-range_with_len f 1 count (hand - 1) hand d (omega arith) (omega arith) in
          (c.0, x, c.1, c.2, (each (hand - 1) d here).1 ∙ ap (λ (p : Place). p.hand) dealt)),
    )

-- Workers stay at their seats.
use Rattle.std.proofs.Common.{◌≡◌, ℕ, zero, suc, ◌<◌, ◌≤◌, nat_le, ◌&&◌, true, false, List, [], ◌∷◌, ◌++◌, length, map, slice_index_or, IsTrue, refl, arith, ap, sym, ◌∙◌, subst, append_assoc, append-nil}
use Rattle.std.specs.List.{All, range_with_len}
use Rattle.std.proofs.lemmas.Bool.Decides.{nat_tests}
use Rattle.std.proofs.lemmas.List.Elements.{All-head, All-map, All-tail}
use Rattle.std.proofs.lemmas.List.FromFn.{get_or-range_with_len, length-range_with_len}
use lib.ListN.{get_or}
use Rattle.ps_machine.specs.declared.journal.Entry.{Entry}
use Rattle.ps_rules.specs.Runs.{has_run, is_running}
use Rattle.ps_turn.specs.Books.{Book, hands, new_place, now_at, Place}
use Rattle.ps_turn.specs.Hands.{GoesOnBy, IsBeginning}
use Rattle.ps_pool.specs.Workers.{HasLeft, HasStayed, MayWork}
use Rattle.ps_pool.specs.declared.round_place.Stand.{Stand}
use Rattle.ps_pool.specs.declared.round_place.Stand.TheVariants as stand
use Rattle.ps_pool.proofs.Working.{nothing-by, ran-still}

-- what begins with the beginning of a list begins so itself
begins-on : (front mid all : List Entry) → IsBeginning front mid → IsBeginning mid all → IsBeginning front all
begins-on front mid all one two = (one.0 ++ two.0, two.1 ∙ ap (λ l. l ++ two.0) one.1 ∙ append_assoc front one.0 two.0)

-- a seat that took the board and gave it back may take it again
pub stays : (book : Book) (old mid new : Place) (hand : ℕ) (log more : List Entry) → MayWork book old → mid ≡ now_at old log true → IsBeginning old.seen log → GoesOnBy hand log more
    → new ≡ now_at mid more false → HasStayed book old new
stays book old mid new hand log more may took begins grew gave =
    let is : new ≡ now_at old more false = gave ∙ ap (λ (p : Place). now_at p more false) took in
    let ran : has_run more ≡ true = ran-still log more grew.0 grew.1 (ran-still old.seen log begins.0 begins.1 may.ran) in
    subst (λ (p : Place). HasStayed book old p) (sym is) record {
      may = record { free = (may.free.0, refl); hand = may.hand; ran = ran };
      hand = refl;
      seen = begins-on old.seen log more begins (grew.0, grew.1);
    }

-- a seat that isn't used stays as it is
pub stays-so : (book : Book) (place : Place) → MayWork book place → HasStayed book place place
stays-so book place may = record { may = may; hand = refl; seen = ([], sym (append-nil place.seen)) }

-- a seat that stayed and stayed again has stayed
pub stays-on : (book : Book) (old mid new : Place) → HasStayed book old mid → HasStayed book mid new → HasStayed book old new
stays-on book old mid new one two = record { may = two.may; hand = two.hand ∙ one.hand; seen = begins-on old.seen mid.seen new.seen one.seen two.seen }

-- so it is with each of many
pub all-stay-on : (book : Book) (olds mids news : List Place) → length mids ≡ length olds
    → ((i : ℕ) (d : Place) → i < length olds → HasStayed book (slice_index_or olds i d) (slice_index_or mids i d))
    → ((i : ℕ) (d : Place) → i < length mids → HasStayed book (slice_index_or mids i d) (slice_index_or news i d))
    → (i : ℕ) (d : Place) → i < length olds → HasStayed book (slice_index_or olds i d) (slice_index_or news i d)
all-stay-on book olds mids news len one two = λ i d less.
    stays-on book (slice_index_or olds i d) (slice_index_or mids i d) (slice_index_or news i d) (one i d less) (two i d (omega arith))

pub all-may : (book : Book) (olds news : List Place) → length news ≡ length olds
    → ((i : ℕ) (d : Place) → i < length olds → HasStayed book (slice_index_or olds i d) (slice_index_or news i d)) → All (MayWork book) news
all-may book olds news len stayed = λ i d less. (stayed i d (omega arith)).may

pub all-stay-so : (book : Book) (places : List Place) → All (MayWork book) places → (i : ℕ) (d : Place) → i < length places → HasStayed book (slice_index_or places i d) (slice_index_or places i d)
all-stay-so book places may = λ i d less. stays-so book (slice_index_or places i d) (may i d less)

-- a worker that has left and is told to have seen the run's end has
pub left-over : (seen : List Entry) (s : Stand) → HasLeft seen s → s ≡ stand.Over → is_running seen ≡ false
left-over seen s left over = subst (HasLeft seen) over left

-- each seat of a new book may take the board
within : (hand : ℕ) → 1 ≤ hand → hand ≤ 16 → IsTrue (nat_le 1 hand && nat_le hand 16)
within hand low high = grind (arith, nat_tests)

pub seated : (book : Book) (count : ℕ) (places lent : List Place) → has_run book.opened ≡ true → count ≤ 16 → places ≡ map (new_place book) (hands count) → lent ≡ places
    → All (MayWork book) lent
seated book count places lent ran few opened is =
    subst (All (MayWork book)) (sym (is ∙ opened))
    (All-map (MayWork book) (new_place book) (hands count) (λ k d less.
    let many = length-range_with_len 1 count in
    let is = get_or-range_with_len 1 count k d (omega (arith, many, less)) in
    record {
      free = (refl, refl);
      hand = within (get_or (range_with_len 1 count) k d) (omega (arith, is)) (omega (arith, is, many, less, few));
      ran = ran;
    }))

-- the board is given back as it was taken
pub gives-same : (old mid : Place) (log new : List Entry) → mid ≡ now_at old log true → new ≡ log → GoesOnBy mid.hand mid.seen new
gives-same old mid log new took same = nothing-by mid.hand mid.seen new (same ∙ sym (ap (λ (p : Place). p.seen) took))

-- the first seat stayed, and those after it
pub both-stayed : (book : Book) (old new : Place) (rest rest' places : List Place) → places ≡ old ∷ rest → HasStayed book old new
    → ((i : ℕ) (d : Place) → i < length rest → HasStayed book (slice_index_or rest i d) (slice_index_or rest' i d)) → (i : ℕ) (d : Place) → i < length places
    → HasStayed book (slice_index_or places i d) (slice_index_or (new ∷ rest') i d)
both-stayed book old new rest rest' places is stayed others =
    subst (λ (l : List Place). (i : ℕ) (d : Place) → i < length l → HasStayed book (slice_index_or l i d) (slice_index_or (new ∷ rest') i d)) (sym is) at
  where
    at : (i : ℕ) (d : Place) → i < length (old ∷ rest) → HasStayed book (slice_index_or (old ∷ rest) i d) (slice_index_or (new ∷ rest') i d)
    at zero d less = stayed
    at (suc i) d less = others i d (omega arith)

-- the seats after the first may be used where all may
pub rest-may : (book : Book) (first : Place) (rest places : List Place) → places ≡ first ∷ rest → All (MayWork book) places → MayWork book first × All (MayWork book) rest
rest-may book first rest places is may =
    let all = subst (All (MayWork book)) is may in
    (All-head (MayWork book) first rest all, All-tail (MayWork book) first rest all)

-- A book's seats go out to threads as a slice, and come back.
use Rattle.std.proofs.Common.{◌≡◌, ℕ, ◌<◌, List, ◌++◌, map, length, take, drop, refl, sym, ◌∙◌, subst}
use Rattle.std.specs.List.{All}
use Rattle.std.proofs.lemmas.List.Elements.{All-map}
use Rattle.std.proofs.Math.Seq.{take-append_seam}
use lib.ListN.{get_or}
use Rattle.ps_turn.specs.Books.{Book, Place, new_place, hands, IsFree, AreAll}
use Rattle.ps_turn.proofs.Places.{all_back}

-- no seat has the turn as the book opens
pub dealt_free : (book : Book) (count : ℕ) (places lent : List Place) → places ≡ map (new_place book) (hands count) → lent ≡ places → All (IsFree book) lent
dealt_free book count places lent opened is =
    subst (All (IsFree book)) (sym (is ∙ opened)) (All-map (IsFree book) (new_place book) (hands count) (λ k d less. (refl, refl)))

-- what was lent is what comes back
all_lent : (ys zs : List Place) (n : ℕ) → length ys ≡ n → take n (ys ++ zs) ≡ ys
all_lent ys zs n is = subst (λ m. take m (ys ++ zs) ≡ ys) is (take-append_seam ys zs)

pub come_back : (book : Book) (count : ℕ) (places lent new : List Place) (len : ℕ) → book.seats ≡ count → places ≡ map (new_place book) (hands count) → lent ≡ places
    → length lent ≡ len → length new ≡ length lent
    → ((i : ℕ) (d : Place) → i < length lent → IsFree book (get_or new i d) × ((get_or new i d).hand ≡ (get_or lent i d).hand))
    → AreAll book (take len (new ++ drop (length new) places))
come_back book count places lent new len seats opened is lent_len new_len each =
    subst (AreAll book) (sym (all_lent new (drop (length new) places) len (new_len ∙ lent_len))) (all_back book count lent new seats (is ∙ opened) new_len each)

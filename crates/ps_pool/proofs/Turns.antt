-- Whose turn it is.
use Rattle.std.proofs.Common.{◌≡◌, ℕ, zero, suc, ◌+◌, ◌<◌, ◌%◌, Option, Some, None, option_map, List, [], ◌∷◌, ◌++◌, filter_map, length, map, slice_get, take, refl, add-one, arith, ap, sym, ◌∙◌}
use Rattle.std.specs.List.{cons_option}
use Rattle.std.specs.Option.{option_map_or}
use Rattle.std.proofs.lemmas.List.{length-append, length-map}
use Rattle.std.proofs.lemmas.Option.{slice_get-map}
use Rattle.std.proofs.Math.Nat.{mod-add-mod, mod-eq_of_lt, mod_self}
use Rattle.ps_world.proofs.Elements.{get_last}
use Rattle.ps_world.proofs.Optionals.{some_same}
use Rattle.ps_machine.specs.declared.inputs.Input.{Input}
use Rattle.ps_machine.specs.declared.journal.Entry.{Entry}
use Rattle.ps_machine.specs.declared.members.Member.{Member}
use Rattle.ps_machine.specs.declared.members.Member.TheVariants as member
use Rattle.ps_machine.specs.declared.members.Observer.{Observer}
use Rattle.ps_machine.specs.declared.members.Performer.{Performer}
use Rattle.ps_rules.specs.Members.{as_observer, as_performer, observers, performers}
use Rattle.ps_rules.specs.Choices.{actor_of, actors, after_turn, Says, turn, with_block}
use Rattle.ps_rules.specs.Choices.Actor.{ticks}

-- ---- how many of some kind stand before a place of a list

module _ {A B : Type 0} (f : A → Option B) where
  -- how many of the first so many items give something
  abbrev pub before : List A → ℕ → ℕ
  before xs k = length (filter_map f (take k xs))

  one-more : (o : Option B) (xs ys : List B) → length xs ≡ suc (length ys) → length (cons_option o xs) ≡ suc (length (cons_option o ys))
  one-more None xs ys e = e
  one-more (Some y) xs ys e = ap (λ (n : ℕ). suc n) e

  as-many : (o : Option B) (xs ys : List B) → length xs ≡ length ys → length (cons_option o xs) ≡ length (cons_option o ys)
  as-many None xs ys e = e
  as-many (Some y) xs ys e = ap (λ (n : ℕ). suc n) e

  past-first : (o : Option B) (xs ys : List B) (y : B) → slice_get xs (length ys) ≡ Some y → slice_get (cons_option o xs) (length (cons_option o ys)) ≡ Some y
  past-first None xs ys y e = e
  past-first (Some z) xs ys y e = e

  -- an item that gives something is one more
  pub before-one : (xs : List A) (k : ℕ) (x : A) (y : B) → slice_get xs k ≡ Some x → f x ≡ Some y → before xs (suc k) ≡ suc (before xs k)
  before-one [] k x y at is = absurd (cc)
  before-one (z ∷ xs) zero x y at is = ap (λ o. length (cons_option o [])) (ap f (some_same z x at) ∙ is)
  before-one (z ∷ xs) (suc k) x y at is = one-more (f z) (filter_map f (take (suc k) xs)) (filter_map f (take k xs)) (before-one xs k x y at is)

  -- one that gives nothing isn't
  pub before-none : (xs : List A) (k : ℕ) (x : A) → slice_get xs k ≡ Some x → f x ≡ None → before xs (suc k) ≡ before xs k
  before-none [] k x at is = absurd (cc)
  before-none (z ∷ xs) zero x at is = ap (λ o. length (cons_option o [])) (ap f (some_same z x at) ∙ is)
  before-none (z ∷ xs) (suc k) x at is = as-many (f z) (filter_map f (take (suc k) xs)) (filter_map f (take k xs)) (before-none xs k x at is)

  -- what an item gives stands behind what those before it give
  pub given-at : (xs : List A) (k : ℕ) (x : A) (y : B) → slice_get xs k ≡ Some x → f x ≡ Some y → slice_get (filter_map f xs) (before xs k) ≡ Some y
  given-at [] k x y at is = absurd (cc)
  given-at (z ∷ xs) zero x y at is = ap (λ o. slice_get (cons_option o (filter_map f xs)) 0) (ap f (some_same z x at) ∙ is)
  given-at (z ∷ xs) (suc k) x y at is = past-first (f z) (filter_map f xs) (filter_map f (take k xs)) y (given-at xs k x y at is)

-- the number of the performer at a place among the members, in the order of the performers
abbrev pub performers_before : Input → ℕ → ℕ
performers_before i k = before as_performer i.members k

-- the same of observers
abbrev pub observers_before : Input → ℕ → ℕ
observers_before i k = before as_observer i.members k

pub performer-at : (i : Input) (k : ℕ) (p : Performer) → slice_get i.members k ≡ Some (member.Performer p)
    → slice_get (map (λ w. w.name) (performers i)) (performers_before i k) ≡ Some p.name
performer-at i k p at =
    slice_get-map (λ w. w.name) (performers i) (performers_before i k)
    ∙ ap (option_map (λ w. w.name)) (given-at as_performer i.members k (member.Performer p) p at refl)

pub observer-at : (i : Input) (k : ℕ) (o : Observer) → slice_get i.members k ≡ Some (member.Observer o)
    → slice_get (map (λ w. w.name) (observers i)) (observers_before i k) ≡ Some o.name
observer-at i k o at =
    slice_get-map (λ w. w.name) (observers i) (observers_before i k)
    ∙ ap (option_map (λ w. w.name)) (given-at as_observer i.members k (member.Observer o) o at refl)

-- ---- the turns of a round

in-front : {A : Type 0} (xs : List A) (y : A) (k : ℕ) (x : A) → slice_get xs k ≡ Some x → slice_get (xs ++ y ∷ []) k ≡ Some x
in-front [] y k x at = absurd (cc)
in-front (z ∷ xs) y zero x at = at
in-front (z ∷ xs) y (suc k) x at = in-front xs y k x at

-- the turn of the member at a place
pub member-turn : (says : Says) (i : Input) (turns k : ℕ) (m : Member) (es : List Entry) → turns % length (actors i) ≡ k → slice_get i.members k ≡ Some m
    → after_turn says i turns es ≡ option_map_or (with_block i 1 es) (turn says i es (Some (actor_of m))) es
member-turn says i turns k m es here at =
    ap (λ a. option_map_or (with_block i 1 es) (turn says i es a) es)
    (ap (slice_get (actors i)) here ∙ in-front (map actor_of i.members) ticks k (actor_of m) (slice_get-map actor_of i.members k ∙ ap (option_map actor_of) at))

-- the turn of the ticker comes after those of all members
pub ticker-turn : (says : Says) (i : Input) (turns : ℕ) (es : List Entry) → turns % length (actors i) ≡ length i.members
    → after_turn says i turns es ≡ option_map_or (with_block i 1 es) (turn says i es (Some ticks)) es
ticker-turn says i turns es here =
    ap (λ a. option_map_or (with_block i 1 es) (turn says i es a) es)
    (ap (slice_get (actors i)) (here ∙ sym (length-map i.members actor_of)) ∙ get_last (map actor_of i.members) ticks)

-- as many take turns as there are members, and the ticker
pub many-actors : (i : Input) → length (actors i) ≡ length i.members + 1
many-actors i = length-append (map actor_of i.members) (ticks ∷ []) ∙ ap (λ n. n + 1) (length-map i.members actor_of)

one-later : (turns k many : ℕ) → turns % many ≡ k → suc turns % many ≡ (k + 1) % many
one-later turns k many here = ap (λ n. n % many) (sym (add-one turns)) ∙ sym (mod-add-mod turns many 1) ∙ ap (λ n. (n + 1) % many) here

-- after a member's turn it is the turn of the next in order
pub next-turn : (i : Input) (turns k : ℕ) → turns % length (actors i) ≡ k → k < length i.members → suc turns % length (actors i) ≡ k + 1
next-turn i turns k here l =
    let within : k + 1 < length (actors i) = omega (arith, many-actors i) in
    one-later turns k (length (actors i)) here ∙ mod-eq_of_lt within

-- after the ticker's turn the first has its turn again
pub first-turn : (i : Input) (turns : ℕ) → turns % length (actors i) ≡ length i.members → suc turns % length (actors i) ≡ 0
first-turn i turns here =
    one-later turns (length i.members) (length (actors i)) here
    ∙ ap (λ n. n % length (actors i)) (sym (many-actors i))
    ∙ mod_self (length (actors i))

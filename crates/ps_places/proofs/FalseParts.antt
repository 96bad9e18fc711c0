-- First false parts.
use Rattle.std.proofs.Common.{◌≡◌, ◌∙◌, sym, ap, ℕ, zero, suc, ◌+◌, ◌<◌, Bool, true, false, not, ◌&&◌, Option, Some, None, is_some, option_map, List, [], ◌∷◌, ◌++◌, length, get_or, drop, refl, arith, add-one}
use Rattle.std.specs.List.{find, list_all}
use Rattle.std.specs.Option.{option_or}
use Rattle.std.proofs.lemmas.List.Elements.{All-cons, All-nil}
use Rattle.std.proofs.lemmas.List.Folds.{find-append, list_all-append}
use Rattle.ps_world.specs.Trees.{CondTree, CondTrees, all_of, any_of, no, implied, holds, same, compares, is_a, for_some, for_all, none, more}
use Rattle.ps_world.specs.declared.domains.Domain.{Domain}
use Rattle.ps_world.specs.declared.known.Knowledge.{Knowledge}
use Rattle.ps_world.proofs.Optionals.{some_same}
use Rattle.ps_action.specs.Truth.{is_true, are_true}
use Rattle.ps_places.specs.Laws.{IsFirst}
use Rattle.ps_places.specs.Parts.{first_false, first_false_among, first_false_of, parts, parts_of, parts_of_each}

-- the first false part of a list is that of its first condition, or else that of the others
pub first_more : (d : Domain) (k : Knowledge) (c : CondTree) (cs : List CondTree) → first_false_of d k (c ∷ cs) ≡ option_or (first_false d k c) (first_false_of d k cs)
first_more d k c cs = find-append (λ p. not (is_true d k p)) (parts c) (parts_of cs)

-- where the first of some is false, it is the first false one; where it is true, that of the others is
first_by : (d : Domain) (k : Knowledge) (c : CondTree) (cs : List CondTree) (x : CondTree) (b : Bool) → is_true d k c ≡ b → first_false_among d k (c ∷ cs) ≡ Some x → (first_false_among d k cs ≡ Some x → IsFirst d k cs x) → IsFirst d k (c ∷ cs) x
first_by d k c cs x true e h later =
    let rest : IsFirst d k cs x = later (cc) in
    record {
      before = c ∷ rest.before;
      after = rest.after;
      stands = ap (λ ys. c ∷ ys) rest.stands;
      true_before = All-cons (λ p. is_true d k p ≡ true) c rest.before e rest.true_before;
      is_false = rest.is_false;
    }
first_by d k c cs x false e h later =
    let one : c ≡ x = some_same c x (cc) in
    record {
      before = [];
      after = cs;
      stands = ap (λ y. y ∷ cs) one;
      true_before = All-nil (λ p. is_true d k p ≡ true);
      is_false = cc;
    }

pub is_first : (d : Domain) (k : Knowledge) (cs : List CondTree) (x : CondTree) → first_false_among d k cs ≡ Some x → IsFirst d k cs x
is_first d k [] x h = absurd (cc)
is_first d k (c ∷ cs) x h = first_by d k c cs x (is_true d k c) refl h (λ e. is_first d k cs x e)

-- where no element fails a test all pass it, and the other way round
none_by : {X : Type 0} (p : X → Bool) (x : X) (xs : List X) (b : Bool) → p x ≡ b → find (λ y. not (p y)) (x ∷ xs) ≡ None → (find (λ y. not (p y)) xs ≡ None → list_all p xs ≡ true) → list_all p (x ∷ xs) ≡ true
none_by p x xs true e h later = rw e (later (rw e at h))
none_by p x xs false e h later = absurd (cc)

none_false : {X : Type 0} (p : X → Bool) (xs : List X) → find (λ y. not (p y)) xs ≡ None → list_all p xs ≡ true
none_false p [] h = refl
none_false p (x ∷ xs) h = none_by p x xs (p x) refl h (λ e. none_false p xs e)

all_by : {X : Type 0} (p : X → Bool) (x : X) (xs : List X) (b : Bool) → p x ≡ b → list_all p (x ∷ xs) ≡ true → (list_all p xs ≡ true → find (λ y. not (p y)) xs ≡ None) → find (λ y. not (p y)) (x ∷ xs) ≡ None
all_by p x xs true e h later = rw e (later (rw e at h))
all_by p x xs false e h later = absurd (cc)

all_true : {X : Type 0} (p : X → Bool) (xs : List X) → list_all p xs ≡ true → find (λ y. not (p y)) xs ≡ None
all_true p [] h = refl
all_true p (x ∷ xs) h = all_by p x xs (p x) refl h (λ e. all_true p xs e)

and_true : (b : Bool) → (b && true) ≡ b
and_true true = refl
and_true false = refl

mutual
  -- a condition holds exactly where all of its parts do
  pub parts_hold : (d : Domain) (k : Knowledge) (c : CondTree) → list_all (is_true d k) (parts c) ≡ is_true d k c
  parts_hold d k (all_of cs) = parts_hold_each d k cs
  parts_hold d k (any_of cs) = and_true (is_true d k (any_of cs))
  parts_hold d k (no c) = and_true (is_true d k (no c))
  parts_hold d k (implied a b) = and_true (is_true d k (implied a b))
  parts_hold d k (holds l) = and_true (is_true d k (holds l))
  parts_hold d k (same s t) = and_true (is_true d k (same s t))
  parts_hold d k (compares rel x y) = and_true (is_true d k (compares rel x y))
  parts_hold d k (is_a t kind) = and_true (is_true d k (is_a t kind))
  parts_hold d k (for_some ps c) = and_true (is_true d k (for_some ps c))
  parts_hold d k (for_all ps c) = and_true (is_true d k (for_all ps c))

  pub parts_hold_each : (d : Domain) (k : Knowledge) (cs : CondTrees) → list_all (is_true d k) (parts_of_each cs) ≡ are_true d k cs
  parts_hold_each d k none = refl
  parts_hold_each d k (more c cs) =
      list_all-append (is_true d k) (parts c) (parts_of_each cs)
      ∙ ap (λ b. b && list_all (is_true d k) (parts_of_each cs)) (parts_hold d k c)
      ∙ ap (λ b. is_true d k c && b) (parts_hold_each d k cs)

pub holds_where_none : (d : Domain) (k : Knowledge) (c : CondTree) → first_false d k c ≡ None → is_true d k c ≡ true
holds_where_none d k c h = sym (parts_hold d k c) ∙ none_false (is_true d k) (parts c) h

pub none_where_holds : (d : Domain) (k : Knowledge) (c : CondTree) → is_true d k c ≡ true → first_false d k c ≡ None
none_where_holds d k c h = all_true (is_true d k) (parts c) (parts_hold d k c ∙ h)

-- ---- a search that goes on with what is left

-- a search that answers for an element and else goes on answers what it found for the one at a place, where it found something
found_by : {B : Type 0} (o p r whole : Option B) → r ≡ o → is_some r ≡ true → option_or o p ≡ whole → r ≡ whole
found_by None p None whole e t h = absurd (cc)
found_by None p (Some x) whole e t h = absurd (cc)
found_by (Some y) p r whole e t h = e ∙ h

gone_by : {B : Type 0} (o p r whole : Option B) → r ≡ o → is_some r ≡ false → option_or o p ≡ whole → p ≡ whole
gone_by None p r whole e t h = h
gone_by (Some y) p None whole e t h = absurd (cc)
gone_by (Some y) p (Some x) whole e t h = absurd (cc)

pub found_here : {A B : Type 0} (f : List A → Option B) (g : A → Option B) → ((x : A) (xs : List A) → f (x ∷ xs) ≡ option_or (g x) (f xs)) → (xs : List A) (i : ℕ) (x : A) (r whole : Option B) → i < length xs → x ≡ get_or xs i x → r ≡ g x → is_some r ≡ true → f (drop i xs) ≡ whole → r ≡ whole
found_here f g step [] i x r whole within at found there left = absurd (omega arith)
found_here f g step (y ∷ ys) zero x r whole within at found there left = found_by (g y) (f ys) r whole (found ∙ ap g at) there (sym (step y ys) ∙ left)
found_here f g step (y ∷ ys) (suc i) x r whole within at found there left = found_here f g step ys i x r whole (omega arith) at found there left

-- where it found nothing it goes on
gone : {A B : Type 0} (f : List A → Option B) (g : A → Option B) → ((x : A) (xs : List A) → f (x ∷ xs) ≡ option_or (g x) (f xs)) → (xs : List A) (i : ℕ) (x : A) (r whole : Option B) → i < length xs → x ≡ get_or xs i x → r ≡ g x → is_some r ≡ false → f (drop i xs) ≡ whole → f (drop (suc i) xs) ≡ whole
gone f g step [] i x r whole within at found there left = absurd (omega arith)
gone f g step (y ∷ ys) zero x r whole within at found there left = gone_by (g y) (f ys) r whole (found ∙ ap g at) there (sym (step y ys) ∙ left)
gone f g step (y ∷ ys) (suc i) x r whole within at found there left = gone f g step ys i x r whole (omega arith) at found there left

pub goes_on : {A B : Type 0} (f : List A → Option B) (g : A → Option B) → ((x : A) (xs : List A) → f (x ∷ xs) ≡ option_or (g x) (f xs)) → (xs : List A) (i : ℕ) (x : A) (r whole : Option B) → i < length xs → x ≡ get_or xs i x → r ≡ g x → is_some r ≡ false → f (drop i xs) ≡ whole → f (drop (i + 1) xs) ≡ whole
goes_on f g step xs i x r whole within at found there left = rw add-one (gone f g step xs i x r whole within at found there left)

pub copied_some : {A B : Type 0} (f : A → B) (o : Option A) (b : Bool) → is_some o ≡ b → is_some (option_map f o) ≡ b
copied_some f None b e = e
copied_some f (Some x) b e = e

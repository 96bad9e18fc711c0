-- Several things that are noted or marked one after another.
use Rattle.std.proofs.Common.{◌≡◌, ℕ, zero, suc, ◌+◌, ◌<◌, ◌≤◌, nat_eq, Bool, true, false, ◌&&◌, ◌||◌, List, [], ◌∷◌, ◌++◌, Some, map, drop, get_or, length, take, refl, ap, sym, ◌∙◌, arith}
use Rattle.std.specs.Cmp.{first_so, second_so}
use Rattle.std.specs.List.{list_all, list_any}
use Rattle.std.proofs.lemmas.List.{take_all, take_more, take-append-drop}
use Rattle.std.proofs.lemmas.List.Folds.{list_any-append}
use Rattle.ps_world.proofs.Truths.{or_false, or_more}
use Rattle.ps_action.specs.declared.touched.Touched.{Touched}
use Rattle.ps_action.specs.Arcs.{meets}
use Rattle.ps_action.specs.declared.touched.Touched.TheVariants.{Fact, Value, Instance, Facts, Values, Instances}
use Rattle.ps_users.specs.Singles.{single_of, touched_of}
use Rattle.ps_users.specs.Users.{Enters, IsSame, Marks, Users, uses}
use Rattle.ps_users.specs.declared.single.Single.{Single}
use Rattle.ps_users.specs.declared.single.Single.TheVariants as one
use Rattle.ps_users.proofs.Found.{uses-append}

-- ---- several things

or_and : (a b c d : Bool) → ((a || (b && c)) || (b && (d || false))) ≡ (a || (b && (c || (d || false))))
or_and true b c d = refl
or_and false true c d = refl
or_and false false c d = refl

pub none_entered : (users : Users) (act : ℕ) → Enters users [] act users
none_entered users act t i = nothing (uses users t i) (nat_eq i act)
  where
    nothing : (a b : Bool) → a ≡ (a || (b && false))
    nothing true b = refl
    nothing false true = refl
    nothing false false = refl

pub one_entered : (old mid new : Users) (things : List Touched) (k act : ℕ) (x : Touched) → k < length things → x ≡ get_or things k x
    → Enters old (take k things) act mid → Enters mid (x ∷ []) act new → Enters old (take (k + 1) things) act new
one_entered old mid new things k act x within is before or_false t i =
    let more : take k things ++ x ∷ [] ≡ take (k + 1) things = ap (λ y. take k things ++ y ∷ []) is ∙ sym (take_more things k x within) in
    or_false t i ∙ ap (λ b. b || (nat_eq i act && (meets t x || false))) (before t i)
    ∙ or_and (uses old t i) (nat_eq i act) (list_any (meets t) (take k things)) (meets t x)
    ∙ ap (λ b. uses old t i || (nat_eq i act && b)) (sym (list_any-append (meets t) (take k things) (x ∷ [])) ∙ ap (list_any (meets t)) more)

pub all_entered : (old new : Users) (things : List Touched) (k act : ℕ) → length things ≤ k → Enters old (take k things) act new → Enters old things act new
all_entered old new things k act all are t i =
    are t i ∙ ap (λ l. uses old t i || (nat_eq i act && list_any (meets t) l)) (take_all k things all)

-- ---- flags

or_three : (a b c : Bool) → ((a || b) || c) ≡ (a || (b || c))
or_three true b c = refl
or_three false b c = refl

-- what is marked after more is what either marks
pub marked_on : (p q : ℕ → Bool) (old mid new : List Bool) → Marks old p mid → Marks mid q new → Marks old (λ j. p j || q j) new
marked_on p q old mid new first then = (
  then.0 ∙ first.0,
  λ j within.
      then.1 j (omega (arith, within, first.0)) ∙ ap (λ b. b || q j) (first.1 j within) ∙ or_three (get_or old j false) (p j) (q j),
)

-- where two tests say the same, the same is marked
pub marked_as : (p q : ℕ → Bool) (old new : List Bool) → ((j : ℕ) → p j ≡ q j) → Marks old p new → Marks old q new
marked_as p q old new same h = (h.0, λ j within. h.1 j within ∙ ap (λ b. get_or old j false || b) (same j))

-- nothing is marked where no place passes
pub none_marked : (old : List Bool) (p : ℕ → Bool) → ((j : ℕ) → p j ≡ false) → Marks old p old
none_marked old p none = (refl, λ j within. sym (or_false (get_or old j false)) ∙ ap (λ b. get_or old j false || b) (sym (none j)))

-- one more of a list is marked
pub marked_more : {X : Type 0} (p : X → ℕ → Bool) (xs : List X) (x : X) (old mid new : List Bool) → Marks old (λ j. list_any (λ y. p y j) xs) mid → Marks mid (p x) new
    → Marks old (λ j. list_any (λ y. p y j) (xs ++ x ∷ [])) new
marked_more p xs x old mid new first then =
    marked_as _ _ old new (λ j. ap (λ b. list_any (λ y. p y j) xs || b) (sym (or_false (p x j))) ∙ sym (list_any-append (λ y. p y j) xs (x ∷ [])))
    (marked_on (λ j. list_any (λ y. p y j) xs) (p x) old mid new first then)

-- what a list passes through a change of its items
pub any-map : {X Y : Type 0} (f : X → Y) (p : Y → Bool) (xs : List X) → list_any p (map f xs) ≡ list_any (λ x. p (f x)) xs
any-map f p [] = refl
any-map f p (x ∷ xs) = ap (λ b. p (f x) || b) (any-map f p xs)

-- ---- flags that are all set

each_set : (flags : List Bool) → list_all (λ flag. flag) flags ≡ true → (j : ℕ) → j < length flags → get_or flags j false ≡ true
each_set [] e j h = absurd (omega (arith, h))
each_set (flag ∷ flags) e zero h = first_so flag (list_all (λ flag. flag) flags) e
each_set (flag ∷ flags) e (suc j) h = each_set flags (second_so flag (list_all (λ flag. flag) flags) e) j (omega (arith, h))

-- what passes among the first passes among all
more_pass : (p : Touched → Bool) (things : List Touched) (k : ℕ) → list_any p (take k things) ≡ true → list_any p things ≡ true
more_pass p things k e =
    ap (list_any p) (sym (take-append-drop k things)) ∙ list_any-append p (take k things) (drop k things)
    ∙ ap (λ b. b || list_any p (drop k things)) e

-- once all flags are set, what is left sets none
pub all_marked : (users : Users) (things : List Touched) (k : ℕ) (old new : List Bool) → list_all (λ flag. flag) new ≡ true
    → Marks old (λ j. list_any (λ t. uses users t j) (take k things)) new → Marks old (λ j. list_any (λ t. uses users t j) things) new
all_marked users things k old new set marks = (
  marks.0,
  λ j within.
      let on : get_or new j false ≡ true = each_set new set j (omega (arith, within, marks.0)) in
      on ∙ sym (or_more (get_or old j false) (list_any (λ t. uses users t j) (take k things)) (list_any (λ t. uses users t j) things) (sym (marks.1 j within) ∙ on) (more_pass (λ t. uses users t j) things k)),
)

-- what two lists in a row use is marked one after the other
pub marked_both : (xs ys : Users) (t : Touched) (old mid new : List Bool) → Marks old (uses xs t) mid → Marks mid (uses ys t) new → Marks old (uses (xs ++ ys) t) new
marked_both xs ys t old mid new first then =
    marked_as _ _ old new (λ j. sym (uses-append xs ys t j)) (marked_on (uses xs t) (uses ys t) old mid new first then)

-- ---- one more in front of others

or_mid : (a b c : Bool) → ((a || c) || b) ≡ ((a || b) || c)
or_mid true b c = refl
or_mid false true true = refl
or_mid false true false = refl
or_mid false false true = refl
or_mid false false false = refl

pub entered_front : (old new ys : Users) (things : List Touched) (act : ℕ) → Enters old things act new → Enters (old ++ ys) things act (new ++ ys)
entered_front old new ys things act h t i =
    uses-append new ys t i ∙ ap (λ b. b || uses ys t i) (h t i) ∙ or_mid (uses old t i) (uses ys t i) (nat_eq i act && list_any (meets t) things)
    ∙ ap (λ b. b || (nat_eq i act && list_any (meets t) things)) (sym (uses-append old ys t i))

pub same_front : (old new ys : Users) → IsSame old new → IsSame (old ++ ys) (new ++ ys)
same_front old new ys h t i = uses-append new ys t i ∙ ap (λ b. b || uses ys t i) (h t i) ∙ sym (uses-append old ys t i)

-- a single thing is told by what is touched
pub single_told : (t : Touched) (s : Single) → single_of t ≡ Some s → touched_of s ≡ t
single_told (Fact f) s e = let same : one.Fact f ≡ s = cc in ap touched_of (sym same)
single_told (Value f) s e = let same : one.Value f ≡ s = cc in ap touched_of (sym same)
single_told (Instance n) s e = let same : one.Instance n ≡ s = cc in ap touched_of (sym same)
single_told (Facts p) s e = absurd (cc)
single_told (Values p) s e = absurd (cc)
single_told Instances s e = absurd (cc)

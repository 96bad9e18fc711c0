-- Who may be together.
use Rattle.std.proofs.Common.{◌≡◌, ℕ, ◌+◌, ◌<◌, inl, inr, Bool, true, false, ◌||◌, if◌then◌else◌, Option, Some, None, List, [], ◌∷◌, ◌++◌, All, AllPairs, drop, filter_map, length, take, slice_index_or, sym, ap, ◌∙◌, subst, arith}
use Rattle.std.proofs.lemmas.Bool.{cases_Bool}
use Rattle.std.proofs.lemmas.List.{drop_all, drop_more, take_more}
use Rattle.std.proofs.lemmas.List.Elements.{All-nil, All-cons, All-head, All-tail}
use Rattle.std.proofs.lemmas.List.Kept.{AllPairs-cons}
use Rattle.ps_world.specs.Names.{same_name}
use Rattle.ps_world.specs.declared.names.Name.{Name}
use Rattle.ps_machine.specs.declared.members.Member.{Member}
use Rattle.ps_rules.specs.Sound.{member_name}
use Rattle.ps_inputs.specs.Members.{first_repeated, has_member, repeated}

-- ---- the loop over names

-- what is said of the members from a place on
abbrev pub repeated_from : List Member → ℕ → Option Name
repeated_from ms i = repeated (take i ms) (drop i ms)

-- the member at a place
abbrev step_at : List Member → ℕ → Member → Option Name
step_at ms i m = if has_member (member_name m) (take i ms) then Some (member_name m) else repeated_from ms (i + 1)

repeated_more : (ms : List Member) (i : ℕ) (d m : Member) → i < length ms → m ≡ slice_index_or ms i d → repeated_from ms i ≡ step_at ms i m
repeated_more ms i d m lt here =
    ap (repeated (take i ms)) (drop_more ms i d lt ∙ ap (λ (x : Member). x ∷ drop (i + 1) ms) (sym here))
    ∙ ap (λ (before : List Member). if has_member (member_name m) (take i ms) then Some (member_name m) else repeated before (drop (i + 1) ms))
    (sym (take_more ms i d lt ∙ ap (λ (x : Member). take i ms ++ x ∷ []) (sym here)))

module _ (ms : List Member) (i : ℕ) (d m : Member) (lt : i < length ms) (here : m ≡ slice_index_or ms i d) (so_far : repeated_from ms i ≡ first_repeated ms) where
  -- the name at a place is that of an earlier member
  pub name_again : (name : Name) → name ≡ member_name m → has_member name (take i ms) ≡ true → Some name ≡ first_repeated ms
  name_again name e has =
      let here_has : has_member (member_name m) (take i ms) ≡ true = subst (λ (n : Name). has_member n (take i ms) ≡ true) e has in
      let found : step_at ms i m ≡ Some (member_name m) = ap (λ (b : Bool). if b then Some (member_name m) else repeated_from ms (i + 1)) here_has in
      ap Some e ∙ (sym found ∙ (sym (repeated_more ms i d m lt here) ∙ so_far))

  -- it isn't
  pub name_new : (name : Name) → name ≡ member_name m → has_member name (take i ms) ≡ false → repeated_from ms (i + 1) ≡ first_repeated ms
  name_new name e has =
      let here_has : has_member (member_name m) (take i ms) ≡ false = subst (λ (n : Name). has_member n (take i ms) ≡ false) e has in
      let next : step_at ms i m ≡ repeated_from ms (i + 1) = ap (λ (b : Bool). if b then Some (member_name m) else repeated_from ms (i + 1)) here_has in
      sym next ∙ (sym (repeated_more ms i d m lt here) ∙ so_far)

-- no name stands twice
pub names_new : (ms : List Member) (i : ℕ) → i ≡ length ms → repeated_from ms i ≡ first_repeated ms → None ≡ first_repeated ms
names_new ms i count so_far =
    let none : drop i ms ≡ [] = drop_all i ms (omega (arith, count)) in
    sym (ap (repeated (take i ms)) none) ∙ so_far

-- ---- counting

-- the members of a kind from a place on
pub counted_more : {X : Type 0} (kind : Member → Option X) (ms : List Member) (i : ℕ) (d m : Member) → i < length ms → m ≡ slice_index_or ms i d → filter_map kind (drop i ms) ≡ filter_map kind (m ∷ drop (i + 1) ms)
counted_more kind ms i d m lt here = ap (filter_map kind) (drop_more ms i d lt ∙ ap (λ (x : Member). x ∷ drop (i + 1) ms) (sym here))

pub counted_all : {X : Type 0} (kind : Member → Option X) (ms : List Member) (i : ℕ) → i ≡ length ms → filter_map kind (drop i ms) ≡ []
counted_all kind ms i count = ap (filter_map kind) (drop_all i ms (omega (arith, count)))

-- ---- names that differ

-- a member has another name than each of these
abbrev IsApart : Member → List Member → Type 0
IsApart m ms = All (λ n. same_name (member_name m) (member_name n) ≡ false) ms

not_any : (n : Name) (ms : List Member) → has_member n ms ≡ false → All (λ m. same_name (member_name m) n ≡ false) ms
not_any n [] h = All-nil (λ m. same_name (member_name m) n ≡ false)
not_any n (m ∷ ms) h =
    elim (cases_Bool (same_name (member_name m) n)) [
      | inl e ↦ absurd (taken e)
      | inr e ↦ All-cons (λ m. same_name (member_name m) n ≡ false) m ms e (not_any n ms (subst (λ (b : Bool). (b || has_member n ms) ≡ false) e h))
    ] where
      taken : same_name (member_name m) n ≡ true → ⊥
      taken e = let no : (true || has_member n ms) ≡ false = subst (λ (b : Bool). (b || has_member n ms) ≡ false) e h in cc

-- each of these members has another name than each of those
each_apart : (before ms : List Member) (m : Member) → All (λ x. same_name (member_name x) (member_name m) ≡ false) before → All (λ x. IsApart x ms) (before ++ m ∷ []) → All (λ x. IsApart x (m ∷ ms)) before × IsApart m ms
each_apart [] ms m h g = (All-nil (λ x. IsApart x (m ∷ ms)), All-head (λ x. IsApart x ms) m [] g)
each_apart (x ∷ before) ms m h g =
    let differs = All-head (λ y. same_name (member_name y) (member_name m) ≡ false) x before h in
    let first = All-head (λ y. IsApart y ms) x (before ++ m ∷ []) g in
    let others = each_apart before ms m (All-tail (λ y. same_name (member_name y) (member_name m) ≡ false) x before h) (All-tail (λ y. IsApart y ms) x (before ++ m ∷ []) g) in
    (All-cons (λ y. IsApart y (m ∷ ms)) x before (All-cons (λ n. same_name (member_name x) (member_name n) ≡ false) m ms differs first) others.0, others.1)

none_apart : (before : List Member) → All (λ x. IsApart x []) before
none_apart [] = All-nil (λ x. IsApart x [])
none_apart (x ∷ before) = All-cons (λ y. IsApart y []) x before (All-nil (λ n. same_name (member_name x) (member_name n) ≡ false)) (none_apart before)

name_taken : (before ms : List Member) (m : Member) → has_member (member_name m) before ≡ true → repeated before (m ∷ ms) ≡ None → ⊥
name_taken before ms m e h =
    let some : Some (member_name m) ≡ None = subst (λ (b : Bool). (if b then Some (member_name m) else repeated (before ++ m ∷ []) ms) ≡ None) e h in
    cc

name_free : (before ms : List Member) (m : Member) → has_member (member_name m) before ≡ false → repeated before (m ∷ ms) ≡ None → repeated (before ++ m ∷ []) ms ≡ None
name_free before ms m e h = subst (λ (b : Bool). (if b then Some (member_name m) else repeated (before ++ m ∷ []) ms) ≡ None) e h

-- no two of the later members have one name, nor has one of them that of an earlier one
abbrev AreApart : List Member → List Member → Type 0
AreApart before ms = All (λ x. IsApart x ms) before × AllPairs (λ m n. same_name (member_name m) (member_name n) ≡ false) ms

apart_more : (before ms : List Member) (m : Member) → has_member (member_name m) before ≡ false → AreApart (before ++ m ∷ []) ms → AreApart before (m ∷ ms)
apart_more before ms m e later =
    let parts = each_apart before ms m (not_any (member_name m) before e) later.0 in
    (parts.0, AllPairs-cons (λ m n. same_name (member_name m) (member_name n) ≡ false) m ms parts.1 later.1)

all_apart : (before ms : List Member) → repeated before ms ≡ None → All (λ x. IsApart x ms) before × AllPairs (λ m n. same_name (member_name m) (member_name n) ≡ false) ms
all_apart before [] h = (none_apart before, (λ i j d below within. absurd (omega arith)))
all_apart before (m ∷ ms) h =
    elim (cases_Bool (has_member (member_name m) before)) [
      | inl e ↦ absurd (name_taken before ms m e h)
      | inr e ↦ apart_more before ms m e (all_apart (before ++ m ∷ []) ms (name_free before ms m e h))
    ]

-- where no name stands twice each two members have different names
pub names_differ : (ms : List Member) → first_repeated ms ≡ None → AllPairs (λ m n. same_name (member_name m) (member_name n) ≡ false) ms
names_differ ms h = (all_apart [] ms h).1

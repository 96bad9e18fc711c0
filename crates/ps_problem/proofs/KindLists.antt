-- What a list of types by the numbers of names says after a change.
use Rattle.std.proofs.Common.{◌≡◌, ◌≢◌, ℕ, Bool, true, false, cond, not, Option, Some, None, List, [], ◌∷◌, ◌++◌, inl, inr, length, filter, ap, ◌∙◌, refl, arith}
use Rattle.std.specs.Map.{lookup}
use Rattle.std.specs.BTreeMap.{insert_entry}
use Rattle.std.proofs.lemmas.Bool.{cases_lt}
use Rattle.std.proofs.lemmas.Bool.Decides.{nat_tests}
use Rattle.std.proofs.lemmas.List.{get_or_append_left, get_or_push, length_push}
use Rattle.std.proofs.lemmas.Map.Entries.{lookup-filter-keys}
use Rattle.ps_world.specs.Names.{name_cmp, same_name}
use Rattle.ps_world.specs.declared.names.Name.{Name}
use Rattle.ps_problem.specs.KindLists.{AreKinds, AreAfter}
use Rattle.ps_action.proofs.Facts.{same_name-refl}
use Rattle.ps_problem.proofs.Changes.{kind_after}

-- ---- one more type is listed

pub one_more : (ks : List (Option Name)) (es : List (Name × Name)) (kind : Option Name) (at : ℕ) → AreKinds ks es → length ks ≡ at → kind ≡ lookup (same_name (record { 0 = at })) es → AreKinds (ks ++ kind ∷ []) es
one_more ks es kind at are len is i h =
    elim (cases_lt i (length ks)) [
      | inl low ↦ get_or_append_left ks (kind ∷ []) None i low ∙ are i low
      | inr top ↦
          let more = length_push ks kind in
          let last : at ≡ i = omega (arith, more, h, top, len) in
          get_or_push ks kind None i (len ∙ last) ∙ is ∙ ap (λ j. lookup (same_name (record { 0 = j })) es) last
    ]

-- ---- what an edit makes of the types

pub after_insert : (es : List (Name × Name)) (n kind : Name) → AreAfter n (Some kind) es (insert_entry name_cmp es n kind)
after_insert es n kind m = kind_after es n kind m

cond-not : (b : Bool) (x y : Option Name) → cond (not b) x y ≡ cond b y x
cond-not true x y = refl
cond-not false x y = refl

turned : (n m k : Name) → same_name m k ≡ true → same_name n k ≡ same_name m n
turned n m k e = grind (arith, nat_tests)

pub after_remove : (es : List (Name × Name)) (n : Name) → AreAfter n None es (filter (λ i. not (same_name n i.0)) es)
after_remove es n m =
    lookup-filter-keys (same_name m) (λ k. not (same_name n k)) (not (same_name m n)) (λ k e. ap not (turned n m k e)) es
    ∙ cond-not (same_name m n) (lookup (same_name m) es) None

-- to put an instance in that isn't there changes the instances
pub insert_differs : (es fs : List (Name × Name)) (n kind : Name) → fs ≡ insert_entry name_cmp es n kind → lookup (same_name n) es ≡ None → fs ≢ es
insert_differs es fs n kind is none same =
    let found : lookup (same_name n) fs ≡ Some kind =
    ap (lookup (same_name n)) is ∙ after_insert es n kind n ∙ ap (λ b. cond b (Some kind) (lookup (same_name n) es)) (same_name-refl n n refl) in
    let left : lookup (same_name n) fs ≡ lookup (same_name n) es = ap (lookup (same_name n)) same in
    cc

-- Facts after a change, or as they were before.
use Rattle.std.proofs.Common.{◌≡◌, ℕ, Bool, true, false, not, cond, ◌&&◌, ◌||◌, List, [], ◌∷◌, ◌++◌, filter, filter_map, fold, take, drop, refl, ap, sym, ◌∙◌}
use Rattle.std.specs.List.{list_any}
use Rattle.std.specs.List.Sorted.{IsStrictlySortedBy}
use Rattle.std.specs.BTreeSet.{insert_key}
use Rattle.std.proofs.Math.Bool.{and-true, or_comm, or-false}
use Rattle.std.proofs.lemmas.Bool.{or_left}
use Rattle.std.proofs.lemmas.Cmp.{eq_by_cmp_equiv}
use Rattle.std.proofs.lemmas.List.{take-append-drop}
use Rattle.std.proofs.lemmas.List.Folds.{list_any-append}
use Rattle.std.proofs.lemmas.List.Kept.{IsStrictlySortedBy-filter}
use Rattle.std.proofs.lemmas.Map.Lookups.{btree_set_from_contains}
use Rattle.std.proofs.lemmas.Map.Made.{is_member-filter}
use Rattle.ps_world.specs.Facts.{fact_cmp}
use Rattle.ps_world.specs.Knowledge.{ground, same_fact}
use Rattle.ps_world.specs.declared.facts.Fact.{Fact}
use Rattle.ps_world.specs.declared.actions.Effect.{Effect}
use Rattle.ps_world.specs.declared.actions.Effect.TheVariants.{Add, Delete, Number}
use Rattle.ps_action.specs.Effects.{deletes, added_by}
use Rattle.ps_problem.specs.Patches.{facts_after}
use Rattle.ps_problem.specs.Puts.{deleted_by, fresh_in, lost_in, without_one}
use Rattle.ps_action.proofs.Facts.{facts_total, exact_facts}
use Rattle.ps_action.proofs.Keys.{any-insert_key}
use Rattle.ps_action.proofs.Contained.{fact_same}
use Rattle.ps_action.proofs.MadeFacts.{sorted-fold}

-- whether a fact is in a list
abbrev pub known : Fact → List Fact → Bool
known f fs = list_any (same_fact f) fs

-- ---- one more

pub or_swap : (a b c : Bool) → ((a || b) || c) ≡ (b || (a || c))
or_swap true true c = refl
or_swap true false c = refl
or_swap false b c = refl

-- a key that is put into a set, and stands last in a list
pub known_more : (f g : Fact) (keys listed : List Fact) → known f keys ≡ known f listed → known f (insert_key fact_cmp keys g) ≡ known f (listed ++ g ∷ [])
known_more f g keys listed e =
    any-insert_key facts_total f g keys ∙ or_comm (same_fact f g) (known f keys) ∙ ap (λ b. b || same_fact f g) e
    ∙ ap (λ b. known f listed || b) (sym (or-false (same_fact f g))) ∙ sym (list_any-append (same_fact f) listed (g ∷ []))

-- ---- facts

pub known-filter : (f : Fact) (p : Fact → Bool) (xs : List Fact) → known f (filter p xs) ≡ (known f xs && p f)
known-filter f p xs = is_member-filter (eq_by_cmp_equiv facts_total) p f (λ g e. ap p (fact_same f g e)) xs

pub facts_same : (xs ys : List Fact) → IsStrictlySortedBy fact_cmp xs → IsStrictlySortedBy fact_cmp ys → ((f : Fact) → known f xs ≡ known f ys) → xs ≡ ys
facts_same xs ys s t h = btree_set_from_contains facts_total (record { keys = xs }) (record { keys = ys }) s t h exact_facts

pub known-inserted : (f : Fact) (old xs : List Fact) → known f (fold (insert_key fact_cmp) old xs) ≡ (known f old || known f xs)
known-inserted f old [] = sym (or-false (known f old))
known-inserted f old (x ∷ xs) =
    known-inserted f (insert_key fact_cmp old x) xs ∙ ap (λ b. b || known f xs) (any-insert_key facts_total f x old)
    ∙ or_swap (same_fact f x) (known f old) (known f xs)

and_not : (a b c : Bool) → ((a && not b) && not c) ≡ (a && not (b || c))
and_not true true c = refl
and_not true false c = refl
and_not false b c = refl

known-removed : (f : Fact) (old xs : List Fact) → known f (fold without_one old xs) ≡ (known f old && not (known f xs))
known-removed f old [] = sym (and-true (known f old))
known-removed f old (x ∷ xs) =
    let one : known f (without_one old x) ≡ (known f old && not (same_fact f x)) =
    known-filter f (λ g. not (same_fact x g)) old ∙ ap (λ b. known f old && not b) ((eq_by_cmp_equiv facts_total).symm x f) in
    known-removed f (without_one old x) xs ∙ ap (λ b. b && not (known f xs)) one
    ∙ and_not (known f old) (same_fact f x) (known f xs)

sorted-removed : (old xs : List Fact) → IsStrictlySortedBy fact_cmp old → IsStrictlySortedBy fact_cmp (fold without_one old xs)
sorted-removed old [] s = s
sorted-removed old (x ∷ xs) s = sorted-removed (without_one old x) xs (IsStrictlySortedBy-filter fact_cmp (λ g. not (same_fact x g)) old s)

known-deleted : (f : Fact) (es : List Effect) → list_any (deletes f) es ≡ known f (filter_map deleted_by es)
known-deleted f [] = refl
known-deleted f (Add l ∷ es) = known-deleted f es
known-deleted f (Delete l ∷ es) = ap (λ b. same_fact f (ground l) || b) (known-deleted f es)
known-deleted f (Number how l x ∷ es) = known-deleted f es

filter-alike : (p q : Fact → Bool) → ((f : Fact) → p f ≡ q f) → (xs : List Fact) → filter p xs ≡ filter q xs
filter-alike p q h [] = refl
filter-alike p q h (x ∷ xs) = rw (h x) (ap (λ ys. cond (q x) (x ∷ ys) ys) (filter-alike p q h xs))

-- the facts after effects are those after their deletes and adds
pub made_facts : (old : List Fact) (es : List Effect) → facts_after old (filter_map added_by es) (filter_map deleted_by es) ≡ fold (insert_key fact_cmp) (filter (λ f. not (list_any (deletes f) es)) old) (filter_map added_by es)
made_facts old es =
    ap (λ fs. fold (insert_key fact_cmp) fs (filter_map added_by es)) (filter-alike (λ f. not (known f (filter_map deleted_by es))) (λ f. not (list_any (deletes f) es)) (λ f. ap not (sym (known-deleted f es))) old)

-- o: it was known, a: it is added, d: it is deleted
balance : (o a d : Bool) → ((o || (a && not o)) && not (d && (o && not a))) ≡ ((o && not d) || a)
balance true true true = refl
balance true true false = refl
balance true false true = refl
balance true false false = refl
balance false true true = refl
balance false true false = refl
balance false false true = refl
balance false false false = refl

not_both : (a b : Bool) → a ≡ true → (a || b) ≡ false → ⊥
not_both true b p q = cc
not_both false b p q = cc

-- where nothing is found, nothing stands
none_known : (xs : List Fact) → ((f : Fact) → known f xs ≡ false) → xs ≡ []
none_known [] h = refl
none_known (x ∷ xs) h =
    let here : same_fact x x ≡ true = (eq_by_cmp_equiv facts_total).refl x in
    let no = h x in
    absurd (not_both (same_fact x x) (known x xs) here no)

no_fresh : (o a d : Bool) → ((o && not d) || a) ≡ o → (a && not o) ≡ false
no_fresh true true d e = refl
no_fresh true false d e = refl
no_fresh false true d e = cc
no_fresh false false d e = refl

no_lost : (o a d : Bool) → ((o && not d) || a) ≡ o → (d && (o && not a)) ≡ false
no_lost true true true e = refl
no_lost true true false e = refl
no_lost true false true e = cc
no_lost true false false e = refl
no_lost false a true e = refl
no_lost false a false e = refl

-- o: it was known, a: it is added, t: it was put in before memory ran out
unbalance : (o a t : Bool) → (t ≡ true → (a && not o) ≡ true) → ((o || t) && not (a && not o)) ≡ o
unbalance true true t h = refl
unbalance true false t h = refl
unbalance false true true h = refl
unbalance false true false h = refl
unbalance false false true h = cc (h refl)
unbalance false false false h = refl

known-take : (f : Fact) (k : ℕ) (xs : List Fact) → known f (take k xs) ≡ true → known f xs ≡ true
known-take f k xs h =
    ap (known f) (sym (take-append-drop k xs)) ∙ list_any-append (same_fact f) (take k xs) (drop k xs) ∙ or_left (known f (take k xs)) (known f (drop k xs)) h

module _ (old adds deletes : List Fact) (sorted : IsStrictlySortedBy fact_cmp old) where
  abbrev facts_put_in : List Fact
  facts_put_in = fold without_one (fold (insert_key fact_cmp) old (fresh_in old adds)) (lost_in old adds deletes)

  abbrev facts_made : List Fact
  facts_made = facts_after old adds deletes

  fresh_known : (f : Fact) → known f (fresh_in old adds) ≡ (known f adds && not (known f old))
  fresh_known f = known-filter f (λ g. not (known g old)) adds

  lost_known : (f : Fact) → known f (lost_in old adds deletes) ≡ (known f deletes && (known f old && not (known f adds)))
  lost_known f = known-filter f (λ g. known g old && not (known g adds)) deletes

  after_known : (f : Fact) → known f facts_put_in ≡ ((known f old && not (known f deletes)) || known f adds)
  after_known f =
      known-removed f (fold (insert_key fact_cmp) old (fresh_in old adds)) (lost_in old adds deletes)
      ∙ ap (λ b. b && not (known f (lost_in old adds deletes))) (known-inserted f old (fresh_in old adds))
      ∙ ap (λ b. (known f old || b) && not (known f (lost_in old adds deletes))) (fresh_known f)
      ∙ ap (λ b. (known f old || (known f adds && not (known f old))) && not b) (lost_known f)
      ∙ balance (known f old) (known f adds) (known f deletes)

  pub made_known : (f : Fact) → known f facts_made ≡ ((known f old && not (known f deletes)) || known f adds)
  made_known f =
      known-inserted f (filter (λ f. not (known f deletes)) old) adds
      ∙ ap (λ b. b || known f adds) (known-filter f (λ g. not (known g deletes)) old)

  sorted_made : IsStrictlySortedBy fact_cmp facts_made
  sorted_made = sorted-fold _ adds (IsStrictlySortedBy-filter fact_cmp (λ f. not (known f deletes)) old sorted)

  sorted_after : IsStrictlySortedBy fact_cmp facts_put_in
  sorted_after = sorted-removed _ (lost_in old adds deletes) (sorted-fold old (fresh_in old adds) sorted)

  -- the adds before the deletes, without the deletes of what is added: the same facts
  pub facts_put : facts_put_in ≡ facts_made
  facts_put = facts_same facts_put_in facts_made sorted_after sorted_made (λ f. after_known f ∙ sym (made_known f))

  -- what came before memory ran out is taken out
  pub facts_undone : (k : ℕ) → fold without_one (fold (insert_key fact_cmp) old (take k (fresh_in old adds))) (fresh_in old adds) ≡ old
  facts_undone k =
      facts_same _ old (sorted-removed _ (fresh_in old adds) (sorted-fold old (take k (fresh_in old adds)) sorted)) sorted (λ f.
      known-removed f (fold (insert_key fact_cmp) old (take k (fresh_in old adds))) (fresh_in old adds)
      ∙ ap (λ b. b && not (known f (fresh_in old adds))) (known-inserted f old (take k (fresh_in old adds)))
      ∙ ap (λ b. (known f old || known f (take k (fresh_in old adds))) && not b) (fresh_known f)
      ∙ unbalance (known f old) (known f adds) (known f (take k (fresh_in old adds))) (λ t. sym (fresh_known f) ∙ known-take f k (fresh_in old adds) t))

  -- where the facts are the same, none comes and none goes
  pub facts_kept : facts_made ≡ old → (fresh_in old adds ≡ []) × (lost_in old adds deletes ≡ [])
  facts_kept e =
      let level : (f : Fact) → ((known f old && not (known f deletes)) || known f adds) ≡ known f old =
      λ f. sym (made_known f) ∙ ap (known f) e in (
        none_known (fresh_in old adds) (λ f. fresh_known f ∙ no_fresh (known f old) (known f adds) (known f deletes) (level f)),
        none_known (lost_in old adds deletes) (λ f. lost_known f ∙ no_lost (known f old) (known f adds) (known f deletes) (level f)),
      )

-- A difference leads from the first to the second.
use Rattle.std.proofs.Common.{◌≡◌, Bool, true, false, not, cond, ◌&&◌, ◌||◌, Option, Some, None, is_some, if◌then◌else◌, List, [], ◌∷◌, filter, fold, refl, ap, sym, ◌∙◌, subst}
use Rattle.std.specs.List.{AllByRecursion}
use Rattle.std.specs.List.Sorted.{IsStrictlySortedBy}
use Rattle.std.specs.Map.{keys_of, lookup}
use Rattle.std.specs.Option.{option_or}
use Rattle.std.specs.Ordering.{int_eq, ordering_reverse}
use Rattle.std.specs.declared.cmp.Ordering.{Ordering}
use Rattle.std.specs.declared.cmp.Ordering.TheVariants.{Less, Equal, Greater}
use Rattle.std.proofs.lemmas.Bool.Decides.{Decides-int_eq}
use Rattle.std.proofs.lemmas.List.Kept.{IsStrictlySortedBy-filter}
use Rattle.std.proofs.lemmas.Cmp.{eq_by_cmp_equiv}
use Rattle.std.proofs.lemmas.Map.{lookup-none}
use Rattle.std.proofs.lemmas.Map.Entries.{lookup_head, none_below_head}
use Rattle.std.proofs.lemmas.Map.Keys.{sorted_head, sorted_tail}
use Rattle.ps_world.specs.Facts.{fact_cmp}
use Rattle.ps_world.specs.Knowledge.{same_fact}
use Rattle.ps_world.specs.declared.facts.Fact.{Fact}
use Rattle.ps_world.specs.declared.known.Knowledge.{Knowledge}
use Rattle.ps_world.specs.declared.numbers.Num.{Num}
use Rattle.ps_action.specs.Effects.{with_value}
use Rattle.ps_action.proofs.Contained.{fact_same}
use Rattle.ps_action.proofs.Facts.{exact_facts, facts_total}
use Rattle.ps_action.proofs.Keys.{lookup-insert_entry}
use Rattle.ps_action.proofs.MadeFacts.{sorted-fold}
use Rattle.ps_action.proofs.MadeValues.{values_rise}
use Rattle.ps_problem.specs.Patches.{changed, facts_after, values_after}
use Rattle.ps_problem.specs.Puts.{fresh_in}
use Rattle.ps_problem.proofs.Filters.{sorted-filter}
use Rattle.ps_problem.proofs.Patches.{none_out}
use Rattle.ps_problem.proofs.PutFacts.{facts_same, known, known-filter, made_known}
use Rattle.ps_expand.specs.Differences.{IsBeside, Rise, back, difference, forth, is_worth, new_in}

-- ---- facts

-- o: it is in the first, n: it is in the second
there_after : (o n : Bool) → ((o && not (o && not n)) || (n && not o)) ≡ n
there_after true true = refl
there_after true false = refl
there_after false true = refl
there_after false false = refl

facts_lead : (old new : List Fact) → IsStrictlySortedBy fact_cmp old → IsStrictlySortedBy fact_cmp new → facts_after old (fresh_in old new) (fresh_in new old) ≡ new
facts_lead old new s t =
    facts_same (facts_after old (fresh_in old new) (fresh_in new old)) new
    (sorted-fold (filter (λ f. not (known f (fresh_in new old))) old) (fresh_in old new) (IsStrictlySortedBy-filter fact_cmp (λ f. not (known f (fresh_in new old))) old s)) t (λ f.
    made_known old (fresh_in old new) (fresh_in new old) s f
    ∙ (λ i. (known f old && not (known-filter f (λ g. not (known g new)) old i)) || known-filter f (λ g. not (known g old)) new i)
    ∙ there_after (known f old) (known f new))

-- ---- values

abbrev pub worth : Fact → List (Fact × Num) → Option Num
worth f vs = lookup (same_fact f) vs

abbrev pub AreUp : List (Fact × Num) → Type 0
AreUp vs = IsStrictlySortedBy fact_cmp (keys_of vs)

-- a term below all others is worth nothing among them
below_all : (f : Fact) (vs : List (Fact × Num)) → AllByRecursion (λ y. fact_cmp f y ≡ Less) (keys_of vs) → worth f vs ≡ None
below_all f [] a = refl
below_all f (v ∷ vs) a = let less = a.0 in rw less (below_all f vs a.1)

first_worth : (v : Fact × Num) (vs : List (Fact × Num)) → worth v.0 (v ∷ vs) ≡ Some v.1
first_worth v vs = lookup_head (same_fact v.0) v vs ((eq_by_cmp_equiv facts_total).refl v.0)

heads_at : (x y : Fact × Num) (xs ys : List (Fact × Num)) (r : Ordering) → IsStrictlySortedBy fact_cmp (keys_of (x ∷ xs)) → IsStrictlySortedBy fact_cmp (keys_of (y ∷ ys)) → ((f : Fact) → worth f (x ∷ xs) ≡ worth f (y ∷ ys)) → fact_cmp x.0 y.0 ≡ r → fact_cmp x.0 y.0 ≡ Equal
heads_at x y xs ys Less s t h p =
    let none : worth x.0 (y ∷ ys) ≡ None = lookup-none (same_fact x.0) (y ∷ ys) (none_below_head facts_total x.0 y ys t p) in
    let some : worth x.0 (x ∷ xs) ≡ Some x.1 = first_worth x xs in
    let same : Some x.1 ≡ None = sym some ∙ h x.0 ∙ none in
    absurd (cc)
heads_at x y xs ys Equal s t h p = p
heads_at x y xs ys Greater s t h p =
    let none : worth y.0 (x ∷ xs) ≡ None = lookup-none (same_fact y.0) (x ∷ xs) (none_below_head facts_total y.0 x xs s (facts_total.antisymm y.0 x.0 ∙ ap ordering_reverse p)) in
    let some : worth y.0 (y ∷ ys) ≡ Some y.1 = first_worth y ys in
    let same : Some y.1 ≡ None = sym some ∙ sym (h y.0) ∙ none in
    absurd (cc)

tail_at : (f x : Fact) (n : Num) (xs ys : List (Fact × Num)) (b : Bool) → same_fact f x ≡ b → AllByRecursion (λ y. fact_cmp x y ≡ Less) (keys_of xs) → AllByRecursion (λ y. fact_cmp x y ≡ Less) (keys_of ys) → cond b (Some n) (worth f xs) ≡ cond b (Some n) (worth f ys) → worth f xs ≡ worth f ys
tail_at f x n xs ys true s a b e = subst (λ g. worth g xs ≡ worth g ys) (sym (fact_same f x s)) (below_all x xs a ∙ sym (below_all x ys b))
tail_at f x n xs ys false s a b e = e

-- values that rise are the same where each term is worth the same
pub values_same : (xs ys : List (Fact × Num)) → IsStrictlySortedBy fact_cmp (keys_of xs) → IsStrictlySortedBy fact_cmp (keys_of ys) → ((f : Fact) → worth f xs ≡ worth f ys) → xs ≡ ys
values_same [] [] s t h = refl
values_same [] (y ∷ ys) s t h = let same : None ≡ Some y.1 = h y.0 ∙ first_worth y ys in absurd (cc)
values_same (x ∷ xs) [] s t h = let same : Some x.1 ≡ None = sym (first_worth x xs) ∙ h x.0 in absurd (cc)
values_same (x ∷ xs) (y ∷ ys) s t h =
    let key : x.0 ≡ y.0 = exact_facts x.0 y.0 (heads_at x y xs ys (fact_cmp x.0 y.0) s t h refl) in
    let there : worth x.0 (y ∷ ys) ≡ Some y.1 = subst (λ f. worth f (y ∷ ys) ≡ Some y.1) (sym key) (first_worth y ys) in
    let some : Some x.1 ≡ Some y.1 = sym (first_worth x xs) ∙ h x.0 ∙ there in
    let value : x.1 ≡ y.1 = cc in
    let pair : x ≡ y = λ i. (key i, value i) in
    let up : IsStrictlySortedBy fact_cmp (keys_of (x ∷ ys)) = subst (λ (z : Fact × Num). IsStrictlySortedBy fact_cmp (keys_of (z ∷ ys))) (sym pair) t in
    let worths : (f : Fact) → worth f (x ∷ xs) ≡ worth f (x ∷ ys) = subst (λ (z : Fact × Num). (f : Fact) → worth f (x ∷ xs) ≡ worth f (z ∷ ys)) (sym pair) h in
    let rest = values_same xs ys (sorted_tail fact_cmp x.0 (keys_of xs) s) (sorted_tail fact_cmp x.0 (keys_of ys) up) (λ f.
    tail_at f x.0 x.1 xs ys (same_fact f x.0) refl (sorted_head fact_cmp x.0 (keys_of xs) s) (sorted_head fact_cmp x.0 (keys_of ys) up) (worths f)) in
    λ i. pair i ∷ rest i

-- the first term is worth nothing among the others
past_first : (f : Fact) (v : Fact × Num) (vs : List (Fact × Num)) → AreUp (v ∷ vs) → same_fact f v.0 ≡ true → worth f vs ≡ None
past_first f v vs s e = ap (λ g. worth g vs) (fact_same f v.0 e) ∙ below_all v.0 vs (sorted_head fact_cmp v.0 (keys_of vs) s)

below_passed : (p : Fact × Num → Bool) (f : Fact) (vs : List (Fact × Num)) → AllByRecursion (λ y. fact_cmp f y ≡ Less) (keys_of vs) → AllByRecursion (λ y. fact_cmp f y ≡ Less) (keys_of (filter p vs))
below_passed p f [] a = a
below_passed p f (v ∷ vs) a = at (p v) (below_passed p f vs a.1)
  where
    at : (b : Bool) → AllByRecursion (λ y. fact_cmp f y ≡ Less) (keys_of (filter p vs)) → AllByRecursion (λ y. fact_cmp f y ≡ Less) (keys_of (cond b (v ∷ filter p vs) (filter p vs)))
    at true h = (a.0, h)
    at false h = h

-- values that pass rise as all do
pub up_passed : (p : Fact × Num → Bool) (vs : List (Fact × Num)) → AreUp vs → AreUp (filter p vs)
unfolding IsStrictlySortedBy
up_passed p [] s = s
up_passed p (v ∷ vs) s = at (p v) (up_passed p vs s.1) (below_passed p v.0 vs s.0)
  where
    at : (b : Bool) → AreUp (filter p vs) → AllByRecursion (λ y. fact_cmp v.0 y ≡ Less) (keys_of (filter p vs)) → AreUp (cond b (v ∷ filter p vs) (filter p vs))
    at true h a = (a, h)
    at false h a = h

-- a value, where it passes
abbrev pub passed : (Fact × Num → Bool) → Fact → Option Num → Option Num
passed p f None = None
passed p f (Some x) = if p (f, x) then Some x else None

passed_at : (p : Fact × Num → Bool) (f : Fact) (v : Fact × Num) (vs : List (Fact × Num)) (s b : Bool) → same_fact f v.0 ≡ s → p v ≡ b → (s ≡ true → worth f vs ≡ None) → worth f (filter p vs) ≡ passed p f (worth f vs) → worth f (cond b (v ∷ filter p vs) (filter p vs)) ≡ passed p f (cond s (Some v.1) (worth f vs))
passed_at p f v vs true true is pass none h =
    let here : p (f, v.1) ≡ true = ap (λ (g : Fact). p (g, v.1)) (fact_same f v.0 is) ∙ pass in rw (is, here) refl
passed_at p f v vs true false is pass none h =
    let here : p (f, v.1) ≡ false = ap (λ (g : Fact). p (g, v.1)) (fact_same f v.0 is) ∙ pass in
    rw here (h ∙ ap (passed p f) (none refl))
passed_at p f v vs false true is pass none h = rw is h
passed_at p f v vs false false is pass none h = h

-- what a term is worth among the values that pass
pub worth_passed : (p : Fact × Num → Bool) (f : Fact) (vs : List (Fact × Num)) → AreUp vs → worth f (filter p vs) ≡ passed p f (worth f vs)
worth_passed p f [] s = refl
worth_passed p f (v ∷ vs) s =
    passed_at p f v vs (same_fact f v.0) (p v) refl refl (past_first f v vs s) (worth_passed p f vs (sorted_tail fact_cmp v.0 (keys_of vs) s))

-- a term is among those of values where it is worth something
pub term_there : (f : Fact) (vs : List (Fact × Num)) → known f (keys_of vs) ≡ is_some (worth f vs)
term_there f [] = refl
term_there f (v ∷ vs) = at (same_fact f v.0) (term_there f vs)
  where
    at : (b : Bool) → known f (keys_of vs) ≡ is_some (worth f vs) → (b || known f (keys_of vs)) ≡ is_some (cond b (Some v.1) (worth f vs))
    at true h = refl
    at false h = h

over_at : (s : Bool) (x : Num) (o l : Option Num) → (s ≡ true → l ≡ None) → option_or l (cond s (Some x) o) ≡ option_or (cond s (Some x) l) o
over_at true x o l none = ap (λ m. option_or m (Some x)) (none refl)
over_at false x o l none = refl

-- values that are put in count before those that were there
worth_over : (f : Fact) (vs more : List (Fact × Num)) → AreUp more → worth f (fold with_value vs more) ≡ option_or (worth f more) (worth f vs)
worth_over f vs [] s = refl
worth_over f vs (m ∷ ms) s =
    worth_over f (with_value vs m) ms (sorted_tail fact_cmp m.0 (keys_of ms) s)
    ∙ ap (option_or (worth f ms)) (lookup-insert_entry facts_total f m.0 m.1 vs)
    ∙ over_at (same_fact f m.0) m.1 (worth f vs) (worth f ms) (past_first f m ms s)

-- a term whose value goes is worth nothing
pub worth_left : (f : Fact) (gone : List Fact) (vs : List (Fact × Num)) → worth f (filter (λ v. not (known v.0 gone)) vs) ≡ cond (known f gone) None (worth f vs)
worth_left f gone [] = at (known f gone)
  where
    at : (b : Bool) → worth f [] ≡ cond b None (worth f [])
    at true = refl
    at false = refl
worth_left f gone (v ∷ vs) = at (same_fact f v.0) (known v.0 gone) refl refl (worth_left f gone vs)
  where
    at : (s b : Bool) → same_fact f v.0 ≡ s → known v.0 gone ≡ b → worth f (filter (λ v. not (known v.0 gone)) vs) ≡ cond (known f gone) None (worth f vs) → worth f (cond (not b) (v ∷ filter (λ v. not (known v.0 gone)) vs) (filter (λ v. not (known v.0 gone)) vs)) ≡ cond (known f gone) None (cond s (Some v.1) (worth f vs))
    at true true is e h = let goes : known f gone ≡ true = ap (λ g. known g gone) (fact_same f v.0 is) ∙ e in rw goes (h ∙ ap (λ b. cond b None (worth f vs)) goes)
    at true false is e h = let stays : known f gone ≡ false = ap (λ g. known g gone) (fact_same f v.0 is) ∙ e in rw (is, stays) refl
    at false true is e h = h
    at false false is e h = rw is h

-- x: what a term was worth, y: what it is worth, e and g: that these are the same
worth_after_at : (x y : Num) (e g : Bool) → int_eq x y ≡ e → int_eq y x ≡ g → option_or (if not e then Some y else None) (cond (is_some (if not g then Some x else None)) None (Some x)) ≡ Some y
worth_after_at x y true g e f =
    let same : x ≡ y = (Decides-int_eq x y).0 e in
    let other : g ≡ true = sym f ∙ (λ i. int_eq (sym same i) (same i)) ∙ e in
    rw other (ap (λ (z : Num). Some z) same)
worth_after_at x y false g e f = refl

-- o: what a term was worth, n: what it is worth
worth_after : (f : Fact) (o n : Option Num) → option_or (passed (λ v. not (is_worth v.1 o)) f n) (cond (is_some (passed (λ v. not (is_worth v.1 n)) f o)) None o) ≡ n
worth_after f None None = refl
worth_after f None (Some y) = refl
worth_after f (Some x) None = refl
worth_after f (Some x) (Some y) = worth_after_at x y (int_eq x y) (int_eq y x) refl refl

passed_so : (p q : Fact × Num → Bool) (f : Fact) (o : Option Num) → ((x : Num) → p (f, x) ≡ q (f, x)) → passed p f o ≡ passed q f o
passed_so p q f None h = refl
passed_so p q f (Some x) h = ap (λ b. if b then Some x else None) (h x)

values_lead : (old new : List (Fact × Num)) → AreUp old → AreUp new → values_after old (new_in old new) (keys_of (new_in new old)) ≡ new
values_lead old new s t =
    values_same (values_after old given gone) new rises t worths
  where
    given : List (Fact × Num)
    given = new_in old new

    gone : List Fact
    gone = keys_of (new_in new old)

    rises : AreUp (values_after old given gone)
    rises = values_rise (filter (λ v. not (known v.0 gone)) old) given (sorted-filter fact_cmp (λ g. not (known g gone)) old s)

    given_worth : (f : Fact) → worth f given ≡ passed (λ v. not (is_worth v.1 (worth f old))) f (worth f new)
    given_worth f =
        worth_passed (λ v. not (is_worth v.1 (worth v.0 old))) f new t
        ∙ passed_so (λ v. not (is_worth v.1 (worth v.0 old))) (λ v. not (is_worth v.1 (worth f old))) f (worth f new) (λ x. refl)

    gone_known : (f : Fact) → known f gone ≡ is_some (passed (λ v. not (is_worth v.1 (worth f new))) f (worth f old))
    gone_known f =
        term_there f (new_in new old)
        ∙ ap is_some (worth_passed (λ v. not (is_worth v.1 (worth v.0 new))) f old s
        ∙ passed_so (λ v. not (is_worth v.1 (worth v.0 new))) (λ v. not (is_worth v.1 (worth f new))) f (worth f old) (λ x. refl))

    worths : (f : Fact) → worth f (values_after old given gone) ≡ worth f new
    worths f =
        worth_over f (filter (λ v. not (known v.0 gone)) old) given (up_passed (λ v. not (is_worth v.1 (worth v.0 old))) new t)
        ∙ (λ i. option_or (given_worth f i) ((worth_left f gone old ∙ ap (λ b. cond b None (worth f old)) (gone_known f)) i))
        ∙ worth_after f (worth f old) (worth f new)

-- ---- all

-- the change that a difference makes leads from the first to the second
pub leads_forth : (old new : Knowledge) → Rise old → Rise new → IsBeside old new → changed old (forth (difference old new)) ≡ new
leads_forth old new s t same = λ i. record {
  instances = (none_out old.instances ∙ sym same.instances) i;
  facts = facts_lead old.facts new.facts s.facts t.facts i;
  values = values_lead old.values new.values s.values t.values i;
  goal = sym same.goal i;
}

-- and back
pub leads_back : (old new : Knowledge) → Rise old → Rise new → IsBeside old new → changed new (back (difference old new)) ≡ old
leads_back old new s t same = leads_forth new old t s (record { instances = sym same.instances; goal = sym same.goal })

-- what differs alike from one beginning is the same
pub alike : (old new other : Knowledge) → Rise old → Rise new → Rise other → IsBeside old new → IsBeside old other → difference old new ≡ difference old other → new ≡ other
alike old new other r s t one two e =
    sym (leads_forth old new r s one) ∙ ap (λ x. changed old (forth x)) e ∙ leads_forth old other r t two

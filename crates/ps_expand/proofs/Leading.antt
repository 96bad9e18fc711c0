-- What differs after a change: only what it or the difference before it names.
use Rattle.std.proofs.Common.{◌≡◌, Bool, true, false, not, cond, ◌&&◌, ◌||◌, Option, Some, None, option_map, is_some, if◌then◌else◌, List, [], ◌∷◌, ◌++◌, filter, filter_map, refl, ap, sym, ◌∙◌}
use Rattle.std.specs.List.{cons_option}
use Rattle.std.specs.List.Sorted.{IsStrictlySortedBy}
use Rattle.std.specs.Map.{keys_of}
use Rattle.std.proofs.lemmas.Cmp.{int_eq_equiv}
use Rattle.std.proofs.lemmas.List.Folds.{list_any-append}
use Rattle.std.proofs.lemmas.List.Kept.{IsStrictlySortedBy-filter}
use Rattle.ps_world.specs.Facts.{fact_cmp}
use Rattle.ps_world.specs.Knowledge.{same_fact}
use Rattle.ps_world.specs.declared.facts.Fact.{Fact}
use Rattle.ps_world.specs.declared.known.Knowledge.{Knowledge}
use Rattle.ps_world.specs.declared.numbers.Num.{Num}
use Rattle.ps_action.proofs.Contained.{fact_same}
use Rattle.ps_action.proofs.MadeFacts.{sorted-fold}
use Rattle.ps_action.proofs.MadeValues.{values_rise}
use Rattle.ps_problem.specs.Patches.{changed}
use Rattle.ps_problem.specs.Puts.{fresh_in}
use Rattle.ps_problem.specs.declared.change.Change.{Change}
use Rattle.ps_problem.proofs.Filters.{sorted-filter}
use Rattle.ps_problem.proofs.PutFacts.{facts_same, known, known-filter, made_known}
use Rattle.ps_problem.proofs.PutValues.{unset}
use Rattle.ps_expand.specs.Differences.{HaveNewFacts, HaveNewValues, IsLed, Rise, difference, is_new, is_worth, new_in, new_value, newly, no_difference}
use Rattle.ps_expand.specs.declared.differences.Difference.{Difference}
use Rattle.ps_expand.proofs.Differing.{AreUp, passed, term_there, up_passed, values_same, worth, worth_left, worth_passed}

-- ---- facts

-- t: it is one of these, n: it is in the second list, o: it is in the first
new_there : (t n o : Bool) → (t ≡ false → (n && not o) ≡ false) → (t && (n && not o)) ≡ (n && not o)
new_there true n o h = refl
new_there false n o h = sym (h refl)

-- the new ones among facts that have all new ones
pub new_facts_are : (old new fs : List Fact) → IsStrictlySortedBy fact_cmp new → IsStrictlySortedBy fact_cmp fs → HaveNewFacts old new fs → filter (is_new old new) fs ≡ fresh_in old new
new_facts_are old new fs s t h =
    facts_same (filter (is_new old new) fs) (fresh_in old new) (IsStrictlySortedBy-filter fact_cmp (is_new old new) fs t) (IsStrictlySortedBy-filter fact_cmp (λ f. not (known f old)) new s) (λ f.
    known-filter f (is_new old new) fs ∙ new_there (known f fs) (known f new) (known f old) (h f)
    ∙ sym (known-filter f (λ g. not (known g old)) new))

-- ---- values

-- the terms of the new values among these terms
keys_new : (old new : List (Fact × Num)) (ts : List Fact) → keys_of (filter_map (new_value old new) ts) ≡ filter (λ t. is_some (newly (worth t old) (worth t new))) ts
keys_new old new [] = refl
keys_new old new (t ∷ ts) = at (newly (worth t old) (worth t new)) (keys_new old new ts)
  where
    rest : List (Fact × Num)
    rest = filter_map (new_value old new) ts

    left : List Fact
    left = filter (λ t. is_some (newly (worth t old) (worth t new))) ts

    at : (o : Option Num) → keys_of rest ≡ left → keys_of (cons_option (option_map (λ x. (t, x)) o) rest) ≡ cond (is_some o) (t ∷ left) left
    at None h = h
    at (Some x) h = ap (λ l. t ∷ l) h

none_either : (b : Bool) (o : Option Num) → o ≡ None → cond b o None ≡ o
none_either true o e = refl
none_either false o e = sym e

-- what a term is worth among them
worth_new : (f : Fact) (old new : List (Fact × Num)) (ts : List Fact) → worth f (filter_map (new_value old new) ts) ≡ cond (known f ts) (newly (worth f old) (worth f new)) None
worth_new f old new [] = refl
worth_new f old new (t ∷ ts) = at (same_fact f t) (newly (worth t old) (worth t new)) refl refl (worth_new f old new ts)
  where
    rest : List (Fact × Num)
    rest = filter_map (new_value old new) ts

    all : Option Num
    all = newly (worth f old) (worth f new)

    at : (s : Bool) (o : Option Num) → same_fact f t ≡ s → newly (worth t old) (worth t new) ≡ o → worth f rest ≡ cond (known f ts) all None → worth f (cons_option (option_map (λ x. (t, x)) o) rest) ≡ cond (s || known f ts) all None
    at true None is e h =
        let none : all ≡ None = ap (λ g. newly (worth g old) (worth g new)) (fact_same f t is) ∙ e in
        h ∙ none_either (known f ts) all none
    at true (Some x) is e h =
        let some : all ≡ Some x = ap (λ g. newly (worth g old) (worth g new)) (fact_same f t is) ∙ e in
        rw is (sym some)
    at false None is e h = h
    at false (Some x) is e h = rw is h

passed_is : (f : Fact) (old : List (Fact × Num)) (n : Option Num) → passed (λ v. not (is_worth v.1 (worth v.0 old))) f n ≡ newly (worth f old) n
passed_is f old None = refl
passed_is f old (Some x) = at (is_worth x (worth f old))
  where
    at : (b : Bool) → (if not b then Some x else None) ≡ (if b then None else Some x)
    at true = refl
    at false = refl

-- what a term is worth among the new values
worth_newly : (f : Fact) (old new : List (Fact × Num)) → AreUp new → worth f (new_in old new) ≡ newly (worth f old) (worth f new)
worth_newly f old new s = worth_passed (λ v. not (is_worth v.1 (worth v.0 old))) f new s ∙ passed_is f old (worth f new)

there_newly : (b : Bool) (o : Option Num) → (b ≡ false → o ≡ None) → cond b o None ≡ o
there_newly true o h = refl
there_newly false o h = sym (h refl)

-- the new values of terms that have all new ones
pub new_values_are : (old new : List (Fact × Num)) (ts : List Fact) → AreUp new → IsStrictlySortedBy fact_cmp ts → HaveNewValues old new ts → filter_map (new_value old new) ts ≡ new_in old new
new_values_are old new ts s t h =
    let up : AreUp (filter_map (new_value old new) ts) =
    rw (keys_new old new ts) (IsStrictlySortedBy-filter fact_cmp (λ f. is_some (newly (worth f old) (worth f new))) ts t) in
    values_same (filter_map (new_value old new) ts) (new_in old new) up (up_passed (λ v. not (is_worth v.1 (worth v.0 old))) new s) (λ f.
    worth_new f old new ts ∙ there_newly (known f ts) (newly (worth f old) (worth f new)) (h f) ∙ sym (worth_newly f old new s))

-- ---- what a change names

-- l: it was known, d and a: it is deleted and added, k: it was known at the start
none_comes : (l d a k : Bool) → ((l && not k) || a) ≡ false → (((l && not d) || a) && not k) ≡ false
none_comes true true true true h = absurd (cc)
none_comes true true true false h = absurd (cc)
none_comes true true false true h = refl
none_comes true true false false h = absurd (cc)
none_comes true false true true h = absurd (cc)
none_comes true false true false h = absurd (cc)
none_comes true false false true h = refl
none_comes true false false false h = absurd (cc)
none_comes false true true true h = absurd (cc)
none_comes false true true false h = absurd (cc)
none_comes false true false true h = refl
none_comes false true false false h = refl
none_comes false false true true h = absurd (cc)
none_comes false false true false h = absurd (cc)
none_comes false false false true h = refl
none_comes false false false false h = refl

none_goes : (l d a k : Bool) → ((k && not l) || d) ≡ false → (k && not ((l && not d) || a)) ≡ false
none_goes true true true true h = absurd (cc)
none_goes true true true false h = absurd (cc)
none_goes true true false true h = absurd (cc)
none_goes true true false false h = absurd (cc)
none_goes true false true true h = refl
none_goes true false true false h = refl
none_goes true false false true h = refl
none_goes true false false false h = refl
none_goes false true true true h = absurd (cc)
none_goes false true true false h = absurd (cc)
none_goes false true false true h = absurd (cc)
none_goes false true false false h = absurd (cc)
none_goes false false true true h = absurd (cc)
none_goes false false true false h = refl
none_goes false false false true h = absurd (cc)
none_goes false false false false h = refl

or_none : (a b : Bool) → (a || b) ≡ false → (a ≡ false) × (b ≡ false)
or_none true b e = absurd (cc)
or_none false b e = (refl, e)

is_none : (o : Option Num) → is_some o ≡ false → o ≡ None
is_none None e = refl
is_none (Some x) e = absurd (cc)

-- a term that isn't among those of values is worth nothing there
worthless : (f : Fact) (vs : List (Fact × Num)) → known f (keys_of vs) ≡ false → worth f vs ≡ None
worthless f vs e = is_none (worth f vs) (sym (term_there f vs) ∙ e)

module _ (k : Knowledge) (x : Difference) (c : Change) (here : Knowledge) (led : IsLed k x c here) where
  abbrev l : Knowledge
  l = led.from

  known_here : (f : Fact) → known f here.facts ≡ ((known f l.facts && not (known f c.deletes)) || known f c.adds)
  known_here f = ap (λ (m : Knowledge). known f m.facts) led.leads ∙ made_known l.facts c.adds c.deletes led.rise.facts f

  known_came : (f : Fact) → known f x.came ≡ (known f l.facts && not (known f k.facts))
  known_came f = ap (λ (y : Difference). known f y.came) led.is ∙ known-filter f (λ g. not (known g k.facts)) l.facts

  known_went : (f : Fact) → known f x.went ≡ (known f k.facts && not (known f l.facts))
  known_went f = ap (λ (y : Difference). known f y.went) led.is ∙ known-filter f (λ g. not (known g l.facts)) k.facts

  pub comes_among : HaveNewFacts k.facts here.facts (x.came ++ c.adds)
  comes_among f none =
      ap (λ b. b && not (known f k.facts)) (known_here f)
      ∙ none_comes (known f l.facts) (known f c.deletes) (known f c.adds) (known f k.facts) (ap (λ b. b || known f c.adds) (sym (known_came f)) ∙ sym (list_any-append (same_fact f) x.came c.adds) ∙ none)

  pub goes_among : HaveNewFacts here.facts k.facts (x.went ++ c.deletes)
  goes_among f none =
      ap (λ b. known f k.facts && not b) (known_here f)
      ∙ none_goes (known f l.facts) (known f c.deletes) (known f c.adds) (known f k.facts) (ap (λ b. b || known f c.deletes) (sym (known_went f)) ∙ sym (list_any-append (same_fact f) x.went c.deletes) ∙ none)

  -- a term that the change doesn't name is worth what it was
  worth_here : (f : Fact) → known f (c.gone ++ keys_of c.values) ≡ false → worth f here.values ≡ worth f l.values
  worth_here f none =
      let apart = or_none (known f c.gone) (known f (keys_of c.values)) (sym (list_any-append (same_fact f) c.gone (keys_of c.values)) ∙ none) in
      ap (λ (m : Knowledge). worth f m.values) led.leads
      ∙ unset f (filter (λ v. not (known v.0 c.gone)) l.values) c.values apart.1
      ∙ worth_left f c.gone l.values
      ∙ ap (λ b. cond b None (worth f l.values)) apart.0

  pub given_among : HaveNewValues k.values here.values (keys_of x.given ++ (c.gone ++ keys_of c.values))
  given_among f none =
      let touched = c.gone ++ keys_of c.values in
      let apart = or_none (known f (keys_of x.given)) (known f touched) (sym (list_any-append (same_fact f) (keys_of x.given) touched) ∙ none) in
      ap (newly (worth f k.values)) (worth_here f apart.1)
      ∙ sym (worth_newly f k.values l.values led.rise.values)
      ∙ sym (ap (λ (y : Difference). worth f y.given) led.is)
      ∙ worthless f x.given apart.0

  pub lost_among : HaveNewValues here.values k.values (keys_of x.lost ++ (c.gone ++ keys_of c.values))
  lost_among f none =
      let touched = c.gone ++ keys_of c.values in
      let apart = or_none (known f (keys_of x.lost)) (known f touched) (sym (list_any-append (same_fact f) (keys_of x.lost) touched) ∙ none) in
      ap (λ o. newly o (worth f k.values)) (worth_here f apart.1)
      ∙ sym (worth_newly f l.values k.values led.start.values)
      ∙ sym (ap (λ (y : Difference). worth f y.lost) led.is)
      ∙ worthless f x.lost apart.0

-- facts and values rise after a change
pub rise_after : (k : Knowledge) (c : Change) → Rise k → Rise (changed k c)
rise_after k c r = record {
  facts = sorted-fold (filter (λ f. not (known f c.deletes)) k.facts) c.adds (IsStrictlySortedBy-filter fact_cmp (λ f. not (known f c.deletes)) k.facts r.facts);
  values = values_rise (filter (λ v. not (known v.0 c.gone)) k.values) c.values (sorted-filter fact_cmp (λ g. not (known g c.gone)) k.values r.values);
}

-- ---- nothing differs

none_rise : IsStrictlySortedBy fact_cmp []
unfolding IsStrictlySortedBy
none_rise = tt

not_both : (b : Bool) → (b && not b) ≡ false
not_both true = refl
not_both false = refl

newly_none : (o : Option Num) → newly o o ≡ None
newly_none None = refl
newly_none (Some x) = let same = int_eq_equiv.refl x in rw same refl

pub nothing_new : (k : Knowledge) → Rise k → difference k k ≡ no_difference
nothing_new k r =
    let facts : fresh_in k.facts k.facts ≡ [] =
    facts_same (fresh_in k.facts k.facts) [] (IsStrictlySortedBy-filter fact_cmp (λ f. not (known f k.facts)) k.facts r.facts) none_rise (λ f. known-filter f (λ g. not (known g k.facts)) k.facts ∙ not_both (known f k.facts)) in
    let values : new_in k.values k.values ≡ [] =
    values_same (new_in k.values k.values) [] (up_passed (λ v. not (is_worth v.1 (worth v.0 k.values))) k.values r.values) none_rise (λ f. worth_newly f k.values k.values r.values ∙ newly_none (worth f k.values)) in
    λ i. record { came = facts i; went = facts i; given = values i; lost = values i }

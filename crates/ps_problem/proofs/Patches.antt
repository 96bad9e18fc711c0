-- Changes of all that is known, part by part.
use Rattle.std.proofs.Common.{◌≡◌, ◌≢◌, ◌↔◌, Bool, true, false, not, cond, ◌&&◌, ◌||◌, List, [], ◌∷◌, Option, unwrap_or, filter, fold, length, nat_eq, refl, ap, sym, ◌∙◌, arith}
use Rattle.std.specs.List.{list_any}
use Rattle.std.proofs.lemmas.Bool.{and_parts}
use Rattle.std.proofs.lemmas.Bool.Decides.{nat_tests}
use Rattle.std.specs.Cmp.Lexicographic.{pointwise}
use Rattle.ps_world.specs.Names.{same_name}
use Rattle.ps_world.specs.declared.conditions.Cond.{Cond}
use Rattle.ps_world.specs.declared.facts.Fact.{Fact}
use Rattle.ps_world.specs.declared.known.Knowledge.{Knowledge}
use Rattle.ps_world.specs.declared.names.Name.{Name}
use Rattle.ps_world.specs.declared.numbers.Num.{Num}
use Rattle.ps_action.proofs.Facts.{same_name-is, same_name-refl}
use Rattle.ps_domain.proofs.Indexes.{same_turned}
use Rattle.ps_problem.specs.Patches.{changed, facts_after, instances_after, values_after}
use Rattle.ps_problem.specs.Puts.{without_instance}
use Rattle.ps_problem.specs.declared.change.Change.{Change}

-- ---- instances that go

module _ {A : Type 0} where
  twice_at : (p : A → Bool) (x : A) (ys zs : List A) (a b c : Bool) → p x ≡ b → (a && b) ≡ c → filter p ys ≡ zs → filter p (cond a (x ∷ ys) ys) ≡ cond c (x ∷ zs) zs
  twice_at p x ys zs true b c is e h = λ i. cond ((is ∙ e) i) (x ∷ h i) (h i)
  twice_at p x ys zs false b c is e h = h ∙ ap (λ t. cond t (x ∷ zs) zs) e

  filter_twice : (p q r : A → Bool) → ((x : A) → (q x && p x) ≡ r x) → (xs : List A) → filter p (filter q xs) ≡ filter r xs
  filter_twice p q r h [] = refl
  filter_twice p q r h (x ∷ xs) = twice_at p x (filter q xs) (filter r xs) (q x) (p x) (r x) refl (h x) (filter_twice p q r h xs)

  filter_all : (xs : List A) → filter (λ x. true) xs ≡ xs
  filter_all [] = refl
  filter_all (x ∷ xs) = ap (λ ys. x ∷ ys) (filter_all xs)

neither : (a b : Bool) → (not a && not b) ≡ not (a || b)
neither true b = refl
neither false b = refl

-- instances that go one after another
pub all_out : (ns : List Name) (es : List (Name × Name)) → fold without_instance es ns ≡ filter (λ i. not (list_any (same_name i.0) ns)) es
all_out [] es = sym (filter_all es)
all_out (n ∷ ns) es =
    all_out ns (without_instance es n)
    ∙ filter_twice (λ i. not (list_any (same_name i.0) ns)) (λ i. not (same_name n i.0)) (λ i. not (same_name i.0 n || list_any (same_name i.0) ns)) (λ i.
    ap (λ b. not b && not (list_any (same_name i.0) ns)) (same_turned n i.0) ∙ neither (same_name i.0 n) (list_any (same_name i.0) ns)) es

-- where nothing goes, all stay
pub none_out : (es : List (Name × Name)) → filter (λ i. not (list_any (same_name i.0) [])) es ≡ es
none_out es = filter_all es

-- a list with no length has nothing in it
pub nothing_in : {A : Type 0} (xs : List A) → nat_eq (length xs) 0 ≡ true → xs ≡ []
nothing_in [] e = refl
nothing_in (x ∷ xs) e = let none : length (x ∷ xs) ≡ 0 = grind (arith, nat_tests) in absurd (omega arith)

-- ---- instances that are the same

-- how a map of names compares two of its entries
abbrev same_entry : Name × Name → Name × Name → Bool
same_entry p q = same_name p.0 q.0 && same_name p.1 q.1

entry_is : (p q : Name × Name) → same_entry p q ≡ true → p ≡ q
entry_is p q e = let both = and_parts (same_name p.0 q.0) (same_name p.1 q.1) e in λ i. (same_name-is p.0 q.0 both.0 i, same_name-is p.1 q.1 both.1 i)

entry_itself : (p : Name × Name) → same_entry p p ≡ true
entry_itself p = rw (same_name-refl p.0 p.0 refl, same_name-refl p.1 p.1 refl) refl

entries_are : (xs ys : List (Name × Name)) → pointwise same_entry xs ys ≡ true → xs ≡ ys
entries_are [] [] e = refl
entries_are [] (y ∷ ys) e = absurd (cc)
entries_are (x ∷ xs) [] e = absurd (cc)
entries_are (x ∷ xs) (y ∷ ys) e =
    let both = and_parts (same_entry x y) (pointwise same_entry xs ys) e in λ i. entry_is x y both.0 i ∷ entries_are xs ys both.1 i

entries_themselves : (xs : List (Name × Name)) → pointwise same_entry xs xs ≡ true
entries_themselves [] = refl
entries_themselves (x ∷ xs) = rw (entry_itself x, entries_themselves xs) refl

-- the test of two maps' entries tells whether they are the same
pub same_instances : (xs ys : List (Name × Name)) (b : Bool) → b ≡ pointwise same_entry xs ys → (b ≡ true) ↔ (xs ≡ ys)
same_instances xs ys b e = (λ t. entries_are xs ys (sym e ∙ t), λ same. e ∙ ap (pointwise same_entry xs) (sym same) ∙ entries_themselves xs)

-- ---- whether anything changes

module _ (k m1 m2 m3 : Knowledge) (fs : List Fact) (vs : List (Fact × Num)) (is : List (Name × Name)) (g : Option Cond)
    (e1 : m1 ≡ record k { facts = fs; values = vs }) (e2 : m2 ≡ record m1 { instances = is }) (e3 : m3 ≡ record m2 { goal = g }) where
  facts_are : m3.facts ≡ fs
  facts_are = ap (λ (x : Knowledge). x.facts) e3 ∙ ap (λ (x : Knowledge). x.facts) e2 ∙ ap (λ (x : Knowledge). x.facts) e1

  values_are : m3.values ≡ vs
  values_are = ap (λ (x : Knowledge). x.values) e3 ∙ ap (λ (x : Knowledge). x.values) e2 ∙ ap (λ (x : Knowledge). x.values) e1

  instances_are : m3.instances ≡ is
  instances_are = ap (λ (x : Knowledge). x.instances) e3 ∙ ap (λ (x : Knowledge). x.instances) e2

  goal_is : m2.goal ≡ k.goal
  goal_is = ap (λ (x : Knowledge). x.goal) e2 ∙ ap (λ (x : Knowledge). x.goal) e1

  first_same : m3 ≡ k → m1 ≡ k
  first_same e =
      let facts : fs ≡ k.facts = sym facts_are ∙ ap (λ (x : Knowledge). x.facts) e in
      let values : vs ≡ k.values = sym values_are ∙ ap (λ (x : Knowledge). x.values) e in
      e1 ∙ (λ i. record k { facts = facts i; values = values i })

  second_same : m3 ≡ k → m2 ≡ m1
  second_same e =
      let instances : is ≡ m1.instances = sym instances_are ∙ ap (λ (x : Knowledge). x.instances) e ∙ sym (ap (λ (x : Knowledge). x.instances) e1) in
      e2 ∙ (λ i. record m1 { instances = instances i })

  third_same : m3 ≡ k → m3 ≡ m2
  third_same e =
      let goal : g ≡ m2.goal = sym (ap (λ (x : Knowledge). x.goal) e3) ∙ ap (λ (x : Knowledge). x.goal) e ∙ sym goal_is in
      e3 ∙ (λ i. record m2 { goal = goal i })

  off : (false ≡ true) → ⊥
  off e = cc

  -- the whole differs exactly where one of the three steps changes something
  pub any_changes : (a b c : Bool) → (a ≡ true) ↔ (m1 ≢ k) → (b ≡ true) ↔ (m2 ≢ m1) → (c ≡ true) ↔ (m3 ≢ m2) → (((a || b) || c) ≡ true) ↔ (m3 ≢ k)
  any_changes true b c f s t = (λ e same. f.0 refl (first_same same), λ n. refl)
  any_changes false true c f s t = (λ e same. s.0 refl (second_same same), λ n. refl)
  any_changes false false true f s t = (λ e same. t.0 refl (third_same same), λ n. refl)
  any_changes false false false f s t =
      (λ e. absurd (cc), λ n. absurd (off (f.1 (λ first. off (s.1 (λ second. off (t.1 (λ third. n (third ∙ second ∙ first)))))))))

-- the three steps make the change
pub all_made : (k m1 m2 m3 : Knowledge) (c : Change) (next : Option (List (Name × Name))) (told : Option (Option Cond))
    → m1 ≡ record k { facts = facts_after k.facts c.adds c.deletes; values = values_after k.values c.values c.gone }
    → m2 ≡ record m1 { instances = unwrap_or next m1.instances }
    → m3 ≡ record m2 { goal = unwrap_or told m2.goal }
    → unwrap_or next k.instances ≡ instances_after k.instances c.instances_out c.instances_in
    → told ≡ c.goal
    → m3 ≡ changed k c
all_made k m1 m2 m3 c next told e1 e2 e3 instances goal =
    let second : m2 ≡ record k { facts = facts_after k.facts c.adds c.deletes; values = values_after k.values c.values c.gone; instances = unwrap_or next k.instances } =
    e2 ∙ (λ i. record (e1 i) { instances = unwrap_or next (e1 i).instances }) in
    e3 ∙ (λ i. record (second i) { goal = unwrap_or told (second i).goal })
    ∙ (λ i. record { instances = instances i; facts = facts_after k.facts c.adds c.deletes; values = values_after k.values c.values c.gone; goal = unwrap_or (goal i) k.goal })

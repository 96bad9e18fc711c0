-- A search at a depth: what is kept there, and what is answered.
use Rattle.std.proofs.Common.{◌≡◌, ◌≢◌, ℕ, zero, suc, ◌+◌, ◌<◌, ◌≤◌, min, nat_le, Bool, true, false, cond, ◌||◌, ◌⊎◌, inl, inr, List, [], ◌∷◌, ◌++◌, Option, Some, None, option_map, flat_map, length, take, drop, refl, ap, sym, ◌∙◌, arith}
use Rattle.std.proofs.lemmas.List.{length-append, length-take, take_all}
use Rattle.std.proofs.Math.Seq.{drop-append_seam}
use Rattle.std.proofs.lemmas.Bool.Decides.{nat_tests}
use Rattle.std.proofs.lemmas.List.Elements.{All-append, All-cons, All-head, All-nil, All-tail}
use Rattle.ps_levels.specs.Levels.{IsExact, NoneGood, Space, answer_from, at_depth, first_good, fresh, is_met, level, reach, unfound}
use Rattle.ps_levels.specs.declared.searching.Found.{Found}
use Rattle.ps_levels.specs.declared.searching.Found.TheVariants.{Path, Nowhere, Spent}
use Rattle.ps_levels.proofs.Nexts.{none_good}

module _ {N S : Type 0} (p : Space N S) where
  -- the nodes before a level
  abbrev pub before : ℕ → List N
  before zero = []
  before (suc n) = reach p n

  pub reach_is : (n : ℕ) → reach p n ≡ before n ++ level p n
  reach_is zero = refl
  reach_is (suc n) = refl

  -- ---- where the first of all is the first of the new ones

  abbrev Bad : N → Type 0
  Bad n = p.good (p.state n) ≡ false

  or_cases : (a b : Bool) → (a || b) ≡ true → (a ≡ true) ⊎ (b ≡ true)
  or_cases true b e = inl refl
  or_cases false b e = inr e

  met_bad : IsExact p → (old : List N) (s : S) → NoneGood p old → is_met p old s ≡ true → p.good s ≡ false
  met_bad exact [] s none e = absurd (cc)
  met_bad exact (n ∷ old) s none e =
      elim (or_cases (p.same s (p.state n)) (is_met p old s) e) [
        | inl here ↦ ap p.good (exact s (p.state n) here) ∙ All-head Bad n old none
        | inr there ↦ met_bad exact old s (All-tail Bad n old none) there
      ]

  new_at : IsExact p → (n : N) (old ns : List N) (met good : Bool) → is_met p old (p.state n) ≡ met → p.good (p.state n) ≡ good → NoneGood p old → first_good p (fresh p old ns) ≡ first_good p ns → (good ≡ false → first_good p (fresh p (old ++ n ∷ []) ns) ≡ first_good p ns) → first_good p (cond met (fresh p old ns) (n ∷ fresh p (old ++ n ∷ []) ns)) ≡ cond good (Some n) (first_good p ns)
  new_at exact n old ns true true m e none skip more = let bad = met_bad exact old (p.state n) none m in absurd (cc)
  new_at exact n old ns true false m e none skip more = skip
  new_at exact n old ns false true m e none skip more = rw e refl
  new_at exact n old ns false false m e none skip more = rw e (more refl)

  pub first_new : IsExact p → (old ns : List N) → NoneGood p old → first_good p (fresh p old ns) ≡ first_good p ns
  first_new exact old [] none = refl
  first_new exact old (n ∷ ns) none =
      new_at exact n old ns (is_met p old (p.state n)) (p.good (p.state n)) refl refl none (first_new exact old ns none)
      (λ bad. first_new exact (old ++ n ∷ []) ns (All-append Bad old (n ∷ []) none (All-cons Bad n [] (let h : p.good (p.state n) ≡ false = bad in h) (All-nil Bad))))

  -- ---- a depth

  -- a search with this budget is at this depth: so many nodes are expanded, and these are kept, none of which is looked for
  pub record IsAt (budget n expanded : ℕ) (nodes : List N) : Type 0 where
    pub kept : nodes ≡ take budget (reach p n)
    pub done : expanded ≡ length (before n)
    pub few : expanded < budget
    pub none : NoneGood p (reach p n)
    pub here : first_good p (level p n) ≡ None

  pub begins : (budget : ℕ) (nodes : List N) → nodes ≡ p.root ∷ [] → 1 ≤ budget → first_good p (p.root ∷ []) ≡ None → IsAt budget 0 0 nodes
  begins budget nodes e few none = record {
    kept = e ∙ sym (take_all budget (p.root ∷ []) few);
    done = refl;
    few = omega (arith, few);
    none = none_good p (p.root ∷ []) none;
    here = none;
  }

  no_items : (ns : List N) → length ns ≡ 0 → ns ≡ []
  no_items [] e = refl
  no_items (n ∷ ns) e = absurd (omega (arith, e))

  module _ (budget n expanded : ℕ) (nodes : List N) (at : IsAt budget n expanded nodes) where
    all_count : length (reach p n) ≡ expanded + length (level p n)
    all_count = let e = ap length (reach_is n) in let l = length-append (before n) (level p n) in let d = at.done in omega (arith, e, l, d)

    count : length nodes ≡ min budget (length (reach p n))
    count = ap length at.kept ∙ length-take budget (reach p n)

    -- where all that are kept are expanded, the level is empty
    pub is_over : expanded ≡ length nodes → level p n ≡ []
    is_over e = let a = all_count in let c = count in let f = at.few in no_items (level p n) (omega (arith, e, a, c, f))

    pub is_left : expanded ≢ length nodes → 0 < length (level p n)
    is_left e = let a = all_count in let c = count in let f = at.few in omega (arith, e, a, c, f)

    -- as many as the budget says are reached
    pub is_spent : budget ≤ length nodes → (0 < length (level p n)) × (budget ≤ length (reach p n))
    is_spent e = let a = all_count in let c = count in let f = at.few in (omega (arith, e, a, c, f), omega (arith, e, c))

    -- else all that are reached are kept, and those of this level are the last
    pub is_whole : length nodes < budget → nodes ≡ reach p n
    is_whole e = let c = count in at.kept ∙ take_all budget (reach p n) (omega (arith, e, c))

    pub last_ones : length nodes < budget → drop expanded nodes ≡ level p n
    last_ones e =
        (λ i. drop (at.done i) (is_whole e i)) ∙ ap (drop (length (before n))) (reach_is n) ∙ drop-append_seam (before n) (level p n)

    pub all_fewer : length nodes < budget → length (reach p n) < budget
    all_fewer e = let c = count in omega (arith, e, c)

    module _ (exact : IsExact p) (short : length nodes < budget) where
      -- what is led to
      pub next_first : first_good p (flat_map p.moves (drop expanded nodes)) ≡ first_good p (level p (suc n))
      next_first = ap (λ l. first_good p (flat_map p.moves l)) (last_ones short) ∙ sym (first_new exact (reach p n) (flat_map p.moves (level p n)) at.none)

      -- the next depth
      pub deepens : (new : List N) → new ≡ take budget (nodes ++ fresh p nodes (flat_map p.moves (drop expanded nodes))) → first_good p (level p (suc n)) ≡ None → IsAt budget (suc n) (length nodes) new
      deepens new is_new none = record {
        kept = is_new ∙ (λ i. take budget (is_whole short i ++ fresh p (is_whole short i) (flat_map p.moves (last_ones short i))));
        done = ap length (is_whole short);
        few = short;
        none = All-append Bad (reach p n) (level p (suc n)) at.none (none_good p (level p (suc n)) none);
        here = none;
      }

-- ---- the answer

module _ {N S P : Type 0} (p : Space N S) (path : N → P) (budget : ℕ) where
  planned_at : (o : Option N) (x : P) (ns reached : List N) (n : ℕ) (next : Found P) → option_map path o ≡ Some x → Path x ≡ at_depth path o ns reached budget n next
  planned_at None x ns reached n next e = absurd (cc)
  planned_at (Some m) x ns reached n next e = let same : x ≡ path m = cc in ap Path same

  pub planned : (more n : ℕ) (x : P) → option_map path (first_good p (level p n)) ≡ Some x → Path x ≡ answer_from p path budget more n
  planned zero n x e = planned_at (first_good p (level p n)) x (level p n) (reach p n) n (Spent n) e
  planned (suc more) n x e = planned_at (first_good p (level p n)) x (level p n) (reach p n) n (answer_from p path budget more (suc n)) e

  pub nowhere : (more n : ℕ) → level p n ≡ [] → Nowhere ≡ answer_from p path budget more n
  nowhere zero n e = ap (λ l. at_depth path (first_good p l) l (reach p n) budget n (Spent n)) (sym e)
  nowhere (suc more) n e = ap (λ l. at_depth path (first_good p l) l (reach p n) budget n (answer_from p path budget more (suc n))) (sym e)

  spent_at : (ns reached : List N) (n : ℕ) (next : Found P) → 0 < length ns → budget ≤ length reached → Spent n ≡ unfound ns reached budget n next
  spent_at [] reached n next e h = absurd (omega (arith, e))
  spent_at (m ∷ ns) reached n next e h = let b : nat_le budget (length reached) ≡ true = grind (arith, nat_tests, h) in rw b refl

  pub spent : (more n : ℕ) → first_good p (level p n) ≡ None → 0 < length (level p n) → budget ≤ length (reach p n) → Spent n ≡ answer_from p path budget (suc more) n
  spent more n none e h =
      spent_at (level p n) (reach p n) n (answer_from p path budget more (suc n)) e h
      ∙ ap (λ o. at_depth path o (level p n) (reach p n) budget n (answer_from p path budget more (suc n))) (sym none)

  both : (b : Bool) (f : Found P) → f ≡ cond b f f
  both true f = refl
  both false f = refl

  last_at : (ns reached : List N) (n : ℕ) → 0 < length ns → ◌≡◌ {A = Found P} (Spent n) (unfound ns reached budget n (Spent n))
  last_at [] reached n e = absurd (omega (arith, e))
  last_at (m ∷ ns) reached n e = both (nat_le budget (length reached)) (Spent n)

  pub is_last : (n : ℕ) → first_good p (level p n) ≡ None → 0 < length (level p n) → Spent n ≡ answer_from p path budget zero n
  is_last n none e = last_at (level p n) (reach p n) n e ∙ ap (λ o. at_depth path o (level p n) (reach p n) budget n (Spent n)) (sym none)

  goes_at : (ns reached : List N) (n : ℕ) (next : Found P) → 0 < length ns → length reached < budget → unfound ns reached budget n next ≡ next
  goes_at [] reached n next e h = absurd (omega (arith, e))
  goes_at (m ∷ ns) reached n next e h = let b : nat_le budget (length reached) ≡ false = grind (arith, nat_tests, h) in rw b refl

  pub goes_on : (more n : ℕ) → first_good p (level p n) ≡ None → 0 < length (level p n) → length (reach p n) < budget → answer_from p path budget (suc more) n ≡ answer_from p path budget more (suc n)
  goes_on more n none e h =
      ap (λ o. at_depth path o (level p n) (reach p n) budget n (answer_from p path budget more (suc n))) none
      ∙ goes_at (level p n) (reach p n) n (answer_from p path budget more (suc n)) e h

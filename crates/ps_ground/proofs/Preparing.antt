-- What is prepared leads to the same, and conditions that hold in no state over the atoms lead nowhere.
use Rattle.std.proofs.Common.{◌≡◌, ℕ, zero, suc, ◌+◌, Bool, true, false, not, cond, ◌&&◌, ◌||◌, List, [], ◌∷◌, ◌++◌, Option, Some, None, option_map, option_and_then, option_to_list, drop, filter, filter_map, fold, map, refl, ap, sym, ◌∙◌, subst}
use Rattle.std.specs.Prelude.{MatchOption, slice_get}
use Rattle.std.specs.List.{cons_option, list_all, list_any}
use Rattle.std.specs.Option.{option_map_or}
use Rattle.std.specs.BTreeSet.{insert_key}
use Rattle.std.specs.Result.{result_ok}
use Rattle.std.proofs.lemmas.Cmp.{eq_by_cmp_equiv}
use Rattle.std.proofs.lemmas.List.Elements.{filter_map-append}
use Rattle.std.proofs.lemmas.List.Folds.{list_any-append}
use Rattle.std.proofs.lemmas.List.Sums.{fold-append}
use Rattle.std.proofs.lemmas.Bool.{or_from, or_parts}
use Rattle.ps_world.specs.Facts.{fact_cmp}
use Rattle.ps_world.specs.Knowledge.{same_fact}
use Rattle.ps_world.specs.CondViews.{cond_tree}
use Rattle.ps_world.specs.Trees.{CondTree}
use Rattle.ps_world.specs.declared.actions.Effect.{Effect}
use Rattle.ps_world.specs.declared.actions.Effect.TheVariants.{Add, Delete, Number}
use Rattle.ps_world.specs.declared.actions.Spread.{Spread}
use Rattle.ps_world.specs.declared.conditions.Cond.{Cond}
use Rattle.ps_world.specs.declared.domains.Domain.{Domain}
use Rattle.ps_world.specs.declared.facts.Fact.{Fact}
use Rattle.ps_world.specs.declared.known.Knowledge.{Knowledge}
use Rattle.ps_world.specs.declared.names.Name.{Name}
use Rattle.ps_world.specs.declared.numbers.Num.{Num}
use Rattle.ps_world.proofs.Truths.{and_true}
use Rattle.ps_action.specs.Effects.{added_by, deletes, fault_of_flat, faults_from, flat, made, value_set, values_of_flat}
use Rattle.ps_action.specs.Refusals.{unless}
use Rattle.ps_action.specs.Grounding.{put_cond}
use Rattle.ps_action.specs.Truth.{all_true, is_true}
use Rattle.ps_action.specs.declared.acts.GroundAction.{GroundAction}
use Rattle.ps_action.specs.declared.refusals.EffectRefusal.{EffectRefusal}
use Rattle.ps_action.proofs.Keys.{any-insert_key}
use Rattle.ps_ground.specs.Orders.{facts_total}
use Rattle.ps_ground.specs.States.{State, at, changed, changed_flat, ended, state_of, stepped, where_so}
use Rattle.ps_ground.specs.Moves.{Node, moves}
use Rattle.ps_ground.specs.Prepared.{AreSound, IsBareTest, IsSound, is_number, known_at, landed, successor_node, successor_nodes, successor, passes, turned, with_at, without_at}
use Rattle.ps_ground.specs.Atoms.{AddAtoms, AreAtoms, IsOver, MayAddAtoms, adds, may_add}
use Rattle.ps_ground.specs.declared.prepared.Prepared.{Prepared}
use Rattle.ps_ground.specs.declared.prepared.Test.{Test}
use Rattle.ps_ground.proofs.Below.{none_filtered}
use Rattle.ps_ground.proofs.MayAdd.{always_atoms, split_none}
use Rattle.ps_ground.proofs.Removed.{filter_either, fold_option}
use Rattle.ps_ground.proofs.Settled.{both_true}

-- ---- changes

none_left_at : (p q : Fact → Bool) (f : Fact) (fs : List Fact) (a b : Bool) → p f ≡ a → (a || list_any p fs) ≡ false → list_any p (filter q fs) ≡ false → list_any p (cond b (f ∷ filter q fs) (filter q fs)) ≡ false
none_left_at p q f fs true b h e rest = absurd (cc)
none_left_at p q f fs false true h e rest = rw h rest
none_left_at p q f fs false false h e rest = rest

none_left : (p q : Fact → Bool) (fs : List Fact) → list_any p fs ≡ false → list_any p (filter q fs) ≡ false
none_left p q [] e = refl
none_left p q (f ∷ fs) e = none_left_at p q f fs (p f) (q f) refl e (none_left p q fs (or_parts (p f) (list_any p fs) e).1)

-- what is put among facts that aren't it leaves it out
pub none_put : (f : Fact) (adds fs : List Fact) → list_any (same_fact f) adds ≡ false → list_any (same_fact f) fs ≡ false → list_any (same_fact f) (fold (insert_key fact_cmp) fs adds) ≡ false
none_put f [] fs a e = e
none_put f (g ∷ adds) fs a e =
    let w = or_parts (same_fact f g) (list_any (same_fact f) adds) a in
    none_put f adds (insert_key fact_cmp fs g) w.1 (any-insert_key facts_total f g fs ∙ or_from (same_fact f g) (list_any (same_fact f) fs) w.0 e)

-- what is no atom is none of the atoms
other_atom : (f g : Fact) (atoms : List Fact) (i : ℕ) → slice_get atoms i ≡ Some g → list_any (same_fact f) atoms ≡ false → same_fact f g ≡ false
other_atom f g [] i e none = absurd (cc)
other_atom f g (a ∷ atoms) zero e gone =
    let same : a ≡ g = cc in
    ap (same_fact f) (sym same) ∙ (or_parts (same_fact f a) (list_any (same_fact f) atoms) gone).0
other_atom f g (a ∷ atoms) (suc i) e gone = other_atom f g atoms i e (or_parts (same_fact f a) (list_any (same_fact f) atoms) gone).1

-- the place of an atom is none of what is no atom
pub placed_atom : (f g : Fact) (atoms : List Fact) (i : ℕ) → slice_get atoms i ≡ Some g → list_any (same_fact f) atoms ≡ false → list_any (same_fact f) (g ∷ []) ≡ false
placed_atom f g atoms i e gone = or_from (same_fact f g) false (other_atom f g atoms i e gone) refl

none_in : (p : Fact → Bool) (o : Option Fact) (fs : List Fact) → list_any p (cons_option o fs) ≡ false → (list_any p (option_to_list o) ≡ false) × (list_any p fs ≡ false)
none_in p None fs e = (refl, e)
none_in p (Some f) fs e =
    let w = or_parts (p f) (list_any p fs) e in
    (or_from (p f) false w.0 refl, w.1)

-- the first of some effects, and the others, add atoms alone where all do
pub adds_split : (atoms : List Fact) (e : Effect) (es : List Effect) (i : ℕ) → drop i es ≡ e ∷ drop (i + 1) es → AddAtoms atoms (drop i es) → AreAtoms atoms (option_to_list (added_by e)) × AddAtoms atoms (drop (i + 1) es)
adds_split atoms e es i split a =
    let parts = λ (f : Fact) (gone : list_any (same_fact f) atoms ≡ false). none_in (same_fact f) (added_by e) (filter_map added_by (drop (i + 1) es)) (ap (λ (l : List Effect). list_any (same_fact f) (filter_map added_by l)) (sym split) ∙ a f gone) in
    (λ f gone. (parts f gone).0, λ f gone. (parts f gone).1)

-- where two lists together are atoms, each is
pub atoms_of_both : (atoms fs gs : List Fact) → AreAtoms atoms (fs ++ gs) → AreAtoms atoms fs × AreAtoms atoms gs
atoms_of_both atoms fs gs a = (λ f gone. (split_none (same_fact f) fs gs (a f gone)).0, λ f gone. (split_none (same_fact f) fs gs (a f gone)).1)

-- a ground action that may add atoms alone does so at its start
pub first_atoms : (d : Domain) (k : Knowledge) (atoms : List Fact) (g : GroundAction) → AreAtoms atoms (adds d k g) → MayAddAtoms d k atoms g.effects.at_start
first_atoms d k atoms g a = (atoms_of_both atoms (may_add d k [] g.effects.at_start) (may_add d k [] g.effects.at_end) a).0

-- and at its end
pub last_atoms : (d : Domain) (k : Knowledge) (atoms : List Fact) (g : GroundAction) → AreAtoms atoms (adds d k g) → MayAddAtoms d k atoms g.effects.at_end
last_atoms d k atoms g a = (atoms_of_both atoms (may_add d k [] g.effects.at_start) (may_add d k [] g.effects.at_end) a).1

-- the first of some facts, and the others, are atoms where all are
pub facts_split : (atoms : List Fact) (f : Fact) (fs : List Fact) (i : ℕ) → drop i fs ≡ f ∷ drop (i + 1) fs → AreAtoms atoms (drop i fs) → AreAtoms atoms (f ∷ []) × AreAtoms atoms (drop (i + 1) fs)
facts_split atoms f fs i split a =
    let P : List Fact → Type 0 = AreAtoms atoms in
    atoms_of_both atoms (f ∷ []) (drop (i + 1) fs) (subst P split a)

-- what is one of the atoms has a place
pub no_place : {A : Type 0} (f : Fact) (atoms : List Fact) → list_any (same_fact f) atoms ≡ false → AreAtoms atoms (f ∷ []) → A
no_place f atoms gone a =
    let other = (or_parts (same_fact f f) false (a f gone)).0 in
    absurd (cc (other, (eq_by_cmp_equiv facts_total).refl f))

module _ (d : Domain) (k : Knowledge) (atoms : List Fact) where
  made_over : (s t : State) (es : List Effect) (ready : List (Fact × Num)) (fault : Option EffectRefusal) → IsOver atoms s → AddAtoms atoms es → option_map state_of (result_ok (unless fault (made (at k s) es ready))) ≡ Some t → IsOver atoms t
  made_over s t es ready (Some r) o a e = absurd (cc)
  made_over s t es ready None o a e =
      let same : state_of (made (at k s) es ready) ≡ t = cc in
      λ f gone.
      ap (λ (u : State). list_any (same_fact f) u.facts) (sym same)
      ∙ none_put f (filter_map added_by es) (filter (λ g. not (list_any (deletes g) es)) s.facts) (a f gone) (none_left (same_fact f) (λ g. not (list_any (deletes g) es)) s.facts (o f gone))

  -- effects that may add atoms alone lead to a state over the atoms
  pub changed_over : (s t : State) (es : List Spread) → IsOver atoms s → MayAddAtoms d k atoms es → changed d k s es ≡ Some t → IsOver atoms t
  changed_over s t es o a e =
      let now = flat d (at k s) es in
      made_over s t now (values_of_flat (at k s) now) (fault_of_flat (at k s) now) o (always_atoms d k atoms es a s) e

  -- what is the same over the atoms leads to the same from a state that effects that may add atoms alone lead to
  pub goes_alike : (b : Bool) (s : State) (es : List Spread) (f g : State → Option State) → IsOver atoms s → MayAddAtoms d k atoms es → ((t : State) → IsOver atoms t → f t ≡ g t) → option_and_then f (where_so b (changed d k s es)) ≡ option_and_then g (where_so b (changed d k s es))
  goes_alike b s es f g o a h = by b (changed d k s es) (λ t e. h t (changed_over s t es o a e))
    where
      by : (b : Bool) (c : Option State) → ((t : State) → c ≡ Some t → f t ≡ g t) → option_and_then f (where_so b c) ≡ option_and_then g (where_so b c)
      by true None h = refl
      by true (Some t) h = h t refl
      by false c h = refl

nowhere : (b : Bool) → where_so b None ≡ None
nowhere true = refl
nowhere false = refl

nowhere_after : (o : Option State) → option_and_then {U = State} (λ (t : State). None) o ≡ None
nowhere_after None = refl
nowhere_after (Some t) = refl

module _ (d : Domain) (k : Knowledge) (atoms : List Fact) (g : GroundAction) where
  -- conditions that hold in no state over the atoms
  abbrev pub NeverHoldOver : List CondTree → Type 0
  NeverHoldOver cs = (s : State) → IsOver atoms s → all_true d (at k s) cs ≡ false

  no_end : ((t : State) → IsOver atoms t → ended d k g t ≡ None) → MayAddAtoms d k atoms g.effects.at_start → (s : State) → IsOver atoms s → stepped d k s g ≡ None
  no_end h a s o =
      goes_alike d k atoms (all_true d (at k s) g.conditions.at_start) s g.effects.at_start (ended d k g) (λ t. None) o a h
      ∙ nowhere_after (where_so (all_true d (at k s) g.conditions.at_start) (changed d k s g.effects.at_start))

  -- an over-all condition that fails after each start
  pub no_over : NeverHoldOver g.conditions.over_all → MayAddAtoms d k atoms g.effects.at_start → (s : State) → IsOver atoms s → stepped d k s g ≡ None
  no_over v = no_end (λ t o. ap (λ b. where_so b (where_so (all_true d (at k t) g.conditions.at_end) (changed d k t g.effects.at_end))) (v t o))

  -- an end condition that does
  pub no_last : NeverHoldOver g.conditions.at_end → MayAddAtoms d k atoms g.effects.at_start → (s : State) → IsOver atoms s → stepped d k s g ≡ None
  no_last v =
      no_end (λ t o. ap (λ b. where_so (all_true d (at k t) g.conditions.over_all) (where_so b (changed d k t g.effects.at_end))) (v t o) ∙ nowhere (all_true d (at k t) g.conditions.over_all))

  -- a ground action whose parts were prepared
  pub leads_alike : (p : Prepared) → ((s : State) → passes d k atoms p.start s ≡ all_true d (at k s) g.conditions.at_start) → ((s : State) → passes d k atoms p.over s ≡ all_true d (at k s) g.conditions.over_all) → ((s : State) → passes d k atoms p.end s ≡ all_true d (at k s) g.conditions.at_end) → ((s : State) → IsOver atoms s → turned d k atoms p.at_start s ≡ changed d k s g.effects.at_start) → ((s : State) → IsOver atoms s → turned d k atoms p.at_end s ≡ changed d k s g.effects.at_end) → MayAddAtoms d k atoms g.effects.at_start → (s : State) → IsOver atoms s → successor d k atoms s p ≡ stepped d k s g
  leads_alike p start over end at_start at_end a s o =
      (λ i. option_and_then (landed d k atoms p) (where_so (start s i) (at_start s o i)))
      ∙ goes_alike d k atoms (all_true d (at k s) g.conditions.at_start) s g.effects.at_start (landed d k atoms p) (ended d k g) o a (λ t q i. where_so (over t i) (where_so (end t i) (at_end t q i)))

-- ---- tests

and_last : (a b c : Bool) → (a && (b && c)) ≡ ((a && b) && c)
and_last true b c = refl
and_last false b c = refl

module _ (d : Domain) (k : Knowledge) (atoms : List Fact) (s : State) where
  -- one more of the other conditions
  pub more_others : (wanted : List ℕ) (others : List CondTree) (c : CondTree) → (list_all (known_at atoms s) wanted && all_true d (at k s) (others ++ c ∷ [])) ≡ ((list_all (known_at atoms s) wanted && all_true d (at k s) others) && is_true d (at k s) c)
  more_others wanted others c =
      ap (λ b. list_all (known_at atoms s) wanted && b) (both_true d (at k s) others (c ∷ []) ∙ ap (λ b. all_true d (at k s) others && b) (and_true (is_true d (at k s) c)))
      ∙ and_last (list_all (known_at atoms s) wanted) (all_true d (at k s) others) (is_true d (at k s) c)

  -- what is taken into a test of no conditions is what is tested
  pub bare_passes : (old new : Test) (b : Bool) → IsBareTest old → passes d k atoms new s ≡ (passes d k atoms old s && b) → passes d k atoms new s ≡ b
  bare_passes old new b bare e =
      e ∙ (λ i. (list_all (known_at atoms s) (bare.wanted i) && all_true d (at k s) (bare.others i)) && b)

  -- what is left is tested after what was taken in
  pub tested_more : (args : List Name) (cs : List Cond) (i : ℕ) (c : Cond) (old new : Test) → drop i cs ≡ c ∷ drop (i + 1) cs → passes d k atoms new s ≡ (passes d k atoms old s && is_true d (at k s) (put_cond args (cond_tree c))) → (passes d k atoms new s && all_true d (at k s) (map (put_cond args) (map cond_tree (drop (i + 1) cs)))) ≡ (passes d k atoms old s && all_true d (at k s) (map (put_cond args) (map cond_tree (drop i cs))))
  tested_more args cs i c old new split e =
      let rest = map (put_cond args) (map cond_tree (drop (i + 1) cs)) in
      ap (λ b. b && all_true d (at k s) rest) e
      ∙ sym (and_last (passes d k atoms old s) (is_true d (at k s) (put_cond args (cond_tree c))) (all_true d (at k s) rest))
      ∙ ap (λ (l : List Cond). passes d k atoms old s && all_true d (at k s) (map (put_cond args) (map cond_tree l))) (sym split)

-- ---- changes by places

module _ (atoms : List Fact) where
  without_atoms_by : (fs : List Fact) (o : Option Fact) → AreAtoms atoms fs → AreAtoms atoms (option_map_or (λ f. filter (λ g. not (same_fact f g)) fs) o fs)
  without_atoms_by fs None a = a
  without_atoms_by fs (Some h) a = λ f gone. none_left (same_fact f) (λ g. not (same_fact h g)) fs (a f gone)

  -- what is left are atoms
  pub without_atoms : (places : List ℕ) (fs : List Fact) → AreAtoms atoms fs → AreAtoms atoms (fold (without_at atoms) fs places)
  without_atoms [] fs a = a
  without_atoms (i ∷ places) fs a = without_atoms places (without_at atoms fs i) (without_atoms_by fs (slice_get atoms i) a)

  -- the deletes of some effects, and then those of others
  pub deleted_more : (xs ys : List Effect) (fs : List Fact) → filter (λ f. not (list_any (deletes f) ys)) (filter (λ f. not (list_any (deletes f) xs)) fs) ≡ filter (λ f. not (list_any (deletes f) (xs ++ ys))) fs
  deleted_more xs ys fs =
      filter_either (λ f. list_any (deletes f) xs) (λ f. list_any (deletes f) ys) fs
      ∙ (λ j. filter (λ f. not (sym (list_any-append (deletes f) xs ys) j)) fs)

  -- a fact that is no atom is taken out of atoms in vain
  pub vain_delete : (g : Fact) (fs : List Fact) → list_any (same_fact g) atoms ≡ false → AreAtoms atoms fs → fs ≡ filter (λ f. not (same_fact g f)) fs
  vain_delete g fs none a = sym (none_filtered (same_fact g) fs (a g none))

  swap : (g : Fact) (fs : List Fact) → filter (λ f. not (same_fact g f)) fs ≡ filter (λ f. not (same_fact f g)) fs
  swap g fs = λ i. filter (λ f. not ((eq_by_cmp_equiv facts_total).symm g f i)) fs

  -- the place of a fact that is deleted
  pub placed_delete : (g : Fact) (fs : List Fact) (o : Option ℕ) → MatchOption o (list_any (same_fact g) atoms ≡ false) (λ i. slice_get atoms i ≡ Some g) → AreAtoms atoms fs → option_map_or (without_at atoms fs) o fs ≡ filter (λ f. not (same_fact f g)) fs
  placed_delete g fs None m a = vain_delete g fs m a ∙ swap g fs
  placed_delete g fs (Some i) m a = ap (λ o. option_map_or (λ f. filter (λ h. not (same_fact f h)) fs) o fs) m ∙ swap g fs

-- one more effect that adds
pub added_more : (es : List Effect) (i : ℕ) (e : Effect) (fs : List Fact) → drop i es ≡ e ∷ drop (i + 1) es → fold (insert_key fact_cmp) (fold (insert_key fact_cmp) fs (option_to_list (added_by e))) (filter_map added_by (drop (i + 1) es)) ≡ fold (insert_key fact_cmp) fs (filter_map added_by (drop i es))
added_more es i e fs split =
    fold_option (insert_key fact_cmp) fs (added_by e) (filter_map added_by (drop (i + 1) es))
    ∙ ap (λ (l : List Effect). fold (insert_key fact_cmp) fs (filter_map added_by l)) (sym split)

-- the place of a fact that is added, which is an atom
pub placed_add : (atoms : List Fact) (g : Fact) (fs : List Fact) (o : Option ℕ) → MatchOption o (list_any (same_fact g) atoms ≡ false) (λ i. slice_get atoms i ≡ Some g) → AreAtoms atoms (g ∷ []) → option_map_or (with_at atoms fs) o fs ≡ insert_key fact_cmp fs g
placed_add atoms g fs None m a = no_place g atoms m a
placed_add atoms g fs (Some i) m a = ap (λ o. option_map_or (insert_key fact_cmp fs) o fs) m

-- the adds of some effects, and then those of others
pub added_both : (xs ys : List Effect) (fs : List Fact) → fold (insert_key fact_cmp) (fold (insert_key fact_cmp) fs (filter_map added_by xs)) (filter_map added_by ys) ≡ fold (insert_key fact_cmp) fs (filter_map added_by (xs ++ ys))
added_both xs ys fs =
    sym (fold-append (insert_key fact_cmp) fs (filter_map added_by xs) (filter_map added_by ys))
    ∙ ap (fold (insert_key fact_cmp) fs) (sym (filter_map-append added_by xs ys))

-- where two lists of effects together add atoms alone, each does
pub add_atoms_both : (atoms : List Fact) (xs ys : List Effect) → AddAtoms atoms (xs ++ ys) → AddAtoms atoms xs × AddAtoms atoms ys
add_atoms_both atoms xs ys a =
    let P : List Fact → Type 0 = AreAtoms atoms in
    atoms_of_both atoms (filter_map added_by xs) (filter_map added_by ys) (subst P (filter_map-append added_by xs ys) a)

-- ---- effects that give no number

no_fault : (k : Knowledge) (before es : List Effect) → list_any is_number es ≡ false → faults_from k before es ≡ None
no_fault k before [] e = refl
no_fault k before (Add l ∷ es) e = no_fault k (before ++ Add l ∷ []) es e
no_fault k before (Delete l ∷ es) e = no_fault k (before ++ Delete l ∷ []) es e
no_fault k before (Number how l x ∷ es) e = absurd (cc)

no_values : (k : Knowledge) (es : List Effect) → list_any is_number es ≡ false → filter_map (value_set k) es ≡ []
no_values k [] e = refl
no_values k (Add l ∷ es) e = no_values k es e
no_values k (Delete l ∷ es) e = no_values k es e
no_values k (Number how l x ∷ es) e = absurd (cc)

module _ (k : Knowledge) (s : State) (es : List Effect) (none : list_any is_number es ≡ false) where
  plainly : changed_flat k s es ≡ Some (record { facts = fold (insert_key fact_cmp) (filter (λ f. not (list_any (deletes f) es)) s.facts) (filter_map added_by es); values = s.values })
  plainly = λ i. option_map state_of (result_ok (unless (no_fault (at k s) [] es none i) (made (at k s) es (no_values (at k s) es none i))))

  -- places that are cleared and set make these effects
  pub flagged : (atoms : List Fact) (cleared set : List ℕ) → IsOver atoms s → ((fs : List Fact) → AreAtoms atoms fs → fold (without_at atoms) fs cleared ≡ filter (λ f. not (list_any (deletes f) es)) fs) → ((fs : List Fact) → fold (with_at atoms) fs set ≡ fold (insert_key fact_cmp) fs (filter_map added_by es)) → Some (record { facts = fold (with_at atoms) (fold (without_at atoms) s.facts cleared) set; values = s.values }) ≡ changed_flat k s es
  flagged atoms cleared set o del put =
      (λ i. Some (record { facts = (put (fold (without_at atoms) s.facts cleared) ∙ ap (λ fs. fold (insert_key fact_cmp) fs (filter_map added_by es)) (del s.facts o)) i; values = s.values }))
      ∙ sym plainly

-- ---- prepared ground actions, one after another

module _ (d : Domain) (k : Knowledge) (atoms : List Fact) (n : Node) where
  -- a prepared ground action leads to the node that it is prepared for
  pub successor_by : (p : Prepared) (g : GroundAction) → p.act ≡ g.act → successor d k atoms n.state p ≡ stepped d k n.state g → successor_nodes d k atoms (p ∷ []) n ≡ moves d k (g ∷ []) n
  successor_by p g act e = λ i. cons_option (option_map (λ s. let m : Node = record { state = s; path = n.path ++ act i ∷ [] } in m) (e i)) []

  -- one that leads nowhere has no node
  pub nowhere_by : (g : GroundAction) → stepped d k n.state g ≡ None → [] ≡ moves d k (g ∷ []) n
  nowhere_by g e = ap (λ (o : Option State). cons_option (option_map (λ s. let m : Node = record { state = s; path = n.path ++ g.act ∷ [] } in m) o) []) (sym e)

  -- one more that is prepared
  pub prepared_more : (found : List Prepared) (p : Prepared) → successor_nodes d k atoms (found ++ p ∷ []) n ≡ successor_nodes d k atoms found n ++ successor_nodes d k atoms (p ∷ []) n
  prepared_more found p = filter_map-append (successor_node d k atoms n) found (p ∷ [])

-- one more that adds atoms alone
pub sound_more : (d : Domain) (k : Knowledge) (atoms : List Fact) (ps : List Prepared) (p : Prepared) → AreSound d k atoms ps → IsSound d k atoms p → AreSound d k atoms (ps ++ p ∷ [])
sound_more d k atoms [] p all one = (one, tt)
sound_more d k atoms (q ∷ ps) p all one = (all.0, sound_more d k atoms ps p all.1 one)

-- each of those that add atoms alone does
pub sound_at : (d : Domain) (k : Knowledge) (atoms : List Fact) (ps rest : List Prepared) (p : Prepared) (i : ℕ) → drop i ps ≡ p ∷ rest → AreSound d k atoms ps → IsSound d k atoms p
sound_at d k atoms [] rest p zero e all = absurd (cc)
sound_at d k atoms [] rest p (suc i) e all = absurd (cc)
sound_at d k atoms (q ∷ ps) rest p zero e all =
    let P : Prepared → Type 0 = IsSound d k atoms in
    let same : q ≡ p = cc in
    subst P same all.0
sound_at d k atoms (q ∷ ps) rest p (suc i) e all = sound_at d k atoms ps rest p i e all.1

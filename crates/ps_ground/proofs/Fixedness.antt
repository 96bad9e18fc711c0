-- What is said of facts that never are known is never so, and leads nowhere.
use Rattle.std.proofs.Common.{◌≡◌, ℕ, zero, suc, Bool, true, false, not, cond, ◌&&◌, List, [], ◌∷◌, ◌++◌, Option, Some, None, option_and_then, Result, Ok, Err, ◌<◌, drop, filter, filter_map, find, flat_map, fold, length, map, refl, ap, sym, ◌∙◌, arith}
use Rattle.std.specs.Prelude.{nat_le, slice_get, slice_index_or, unwrap_or, ◌==◌}
use Rattle.std.specs.List.{cons_option, list_all, list_any}
use Rattle.std.specs.BTreeSet.{insert_key}
use Rattle.std.specs.Cmp.{first_so, second_so}
use Rattle.std.specs.Result.{result_ok}
use Rattle.std.specs.Ordering.{eq_by_cmp}
use Rattle.std.proofs.lemmas.Bool.Decides.{nat_tests}
use Rattle.std.proofs.lemmas.Map.Views.{any-filter_same, tells_apart}
use Rattle.std.proofs.lemmas.Option.{unwrap_or-slice_get}
use Rattle.std.proofs.lemmas.Bool.{or_from, or_parts}
use Rattle.ps_world.specs.Bound.{ground_in, name_in}
use Rattle.ps_world.specs.CondViews.{cond_tree}
use Rattle.ps_world.specs.Knowledge.{action_of, same_fact}
use Rattle.ps_world.specs.Names.{name_cmp, object, same_name}
use Rattle.ps_world.specs.Trees.{CondTree}
use Rattle.ps_world.specs.declared.actions.ActionDef.{ActionDef}
use Rattle.ps_world.specs.declared.actions.Effect.{Effect}
use Rattle.ps_world.specs.declared.actions.Effect.TheVariants.{Add, Delete, Number}
use Rattle.ps_world.specs.declared.actions.Guarded.{Guarded}
use Rattle.ps_world.specs.declared.actions.Spread.{Spread}
use Rattle.ps_world.specs.declared.actions.Spread.TheVariants.{Once, ForAll}
use Rattle.ps_world.specs.declared.conditions.Cond.{Cond}
use Rattle.ps_world.specs.declared.domains.Domain.{Domain}
use Rattle.ps_world.specs.declared.domains.Param.{Param}
use Rattle.ps_world.specs.declared.facts.Fact.{Fact}
use Rattle.ps_world.specs.declared.known.Knowledge.{Knowledge}
use Rattle.ps_world.specs.declared.names.Name.{Name}
use Rattle.ps_world.specs.declared.schemas.Lifted.{Lifted}
use Rattle.ps_world.specs.declared.schemas.Term.{Term}
use Rattle.ps_world.specs.declared.schemas.Term.TheVariants.{Var, Const}
use Rattle.ps_world.proofs.SameTexts.{name_itself}
use Rattle.ps_action.specs.Bindings.{bindings}
use Rattle.ps_action.specs.Refusals.{unless}
use Rattle.ps_action.specs.Grounding.{first_unfit, fitting, ground_act, ground_by, grounded, put_cond, put_lifted, put_list, put_term, put_var}
use Rattle.ps_action.specs.Search.{possible_acts}
use Rattle.ps_action.specs.Truth.{all_true, is_true}
use Rattle.ps_action.specs.declared.acts.Act.{Act}
use Rattle.ps_action.specs.declared.acts.GroundAction.{GroundAction}
use Rattle.ps_action.specs.declared.refusals.GroundRefusal.{GroundRefusal}
use Rattle.ps_action.specs.declared.refusals.GroundRefusal.TheVariants.{Arity, NoAction}
use Rattle.ps_action.proofs.Facts.{exact_facts, names_total}
use Rattle.ps_action.proofs.Keys.{any-insert_key}
use Rattle.ps_domain.proofs.Indexes.{at_same}
use Rattle.ps_ground.specs.Fixed.{AreFixed, all_heads_added, head_added, heads_added, heads_in, heads_in_part, is_from, possible_facts}
use Rattle.ps_ground.specs.Moves.{grounds}
use Rattle.ps_ground.specs.Atoms.{AreAtoms, IsOver, added_in, adds, effects_in, may_add, may_add_part, may_add_spread}
use Rattle.ps_ground.specs.States.{State, at, changed, ended, stepped, where_so}
use Rattle.ps_ground.proofs.MayAdd.{adds_put, join_none, none_through, split_none}
use Rattle.ps_ground.proofs.Preparing.{first_atoms, no_last, no_over}
use Rattle.ps_ground.proofs.Settled.{both_true}

-- ---- conditions

put_in_by : (args : List Name) (i : ℕ) (o : Option Name) → name_in [] (put_var args i o) ≡ unwrap_or o object
put_in_by args i None = refl
put_in_by args i (Some n) = refl

-- a term with arguments put in is what it is where its variable stands for its argument
put_in : (args : List Name) (t : Term) → name_in [] (put_term args t) ≡ name_in args t
put_in args (Var i) = put_in_by args i (slice_get args i) ∙ unwrap_or-slice_get args i object
put_in args (Const n) = refl

all_put_in : (args : List Name) (ts : List Term) → map (name_in []) (map (put_term args) ts) ≡ map (name_in args) ts
all_put_in args [] = refl
all_put_in args (t ∷ ts) = λ i. put_in args t i ∷ all_put_in args ts i

-- so is a fact
pub fact_put_in : (args : List Name) (l : Lifted) → ground_in [] (put_lifted args l) ≡ ground_in args l
fact_put_in args l = λ i. record { head = l.head; args = all_put_in args l.terms i }

-- a variable after the first arguments stands for the same, whatever these are
same_var : (fill first tail : List Name) (j : ℕ) → length first ≡ length fill → nat_le (length fill) j ≡ true → slice_index_or (first ++ tail) j object ≡ slice_index_or (fill ++ tail) j object
same_var [] [] tail j e h = refl
same_var [] (y ∷ first) tail j e h = absurd (omega (arith, e))
same_var (x ∷ fill) [] tail j e h = absurd (omega (arith, e))
same_var (x ∷ fill) (y ∷ first) tail zero e h = absurd (grind (arith, nat_tests, h))
same_var (x ∷ fill) (y ∷ first) tail (suc j) e h = same_var fill first tail j (omega (arith, e)) (grind (arith, nat_tests, h))

module _ (fill first tail : List Name) (e : length first ≡ length fill) where
  same_term : (t : Term) → is_from (length fill) t ≡ true → name_in (first ++ tail) t ≡ name_in (fill ++ tail) t
  same_term (Var j) h = same_var fill first tail j e h
  same_term (Const n) h = refl

  same_terms : (ts : List Term) → list_all (is_from (length fill)) ts ≡ true → map (name_in (first ++ tail)) ts ≡ map (name_in (fill ++ tail)) ts
  same_terms [] h = refl
  same_terms (t ∷ ts) h =
      let here = is_from (length fill) t in
      let rest = list_all (is_from (length fill)) ts in
      λ i. same_term t (first_so here rest h) i ∷ same_terms ts (second_so here rest h) i

  -- so it is with a fact that speaks of none of the first arguments
  pub same_ground : (l : Lifted) → list_all (is_from (length fill)) l.terms ≡ true → ground_in (first ++ tail) l ≡ ground_in (fill ++ tail) l
  same_ground l h = λ i. record { head = l.head; args = same_terms l.terms h i }

module _ (d : Domain) (k : Knowledge) (s : State) (args : List Name) where
  -- a fact that isn't known
  pub not_so : (l : Lifted) → list_any (same_fact (ground_in args l)) s.facts ≡ false → list_any (same_fact (ground_in [] (put_lifted args l))) s.facts ≡ false
  not_so l e = ap (λ f. list_any (same_fact f) s.facts) (fact_put_in args l) ∙ e

  and_no : (a b : Bool) → b ≡ false → (a && b) ≡ false
  and_no true b e = e
  and_no false b e = refl

  -- conditions of which one doesn't hold
  pub never_at : (i : ℕ) (cs rest : List Cond) (c : Cond) → drop i cs ≡ c ∷ rest → is_true d (at k s) (put_cond args (cond_tree c)) ≡ false → all_true d (at k s) (map (put_cond args) (map cond_tree cs)) ≡ false
  never_at zero [] rest c e f = absurd (cc)
  never_at zero (x ∷ cs) rest c e f =
      let same : x ≡ c = cc in
      ap (λ y. is_true d (at k s) (put_cond args (cond_tree y)) && all_true d (at k s) (map (put_cond args) (map cond_tree cs))) same ∙ rw f refl
  never_at (suc i) [] rest c e f = absurd (cc)
  never_at (suc i) (x ∷ cs) rest c e f = and_no (is_true d (at k s) (put_cond args (cond_tree x))) (all_true d (at k s) (map (put_cond args) (map cond_tree cs))) (never_at i cs rest c e f)

  -- and so don't they where the arguments have to fit as well
  never_list : (ps : List Param) (cs : List CondTree) → all_true d (at k s) (map (put_cond args) cs) ≡ false → all_true d (at k s) (put_list ps args cs) ≡ false
  never_list ps cs e = both_true d (at k s) (fitting ps args) (map (put_cond args) cs) ∙ and_no (all_true d (at k s) (fitting ps args)) (all_true d (at k s) (map (put_cond args) cs)) e

-- ---- acts that lead nowhere

module _ (d : Domain) (k : Knowledge) (facts : List Fact) (heads : List Name) (fixed : List Fact) (are : AreFixed heads fixed facts) (a : ActionDef) (act : Act) (atoms : AreAtoms facts (adds d k (grounded a act))) where
  -- conditions that hold in no state without the facts that never are known
  abbrev pub NeverHold : List CondTree → Type 0
  NeverHold cs = (s : State) → AreFixed heads fixed s.facts → all_true d (at k s) (map (put_cond act.args) cs) ≡ false

  in_states : (cs : List CondTree) → NeverHold cs → (s : State) → IsOver facts s → all_true d (at k s) (put_list a.params act.args cs) ≡ false
  in_states cs v s o = never_list d k s act.args a.params cs (v s (λ f head fact. o f (are f head fact)))

  pub no_start : NeverHold a.conditions.at_start → (s : State) → IsOver facts s → stepped d k s (grounded a act) ≡ None
  no_start v s o =
      ap (λ b. option_and_then (ended d k (grounded a act)) (where_so b (changed d k s (grounded a act).effects.at_start))) (in_states a.conditions.at_start v s o)

  pub no_over_all : NeverHold a.conditions.over_all → (s : State) → IsOver facts s → stepped d k s (grounded a act) ≡ None
  no_over_all v s o = no_over d k facts (grounded a act) (in_states a.conditions.over_all v) (first_atoms d k facts (grounded a act) atoms) s o

  pub no_at_end : NeverHold a.conditions.at_end → (s : State) → IsOver facts s → stepped d k s (grounded a act) ≡ None
  no_at_end v s o = no_last d k facts (grounded a act) (in_states a.conditions.at_end v) (first_atoms d k facts (grounded a act) atoms) s o

-- ---- the ground action of an act

module _ (d : Domain) (instances : List (Name × Name)) (act : Act) (g : GroundAction) where
  of_fitting : (a : ActionDef) (fault : Option GroundRefusal) → unless fault (grounded a act) ≡ Ok g → g ≡ grounded a act
  of_fitting a None e = cc
  of_fitting a (Some r) e = absurd (cc)

  of_many : (a : ActionDef) (b : Bool) (why : GroundRefusal) (r : Result GroundAction GroundRefusal) → (r ≡ Ok g → g ≡ grounded a act) → cond b r (Err why) ≡ Ok g → g ≡ grounded a act
  of_many a true why r h e = h e
  of_many a false why r h e = absurd (cc)

  -- it is that of the action that its name means
  pub grounded_of : (a : ActionDef) → action_of d act.action ≡ Some a → ground_act d instances act ≡ Ok g → g ≡ grounded a act
  grounded_of a is e =
      of_many a _ _ (unless (first_unfit d instances a.params act.args 0) (grounded a act)) (of_fitting a (first_unfit d instances a.params act.args 0))
      (ap (λ o. ground_by d instances o act) (sym is) ∙ e)

-- an act of no action has none
pub none_grounded : {A : Type 0} (d : Domain) (instances : List (Name × Name)) (act : Act) (g : GroundAction) → action_of d act.action ≡ None → ground_act d instances act ≡ Ok g → A
none_grounded d instances act g is e = no_err NoAction (ap (λ o. ground_by d instances o act) (sym is) ∙ e)
  where
    no_err : {A : Type 0} (why : GroundRefusal) → Err why ≡ Ok g → A
    no_err why e = absurd (cc)

-- nor has one of too many arguments
pub many_grounded : {A : Type 0} (d : Domain) (instances : List (Name × Name)) (act : Act) (g : GroundAction) (a : ActionDef) → action_of d act.action ≡ Some a → length a.params < length act.args → ground_act d instances act ≡ Ok g → A
many_grounded d instances act g a is h e =
    by (length a.params == length act.args) (Arity (length a.params) (length act.args)) _ (grind (arith, nat_tests, h)) (ap (λ o. ground_by d instances o act) (sym is) ∙ e)
  where
    by : {A : Type 0} (b : Bool) (why : GroundRefusal) (r : Result GroundAction GroundRefusal) → b ≡ false → cond b r (Err why) ≡ Ok g → A
    by false why r f e = absurd (cc)
    by true why r f e = absurd (cc)

-- ---- what is added

-- facts of other predicates are other facts
other_fact : (f g : Fact) (b c : Bool) → same_fact f g ≡ b → same_name f.head g.head ≡ c → c ≡ false → b ≡ false
other_fact f g false c e h other = refl
other_fact f g true true e h other = absurd (cc)
other_fact f g true false e h other =
    let same : f ≡ g = tells_apart exact_facts f g e in
    absurd (cc (sym h ∙ ap (λ (x : Fact). same_name f.head x.head) (sym same) ∙ name_itself f.head))

module _ (f : Fact) (env : List Name) where
  -- effects that add no fact of its predicate don't add it, whatever variables stand for
  effects_none : (es : List Effect) → list_any (same_name f.head) (filter_map head_added es) ≡ false → list_any (same_fact f) (flat_map (added_in env) es) ≡ false
  effects_none [] e = refl
  effects_none (Add l ∷ es) e =
      let w = or_parts (same_name f.head l.head) (list_any (same_name f.head) (filter_map head_added es)) e in
      let g = ground_in env l in
      or_from (same_fact f g) (list_any (same_fact f) (flat_map (added_in env) es)) (other_fact f g (same_fact f g) (same_name f.head g.head) refl refl w.0) (effects_none es w.1)
  effects_none (Delete l ∷ es) e = effects_none es e
  effects_none (Number how l x ∷ es) e = effects_none es e

  parts_none : (gs : List Guarded) → list_any (same_name f.head) (flat_map heads_in_part gs) ≡ false → list_any (same_fact f) (flat_map (may_add_part env) gs) ≡ false
  parts_none gs e = none_through (same_name f.head) (same_fact f) heads_in_part (may_add_part env) (λ g. effects_none (effects_in g)) gs e

none_at_all : {A : Type 0} (f : Fact) (of : A → List Fact) → ((x : A) → list_any (same_fact f) (of x) ≡ false) → (xs : List A) → list_any (same_fact f) (flat_map of xs) ≡ false
none_at_all f of h [] = refl
none_at_all f of h (x ∷ xs) = join_none (same_fact f) (of x) (flat_map of xs) (h x) (none_at_all f of h xs)

module _ (f : Fact) where
  spread_none : (d : Domain) (k : Knowledge) (env : List Name) (s : Spread) → list_any (same_name f.head) (heads_in s) ≡ false → list_any (same_fact f) (may_add_spread d k env s) ≡ false
  spread_none d k env (Once g) e = effects_none f env (effects_in g) e
  spread_none d k env (ForAll ps gs) e = none_at_all f (λ n. flat_map (may_add_part n) gs) (λ n. parts_none f n gs e) (bindings d k.instances ps env)

  list_none : (d : Domain) (k : Knowledge) (env : List Name) (es : List Spread) → list_any (same_name f.head) (flat_map heads_in es) ≡ false → list_any (same_fact f) (may_add d k env es) ≡ false
  list_none d k env es e = none_through (same_name f.head) (same_fact f) heads_in (may_add_spread d k env) (spread_none d k env) es e

  -- neither does an action
  action_none : (d : Domain) (k : Knowledge) (a : ActionDef) (act : Act) → list_any (same_name f.head) (heads_added a) ≡ false → list_any (same_fact f) (adds d k (grounded a act)) ≡ false
  action_none d k a act e =
      let w = split_none (same_name f.head) (flat_map heads_in a.effects.at_start) (flat_map heads_in a.effects.at_end) e in
      ap (list_any (same_fact f)) (adds_put d k a act)
      ∙ join_none (same_fact f) (may_add d k act.args a.effects.at_start) (may_add d k act.args a.effects.at_end) (list_none d k act.args a.effects.at_start w.0) (list_none d k act.args a.effects.at_end w.1)

  found_at : (a b : ActionDef) (bs : List ActionDef) (c : Bool) (o : Option ActionDef) → list_any (same_name f.head) (heads_added b) ≡ false → (o ≡ Some a → list_any (same_name f.head) (heads_added a) ≡ false) → cond c (Some b) o ≡ Some a → list_any (same_name f.head) (heads_added a) ≡ false
  found_at a b bs true o here rest e =
      let same : b ≡ a = cc in
      ap (λ (x : ActionDef). list_any (same_name f.head) (heads_added x)) (sym same) ∙ here
  found_at a b bs false o here rest e = rest e

  -- none of the actions of a domain does, where none of all has such an effect
  found_none : (p : ActionDef → Bool) (bs : List ActionDef) (a : ActionDef) → list_any (same_name f.head) (flat_map heads_added bs) ≡ false → find p bs ≡ Some a → list_any (same_name f.head) (heads_added a) ≡ false
  found_none p [] a e is = absurd (cc)
  found_none p (b ∷ bs) a e is =
      let w = split_none (same_name f.head) (heads_added b) (flat_map heads_added bs) e in
      found_at a b bs (p b) (find p bs) w.0 (found_none p bs a w.1) is

  module _ (d : Domain) (k : Knowledge) (none : list_any (same_name f.head) (all_heads_added d) ≡ false) where
    act_none : (act : Act) (o : Option ActionDef) (r : Result GroundAction GroundRefusal) (g : GroundAction) → action_of d act.action ≡ o → ground_by d k.instances o act ≡ r → r ≡ Ok g → list_any (same_fact f) (adds d k g) ≡ false
    act_none act None r g is e h = absurd (cc)
    act_none act (Some a) r g is e h =
        let same : g ≡ grounded a act = grounded_of d k.instances act g a is (ap (λ o. ground_by d k.instances o act) is ∙ e ∙ h) in
        ap (λ (x : GroundAction). list_any (same_fact f) (adds d k x)) same ∙ action_none d k a act (found_none (λ action. same_name act.action action.name) d.actions a none is)

    one_none : (act : Act) (acts : List Act) (r : Result GroundAction GroundRefusal) → ground_act d k.instances act ≡ r → list_any (same_fact f) (flat_map (adds d k) (filter_map (λ act. result_ok (ground_act d k.instances act)) acts)) ≡ false → list_any (same_fact f) (flat_map (adds d k) (cons_option (result_ok r) (filter_map (λ act. result_ok (ground_act d k.instances act)) acts))) ≡ false
    one_none act acts (Err why) e rest = rest
    one_none act acts (Ok g) e rest =
        join_none (same_fact f) (adds d k g) (flat_map (adds d k) (filter_map (λ act. result_ok (ground_act d k.instances act)) acts)) (act_none act (action_of d act.action) (ground_act d k.instances act) g refl refl e) rest

    acts_none : (acts : List Act) → list_any (same_fact f) (flat_map (adds d k) (filter_map (λ act. result_ok (ground_act d k.instances act)) acts)) ≡ false
    acts_none [] = refl
    acts_none (act ∷ acts) = one_none act acts (ground_act d k.instances act) refl (acts_none acts)

-- ---- what is fixed

-- names that are put in are there
names_put : (n : Name) (xs ns : List Name) → list_any (eq_by_cmp name_cmp n) (fold (insert_key name_cmp) ns xs) ≡ false → (list_any (eq_by_cmp name_cmp n) ns ≡ false) × (list_any (eq_by_cmp name_cmp n) xs ≡ false)
names_put n [] ns e = (e, refl)
names_put n (x ∷ xs) ns e =
    let w = names_put n xs (insert_key name_cmp ns x) e in
    let v = or_parts (eq_by_cmp name_cmp n x) (list_any (eq_by_cmp name_cmp n) ns) (sym (any-insert_key names_total n x ns) ∙ w.0) in
    (v.1, or_from (eq_by_cmp name_cmp n x) (list_any (eq_by_cmp name_cmp n) xs) v.0 w.1)

tied : (n m : Name) → eq_by_cmp name_cmp n m ≡ same_name n m
tied n m = at_same n m

-- a name is among others where one of them is the same
pub any_tied : (n : Name) (keys : List Name) → list_any (eq_by_cmp name_cmp n) keys ≡ list_any (same_name n) keys
any_tied n keys = λ i. list_any (λ m. tied n m i) keys

no_name : (n : Name) (xs keys : List Name) → keys ≡ fold (insert_key name_cmp) [] xs → list_any (same_name n) keys ≡ false → list_any (same_name n) xs ≡ false
no_name n xs keys is e =
    sym (any_tied n xs)
    ∙ (names_put n xs [] (ap (list_any (eq_by_cmp name_cmp n)) (sym is) ∙ any_tied n keys ∙ e)).1

kept_alike : (heads : List Name) (f g : Fact) → list_any (same_name f.head) heads ≡ false → same_fact f g ≡ true → not (list_any (same_name g.head) heads) ≡ true
kept_alike heads f g none e =
    let same : f ≡ g = tells_apart exact_facts f g e in
    ap (λ (x : Fact). not (list_any (same_name x.head) heads)) (sym same) ∙ ap not none

-- a fact of a predicate that no action adds is never known, unless it is at first
pub are_fixed : (d : Domain) (k : Knowledge) (heads : List Name) (others atoms : List Fact) → heads ≡ fold (insert_key name_cmp) [] (all_heads_added d) → others ≡ filter (λ f. not (list_any (same_name f.head) heads)) k.facts → AreAtoms atoms others → AreFixed heads atoms (possible_facts d k)
are_fixed d k heads others atoms is_heads is_others are f none gone =
    let kept = λ (g : Fact). not (list_any (same_name g.head) heads) in
    join_none (same_fact f) k.facts (flat_map (adds d k) (grounds d k))
    (sym (any-filter_same (same_fact f) kept true (λ g e. kept_alike heads f g none e) k.facts) ∙ ap (list_any (same_fact f)) (sym is_others) ∙ are f gone)
    (acts_none f d k (no_name f.head (all_heads_added d) heads is_heads none) (possible_acts d k))

-- The rows that a search keeps, as nodes of what is searched, and what an expanded one leads to.
use Rattle.std.proofs.Common.{◌≡◌, ℕ, zero, suc, ◌≤◌, Bool, true, false, cond, List, [], ◌∷◌, ◌++◌, Option, Some, None, option_map, Result, Ok, Err, IfOk, OnOk, All, take, drop, find, fold, length, map, refl, ap, sym, ◌∙◌, subst, arith}
use Rattle.std.specs.Prelude.{slice_get}
use Rattle.std.specs.List.Sorted.{IsStrictlySortedBy}
use Rattle.std.proofs.lemmas.List.{length-map}
use Rattle.std.proofs.lemmas.List.Elements.{All-cons, All-head, All-nil, All-tail}
use Rattle.ps_world.specs.Facts.{fact_cmp}
use Rattle.ps_world.proofs.Optionals.{map_none}
use Rattle.ps_action.specs.Plans.{most_acts}
use Rattle.ps_action.specs.declared.acts.Act.{Act}
use Rattle.ps_levels.specs.Levels.{Begins, answer_from, first_good, fresh}
use Rattle.ps_levels.specs.declared.searching.Found.{Found}
use Rattle.ps_levels.specs.Levels as levels
use Rattle.ps_ground.specs.Moves.{Node}
use Rattle.ps_ground.specs.States.{State, state_of}
use Rattle.ps_ground.specs.declared.prepared.Prepared.{Prepared}
use Rattle.ps_solve.specs.Expansions.{NoneGood, leads_of, meets_goal}
use Rattle.ps_solve.specs.Queue.{IsQueue, Lead, acts_at, leads_from, node_of, with_lead}
use Rattle.ps_solve.specs.Reached.{places_of, rows_of}
use Rattle.ps_solve.specs.Rows.{AreWide, plain_state}
use Rattle.ps_solve.specs.Endings.{searched}
use Rattle.ps_solve.specs.Spaces.{answer_of, path_of}
use Rattle.ps_solve.specs.Stores.{IsStore, nodes_in, space_of}
use Rattle.ps_solve.specs.declared.rows.Row.{Row}
use Rattle.ps_solve.specs.declared.task.Task.{Task}
use Rattle.ps_solve.proofs.Bridge.{finds_the_answer}
use Rattle.ps_solve.proofs.Expanding.{first_node, kept_nodes, leads_moved}
use Rattle.ps_solve.proofs.FlagRows.{facts_rise, row_over}
use Rattle.ps_solve.proofs.Meeting.{length-leads, next_lead}
use Rattle.ps_solve.proofs.Queues as queues

-- what holds of each mapped item
all_unmapped : {A B : Type 0} (P : B → Type 0) (f : A → B) (xs : List A) → All P (map f xs) → All (λ x. P (f x)) xs
all_unmapped P f [] h = All-nil (λ x. P (f x))
all_unmapped P f (x ∷ xs) h = All-cons (λ y. P (f y)) x xs (All-head P (f x) (map f xs) h) (all_unmapped P f xs (All-tail P (f x) (map f xs) h))

pub drop_mapped : {A B : Type 0} (f : A → B) (i : ℕ) (xs : List A) → drop i (map f xs) ≡ map f (drop i xs)
drop_mapped f zero [] = refl
drop_mapped f zero (x ∷ xs) = refl
drop_mapped f (suc i) [] = refl
drop_mapped f (suc i) (x ∷ xs) = drop_mapped f i xs

first_mapped : {A B : Type 0} (f : A → B) (i : ℕ) (xs rest : List A) (x : A) (y : B) (ys : List B) → drop i xs ≡ x ∷ rest → drop i (map f xs) ≡ y ∷ ys → y ≡ f x
first_mapped f i xs rest x y ys here there =
    let both : f x ∷ map f rest ≡ y ∷ ys = ap (map f) (sym here) ∙ sym (drop_mapped f i xs) ∙ there in
    cc

-- none of them is good where none is found
none_at : (good : State → Bool) (b : Bool) (m : Lead) (ms : List Lead) → good m.state ≡ b → (find (λ (l : Lead). good l.state) ms ≡ None → queues.NoneGood good ms) → cond b (Some m) (find (λ (l : Lead). good l.state) ms) ≡ None → queues.NoneGood good (m ∷ ms)
none_at good true m ms e h none = absurd (cc)
none_at good false m ms e h none = (e, h none)

none_good : (good : State → Bool) (ms : List Lead) → find (λ (l : Lead). good l.state) ms ≡ None → queues.NoneGood good ms
none_good good [] e = tt
none_good good (m ∷ ms) e = none_at good (good m.state) m ms refl (none_good good ms) e

module _ (t : Task) (rs : List (Row × List ℕ)) where
  -- there are as many nodes as rows
  pub count : length (nodes_in t rs) ≡ length rs
  count = length-map (leads_of t rs) (node_of t.grounds.actions.items) ∙ length-leads t rs

  -- no row meets the goal where no node does
  pub none_meets : levels.NoneGood (space_of t) (nodes_in t rs) → NoneGood t (leads_of t rs)
  none_meets h = all_unmapped (λ (n : Node). meets_goal t n.state ≡ false) (node_of t.grounds.actions.items) (leads_of t rs) h

  module _ (i : ℕ) (r : Row) (rest : List Lead) (here : drop i (leads_of t rs) ≡ record { state = plain_state t.grounds.atoms r; places = places_of rs i } ∷ rest) where
    abbrev l : Lead
    l = record { state = plain_state t.grounds.atoms r; places = places_of rs i }

    abbrev ps : List Prepared
    ps = t.grounds.actions.items

    -- where the lead leads
    abbrev pub led : List Lead
    led = leads_from t.expert.now t.problem.now t.grounds.atoms 0 ps l

    moved : (n : Node) (ns : List Node) → drop i (nodes_in t rs) ≡ n ∷ ns → (space_of t).moves n ≡ map (node_of ps) led
    moved n ns there =
        ap (space_of t).moves (first_mapped (node_of ps) i (leads_of t rs) rest l n ns here there)
        ∙ sym (t.prepared.grounded.moves (node_of ps l) (row_over t.grounds.atoms r))
        ∙ sym (leads_moved t.expert.now t.problem.now t.grounds.atoms ps l)

    -- the first lead that meets the goal is the first node that is looked for
    pub finds : (n : Node) (ns : List Node) → drop i (nodes_in t rs) ≡ n ∷ ns → option_map (λ (m : Lead). acts_at ps m.places) (find (λ (m : Lead). meets_goal t m.state) led) ≡ option_map path_of (first_good (space_of t) ((space_of t).moves n))
    finds n ns there =
        sym (first_node t.expert.now t.problem.now t.goal.now ps led)
        ∙ ap (λ ms. option_map path_of (first_good (space_of t) ms)) (sym (moved n ns there))

    module _ (most : ℕ) (new : List (Row × List ℕ)) (is : leads_of t new ≡ fold (with_lead most) (leads_of t rs) led) where
      -- what is kept after them are the new nodes that the node leads to
      pub keeps : length rs ≤ most → (n : Node) (ns : List Node) → drop i (nodes_in t rs) ≡ n ∷ ns → nodes_in t new ≡ take most (nodes_in t rs ++ fresh (space_of t) (nodes_in t rs) ((space_of t).moves n))
      keeps few n ns there =
          let long = length-leads t rs in
          ap (map (node_of ps)) is
          ∙ kept_nodes t.expert.now t.problem.now t.goal.now ps most led (leads_of t rs) (omega (arith, few, long))
          ∙ ap (λ ms. take most (nodes_in t rs ++ fresh (space_of t) (nodes_in t rs) ms)) (sym (moved n ns there))

      -- and then one more is expanded
      pub stays : IsStrictlySortedBy fact_cmp t.grounds.atoms → IsStore t most i rs → AreWide t.grounds.atoms (rows_of new) → option_map (λ (m : Lead). acts_at ps m.places) (find (λ (m : Lead). meets_goal t m.state) led) ≡ None → IsStore t most (suc i) new
      stays rise store wide none =
          let bad = none_good (meets_goal t) led (map_none (λ (m : Lead). acts_at ps m.places) (find (λ (m : Lead). meets_goal t m.state) led) none) in
          let P : List Lead → Type 0 = IsQueue t.expert.now t.problem.now t.grounds.atoms ps (meets_goal t) most (suc i) in
          record {
            wide = wide;
            queue = subst P (sym is) (queues.expands t.expert.now t.problem.now t.grounds.atoms ps rise t.prepared.grounded.sound (meets_goal t) most l (facts_rise t.grounds.atoms r.flags rise) i (leads_of t rs) rest here store.queue bad);
          }

-- ---- what is said of an expansion

module _ (t : Task) (rs new : List (Row × List ℕ)) (i most : ℕ) (r : Row) (there : slice_get (rows_of rs) i ≡ Some r) where
  abbrev all : List Lead
  all = leads_from t.expert.now t.problem.now t.grounds.atoms 0 t.grounds.actions.items (record { state = plain_state t.grounds.atoms r; places = places_of rs i })

  abbrev acts : Lead → List Act
  acts = λ m. acts_at t.grounds.actions.items m.places

  abbrev is_good : Lead → Bool
  is_good = λ m. meets_goal t m.state

  pub found_said : {E : Type 0} (result : Result (Option (List Act)) E) → IfOk result (λ f. f ≡ option_map acts (find is_good all)) → IfOk result (λ f. (n : Node) (ns : List Node) → drop i (nodes_in t rs) ≡ n ∷ ns → f ≡ option_map path_of (first_good (space_of t) ((space_of t).moves n)))
  found_said (Ok f) is = λ n ns at. is ∙ finds t rs i r (next_lead t i rs r there).0 (next_lead t i rs r there).1 n ns at
  found_said (Err w) is = tt

  pub kept_said : {E : Type 0} (result : Result (Option (List Act)) E) → length rs ≤ most → IfOk result (λ f. f ≡ None → leads_of t new ≡ fold (with_lead most) (leads_of t rs) all) → IfOk result (λ f. f ≡ None → (n : Node) (ns : List Node) → drop i (nodes_in t rs) ≡ n ∷ ns → nodes_in t new ≡ take most (nodes_in t rs ++ fresh (space_of t) (nodes_in t rs) ((space_of t).moves n)))
  kept_said (Ok f) few is = λ none n ns at. keeps t rs i r (next_lead t i rs r there).0 (next_lead t i rs r there).1 most new (is none) few n ns at
  kept_said (Err w) few is = tt

  pub store_said : {E : Type 0} (result : Result (Option (List Act)) E) → IsStrictlySortedBy fact_cmp t.grounds.atoms → IsStore t most i rs → IfOk result (λ f. f ≡ option_map acts (find is_good all)) → IfOk result (λ f. f ≡ None → leads_of t new ≡ fold (with_lead most) (leads_of t rs) all) → OnOk result (AreWide t.grounds.atoms (rows_of new)) → IfOk result (λ f. f ≡ None → IsStore t most (suc i) new)
  store_said (Ok f) rise store is kept wide = λ none. stays t rs i r (next_lead t i rs r there).0 (next_lead t i rs r there).1 most new (kept none) rise store wide (sym is ∙ none)
  store_said (Err w) rise store is kept wide = tt

-- ---- the beginning

module _ (t : Task) (r : Row) (same : plain_state t.grounds.atoms r ≡ state_of t.problem.now) where
  abbrev alone : List (Row × List ℕ)
  alone = (r, []) ∷ []

  -- the row of what is known at first is the first node
  pub begins : Begins (space_of t) 0 (nodes_in t alone)
  begins = record {
    root = λ j. (let n : Node = record { state = same j; path = [] } in n) ∷ [];
    none = refl;
  }

  -- it is a store, of which nothing is expanded
  pub is_store : length r.flags ≡ length t.grounds.atoms → (most : ℕ) → IsStore t most 0 alone
  is_store wide most = record {
    wide = (wide, tt);
    queue = record {
      pruned = ((λ i b s at pruned led. absurd (cc)), tt);
      tried = λ s u met leads. absurd (cc);
    };
  }

-- ---- the answer

-- what is found is the answer for a task
pub tells : (t u : Task) → u ≡ t → (budget most : ℕ) → most ≡ most_acts → (f : Found (List Act)) → f ≡ answer_from (space_of u) path_of budget most 0 → answer_of f ≡ searched t.expert.now t.problem.now budget
tells t u same budget most is f e =
    ap answer_of (e ∙ (λ j. answer_from (space_of (same j)) path_of budget most 0))
    ∙ finds_the_answer t.expert.now t.problem.now t.goal.now budget most t.prepared.there is

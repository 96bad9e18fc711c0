-- A search that may expand any row that it has reached.
use Rattle.std.proofs.Common.{◌≡◌, ℕ, zero, suc, ◌≤◌, Bool, List, [], ◌∷◌, ◌++◌, Option, Some, None, option_map, Result, Ok, Err, IfOk, OnOk, take, drop, find, fold, length, map, refl, ap, sym, ◌∙◌, subst}
use Rattle.std.specs.Prelude.{slice_get}
use Rattle.ps_world.specs.Knowledge.{is_known}
use Rattle.ps_world.specs.declared.facts.Fact.{Fact}
use Rattle.ps_action.specs.declared.acts.Act.{Act}
use Rattle.ps_levels.specs.Levels.{NoneGood, Space, first_good, fresh}
use Rattle.ps_levels.proofs.Nexts.{no_node, none_kept}
use Rattle.ps_ground.specs.Moves.{Node}
use Rattle.ps_ground.specs.States.{State, at}
use Rattle.ps_solve.specs.Expansions.{IsExpanding, leads_of, meets_goal}
use Rattle.ps_solve.specs.Queue.{Lead, acts_at, leads_from, node_of, with_lead}
use Rattle.ps_solve.specs.Reached.{places_of, rows_of}
use Rattle.ps_solve.specs.Rows.{AreWide, plain_state}
use Rattle.ps_solve.specs.Spaces.{path_of}
use Rattle.ps_solve.specs.Stores.{AreKept, node_at, nodes_in, space_of}
use Rattle.ps_solve.specs.declared.expansion.Expansion.{Expansion}
use Rattle.ps_solve.specs.declared.rows.Row.{Row}
use Rattle.ps_solve.specs.declared.task.Task.{Task}
use Rattle.ps_solve.proofs.Meeting.{next_lead}
use Rattle.ps_solve.proofs.Storing.{drop_mapped, found_said, kept_said}

module _ (t : Task) where
  -- the node of a row that is reached so
  abbrev pub node : Row → List ℕ → Node
  node r places = node_of t.grounds.actions.items (record { state = plain_state t.grounds.atoms r; places = places })

  -- it stands where the row does
  pub node_there : (rs : List (Row × List ℕ)) (i : ℕ) (r : Row) → slice_get (rows_of rs) i ≡ Some r → node_at t rs i ≡ node r (places_of rs i)
  node_there [] zero r e = absurd (cc)
  node_there [] (suc i) r e = absurd (cc)
  node_there (s ∷ rs) zero r e =
      let same : s.0 ≡ r = cc in
      λ j. node (same j) s.1
  node_there (s ∷ rs) (suc i) r e = node_there rs i r e

  -- what is known in its state is known in the node's
  pub known_said : (rs : List (Row × List ℕ)) (i : ℕ) (r : Row) (f : Fact) → slice_get (rows_of rs) i ≡ Some r → is_known (at t.problem.now (plain_state t.grounds.atoms r)) f ≡ is_known (at t.problem.now (node_at t rs i).state) f
  known_said rs i r f there = ap (λ (n : Node). is_known (at t.problem.now n.state) f) (sym (node_there rs i r there))

module _ (t : Task) (rs new : List (Row × List ℕ)) (i most : ℕ) (r : Row) (there : slice_get (rows_of rs) i ≡ Some r) where
  abbrev here : Node
  here = node t r (places_of rs i)

  -- where its row leads
  abbrev all : List Lead
  all = leads_from t.expert.now t.problem.now t.grounds.atoms 0 t.grounds.actions.items (record { state = plain_state t.grounds.atoms r; places = places_of rs i })

  abbrev acts : Lead → List Act
  acts = λ m. acts_at t.grounds.actions.items m.places

  abbrev is_good : Lead → Bool
  is_good = λ m. meets_goal t m.state

  -- the node that is expanded, and those after it
  left : (ns : List Node) × (drop i (nodes_in t rs) ≡ here ∷ ns)
  left =
      let lead = next_lead t i rs r there in
      let f = node_of t.grounds.actions.items in
      (map f lead.0, drop_mapped f i (leads_of t rs) ∙ ap (map f) lead.1)

  there_is : node_at t rs i ≡ here
  there_is = node_there t rs i r there

  pub expand_finds : {E : Type 0} (result : Result (Option (List Act)) E) → IfOk result (λ f. f ≡ option_map acts (find is_good all)) → IfOk result (λ f. f ≡ option_map path_of (first_good (space_of t) ((space_of t).moves (node_at t rs i))))
  expand_finds (Ok f) is =
      found_said t rs new i most r there {E = ℕ} (Ok f) is here left.0 left.1
      ∙ ap (λ n. option_map path_of (first_good (space_of t) ((space_of t).moves n))) (sym there_is)
  expand_finds (Err w) is = tt

  pub expand_grows : {E : Type 0} (result : Result (Option (List Act)) E) → length rs ≤ most → IfOk result (λ f. f ≡ None → leads_of t new ≡ fold (with_lead most) (leads_of t rs) all) → IfOk result (λ f. f ≡ None → nodes_in t new ≡ take most (nodes_in t rs ++ fresh (space_of t) (nodes_in t rs) ((space_of t).moves (node_at t rs i))))
  expand_grows (Ok f) few is = λ none.
      kept_said t rs new i most r there {E = ℕ} (Ok f) few is none here left.0 left.1
      ∙ ap (λ n. take most (nodes_in t rs ++ fresh (space_of t) (nodes_in t rs) ((space_of t).moves n))) (sym there_is)
  expand_grows (Err w) few is = tt

  pub expand_keeps : {E : Type 0} (e : Expansion) (result : Result (Option (List Act)) E) → e.task.now ≡ t → length rs ≤ most → NoneGood (space_of t) (nodes_in t rs) → IfOk result (λ f. f ≡ option_map acts (find is_good all)) → IfOk result (λ f. f ≡ None → leads_of t new ≡ fold (with_lead most) (leads_of t rs) all) → OnOk result (IsExpanding e new) → IfOk result (λ f. f ≡ None → AreKept t new)
  expand_keeps e (Ok f) same few bad is grown h = λ none.
      let found = found_said t rs new i most r there {E = ℕ} (Ok f) is here left.0 left.1 in
      let kept = kept_said t rs new i most r there {E = ℕ} (Ok f) few grown none here left.0 left.1 in
      let ms = (space_of t).moves here in
      let nothing : first_good (space_of t) ms ≡ None = no_node path_of (space_of t) (first_good (space_of t) ms) (sym found ∙ none) in
      let P : Task → Type 0 = λ u. AreWide u.grounds.atoms (rows_of new) in
      let Q : List Node → Type 0 = NoneGood (space_of t) in
      record {
        wide = subst P same h.wide;
        none = subst Q (sym kept) (none_kept (space_of t) most (nodes_in t rs) ms bad nothing);
      }
  expand_keeps e (Err w) same few bad is grown h = tt

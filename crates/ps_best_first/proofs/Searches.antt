-- One expansion more, as the definition of the search has it.
use Rattle.std.proofs.Common.{◌≡◌, ℕ, zero, suc, ◌+◌, ◌<◌, ◌≤◌, nat_le, nat_eq, Bool, true, false, cond, ◌||◌, List, [], ◌∷◌, ◌++◌, Option, Some, None, option_map, Result, Ok, Err, IfOk, OnOk, append_assoc, drop, filter, find, get_or, not, nat_lt, slice_get, length, map, take, refl, ap, sym, subst, ◌∙◌, arith, slice_index_or, slice_set}
use Rattle.std.specs.List.{AllByRecursion, cons_option, list_any}
use Rattle.std.specs.Cmp.{second_so}
use Rattle.std.specs.Option.{IfSome, option_map_or}
use Rattle.std.proofs.Math.Seq.{drop-append_seam}
use Rattle.std.proofs.lemmas.Bool.{cond-false, cond-true, le-leb, ltb-true}
use Rattle.std.proofs.lemmas.List.{drop_more, length-append, length-map, length-take, take_all}
use Rattle.std.proofs.lemmas.List.Elements.{All-cons, All-nil}
use Rattle.std.proofs.lemmas.Option.{slice_get_within}
use Rattle.ps_world.specs.CondViews.{cond_tree}
use Rattle.ps_world.specs.declared.conditions.Cond.{Cond}
use Rattle.ps_world.specs.declared.domains.Domain.{Domain}
use Rattle.ps_world.specs.declared.facts.Fact.{Fact}
use Rattle.ps_world.specs.declared.known.Knowledge.{Knowledge}
use Rattle.ps_action.specs.Plans.{most_acts}
use Rattle.ps_action.specs.Search.{possible_acts}
use Rattle.ps_action.specs.Truth.{is_true}
use Rattle.ps_action.specs.declared.acts.Act.{Act}
use Rattle.ps_action.specs.declared.acts.GroundAction.{GroundAction}
use Rattle.ps_levels.specs.Levels.{IsExact, NoneGood, Space, first_good, fresh, is_met}
use Rattle.ps_levels.proofs.Depths.{first_new}
use Rattle.ps_ground.specs.Moves.{Node, grounds, move, moves}
use Rattle.ps_ground.specs.Goals.{is_good}
use Rattle.ps_ground.specs.States.{State, state_of, stepped}
use Rattle.ps_solve.specs.Nodes.{root}
use Rattle.ps_solve.specs.Reached.{rows_of}
use Rattle.ps_solve.specs.Rows.{AreWide}
use Rattle.ps_solve.specs.Spaces.{path_of}
use Rattle.ps_solve.specs.Stores.{AreKept, node_at, nodes_in, space_of}
use Rattle.ps_solve.specs.declared.rows.Row.{Row}
use Rattle.ps_solve.specs.declared.task.Task.{Task}
use Rattle.ps_solve.proofs.SameStates.{state_same}
use Rattle.ps_solve.proofs.Storing.{count}
use Rattle.ps_greedy.specs.Greedy.{Spot, answered, children, ended, first_spot, greedy_from}
use Rattle.ps_greedy.specs.declared.found.Found.{Found}
use Rattle.ps_greedy.specs.declared.found.Found.TheVariants.{Plan, NoPlan, Spent}
use Rattle.ps_best_first.specs.Leaves.{IsFirst, NoneOpen, shut}
use Rattle.ps_best_first.specs.Search.{AreDeep, IsSearch, found_from, leaf_of, spot_of, spots_of}
use Rattle.ps_best_first.specs.declared.leaves.Leaf.{Leaf}
use Rattle.ps_best_first.proofs.Children.{children_are, grown, grown_good, grown_spots}
use Rattle.ps_best_first.proofs.Heaps.{set_here}
use Rattle.ps_best_first.proofs.Nexts.{deep_at, deep_length, first_next, more_missing, none_next, shut_deep}

-- ---- lists that are gone over

module _ {A : Type 0} (p : A → Bool) (xs : List A) (i : ℕ) (x : A) (within : i < length xs) (is : x ≡ get_or xs i x) where
  split : drop i xs ≡ x ∷ drop (i + 1) xs
  split = drop_more xs i x within ∙ ap (λ y. y ∷ drop (i + 1) xs) (sym is)

  -- one that passes is kept
  pub passed_on : (left : List A) → left ++ filter p (drop i xs) ≡ filter p xs → p x ≡ true → (left ++ x ∷ []) ++ filter p (drop (i + 1) xs) ≡ filter p xs
  passed_on left e t =
      let more = filter p (drop (i + 1) xs) in
      append_assoc left (x ∷ []) more ∙ ap (λ ys. left ++ ys) (sym (ap (filter p) split ∙ cond-true (p x) (x ∷ more) more t)) ∙ e

  -- another one isn't
  pub skipped_on : (left : List A) → left ++ filter p (drop i xs) ≡ filter p xs → p x ≡ false → left ++ filter p (drop (i + 1) xs) ≡ filter p xs
  skipped_on left e t =
      let more = filter p (drop (i + 1) xs) in
      ap (λ ys. left ++ ys) (sym (ap (filter p) split ∙ cond-false (p x) (x ∷ more) more t)) ∙ e

-- what is made of the item at a place goes last
pub made_on : {A B : Type 0} (f : A → B) (xs : List A) (i : ℕ) (d : A) (done all : List B) (y : B) → i < length xs → y ≡ f (slice_index_or xs i d) → done ++ map f (drop i xs) ≡ all → (done ++ y ∷ []) ++ map f (drop (i + 1) xs) ≡ all
made_on f xs i d done all y within is e =
    append_assoc done (y ∷ []) (map f (drop (i + 1) xs))
    ∙ ap (λ z. done ++ z ∷ map f (drop (i + 1) xs)) is
    ∙ ap (λ ys. done ++ map f ys) (sym (drop_more xs i d within))
    ∙ e

-- ---- lists of spots

module _ (k : Knowledge) where
  length-spots : (ns : List Node) (ls : List Leaf) → AreDeep ns ls → length (spots_of k ns ls) ≡ length ns
  length-spots [] ls deep = refl
  length-spots (n ∷ ns) [] deep = absurd deep
  length-spots (n ∷ ns) (l ∷ ls) deep = ap suc (length-spots ns ls deep.1)

  spots-append : (ns ms : List Node) (ls xs : List Leaf) → AreDeep ns ls → spots_of k (ns ++ ms) (ls ++ xs) ≡ spots_of k ns ls ++ spots_of k ms xs
  spots-append [] ms [] xs deep = refl
  spots-append [] ms (l ∷ ls) xs deep = absurd deep
  spots-append (n ∷ ns) ms [] xs deep = absurd deep
  spots-append (n ∷ ns) ms (l ∷ ls) xs deep = ap (λ ys. spot_of k n l ∷ ys) (spots-append ns ms ls xs deep.1)

  -- some spot is at the last depth where some leaf is
  last_at : (ns : List Node) (ls : List Leaf) → AreDeep ns ls → list_any (λ (n : Spot). nat_eq (length n.path) most_acts) (spots_of k ns ls) ≡ list_any (λ (l : Leaf). nat_eq l.depth most_acts) ls
  last_at [] [] deep = refl
  last_at [] (l ∷ ls) deep = absurd deep
  last_at (n ∷ ns) [] deep = absurd deep
  last_at (n ∷ ns) (l ∷ ls) deep = λ i. nat_eq (sym deep.0 i) most_acts || last_at ns ls deep.1 i

deep-append : (ns ms : List Node) (ls xs : List Leaf) → AreDeep ns ls → AreDeep ms xs → AreDeep (ns ++ ms) (ls ++ xs)
deep-append [] ms [] xs a b = b
deep-append [] ms (l ∷ ls) xs a b = absurd a
deep-append (n ∷ ns) ms [] xs a b = absurd a
deep-append (n ∷ ns) ms (l ∷ ls) xs a b = (a.0, deep-append ns ms ls xs a.1 b)

drop_first : {A : Type 0} (xs ys : List A) (n : ℕ) → n ≡ length xs → drop n (xs ++ ys) ≡ ys
drop_first xs ys n e = ap (λ m. drop m (xs ++ ys)) e ∙ drop-append_seam xs ys

-- ---- how deep new nodes are

module _ (d : Domain) (k : Knowledge) (n : Node) (depth : ℕ) (deep : depth ≡ length n.path) where
  abbrev IsDeeper : Node → Type 0
  IsDeeper m = depth + 1 ≡ length m.path

  deeper_by : (g : GroundAction) (o : Option State) (ms : List Node) → AllByRecursion IsDeeper ms → AllByRecursion IsDeeper (cons_option (option_map (λ s. let m : Node = record { state = s; path = n.path ++ g.act ∷ [] } in m) o) ms)
  deeper_by g None ms h = h
  deeper_by g (Some s) ms h = ((let long = length-append n.path (g.act ∷ []) in omega (arith, deep, long)), h)

  moves_deeper : (gs : List GroundAction) → AllByRecursion IsDeeper (moves d k gs n)
  moves_deeper [] = tt
  moves_deeper (g ∷ gs) = deeper_by g (stepped d k n.state g) (moves d k gs n) (moves_deeper gs)

  fresh_by : (p : Space Node State) (m : Node) (b : Bool) (xs ys : List Node) → IsDeeper m → AllByRecursion IsDeeper xs → AllByRecursion IsDeeper ys → AllByRecursion IsDeeper (cond b xs (m ∷ ys))
  fresh_by p m true xs ys h a c = a
  fresh_by p m false xs ys h a c = (h, c)

  fresh_deeper : (p : Space Node State) (old ms : List Node) → AllByRecursion IsDeeper ms → AllByRecursion IsDeeper (fresh p old ms)
  fresh_deeper p old [] h = tt
  fresh_deeper p old (m ∷ ms) h =
      fresh_by p m (is_met p old (p.state m)) (fresh p old ms) (fresh p (old ++ m ∷ []) ms) h.0 (fresh_deeper p old ms h.1) (fresh_deeper p (old ++ m ∷ []) ms h.1)

  kept_deep : (marks : List Fact) (ms : List Node) → AllByRecursion IsDeeper ms → AreDeep ms (map (leaf_of k (depth + 1) marks) ms)
  kept_deep marks [] h = tt
  kept_deep marks (m ∷ ms) h = (h.0, kept_deep marks ms h.1)

-- ---- the beginning

module _ (t : Task) (rs : List (Row × List ℕ)) (ls : List Leaf) (marks : List Fact) (one : nodes_in t rs ≡ root t.problem.now ∷ []) (kept : ls ≡ map (leaf_of t.problem.now 0 marks) (drop 0 (nodes_in t rs))) where
  abbrev first_leaf : Leaf
  first_leaf = leaf_of t.problem.now 0 marks (root t.problem.now)

  leaf_is : ls ≡ first_leaf ∷ []
  leaf_is = kept ∙ ap (λ ns. map (leaf_of t.problem.now 0 marks) (drop 0 ns)) one

  -- a search begins with one node
  pub begins_so : (budget more : ℕ) → found_from t budget more rs ls ≡ greedy_from t.expert.now (possible_acts t.expert.now t.problem.now) t.goal.now budget more (first_spot t.problem.now marks ∷ [])
  begins_so budget more = λ j. greedy_from t.expert.now (possible_acts t.expert.now t.problem.now) t.goal.now budget more (spots_of t.problem.now (one j) (leaf_is j))

  pub begins_search : (budget : ℕ) → 1 ≤ budget → AreWide t.grounds.atoms (rows_of rs) → is_good t.expert.now t.problem.now t.goal.now (state_of t.problem.now) ≡ false → IsSearch t budget rs ls
  begins_search budget some wide bad =
      let P : List Node → Type 0 = NoneGood (space_of t) in
      let Bad : Node → Type 0 = λ m. is_good t.expert.now t.problem.now t.goal.now m.state ≡ false in
      let Q : List Node × List Leaf → Type 0 = λ w. AreDeep w.0 w.1 in
      let both : (root t.problem.now ∷ [], first_leaf ∷ []) ≡ (nodes_in t rs, ls) = λ j. (sym one j, sym leaf_is j) in
      let many = count t rs in
      let few = ap (λ (ns : List Node). length ns) one in
      record {
        kept = record { wide = wide; none = subst P (sym one) (All-cons Bad (root t.problem.now) [] bad (All-nil Bad)) };
        deep = subst Q both (refl, tt);
        room = omega (arith, some, many, few);
      }

-- ---- nothing is left

-- where none can be expanded, the search ends
pub ends : (t : Task) (budget more : ℕ) (rs : List (Row × List ℕ)) (ls : List Leaf) → IsSearch t budget rs ls → NoneOpen ls → found_from t budget (suc more) rs ls ≡ cond (list_any (λ (l : Leaf). nat_eq l.depth most_acts) ls) Spent NoPlan
ends t budget more rs ls s none =
    let d = t.expert.now in
    let k = t.problem.now in
    let acts = possible_acts d k in
    let ns = nodes_in t rs in
    let goal = t.goal.now in
    let go : Option (Spot × List Spot) → Found = λ o. option_map_or (λ u.
    answered (find (λ (m : Spot). is_true d m.known (cond_tree goal)) (children d acts u.1 u.0)) (nat_le budget (length (u.1 ++ children d acts u.1 u.0))) (greedy_from d acts goal budget more (u.1 ++ children d acts u.1 u.0))) o (ended (spots_of k ns ls)) in
    ap go (none_next k ns ls s.deep none) ∙ ap (λ b. cond {A = Found} b Spent NoPlan) (last_at k ns ls s.deep)

-- ---- one is expanded

module _ (t : Task) (budget : ℕ) (rs : List (Row × List ℕ)) (ls : List Leaf) (s : IsSearch t budget rs ls) (i : ℕ) (l : Leaf) (f : IsFirst ls i l) where
  abbrev d : Domain
  d = t.expert.now

  abbrev k : Knowledge
  k = t.problem.now

  abbrev goal : Cond
  goal = t.goal.now

  abbrev acts : List Act
  acts = possible_acts d k

  abbrev p : Space Node State
  p = space_of t

  abbrev ns : List Node
  ns = nodes_in t rs

  abbrev n : Node
  n = node_at t rs i

  abbrev rest : List Leaf
  rest = slice_set ls i (shut l)

  abbrev new : List Node
  new = fresh p ns (p.moves n)

  abbrev good : Spot → Bool
  good m = is_true d m.known (cond_tree goal)

  abbrev grow : Node → Spot
  grow = grown d k (l.depth + 1) l.missing

  abbrev after : ℕ → List Spot → Found
  after more xs =
      answered (find good xs) (nat_le budget (length (spots_of k ns rest ++ xs))) (greedy_from d acts goal budget more (spots_of k ns rest ++ xs))

  deep : AreDeep ns rest
  deep = shut_deep ns ls i l f.there s.deep

  taken : (more : ℕ) → found_from t budget (suc more) rs ls ≡ after more (map grow new)
  taken more =
      let go : Option (Spot × List Spot) → Found = λ o. option_map_or (λ u.
      answered (find good (children d acts u.1 u.0)) (nat_le budget (length (u.1 ++ children d acts u.1 u.0))) (greedy_from d acts goal budget more (u.1 ++ children d acts u.1 u.0))) o (ended (spots_of k ns ls)) in
      ap go (first_next k ns ls i l (root k) s.deep f) ∙ ap (after more) (children_are d k n l (l.depth + 1) goal ns rest deep)

  exact : IsExact p
  exact a b e = state_same a b e

  first : find good (map grow new) ≡ option_map grow (first_good p (p.moves n))
  first = grown_good d k (l.depth + 1) l.missing goal new ∙ ap (option_map grow) (first_new p exact ns (p.moves n) s.kept.none)

  plan_by : (o : Option Node) (path : List Act) (b : Bool) (r : Found) → Some path ≡ option_map path_of o → answered (option_map grow o) b r ≡ Plan path
  plan_by None path b r e = absurd (cc)
  plan_by (Some m) path b r e = let same : path ≡ m.path = cc in ap Plan (sym same)

  none_by : (o : Option Node) (b : Bool) (r : Found) → None ≡ option_map path_of o → answered (option_map grow o) b r ≡ cond b Spent r
  none_by None b r e = refl
  none_by (Some m) b r e = absurd (cc)

  -- the first new node that meets the goal is found
  pub finds : (more : ℕ) (path : List Act) → Some path ≡ option_map path_of (first_good p (p.moves n)) → found_from t budget (suc more) rs ls ≡ Plan path
  finds more path e =
      taken more
      ∙ ap (λ o. answered o (nat_le budget (length (spots_of k ns rest ++ map grow new))) (greedy_from d acts goal budget more (spots_of k ns rest ++ map grow new))) first
      ∙ plan_by (first_good p (p.moves n)) path (nat_le budget (length (spots_of k ns rest ++ map grow new))) (greedy_from d acts goal budget more (spots_of k ns rest ++ map grow new)) e

  unfound : (more : ℕ) → None ≡ option_map path_of (first_good p (p.moves n)) → found_from t budget (suc more) rs ls ≡ cond (nat_le budget (length (spots_of k ns rest ++ map grow new))) Spent (greedy_from d acts goal budget more (spots_of k ns rest ++ map grow new))
  unfound more e =
      taken more
      ∙ ap (λ o. answered o (nat_le budget (length (spots_of k ns rest ++ map grow new))) (greedy_from d acts goal budget more (spots_of k ns rest ++ map grow new))) first
      ∙ none_by (first_good p (p.moves n)) (nat_le budget (length (spots_of k ns rest ++ map grow new))) (greedy_from d acts goal budget more (spots_of k ns rest ++ map grow new)) e

  many : length (spots_of k ns rest ++ map grow new) ≡ length (ns ++ new)
  many =
      length-append (spots_of k ns rest) (map grow new)
      ∙ (λ j. length-spots k ns rest deep j + length-map new grow j)
      ∙ sym (length-append ns new)

  module _ (rs2 : List (Row × List ℕ)) (is : nodes_in t rs2 ≡ take budget (ns ++ new)) (e : None ≡ option_map path_of (first_good p (p.moves n))) where
    taken_few : length rs2 ≡ length (take budget (ns ++ new))
    taken_few = sym (count t rs2) ∙ ap (λ (xs : List Node). length xs) is

    -- as many are reached as the budget says
    pub spends : (more : ℕ) → budget ≤ length rs2 → found_from t budget (suc more) rs ls ≡ Spent
    spends more full =
        let few = taken_few in
        let long = length-take budget (ns ++ new) in
        let same = many in
        let b = le-leb budget (length (spots_of k ns rest ++ map grow new)) (omega (arith, full, few, long, same)) in
        unfound more e ∙ cond-true (nat_le budget (length (spots_of k ns rest ++ map grow new))) Spent (greedy_from d acts goal budget more (spots_of k ns rest ++ map grow new)) b

    module _ (room : length rs2 < budget) (ls2 : List Leaf) (added : ls2 ≡ rest ++ map (leaf_of k (l.depth + 1) l.missing) (drop (length rest) (nodes_in t rs2))) where
      short : length (ns ++ new) < budget
      short =
          let few = taken_few in
          let long = length-take budget (ns ++ new) in
          omega (arith, room, few, long)

      whole : nodes_in t rs2 ≡ ns ++ new
      whole = is ∙ take_all budget (ns ++ new) (let h = short in omega (arith, h))

      leaves_are : ls2 ≡ rest ++ map (leaf_of k (l.depth + 1) l.missing) new
      leaves_are =
          added
          ∙ ap (λ xs. rest ++ map (leaf_of k (l.depth + 1) l.missing) xs) (ap (drop (length rest)) whole ∙ drop_first ns new (length rest) (deep_length ns rest deep))

      spots_are : spots_of k (nodes_in t rs2) ls2 ≡ spots_of k ns rest ++ map grow new
      spots_are =
          (λ j. spots_of k (whole j) (leaves_are j))
          ∙ spots-append k ns new rest (map (leaf_of k (l.depth + 1) l.missing) new) deep
          ∙ ap (λ xs. spots_of k ns rest ++ xs) (grown_spots d k (l.depth + 1) l.missing new)

      -- else the search goes on
      pub goes_on : (more : ℕ) → found_from t budget (suc more) rs ls ≡ found_from t budget more rs2 ls2
      goes_on more =
          let h = short in
          let same = many in
          let b = more_missing budget (length (spots_of k ns rest ++ map grow new)) (omega (arith, h, same)) in
          unfound more e
          ∙ cond-false (nat_le budget (length (spots_of k ns rest ++ map grow new))) Spent (greedy_from d acts goal budget more (spots_of k ns rest ++ map grow new)) b
          ∙ ap (greedy_from d acts goal budget more) (sym spots_are)

      pub stays : AreKept t rs2 → IsSearch t budget rs2 ls2
      stays kept =
          let at = deep_at ns ls i l (root k) f.there s.deep in
          let deeper = fresh_deeper d k n l.depth at p ns (p.moves n) (moves_deeper d k n l.depth at (grounds d k)) in
          record {
            kept = kept;
            deep = subst (λ (w : List Node × List Leaf). AreDeep w.0 w.1) (λ j. (sym whole j, sym leaves_are j)) (deep-append ns new rest (map (leaf_of k (l.depth + 1) l.missing) new) deep (kept_deep d k n l.depth at l.missing new deeper));
            room = omega (arith, room);
          }

  -- ---- what is said of a step

  pub within : i < length rs
  within =
      let here = slice_get_within ls i l f.there in
      let as_many = deep_length ns ls s.deep in
      let rows = count t rs in
      omega (arith, here, as_many, rows)

  pub is_short : l.depth < most_acts
  is_short = ltb-true l.depth 256 (second_so (not l.expanded) (nat_lt l.depth 256) f.may)

  module _ (left : List Leaf) (taken_so : left ≡ rest) where
    pub left_length : length left ≡ length rs
    left_length = ap (λ (xs : List Leaf). length xs) taken_so ∙ deep_length ns rest deep ∙ count t rs

    pub left_there : slice_get left i ≡ Some (shut l)
    left_there = ap (λ (xs : List Leaf). slice_get xs i) taken_so ∙ set_here ls i l (shut l) f.there

    pub no_fewer : (rs2 : List (Row × List ℕ)) → nodes_in t rs2 ≡ take budget (ns ++ new) → length left ≤ length rs2
    no_fewer rs2 is =
        let a = left_length in
        let b = count t rs2 in
        let c = ap (λ (xs : List Node). length xs) is in
        let e = length-take budget (ns ++ new) in
        let g = length-append ns new in
        let h = count t rs in
        let room = s.room in
        omega (arith, a, b, c, e, g, h, room)

    pub added_so : (rs2 : List (Row × List ℕ)) (ls2 : List Leaf) → IfSome (slice_get left i) (λ x. ls2 ≡ left ++ map (leaf_of k (x.depth + 1) x.missing) (drop (length left) (nodes_in t rs2))) → ls2 ≡ rest ++ map (leaf_of k (l.depth + 1) l.missing) (drop (length rest) (nodes_in t rs2))
    added_so rs2 ls2 h =
        let P : Option Leaf → Type 0 = λ o. IfSome o (λ x. ls2 ≡ left ++ map (leaf_of k (x.depth + 1) x.missing) (drop (length left) (nodes_in t rs2))) in
        let here : ls2 ≡ left ++ map (leaf_of k (l.depth + 1) l.missing) (drop (length left) (nodes_in t rs2)) = subst P left_there h in
        here ∙ ap (λ xs. xs ++ map (leaf_of k (l.depth + 1) l.missing) (drop (length xs) (nodes_in t rs2))) taken_so

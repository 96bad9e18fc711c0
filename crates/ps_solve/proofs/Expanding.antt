-- What a row that is expanded leads to, as leads and as nodes of what is searched.
use Rattle.std.proofs.Common.{◌≡◌, ℕ, suc, ◌+◌, ◌<◌, ◌≤◌, nat_le, Bool, true, false, cond, ◌||◌, inl, inr, List, [], ◌∷◌, ◌++◌, Option, Some, None, option_map, All, find, fold, length, map, take, refl, ap, sym, ◌∙◌, arith, append_assoc}
use Rattle.std.specs.Prelude.{slice_get}
use Rattle.std.specs.List.{cons_option, list_any}
use Rattle.std.proofs.lemmas.Bool.Decides.{nat_tests}
use Rattle.std.proofs.lemmas.List.{append-nil, length-append, length-map, map-append, take-append-le, take_all}
use Rattle.std.proofs.lemmas.List.Elements.{All-head, All-tail, filter_map-append}
use Rattle.ps_world.specs.declared.conditions.Cond.{Cond}
use Rattle.ps_world.specs.declared.domains.Domain.{Domain}
use Rattle.ps_world.specs.declared.facts.Fact.{Fact}
use Rattle.ps_world.specs.declared.known.Knowledge.{Knowledge}
use Rattle.ps_action.specs.declared.acts.Act.{Act}
use Rattle.ps_action.proofs.Contained.{or_cases}
use Rattle.ps_levels.specs.Levels.{Space, fresh, is_met as is_met_node}
use Rattle.ps_levels.specs.Levels as levels
use Rattle.ps_ground.specs.Goals.{is_good}
use Rattle.ps_ground.specs.Moves.{Node}
use Rattle.ps_ground.specs.Prepared.{successor, successor_nodes}
use Rattle.ps_ground.specs.States.{State}
use Rattle.ps_ground.specs.declared.prepared.Prepared.{Prepared}
use Rattle.ps_solve.specs.Nodes.{is_met, same_state}
use Rattle.ps_solve.specs.Queue.{IsTried, Lead, acts_at, leads_from, node_of, states, with_lead}
use Rattle.ps_solve.specs.Spaces.{path_of, space}
use Rattle.ps_solve.proofs.Queues.{none_new, still_tried}
use Rattle.ps_solve.proofs.SameStates.{state_same}

-- ---- what is kept

module _ (d : Domain) (k : Knowledge) (goal : Cond) (ps : List Prepared) where
  abbrev p : Space Node State
  p = space d k goal

  abbrev nodes : List Lead → List Node
  nodes ls = map (node_of ps) ls

  met_alike : (ls : List Lead) (s : State) → is_met_node p (nodes ls) s ≡ is_met (states ls) s
  met_alike [] s = refl
  met_alike (l ∷ ls) s = ap (λ b. same_state s l.state || b) (met_alike ls s)

  -- one more lead, and then others, is one more node, and then others
  kept_by : (most : ℕ) (full met : Bool) (ls ms : List Lead) (m : Lead) → nat_le most (length ls) ≡ full → is_met (states ls) m.state ≡ met → length ls ≤ most → ((xs : List Lead) → length xs ≤ most → nodes (fold (with_lead most) xs ms) ≡ take most (nodes xs ++ fresh p (nodes xs) (nodes ms))) → nodes (fold (with_lead most) (cond (full || met) ls (ls ++ m ∷ [])) ms) ≡ take most (nodes ls ++ cond met (fresh p (nodes ls) (nodes ms)) (node_of ps m ∷ fresh p (nodes ls ++ node_of ps m ∷ []) (nodes ms)))
  kept_by most true met ls ms m f e few more =
      let long = length-map ls (node_of ps) in
      let none_left : most ≤ length (nodes ls) = (let t : most ≤ length ls = grind (arith, nat_tests, f) in omega (arith, t, long)) in
      more ls few
      ∙ take-append-le most (nodes ls) (fresh p (nodes ls) (nodes ms)) none_left
      ∙ sym (take-append-le most (nodes ls) (cond met (fresh p (nodes ls) (nodes ms)) (node_of ps m ∷ fresh p (nodes ls ++ node_of ps m ∷ []) (nodes ms))) none_left)
  kept_by most false true ls ms m f e few more = more ls few
  kept_by most false false ls ms m f e few more =
      let room : length ls < most = grind (arith, nat_tests, f) in
      let long = length-append ls (m ∷ []) in
      let one : nodes (ls ++ m ∷ []) ≡ nodes ls ++ node_of ps m ∷ [] = map-append (node_of ps) ls (m ∷ []) in
      more (ls ++ m ∷ []) (omega (arith, room, long))
      ∙ ap (λ ns. take most (ns ++ fresh p ns (nodes ms))) one
      ∙ ap (take most) (append_assoc (nodes ls) (node_of ps m ∷ []) (fresh p (nodes ls ++ node_of ps m ∷ []) (nodes ms)))

  -- leads that are put in one after another are the nodes that a search keeps
  pub kept_nodes : (most : ℕ) (ms ls : List Lead) → length ls ≤ most → nodes (fold (with_lead most) ls ms) ≡ take most (nodes ls ++ fresh p (nodes ls) (nodes ms))
  kept_nodes most [] ls few =
      let long = length-map ls (node_of ps) in
      sym (ap (take most) (append-nil (nodes ls)) ∙ take_all most (nodes ls) (omega (arith, few, long)))
  kept_nodes most (m ∷ ms) ls few =
      kept_by most (nat_le most (length ls)) (is_met (states ls) m.state) ls ms m refl refl few (kept_nodes most ms)
      ∙ ap (λ b. take most (nodes ls ++ cond b (fresh p (nodes ls) (nodes ms)) (node_of ps m ∷ fresh p (nodes ls ++ node_of ps m ∷ []) (nodes ms)))) (sym (met_alike ls m.state))

  found_by : (b : Bool) (m : Lead) (ms : List Lead) → option_map path_of (levels.first_good p (nodes ms)) ≡ option_map (λ (l : Lead). acts_at ps l.places) (find (λ l. is_good d k goal l.state) ms) → option_map path_of (cond b (Some (node_of ps m)) (levels.first_good p (nodes ms))) ≡ option_map (λ (l : Lead). acts_at ps l.places) (cond b (Some m) (find (λ l. is_good d k goal l.state) ms))
  found_by true m ms e = refl
  found_by false m ms e = e

  -- the first lead that meets the goal is the first node that does
  pub first_node : (ms : List Lead) → option_map path_of (levels.first_good p (nodes ms)) ≡ option_map (λ (l : Lead). acts_at ps l.places) (find (λ l. is_good d k goal l.state) ms)
  first_node [] = refl
  first_node (m ∷ ms) = found_by (is_good d k goal m.state) m ms (first_node ms)

-- ---- where ground actions lead

module _ (d : Domain) (k : Knowledge) (atoms : List Fact) (ps : List Prepared) (l : Lead) where
  act_there : (i : ℕ) (q : Prepared) → slice_get ps i ≡ Some q → acts_at ps (l.places ++ i ∷ []) ≡ acts_at ps l.places ++ q.act ∷ []
  act_there i q e =
      let f : ℕ → Option Act = λ j. option_map (λ (p : Prepared). p.act) (slice_get ps j) in
      filter_map-append f l.places (i ∷ []) ∙ ap (λ o. acts_at ps l.places ++ cons_option (option_map (λ (p : Prepared). p.act) o) []) e

  node_by : (i : ℕ) (q : Prepared) (o : Option State) (ls : List Lead) (ns : List Node) → slice_get ps i ≡ Some q → map (node_of ps) ls ≡ ns → map (node_of ps) (cons_option (option_map (λ s. let m : Lead = record { state = s; places = l.places ++ i ∷ [] } in m) o) ls) ≡ cons_option (option_map (λ s. let n : Node = record { state = s; path = acts_at ps l.places ++ q.act ∷ [] } in n) o) ns
  node_by i q None ls ns at e = e
  node_by i q (Some s) ls ns at e = λ j. (let n : Node = record { state = s; path = act_there i q at j } in n) ∷ e j

  nodes_from : (i : ℕ) (qs : List Prepared) → ((j : ℕ) → slice_get qs j ≡ slice_get ps (i + j)) → map (node_of ps) (leads_from d k atoms i qs l) ≡ successor_nodes d k atoms qs (node_of ps l)
  nodes_from i [] here = refl
  nodes_from i (q ∷ qs) here =
      let first : i + 0 ≡ i = omega arith in
      node_by i q (successor d k atoms l.state q) (leads_from d k atoms (suc i) qs l) (successor_nodes d k atoms qs (node_of ps l))
      (sym (here 0 ∙ ap (slice_get ps) first)) (nodes_from (suc i) qs (λ j. here (suc j) ∙ ap (slice_get ps) (step i j)))
    where
      step : (i j : ℕ) → i + suc j ≡ suc i + j
      step i j = omega arith

  -- the leads of a lead are the nodes that its node leads to
  pub leads_moved : map (node_of ps) (leads_from d k atoms 0 ps l) ≡ successor_nodes d k atoms ps (node_of ps l)
  leads_moved = nodes_from 0 ps (λ j. ap (slice_get ps) (from_none j))
    where
      from_none : (j : ℕ) → j ≡ 0 + j
      from_none j = omega arith

-- ---- leads that don't meet the goal

module _ (good : State → Bool) where
  -- what was met doesn't, where none that is kept does
  pub met_bad : (ls : List Lead) (s : State) → All (λ (l : Lead). good l.state ≡ false) ls → is_met (states ls) s ≡ true → good s ≡ false
  met_bad [] s none e = absurd (cc)
  met_bad (l ∷ ls) s none e =
      let Bad : Lead → Type 0 = λ l. good l.state ≡ false in
      elim (or_cases (same_state s l.state) (is_met (states ls) s) e) [
        | inl here ↦ ap good (state_same s l.state here) ∙ All-head Bad l ls none
        | inr there ↦ met_bad ls s (All-tail Bad l ls none) there
      ]

  any_at : (b : Bool) (m : Lead) (ms : List Lead) → (list_any (λ (l : Lead). good l.state) ms ≡ false → find (λ (l : Lead). good l.state) ms ≡ None) → (b || list_any (λ (l : Lead). good l.state) ms) ≡ false → cond b (Some m) (find (λ (l : Lead). good l.state) ms) ≡ None
  any_at true m ms h e = absurd (cc)
  any_at false m ms h e = h e

  -- where none does, none is found
  pub none_found : (ms : List Lead) → list_any (λ (l : Lead). good l.state) ms ≡ false → find (λ (l : Lead). good l.state) ms ≡ None
  none_found [] e = refl
  none_found (m ∷ ms) e = any_at (good m.state) m ms (none_found ms) e

-- ---- one ground action after another

module _ (d : Domain) (k : Knowledge) (atoms : List Fact) (good : State → Bool) (most : ℕ) (l : Lead) where
  abbrev led : ℕ → List Prepared → List Lead
  led i qs = leads_from d k atoms i qs l

  abbrev lead_to : ℕ → State → Lead
  lead_to i s = record { state = s; places = l.places ++ i ∷ [] }

  abbrev first : List Lead → Option Lead
  first ms = find (λ (m : Lead). good m.state) ms

  kept_at : (o : Option State) (i : ℕ) (ms ls : List Lead) → fold (with_lead most) (fold (with_lead most) ls (cons_option (option_map (lead_to i) o) [])) ms ≡ fold (with_lead most) ls (cons_option (option_map (lead_to i) o) ms)
  kept_at None i ms ls = refl
  kept_at (Some s) i ms ls = refl

  -- what is kept after one, and then after the others
  pub kept_next : (i : ℕ) (q : Prepared) (qs : List Prepared) (ls : List Lead) → fold (with_lead most) (fold (with_lead most) ls (led i (q ∷ []))) (led (suc i) qs) ≡ fold (with_lead most) ls (led i (q ∷ qs))
  kept_next i q qs ls = kept_at (successor d k atoms l.state q) i (led (suc i) qs) ls

  bad_at : (o : Option State) (i : ℕ) (ms : List Lead) → list_any (λ (m : Lead). good m.state) (cons_option (option_map (lead_to i) o) []) ≡ false → first (cons_option (option_map (lead_to i) o) ms) ≡ first ms
  bad_at None i ms e = refl
  bad_at (Some s) i ms e =
      let bad : good s ≡ false = or_left (good s) e in
      rw bad refl
    where
      or_left : (a : Bool) → (a || false) ≡ false → a ≡ false
      or_left true e = absurd (cc)
      or_left false e = refl

  -- where one leads to nothing that is good, the first is among the others
  pub bad_next : (i : ℕ) (q : Prepared) (qs : List Prepared) → list_any (λ (m : Lead). good m.state) (led i (q ∷ [])) ≡ false → first (led i (q ∷ qs)) ≡ first (led (suc i) qs)
  bad_next i q qs e = bad_at (successor d k atoms l.state q) i (led (suc i) qs) e

  good_at : (o : Option State) (i : ℕ) (ms : List Lead) → list_any (λ (m : Lead). good m.state) (cons_option (option_map (lead_to i) o) []) ≡ true → Some (l.places ++ i ∷ []) ≡ option_map (λ (m : Lead). m.places) (first (cons_option (option_map (lead_to i) o) ms))
  good_at None i ms e = absurd (cc)
  good_at (Some s) i ms e =
      let here : good s ≡ true = or_left (good s) e in
      rw here refl
    where
      or_left : (a : Bool) → (a || false) ≡ true → a ≡ true
      or_left true e = refl
      or_left false e = absurd (cc)

  -- where it leads to something good, that is the first
  pub good_next : (i : ℕ) (q : Prepared) (qs : List Prepared) → list_any (λ (m : Lead). good m.state) (led i (q ∷ [])) ≡ true → Some (l.places ++ i ∷ []) ≡ option_map (λ (m : Lead). m.places) (first (led i (q ∷ qs)))
  good_next i q qs e = good_at (successor d k atoms l.state q) i (led (suc i) qs) e

  -- what was tried
  pub tried_bad : (ls : List Lead) (s : State) → All (λ (l : Lead). good l.state ≡ false) ls → IsTried good most ls s → good s ≡ false
  tried_bad ls s none tried =
      elim tried [
        | inl here ↦ met_bad good ls s none here
        | inr full ↦ full.1
      ]

  skip_at : (o : Option State) (i : ℕ) (ms ls : List Lead) → All (λ (l : Lead). good l.state ≡ false) ls → ((s : State) → o ≡ Some s → IsTried good most ls s) → (fold (with_lead most) ls ms ≡ fold (with_lead most) ls (cons_option (option_map (lead_to i) o) ms)) × (first (cons_option (option_map (lead_to i) o) ms) ≡ first ms)
  skip_at None i ms ls none tried = (refl, refl)
  skip_at (Some s) i ms ls none tried =
      let same = none_new good most ls (lead_to i s) (tried s refl) in
      let bad : good s ≡ false = tried_bad ls s none (tried s refl) in
      (ap (λ xs. fold (with_lead most) xs ms) (sym same), rw bad refl)

  -- where one leads to what was tried, it may be left out
  pub skip_next : (i : ℕ) (q : Prepared) (qs : List Prepared) (ls : List Lead) → All (λ (l : Lead). good l.state ≡ false) ls → ((s : State) → successor d k atoms l.state q ≡ Some s → IsTried good most ls s) → (fold (with_lead most) ls (led (suc i) qs) ≡ fold (with_lead most) ls (led i (q ∷ qs))) × (first (led i (q ∷ qs)) ≡ first (led (suc i) qs))
  skip_next i q qs ls none tried = skip_at (successor d k atoms l.state q) i (led (suc i) qs) ls none tried

  still_at : (o : Option State) (i : ℕ) (ls : List Lead) (t : State) → IsTried good most ls t → IsTried good most (fold (with_lead most) ls (cons_option (option_map (lead_to i) o) [])) t
  still_at None i ls t tried = tried
  still_at (Some s) i ls t tried = still_tried good most ls (lead_to i s) t tried

  -- what was tried before one is tried was tried after it
  pub still_next : (i : ℕ) (q : Prepared) (ls : List Lead) (t : State) → IsTried good most ls t → IsTried good most (fold (with_lead most) ls (led i (q ∷ []))) t
  still_next i q ls t tried = still_at (successor d k atoms l.state q) i ls t tried

-- The moves by ground actions that are gathered one after another.
use Rattle.std.proofs.Common.{◌≡◌, ℕ, ◌+◌, List, [], ◌∷◌, ◌++◌, false, Option, Some, None, option_map, option_to_list, Result, Ok, Err, filter_map, flat_map, drop, zero, suc, ◌||◌, inl, inr, refl, ap, sym, ◌∙◌, subst}
use Rattle.std.specs.List.{cons_option, list_any}
use Rattle.std.specs.Result.{result_ok}
use Rattle.std.proofs.lemmas.Grind.{flat_map-append}
use Rattle.std.proofs.lemmas.List.{append_assoc}
use Rattle.std.proofs.lemmas.List.Folds.{list_any-append}
use Rattle.std.proofs.lemmas.List.Elements.{filter_map-append}
use Rattle.ps_world.specs.declared.actions.ActionDef.{ActionDef}
use Rattle.ps_world.specs.declared.domains.Domain.{Domain}
use Rattle.ps_world.specs.declared.known.Knowledge.{Knowledge}
use Rattle.ps_world.specs.Knowledge.{same_fact}
use Rattle.ps_world.specs.declared.facts.Fact.{Fact}
use Rattle.ps_world.specs.declared.names.Name.{Name}
use Rattle.ps_world.proofs.Optionals.{cons_option-nil}
use Rattle.ps_action.specs.Grounding.{ground_act, grounded}
use Rattle.ps_action.specs.declared.acts.Act.{Act}
use Rattle.ps_action.specs.declared.acts.GroundAction.{GroundAction}
use Rattle.ps_action.specs.declared.refusals.GroundRefusal.{GroundRefusal}
use Rattle.ps_ground.specs.Fitting.{grounds_of, parts_with}
use Rattle.ps_ground.specs.Fixed.{AreFixed, possible_facts}
use Rattle.ps_ground.specs.Moves.{Node, grounds, move, moves}
use Rattle.ps_ground.specs.Atoms.{AreAtoms, IsOver, adds}
use Rattle.ps_ground.specs.States.{State, stepped}
use Rattle.ps_ground.specs.Thinned.{IsThinned, IsUseless}
use Rattle.ps_ground.proofs.Preparing.{atoms_of_both}

module _ (d : Domain) (k : Knowledge) (n : Node) where
  moves_of_one : (o : Option GroundAction) (rest : List GroundAction) → moves d k (option_to_list o) n ++ moves d k rest n ≡ moves d k (cons_option o rest) n
  moves_of_one None rest = refl
  moves_of_one (Some g) rest = by (move d k n g)
    where
      by : (m : Option Node) → cons_option m [] ++ moves d k rest n ≡ cons_option m (moves d k rest n)
      by None = refl
      by (Some x) = refl

  -- one more of what is given for each of a list of actions
  pub gathered : {A : Type 0} (ground : A → Option GroundAction) (all : List A) (i : ℕ) (a : A) (found more : List Node) → drop i all ≡ a ∷ drop (i + 1) all → more ≡ found ++ moves d k (option_to_list (ground a)) n → more ++ moves d k (filter_map ground (drop (i + 1) all)) n ≡ found ++ moves d k (filter_map ground (drop i all)) n
  gathered ground all i a found more split e =
      let rest = filter_map ground (drop (i + 1) all) in
      ap (λ ms. ms ++ moves d k rest n) e
      ∙ append_assoc found (moves d k (option_to_list (ground a)) n) (moves d k rest n)
      ∙ ap (λ ms. found ++ ms) (moves_of_one (ground a) rest ∙ ap (λ l. moves d k (filter_map ground l) n) (sym split))

  -- what can't be grounded or leads nowhere leads to nothing
  pub none_moved : (r : Result GroundAction GroundRefusal) → ((g : GroundAction) → r ≡ Ok g → stepped d k n.state g ≡ None) → moves d k (option_to_list (result_ok r)) n ≡ []
  none_moved (Err why) h = refl
  none_moved (Ok g) h = ap (λ (o : Option State). cons_option (option_map (λ s. let m : Node = record { state = s; path = n.path ++ g.act ∷ [] } in m) o) []) (h g refl)

  -- one more of what is given
  pub one_more : {A : Type 0} (ground : A → Option GroundAction) (found : List A) (a : A) → moves d k (filter_map ground (found ++ a ∷ [])) n ≡ moves d k (filter_map ground found) n ++ moves d k (option_to_list (ground a)) n
  one_more ground found a =
      ap (λ (gs : List GroundAction). moves d k gs n) (filter_map-append ground found (a ∷ []))
      ∙ filter_map-append (move d k n) (filter_map ground found) (cons_option (ground a) [])
      ∙ ap (λ (gs : List GroundAction). moves d k (filter_map ground found) n ++ moves d k gs n) (cons_option-nil (ground a))

-- ---- what is added

-- what both of two lists are among, each is, and the other way round
pub are_both : (atoms xs ys : List Fact) → AreAtoms atoms xs → AreAtoms atoms ys → AreAtoms atoms (xs ++ ys)
are_both atoms xs ys a b f gone = list_any-append (same_fact f) xs ys ∙ (λ i. a f gone i || b f gone i)

-- the facts of one ground action are atoms where they stand alone
pub alone : (of : GroundAction → List Fact) (atoms : List Fact) (g : GroundAction) → AreAtoms atoms (flat_map of (option_to_list (Some g))) → AreAtoms atoms (of g)
alone of atoms g a = (atoms_of_both atoms (of g) [] a).0

-- what an act may add, with its arguments put in, are atoms where what its ground action may add are
pub fit_atoms : (d : Domain) (k : Knowledge) (a : ActionDef) (act : Act) (atoms : List Fact) (names : List Name) → result_ok (ground_act d k.instances act) ≡ Some (grounded a act) → names ≡ act.args → AreAtoms atoms (flat_map (adds d k) (option_to_list (result_ok (ground_act d k.instances act)))) → AreAtoms atoms (adds d k (parts_with names a.conditions a.effects))
fit_atoms d k a act atoms names is same all =
    let P : Option GroundAction → Type 0 = λ o. AreAtoms atoms (flat_map (adds d k) (option_to_list o)) in
    let Q : List Name → Type 0 = λ args. AreAtoms atoms (adds d k (parts_with args a.conditions a.effects)) in
    subst Q (sym same) (alone (adds d k) atoms (grounded a act) (subst P is all))

module _ {A : Type 0} (of : GroundAction → List Fact) (ground : A → Option GroundAction) where
  given_first : (o : Option GroundAction) (rest : List GroundAction) (atoms : List Fact) → AreAtoms atoms (flat_map of (cons_option o rest)) → AreAtoms atoms (flat_map of (option_to_list o)) × AreAtoms atoms (flat_map of rest)
  given_first None rest atoms a = (λ f gone. refl, a)
  given_first (Some g) rest atoms a =
      let w = atoms_of_both atoms (of g) (flat_map of rest) a in
      (are_both atoms (of g) [] w.0 (λ f gone. refl), w.1)

  -- the facts that one of several adds are atoms where those of all are
  pub one_given : (i : ℕ) (xs rest : List A) (x : A) (atoms : List Fact) → drop i xs ≡ x ∷ rest → AreAtoms atoms (flat_map of (filter_map ground xs)) → AreAtoms atoms (flat_map of (option_to_list (ground x)))
  one_given zero [] rest x atoms e a = absurd (cc)
  one_given zero (y ∷ xs) rest x atoms e a =
      let same : y ≡ x = cc in
      λ f gone. ap (λ z. list_any (same_fact f) (flat_map of (option_to_list (ground z)))) (sym same) ∙ (given_first (ground y) (filter_map ground xs) atoms a).0 f gone
  one_given (suc i) [] rest x atoms e a = absurd (cc)
  one_given (suc i) (y ∷ xs) rest x atoms e a = one_given i xs rest x atoms e (given_first (ground y) (filter_map ground xs) atoms a).1

-- what is in neither of two lists isn't in both together
pub none_both : (f : Fact) (xs ys zs : List Fact) → zs ≡ xs ++ ys → list_any (same_fact f) xs ≡ false → list_any (same_fact f) ys ≡ false → list_any (same_fact f) zs ≡ false
none_both f xs ys zs is e h = ap (list_any (same_fact f)) is ∙ list_any-append (same_fact f) xs ys ∙ (λ i. e i || h i)

same_ok : (g h : GroundAction) (r : Result GroundAction GroundRefusal) → r ≡ Ok g → r ≡ Ok h → g ≡ h
same_ok g h r e f = cc

-- one more adds nothing else
pub more_added : {A : Type 0} (of : GroundAction → List Fact) (ground : A → Option GroundAction) (f : Fact) (found : List A) (a : A) → list_any (same_fact f) (flat_map of (filter_map ground found)) ≡ false → list_any (same_fact f) (flat_map of (option_to_list (ground a))) ≡ false → list_any (same_fact f) (flat_map of (filter_map ground (found ++ a ∷ []))) ≡ false
more_added of ground f found a old new =
    ap (λ (gs : List GroundAction). list_any (same_fact f) (flat_map of gs)) (filter_map-append ground found (a ∷ []) ∙ ap (λ (gs : List GroundAction). filter_map ground found ++ gs) (cons_option-nil (ground a)))
    ∙ none_both f (flat_map of (filter_map ground found)) (flat_map of (option_to_list (ground a))) _ (flat_map-append of (filter_map ground found) (option_to_list (ground a))) old new

-- what leads nowhere where the facts that it adds are atoms leads to nothing
pub useless_moved : (d : Domain) (k : Knowledge) (n : Node) (r : Result GroundAction GroundRefusal) (atoms : List Fact) → AreAtoms atoms (flat_map (adds d k) (option_to_list (result_ok r))) → ((g : GroundAction) → r ≡ Ok g → AreAtoms atoms (adds d k g) → stepped d k n.state g ≡ None) → moves d k (option_to_list (result_ok r)) n ≡ []
useless_moved d k n (Err why) atoms a h = refl
useless_moved d k n (Ok g) atoms a h =
    none_moved d k n (Ok g) (λ g' e. ap (λ (x : GroundAction). stepped d k n.state x) (sym (same_ok g g' (Ok g) refl e)) ∙ h g refl (alone (adds d k) atoms g a))

-- what a ground action adds may be known
pub grounds_possible : (d : Domain) (k : Knowledge) → AreAtoms (possible_facts d k) (flat_map (adds d k) (grounds d k))
grounds_possible d k = (atoms_of_both (possible_facts d k) k.facts (flat_map (adds d k) (grounds d k)) (λ f gone. gone)).1

-- the atoms of what is known and of what may be added may be known
pub atoms_possible : (d : Domain) (k : Knowledge) (atoms added : List Fact) → ((f : Fact) → list_any (same_fact f) atoms ≡ list_any (same_fact f) (k.facts ++ added)) → AreAtoms (possible_facts d k) added → AreAtoms (possible_facts d k) atoms
atoms_possible d k atoms added is a f gone =
    let first = (atoms_of_both (possible_facts d k) k.facts (flat_map (adds d k) (grounds d k)) (λ g h. h)).0 in
    is f ∙ are_both (possible_facts d k) k.facts added first a f gone

-- ---- acts without some that lead nowhere

module _ (d : Domain) (k : Knowledge) (heads : List Name) (fixed facts : List Fact) (are : AreFixed heads fixed facts) (n : Node) (over : IsOver facts n.state) where
  abbrev ground_of : Act → Option GroundAction
  ground_of act = result_ok (ground_act d k.instances act)

  useless_one : (act : Act) → IsUseless d heads fixed act → AreAtoms facts (flat_map (adds d k) (option_to_list (ground_of act))) → moves d k (option_to_list (ground_of act)) n ≡ []
  useless_one act useless atoms = useless_moved d k n (ground_act d k.instances act) facts atoms (λ g e one. useless k g facts e are one n.state over)

  moves_left : (act : Act) (acts : List Act) (ms : List Node) → ms ≡ moves d k (grounds_of d k acts) n → moves d k (option_to_list (ground_of act)) n ≡ [] → ms ≡ moves d k (grounds_of d k (act ∷ acts)) n
  moves_left act acts ms e none = e ∙ ap (λ (l : List Node). l ++ moves d k (grounds_of d k acts) n) (sym none) ∙ moves_of_one d k n (ground_of act) (grounds_of d k acts)

  moves_kept : (act other : Act) (acts kept : List Act) → other ≡ act → moves d k (grounds_of d k kept) n ≡ moves d k (grounds_of d k acts) n → moves d k (grounds_of d k (other ∷ kept)) n ≡ moves d k (grounds_of d k (act ∷ acts)) n
  moves_kept act other acts kept same e =
      ap (λ (x : Act). moves d k (grounds_of d k (x ∷ kept)) n) same
      ∙ sym (moves_of_one d k n (ground_of act) (grounds_of d k kept))
      ∙ ap (λ (l : List Node). moves d k (option_to_list (ground_of act)) n ++ l) e
      ∙ moves_of_one d k n (ground_of act) (grounds_of d k acts)

  -- they lead to the same nodes
  pub thinned_moves : (kept acts : List Act) → IsThinned (IsUseless d heads fixed) kept acts → AreAtoms facts (flat_map (adds d k) (grounds_of d k acts)) → moves d k (grounds_of d k kept) n ≡ moves d k (grounds_of d k acts) n
  thinned_moves kept [] e atoms = ap (λ (l : List Act). moves d k (grounds_of d k l) n) e
  thinned_moves [] (act ∷ acts) w atoms =
      let both = given_first {A = Act} (adds d k) ground_of (ground_of act) (grounds_of d k acts) facts atoms in
      moves_left act acts [] (thinned_moves [] acts w.1 both.1) (useless_one act w.0 both.0)
  thinned_moves (other ∷ kept) (act ∷ acts) w atoms =
      let both = given_first {A = Act} (adds d k) ground_of (ground_of act) (grounds_of d k acts) facts atoms in
      elim w [
        | inl h ↦ moves_kept act other acts kept h.0 (thinned_moves kept acts h.1 both.1)
        | inr h ↦ moves_left act acts (moves d k (grounds_of d k (other ∷ kept)) n) (thinned_moves (other ∷ kept) acts h.1 both.1) (useless_one act h.0 both.0)
      ]

module _ (d : Domain) (k : Knowledge) (P : Act → Type 0) (facts : List Fact) where
  abbrev adds_of : List Act → List Fact
  adds_of acts = flat_map (adds d k) (grounds_of d k acts)

  -- and what they add is added by one of all
  pub thinned_adds : (kept acts : List Act) → IsThinned P kept acts → AreAtoms facts (adds_of acts) → AreAtoms facts (adds_of kept)
  thinned_adds kept [] e atoms = subst (λ (l : List Act). AreAtoms facts (adds_of l)) (sym e) (λ f gone. refl)
  thinned_adds [] (act ∷ acts) w atoms = λ f gone. refl
  thinned_adds (other ∷ kept) (act ∷ acts) w atoms =
      let ground : Act → Option GroundAction = λ a. result_ok (ground_act d k.instances a) in
      let both = given_first {A = Act} (adds d k) ground (ground act) (grounds_of d k acts) facts atoms in
      elim w [
        | inl h ↦ subst (λ (x : Act). AreAtoms facts (adds_of (x ∷ kept))) (sym h.0) (adds_both (ground act) (grounds_of d k kept) both.0 (thinned_adds kept acts h.1 both.1))
        | inr h ↦ thinned_adds (other ∷ kept) acts h.1 both.1
      ]
    where
      adds_both : (o : Option GroundAction) (gs : List GroundAction) → AreAtoms facts (flat_map (adds d k) (option_to_list o)) → AreAtoms facts (flat_map (adds d k) gs) → AreAtoms facts (flat_map (adds d k) (cons_option o gs))
      adds_both None gs a b = b
      adds_both (Some g) gs a b = are_both facts (adds d k g) (flat_map (adds d k) gs) (alone (adds d k) facts g a) b

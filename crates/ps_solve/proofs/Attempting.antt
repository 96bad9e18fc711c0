-- Ground actions that are tried one after another at a row that is expanded.
use Rattle.std.proofs.Common.{◌≡◌, ℕ, suc, ◌+◌, ◌<◌, ◌≤◌, Bool, true, false, List, [], ◌∷◌, ◌++◌, Option, Some, None, option_map, drop, fold, get_or, length, refl, ap, sym, ◌∙◌, subst, add-one}
use Rattle.std.specs.Prelude.{slice_get}
use Rattle.std.specs.List.{cons_option, last_or, list_any}
use Rattle.std.proofs.lemmas.List.{drop_all, drop_more}
use Rattle.std.proofs.lemmas.Option.{slice_get_read}
use Rattle.ps_world.proofs.Truths.{or_false}
use Rattle.ps_ground.specs.Independence.{is_pruned}
use Rattle.ps_ground.specs.Prepared.{successor}
use Rattle.ps_ground.specs.States.{State}
use Rattle.ps_ground.specs.declared.prepared.Prepared.{Prepared}
use Rattle.ps_solve.specs.Expansions.{IsExpanding, IsNext, all_led, first_good, kept, lead_to, leads_of, led_by, meets_goal}
use Rattle.ps_solve.specs.Queue.{IsTried, Lead, acts_at, leads_from, with_lead}
use Rattle.ps_solve.specs.Reached.{places_of}
use Rattle.ps_solve.specs.Rows.{plain_state}
use Rattle.ps_solve.specs.declared.expansion.Expansion.{Expansion}
use Rattle.ps_solve.specs.declared.rows.Row.{Row}
use Rattle.ps_solve.proofs.Expanding.{bad_next, good_next, kept_next, skip_next, still_next}
use Rattle.ps_solve.proofs.Meeting.{from_below, next_lead, places_stay}
use Rattle.ps_solve.proofs.Queues.{pruned_tried}

-- the ground actions of what is expanded
abbrev pub actions_of : Expansion → List Prepared
actions_of e = e.task.now.grounds.actions.items

-- where a ground action leads from the row that is expanded
abbrev pub led_to : Expansion → Prepared → Option State
led_to e p = successor e.task.now.expert.now e.task.now.problem.now e.task.now.grounds.atoms (plain_state e.task.now.grounds.atoms e.here) p

-- The ground actions before a place were tried, but for those that are pruned where the one at another place led last: what is kept, with
-- what the others lead to, is what is kept at the end; none so far is good, and what is pruned was tried.
pub record IsTriedTo (e : Expansion) (old now : List (Row × List ℕ)) (last : Option ℕ) (i : ℕ) : Type 0 where
  pub expanding : IsExpanding e now
  pub places : places_of now e.from ≡ places_of old e.from
  pub left : kept e now (led_by e old i (drop i (actions_of e))) ≡ kept e old (all_led e old)
  pub first : first_good e (led_by e old i (drop i (actions_of e))) ≡ first_good e (all_led e old)
  pub tried : (j : ℕ) (b : Prepared) (s : State) → slice_get (actions_of e) j ≡ Some b → is_pruned (actions_of e) last j b ≡ true → led_to e b ≡ Some s → IsTried (meets_goal e.task.now) e.most (leads_of e.task.now now) s

-- ---- what one ground action leads to

module _ (e : Expansion) (rs : List (Row × List ℕ)) (i : ℕ) (q : Prepared) where
  -- it leads nowhere
  pub nothing_led : led_to e q ≡ None → led_by e rs i (q ∷ []) ≡ []
  nothing_led is = ap (λ o. cons_option (option_map (λ s. let l : Lead = record { state = s; places = places_of rs e.from ++ i ∷ [] } in l) o) []) is

  -- it leads to a row's state
  pub one_led : (r : Row) → led_to e q ≡ Some (plain_state e.task.now.grounds.atoms r) → led_by e rs i (q ∷ []) ≡ lead_to e rs i r ∷ []
  one_led r is = ap (λ o. cons_option (option_map (λ s. let l : Lead = record { state = s; places = places_of rs e.from ++ i ∷ [] } in l) o) []) is

  pub one_good : (r : Row) → led_to e q ≡ Some (plain_state e.task.now.grounds.atoms r) → meets_goal e.task.now (plain_state e.task.now.grounds.atoms r) ≡ list_any (λ (l : Lead). meets_goal e.task.now l.state) (led_by e rs i (q ∷ []))
  one_good r is =
      sym (or_false (meets_goal e.task.now (plain_state e.task.now.grounds.atoms r)))
      ∙ ap (list_any (λ (l : Lead). meets_goal e.task.now l.state)) (sym (one_led r is))

  pub one_kept : (r : Row) → led_to e q ≡ Some (plain_state e.task.now.grounds.atoms r) → with_lead e.most (leads_of e.task.now rs) (lead_to e rs i r) ≡ kept e rs (led_by e rs i (q ∷ []))
  one_kept r is = ap (kept e rs) (sym (one_led r is))

-- ---- one after another

-- the ground action that stands at a place of a list
module _ (xs items : List Prepared) (i : ℕ) (q : Prepared) (same : xs ≡ items) (within : i < length xs) (is : q ≡ get_or xs i q) where
  pub split_at : drop i items ≡ q ∷ drop (i + 1) items
  split_at =
      let P : List Prepared → Type 0 = λ l. drop i l ≡ q ∷ drop (i + 1) l in
      subst P same (drop_more xs i q within ∙ ap (λ (x : Prepared). x ∷ drop (i + 1) xs) (sym is))

  pub there_at : slice_get items i ≡ Some q
  there_at =
      let P : List Prepared → Type 0 = λ l. slice_get l i ≡ Some q in
      subst P same (slice_get_read xs (length xs) i q refl within is)

all_left : {A : Type 0} (xs : List A) → drop 0 xs ≡ xs
all_left [] = refl
all_left (x ∷ xs) = refl

module _ (e : Expansion) (old : List (Row × List ℕ)) (last : Option ℕ) where
  abbrev ps : List Prepared
  ps = actions_of e

  abbrev good : State → Bool
  good = meets_goal e.task.now

  abbrev from_lead : Lead
  from_lead = record { state = plain_state e.task.now.grounds.atoms e.here; places = places_of old e.from }

  -- none is tried at first
  pub begins : IsExpanding e old → IsNext e old → last ≡ last_or None (places_of old e.from) → IsTriedTo e old old last 0
  begins h queue is =
      let t = e.task.now in
      let lead = next_lead t e.from old e.here h.there in
      record {
        expanding = h;
        places = refl;
        left = ap (λ qs. kept e old (led_by e old 0 qs)) (all_left ps);
        first = ap (λ qs. first_good e (led_by e old 0 qs)) (all_left ps);
        tried = λ j b s at pruned led. pruned_tried t.expert.now t.problem.now t.grounds.atoms ps good e.most e.from (leads_of t old) lead.0 (leads_of t old) from_lead lead.1 queue.pruned queue.tried j b s at (ap (λ o. is_pruned ps o j b) (sym is) ∙ pruned) led;
      }

  module _ (now : List (Row × List ℕ)) (i : ℕ) (q : Prepared) (so : IsTriedTo e old now last i) (split : drop i ps ≡ q ∷ drop (i + 1) ps) where
    abbrev rest : List Prepared
    rest = drop (i + 1) ps

    -- the leads by one are the same, whatever was kept since
    led_alike : (qs : List Prepared) → led_by e now i qs ≡ led_by e old i qs
    led_alike qs = λ j. leads_from e.task.now.expert.now e.task.now.problem.now e.task.now.grounds.atoms i qs (let l : Lead = record { state = plain_state e.task.now.grounds.atoms e.here; places = so.places j } in l)

    -- one that is pruned is left out
    pub skipped : slice_get ps i ≡ Some q → is_pruned ps last i q ≡ true → IsTriedTo e old now last (i + 1)
    skipped at pruned =
        let t = e.task.now in
        let more = skip_next t.expert.now t.problem.now t.grounds.atoms good e.most from_lead i q rest (leads_of t now) so.expanding.none (λ s led. so.tried i q s at pruned led) in
        record {
          expanding = so.expanding;
          places = so.places;
          left = ap (λ m. kept e now (led_by e old m rest)) (add-one i) ∙ more.0 ∙ ap (λ qs. kept e now (led_by e old i qs)) (sym split) ∙ so.left;
          first = ap (λ m. first_good e (led_by e old m rest)) (add-one i) ∙ sym more.1 ∙ ap (λ qs. first_good e (led_by e old i qs)) (sym split) ∙ so.first;
          tried = so.tried;
        }

    -- one is tried that leads to nothing good
    pub attempted : (new : List (Row × List ℕ)) → list_any (λ (l : Lead). good l.state) (led_by e now i (q ∷ [])) ≡ false → leads_of e.task.now new ≡ kept e now (led_by e now i (q ∷ [])) → IsExpanding e new → IsTriedTo e old new last (i + 1)
    attempted new bad is h =
        let t = e.task.now in
        let d = t.expert.now in
        let k = t.problem.now in
        let atoms = t.grounds.atoms in
        let one = led_alike (q ∷ []) in
        let leads : leads_of t new ≡ kept e now (led_by e old i (q ∷ [])) = is ∙ ap (kept e now) one in
        let none : list_any (λ (l : Lead). good l.state) (led_by e old i (q ∷ [])) ≡ false = ap (list_any (λ (l : Lead). good l.state)) (sym one) ∙ bad in
        record {
          expanding = h;
          places = places_stay t e.most now new (led_by e now i (q ∷ [])) e.from (from_below e now so.expanding) is ∙ so.places;
          left = ap (λ m. kept e new (led_by e old m rest)) (add-one i)
              ∙ (λ j. fold (with_lead e.most) (leads j) (led_by e old (suc i) rest))
              ∙ kept_next d k atoms good e.most from_lead i q rest (leads_of t now)
              ∙ ap (λ qs. kept e now (led_by e old i qs)) (sym split) ∙ so.left;
          first = ap (λ m. first_good e (led_by e old m rest)) (add-one i) ∙ sym (bad_next d k atoms good e.most from_lead i q rest none) ∙ ap (λ qs. first_good e (led_by e old i qs)) (sym split) ∙ so.first;
          tried = λ j b s at pruned led. let P : List Lead → Type 0 = λ ls. IsTried good e.most ls s in subst P (sym leads) (still_next d k atoms good e.most from_lead i q (leads_of t now) s (so.tried j b s at pruned led));
        }

    -- one is tried that leads to something good
    pub found_here : list_any (λ (l : Lead). good l.state) (led_by e now i (q ∷ [])) ≡ true → Some (places_of old e.from ++ i ∷ []) ≡ option_map (λ (l : Lead). l.places) (first_good e (all_led e old))
    found_here here =
        let t = e.task.now in
        good_next t.expert.now t.problem.now t.grounds.atoms good e.most from_lead i q rest (ap (list_any (λ (l : Lead). good l.state)) (sym (led_alike (q ∷ []))) ∙ here)
        ∙ ap (option_map (λ (l : Lead). l.places)) (ap (λ qs. first_good e (led_by e old i qs)) (sym split) ∙ so.first)

  -- all are tried
  module _ (now : List (Row × List ℕ)) (i : ℕ) (so : IsTriedTo e old now last i) (past : length ps ≤ i) where
    pub none_found : None ≡ option_map (λ (l : Lead). l.places) (first_good e (all_led e old))
    none_found = ap (option_map (λ (l : Lead). l.places)) (ap (λ qs. first_good e (led_by e old i qs)) (sym (drop_all i ps past)) ∙ so.first)

    pub all_kept : leads_of e.task.now now ≡ kept e old (all_led e old)
    all_kept = ap (λ qs. kept e now (led_by e old i qs)) (sym (drop_all i ps past)) ∙ so.left

-- none is tried at first, where none is pruned
pub begins_each : (e : Expansion) (old : List (Row × List ℕ)) → IsExpanding e old → IsTriedTo e old old None 0
begins_each e old h = record {
  expanding = h;
  places = refl;
  left = ap (λ qs. kept e old (led_by e old 0 qs)) (all_left (actions_of e));
  first = ap (λ qs. first_good e (led_by e old 0 qs)) (all_left (actions_of e));
  tried = λ j b s at pruned led. absurd (cc);
}

-- ---- the path that is answered

map_twice : {A B C : Type 0} (f : B → C) (g : A → B) (o : Option A) → option_map f (option_map g o) ≡ option_map (λ x. f (g x)) o
map_twice f g None = refl
map_twice f g (Some x) = refl

-- the acts of the places that are found are those of the first lead that meets the goal
pub path_found : (e : Expansion) (old : List (Row × List ℕ)) (o : Option ℕ) → option_map (λ i. places_of old e.from ++ i ∷ []) o ≡ option_map (λ (l : Lead). l.places) (first_good e (all_led e old)) → option_map (λ i. acts_at (actions_of e) (places_of old e.from ++ i ∷ [])) o ≡ option_map (λ (l : Lead). acts_at (actions_of e) l.places) (first_good e (all_led e old))
path_found e old o is =
    let acts = acts_at (actions_of e) in
    sym (map_twice acts (λ i. places_of old e.from ++ i ∷ []) o)
    ∙ ap (option_map acts) is
    ∙ map_twice acts (λ (l : Lead). l.places) (first_good e (all_led e old))

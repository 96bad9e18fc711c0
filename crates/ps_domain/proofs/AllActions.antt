-- The list of all ground actions has those of the acts that can be grounded, and rises.
use Rattle.std.proofs.Common.{◌≡◌, ◌==◌, ◌⊎◌, inl, inr, ℕ, ◌+◌, ◌<◌, Bool, true, false, cond, if◌then◌else◌, Option, Some, None, find, Ok, Err, List, [], ◌∷◌, length, map, filter, fold, refl, sym, ap, subst, ◌∙◌, arith, eq-eqb, eqb-true}
use Rattle.std.specs.List.{AllByRecursion, AllZip, position_or_len}
use Rattle.std.specs.Map.{lookup}
use Rattle.std.specs.BTreeMap.{insert_entry}
use Rattle.std.specs.Option.{option_or}
use Rattle.std.specs.Cmp.{nat_cmp_is}
use Rattle.std.specs.Cmp.Lexicographic.{slice_cmp}
use Rattle.std.specs.Ordering.{match_ordering, nat_cmp, ordering_then}
use Rattle.std.specs.declared.cmp.Ordering.{Ordering}
use Rattle.std.specs.declared.cmp.Ordering.TheVariants.{Less, Equal, Greater}
use Rattle.std.proofs.lemmas.Cmp.{ranked}
use Rattle.ps_world.specs.Names.{same_name, name_cmp}
use Rattle.ps_world.specs.Knowledge.{action_of, is_below}
use Rattle.ps_world.specs.declared.names.Name.{Name}
use Rattle.ps_world.specs.declared.actions.ActionDef.{ActionDef}
use Rattle.ps_world.specs.declared.domains.Param.{Param}
use Rattle.ps_world.specs.declared.domains.Domain.{Domain}
use Rattle.ps_action.specs.Refusals.{unless}
use Rattle.ps_action.specs.Grounding.{with_named, by_name, choices, picks, grounded, unfit, first_unfit, ground_by, ground_act, all_of_action, all_ground}
use Rattle.ps_action.specs.declared.acts.Act.{Act}
use Rattle.ps_action.specs.declared.acts.GroundAction.{GroundAction}
use Rattle.ps_action.specs.declared.refusals.GroundRefusal.{GroundRefusal}
use Rattle.ps_action.specs.declared.refusals.GroundRefusal.TheVariants.{Arity, WrongType}
use Rattle.ps_domain.specs.Laws.{place_of, ground_cmp, GroundActionsAreAll}
use Rattle.ps_domain.specs.Listing.{ground_with}
use Rattle.ps_domain.proofs.Indexes.{same_turned}
use Rattle.ps_domain.proofs.Counts.{Rises, rises-insert, tied}
use Rattle.ps_domain.proofs.Pairs.{Pairs, each, each_weaker, each_of_two, each_mapped, pairs_from_AllPairs, pairs_kept, pairs_mapped, pairs_of_pieces, pairs_weaker, pairs_weaker_with, sorted_from_pairs}
use Rattle.ps_domain.proofs.Members.{Has, has_from_Contains, Contains_from_has, has_all, has_passed, has_passes, has_found, has_mapped, has_image, has_piece, has_in_piece, zip_length, zip_weaker, zip_back}
use Rattle.ps_action.proofs.Facts.{same_name-is}

-- ---- names

untied : (n m : Name) → same_name n m ≡ false → Equal ≡ name_cmp n m → ⊥
untied n m h e = let same : same_name n m ≡ true = tied n m (ranked n.0 m.0 Equal e) in cc

lower : (n m : ℕ) → n < m → nat_cmp n m ≡ Less
lower n m h = sym (nat_cmp_is n m Less h)

level : (n : ℕ) → nat_cmp n n ≡ Equal
level n = sym (nat_cmp_is n n Equal refl)

-- ---- instances in the order of their names

-- none of these instances has the name
abbrev Unnamed : Name → List (Name × Name) → Type 0
Unnamed n es = AllByRecursion (λ e. same_name n e.0 ≡ false) es

-- no name stands twice
abbrev Apart : List (Name × Name) → Type 0
Apart es = Pairs (λ i j. same_name i.0 j.0 ≡ false) es

unnamed-insert : (n k v : Name) (es : List (Name × Name)) → same_name n k ≡ false → Unnamed n es → Unnamed n (insert_entry name_cmp es k v)
unnamed-insert n k v [] s a = (s, tt)
unnamed-insert n k v (e ∷ es) s a =
    elim (name_cmp k e.0) as (λ r. Unnamed n (match_ordering r ((k, v) ∷ e ∷ es) ((e.0, v) ∷ es) (e ∷ insert_entry name_cmp es k v))) [
      | Less ↦ (s, a)
      | Equal ↦ a
      | Greater ↦ (a.0, unnamed-insert n k v es s a.1)
    ]

put_from : (k v : Name) (e x : Name × Name) (es : List (Name × Name)) (r : Ordering) → r ≡ name_cmp k e.0 → Unnamed k (e ∷ es) → (Has (insert_entry name_cmp es k v) x → ((k, v) ≡ x) ⊎ Has es x)
    → Has (match_ordering r ((k, v) ∷ e ∷ es) ((e.0, v) ∷ es) (e ∷ insert_entry name_cmp es k v)) x → ((k, v) ≡ x) ⊎ Has (e ∷ es) x
put_from k v e x es Less is a rest h = h
put_from k v e x es Equal is a rest h = absurd (untied k e.0 a.0 is)
put_from k v e x es Greater is a rest (inl h) = inr (inl h)
put_from k v e x es Greater is a rest (inr h) = elim (rest h) [ inl m ↦ inl m | inr m ↦ inr (inr m) ]

has_put_from : (k v : Name) (es : List (Name × Name)) (x : Name × Name) → Unnamed k es → Has (insert_entry name_cmp es k v) x → ((k, v) ≡ x) ⊎ Has es x
has_put_from k v [] x a h = h
has_put_from k v (e ∷ es) x a h = put_from k v e x es (name_cmp k e.0) refl a (has_put_from k v es x a.1) h

put_to : (k v : Name) (e x : Name × Name) (es : List (Name × Name)) (r : Ordering) → r ≡ name_cmp k e.0 → Unnamed k (e ∷ es) → (((k, v) ≡ x) ⊎ Has es x → Has (insert_entry name_cmp es k v) x) → ((k, v) ≡ x) ⊎ Has (e ∷ es) x
    → Has (match_ordering r ((k, v) ∷ e ∷ es) ((e.0, v) ∷ es) (e ∷ insert_entry name_cmp es k v)) x
put_to k v e x es Less is a rest h = h
put_to k v e x es Equal is a rest h = absurd (untied k e.0 a.0 is)
put_to k v e x es Greater is a rest (inl h) = inr (rest (inl h))
put_to k v e x es Greater is a rest (inr (inl h)) = inl h
put_to k v e x es Greater is a rest (inr (inr h)) = inr (rest (inr h))

has_put_to : (k v : Name) (es : List (Name × Name)) (x : Name × Name) → Unnamed k es → ((k, v) ≡ x) ⊎ Has es x → Has (insert_entry name_cmp es k v) x
has_put_to k v [] x a h = h
has_put_to k v (e ∷ es) x a h = put_to k v e x es (name_cmp k e.0) refl a (has_put_to k v es x a.1) h

-- none of the others has the name of one that is put in, so they are no names of what is there then
others_new : (x : Name × Name) (xs es : List (Name × Name)) → Unnamed x.0 xs → AllByRecursion (λ y. Unnamed y.0 es) xs → AllByRecursion (λ y. Unnamed y.0 (with_named es x)) xs
others_new x xs es p a =
    each_of_two (λ y. same_name x.0 y.0 ≡ false) (λ y. Unnamed y.0 es) (λ y. Unnamed y.0 (with_named es x)) (λ y s u. unnamed-insert y.0 x.0 x.1 es (same_turned y.0 x.0 ∙ s) u) xs p a

named_from : (xs es : List (Name × Name)) (e : Name × Name) → Apart xs → AllByRecursion (λ x. Unnamed x.0 es) xs → Has (fold with_named es xs) e → Has es e ⊎ Has xs e
named_from [] es e p a h = inl h
named_from (x ∷ xs) es e p a h =
    elim (named_from xs (with_named es x) e p.1 (others_new x xs es p.0 a.1) h) [
      | inl m ↦ elim (has_put_from x.0 x.1 es e a.0 m) [ inl k ↦ inr (inl k) | inr k ↦ inl k ]
      | inr m ↦ inr (inr m)
    ]

named_to : (xs es : List (Name × Name)) (e : Name × Name) → Apart xs → AllByRecursion (λ x. Unnamed x.0 es) xs → Has es e ⊎ Has xs e → Has (fold with_named es xs) e
named_to [] es e p a (inl h) = h
named_to [] es e p a (inr h) = absurd h
named_to (x ∷ xs) es e p a (inl h) = named_to xs (with_named es x) e p.1 (others_new x xs es p.0 a.1) (inl (has_put_to x.0 x.1 es e a.0 (inr h)))
named_to (x ∷ xs) es e p a (inr (inl h)) = named_to xs (with_named es x) e p.1 (others_new x xs es p.0 a.1) (inl (has_put_to x.0 x.1 es e a.0 (inl h)))
named_to (x ∷ xs) es e p a (inr (inr h)) = named_to xs (with_named es x) e p.1 (others_new x xs es p.0 a.1) (inr h)

rises-fold : (xs es : List (Name × Name)) → Rises es → Rises (fold with_named es xs)
rises-fold [] es h = h
rises-fold (x ∷ xs) es h = rises-fold xs (with_named es x) (rises-insert x.0 x.1 es h)

kind_at : (n kind : Name) (e : Name × Name) (es : List (Name × Name)) (b : Bool) → same_name n e.0 ≡ b → (lookup (same_name n) es ≡ Some kind → Has es (n, kind)) → cond b (Some e.1) (lookup (same_name n) es) ≡ Some kind → Has (e ∷ es) (n, kind)
kind_at n kind e es true s rest h =
    let name : e.0 ≡ n = sym (same_name-is n e.0 s) in
    let type : e.1 ≡ kind = cc in
    inl (λ i. (name i, type i))
kind_at n kind e es false s rest h = inr (rest h)

has_from_lookup : (n kind : Name) (es : List (Name × Name)) → lookup (same_name n) es ≡ Some kind → Has es (n, kind)
has_from_lookup n kind [] h = absurd (cc)
has_from_lookup n kind (e ∷ es) h = kind_at n kind e es (same_name n e.0) refl (has_from_lookup n kind es) h

lookup_from_has : (n kind : Name) (es : List (Name × Name)) → Apart es → Has es (n, kind) → lookup (same_name n) es ≡ Some kind
lookup_from_has n kind [] p h = absurd h
lookup_from_has n kind (e ∷ es) p (inl h) =
    let same : same_name n e.0 ≡ true = tied n e.0 (ap (λ (x : Name × Name). x.0.0) (sym h)) in
    ap (λ (b : Bool). cond b (Some e.1) (lookup (same_name n) es)) same ∙ ap (λ (x : Name × Name). Some x.1) h
lookup_from_has n kind (e ∷ es) p (inr h) =
    let other : same_name e.0 n ≡ false = has_all (λ x. same_name e.0 x.0 ≡ false) es (n, kind) p.0 h in
    ap (λ (b : Bool). cond b (Some e.1) (lookup (same_name n) es)) (same_turned n e.0 ∙ other) ∙ lookup_from_has n kind es p.1 h

-- ---- arguments that fit

module _ (d : Domain) (instances : List (Name × Name)) where
  -- the name is an instance whose type is the parameter's or below it
  abbrev Fits : Param → Name → Type 0
  Fits p n = (kind : Name) × (lookup (same_name n) instances ≡ Some kind) × (is_below d kind p.kind ≡ true)

  fit_below : (p : Param) (n kind : Name) (at : ℕ) (rest : Option GroundRefusal) (b : Bool) → is_below d kind p.kind ≡ b → lookup (same_name n) instances ≡ Some kind → option_or (if b then None else Some (WrongType at)) rest ≡ None → Fits p n × (rest ≡ None)
  fit_below p n kind at rest true s l h = ((kind, l, s), h)
  fit_below p n kind at rest false s l h = absurd (cc)

  fit_at : (p : Param) (n : Name) (at : ℕ) (rest : Option GroundRefusal) (o : Option Name) → lookup (same_name n) instances ≡ o → option_or (unfit d o p.kind n at) rest ≡ None → Fits p n × (rest ≡ None)
  fit_at p n at rest None l h = absurd (cc)
  fit_at p n at rest (Some kind) l h = fit_below p n kind at rest (is_below d kind p.kind) refl l h

  fits_from : (ps : List Param) (ns : List Name) (at : ℕ) → length ps ≡ length ns → first_unfit d instances ps ns at ≡ None → AllZip Fits ps ns
  fits_from [] [] at long h = tt
  fits_from [] (n ∷ ns) at long h = absurd (omega arith)
  fits_from (p ∷ ps) [] at long h = absurd (omega arith)
  fits_from (p ∷ ps) (n ∷ ns) at long h =
      let m = fit_at p n at (first_unfit d instances ps ns (at + 1)) (lookup (same_name n) instances) refl h in
      (m.0, fits_from ps ns (at + 1) (omega arith) m.1)

  fits_to : (ps : List Param) (ns : List Name) (at : ℕ) → AllZip Fits ps ns → first_unfit d instances ps ns at ≡ None
  fits_to [] [] at a = refl
  fits_to [] (n ∷ ns) at a = absurd a
  fits_to (p ∷ ps) [] at a = absurd a
  fits_to (p ∷ ps) (n ∷ ns) at a = rw (a.0.1, a.0.2) (fits_to ps ns (at + 1) a.1)

  module _ (once : Apart instances) where
    choice_from : (p : Param) (n : Name) → Has (choices d instances p) n → Fits p n
    choice_from p n h =
        let m = has_mapped (λ i. i.0) (filter (λ i. is_below d i.1 p.kind) (by_name instances)) n h in
        let k = has_passed (λ i. is_below d i.1 p.kind) (by_name instances) m.0 m.1 in
        let there : Has instances m.0 = elim (named_from instances [] m.0 once (each (λ x. Unnamed x.0 []) (λ x. tt) instances) k.0) [ inl e ↦ absurd e | inr e ↦ e ] in
        (m.0.1, lookup_from_has n m.0.1 instances once (subst (λ (q : Name). Has instances (q, m.0.1)) m.2 there), k.1)

    choice_to : (p : Param) (n : Name) → Fits p n → Has (choices d instances p) n
    choice_to p n f =
        let there = named_to instances [] (n, f.0) once (each (λ x. Unnamed x.0 []) (λ x. tt) instances) (inr (has_from_lookup n f.0 instances f.1)) in
        has_image (λ i. i.0) (filter (λ i. is_below d i.1 p.kind) (by_name instances)) (n, f.0) (has_passes (λ i. is_below d i.1 p.kind) (by_name instances) (n, f.0) f.2 there)

-- ---- lists of arguments

picks_from : (lists : List (List Name)) (args : List Name) → Has (picks lists) args → AllZip Has lists args
picks_from [] [] h = tt
picks_from [] (n ∷ args) (inl e) = absurd (cc)
picks_from [] (n ∷ args) (inr e) = absurd e
picks_from (ns ∷ lists) args h =
    let m = has_piece (λ n. map (λ more. n ∷ more) (picks lists)) ns args h in
    let k = has_mapped (λ (more : List Name). m.0 ∷ more) (picks lists) args m.2 in
    subst (λ (l : List Name). AllZip Has (ns ∷ lists) l) k.2 (m.1, picks_from lists k.0 k.1)

picks_to : (lists : List (List Name)) (args : List Name) → AllZip Has lists args → Has (picks lists) args
picks_to [] [] a = inl refl
picks_to [] (n ∷ args) a = absurd a
picks_to (ns ∷ lists) [] a = absurd a
picks_to (ns ∷ lists) (n ∷ args) a =
    has_in_piece (λ n. map (λ more. n ∷ more) (picks lists)) ns n (n ∷ args) a.0 (has_image (λ (more : List Name). n ∷ more) (picks lists) args (picks_to lists args a.1))

-- the first list of arguments is below the second
abbrev IsLower : List Name → List Name → Type 0
IsLower xs ys = slice_cmp name_cmp xs ys ≡ Less

-- each list of names rises
abbrev AllRise : List (List Name) → Type 0
AllRise lists = AllByRecursion (λ ns. Pairs (λ n m. n.0 < m.0) ns) lists

picks_rise : (lists : List (List Name)) → AllRise lists → Pairs IsLower (picks lists)
picks_rise [] a = (tt, tt)
picks_rise (ns ∷ lists) a =
    let F : Name → List (List Name) = λ n. map (λ more. n ∷ more) (picks lists) in
    let apiece : AllByRecursion (λ n. Pairs IsLower (F n)) ns =
    each (λ n. Pairs IsLower (F n)) (λ n. pairs_mapped IsLower (λ (more : List Name). n ∷ more) (picks lists) (pairs_weaker IsLower (λ x y. IsLower (n ∷ x) (n ∷ y)) (λ x y l. ap (λ (r : Ordering). ordering_then r (slice_cmp name_cmp x y)) (level n.0) ∙ l) (picks lists) (picks_rise lists a.1))) ns in
    let across : Pairs (λ n m. AllByRecursion (λ x. AllByRecursion (IsLower x) (F m)) (F n)) ns =
    pairs_weaker (λ n m. n.0 < m.0) (λ n m. AllByRecursion (λ x. AllByRecursion (IsLower x) (F m)) (F n))
    (λ n m lt. each_mapped (λ x. AllByRecursion (IsLower x) (F m)) (λ (more : List Name). n ∷ more) (picks lists)
    (each (λ x. AllByRecursion (IsLower (n ∷ x)) (F m)) (λ x. each_mapped (IsLower (n ∷ x)) (λ (more : List Name). m ∷ more) (picks lists)
    (each (λ y. IsLower (n ∷ x) (m ∷ y)) (λ y. ap (λ (r : Ordering). ordering_then r (slice_cmp name_cmp x y)) (lower n.0 m.0 lt)) (picks lists))) (picks lists))) ns a.0 in
    pairs_of_pieces IsLower F ns apiece across

choices_rise : (d : Domain) (instances : List (Name × Name)) (p : Param) → Pairs (λ n m. n.0 < m.0) (choices d instances p)
choices_rise d instances p =
    pairs_mapped (λ n m. n.0 < m.0) (λ i. i.0) (filter (λ i. is_below d i.1 p.kind) (by_name instances))
    (pairs_kept (λ i j. i.0.0 < j.0.0) (λ i. is_below d i.1 p.kind) (by_name instances) (rises-fold instances [] tt))

-- ---- actions

-- no two of these actions have one name
abbrev AreApart : List ActionDef → Type 0
AreApart actions = Pairs (λ a b. same_name a.name b.name ≡ false) actions

found_there : (a : ActionDef) (actions : List ActionDef) → AreApart actions → Has actions a → find (λ b. same_name a.name b.name) actions ≡ Some a
found_there a [] p h = absurd h
found_there a (b ∷ actions) p (inl e) =
    ap (λ (t : Bool). cond t (Some b) (find (λ c. same_name a.name c.name) actions)) (tied a.name b.name (ap (λ (c : ActionDef). c.name.0) (sym e))) ∙ ap (λ (c : ActionDef). Some c) e
found_there a (b ∷ actions) p (inr h) =
    let other : same_name b.name a.name ≡ false = has_all (λ c. same_name b.name c.name ≡ false) actions a p.0 h in
    ap (λ (t : Bool). cond t (Some b) (find (λ c. same_name a.name c.name) actions)) (same_turned a.name b.name ∙ other) ∙ found_there a actions p.1 h

-- the place of a name among actions
abbrev place_in : List ActionDef → Name → ℕ
place_in actions n = position_or_len (λ a. same_name n a.name) actions

place_later : (a : ActionDef) (actions : List ActionDef) (n : Name) → same_name a.name n ≡ false → place_in (a ∷ actions) n ≡ 1 + place_in actions n
place_later a actions n s = rw (same_turned n a.name, s) refl

places_rise : (actions : List ActionDef) → AreApart actions → Pairs (λ a b. place_in actions a.name < place_in actions b.name) actions
places_rise [] p = tt
places_rise (a ∷ actions) p =
    let here : place_in (a ∷ actions) a.name ≡ 0 = rw (tied a.name a.name refl) refl in (
      each_weaker (λ b. same_name a.name b.name ≡ false) (λ b. place_in (a ∷ actions) a.name < place_in (a ∷ actions) b.name)
          (λ b s. let later = place_later a actions b.name s in omega (arith, here, later)) actions p.0,
      pairs_weaker_with (λ b. same_name a.name b.name ≡ false) (λ b c. place_in actions b.name < place_in actions c.name) (λ b c. place_in (a ∷ actions) b.name < place_in (a ∷ actions) c.name)
          (λ b c s t lt. let first = place_later a actions b.name s in let second = place_later a actions c.name t in omega (arith, first, second, lt)) actions p.0 (places_rise actions p.1),
    )

-- ---- the law

module _ (d : Domain) (instances : List (Name × Name)) where
  -- the first ground action stands before the second
  abbrev IsBefore : GroundAction → GroundAction → Type 0
  IsBefore g h = ground_cmp d g h ≡ Less

  -- the lists of arguments of an action
  abbrev lists : ActionDef → List (List Name)
  lists a = picks (map (choices d instances) a.params)

  action_rises : (a : ActionDef) → Pairs IsBefore (all_of_action d instances a)
  action_rises a =
      let rising : AllRise (map (choices d instances) a.params) =
      each_mapped (λ ns. Pairs (λ n m. n.0 < m.0) ns) (choices d instances) a.params (each (λ p. Pairs (λ n m. n.0 < m.0) (choices d instances p)) (choices_rise d instances) a.params) in
      pairs_mapped IsBefore (ground_with a) (lists a)
      (pairs_weaker IsLower (λ x y. IsBefore (ground_with a x) (ground_with a y))
      (λ x y l. ap (λ (r : Ordering). ordering_then r (slice_cmp name_cmp x y)) (level (place_of d a.name)) ∙ l) (lists a) (picks_rise (map (choices d instances) a.params) rising))

  -- each of the first action's stands before each of the second's
  abbrev AreBefore : ActionDef → ActionDef → Type 0
  AreBefore a b = AllByRecursion (λ g. AllByRecursion (IsBefore g) (all_of_action d instances b)) (all_of_action d instances a)

  actions_before : (a b : ActionDef) → place_of d a.name < place_of d b.name → AreBefore a b
  actions_before a b lt =
      each_mapped (λ g. AllByRecursion (IsBefore g) (all_of_action d instances b)) (ground_with a) (lists a)
      (each (λ x. AllByRecursion (IsBefore (ground_with a x)) (all_of_action d instances b))
      (λ x. each_mapped (IsBefore (ground_with a x)) (ground_with b) (lists b)
      (each (λ y. IsBefore (ground_with a x) (ground_with b y)) (λ y. ap (λ (r : Ordering). ordering_then r (slice_cmp name_cmp x y)) (lower (place_of d a.name) (place_of d b.name) lt)) (lists b))) (lists a))

  all_rise : AreApart d.actions → Pairs IsBefore (all_ground d instances)
  all_rise apart =
      pairs_of_pieces IsBefore (all_of_action d instances) d.actions (each (λ a. Pairs IsBefore (all_of_action d instances a)) action_rises d.actions)
      (pairs_weaker (λ a b. place_of d a.name < place_of d b.name) AreBefore actions_before d.actions (places_rise d.actions apart))

  module _ (once : Apart instances) where
    listed : (a : ActionDef) (act : Act) (g : GroundAction) → Has d.actions a → act.action ≡ a.name → AllZip (Fits d instances) a.params act.args → grounded a act ≡ g → Has (all_ground d instances) g
    listed a act g there name fits is =
        let picked = picks_to (map (choices d instances) a.params) act.args (zip_weaker (Fits d instances) Has (choices d instances) (choice_to d instances once) a.params act.args fits) in
        let same : ground_with a act.args ≡ g = ap (λ (n : Name). grounded a (record { action = n; args = act.args })) (sym name) ∙ is in
        has_in_piece (all_of_action d instances) d.actions a g there (subst (λ (h : GroundAction). Has (all_of_action d instances a) h) same (has_image (ground_with a) (lists a) act.args picked))

    where_fit : (a : ActionDef) (act : Act) (g : GroundAction) (o : Option GroundRefusal) → first_unfit d instances a.params act.args 0 ≡ o → unless o (grounded a act) ≡ Ok g → (first_unfit d instances a.params act.args 0 ≡ None) × (grounded a act ≡ g)
    where_fit a act g None s h = (s, cc)
    where_fit a act g (Some r) s h = absurd (cc)

    where_long : (a : ActionDef) (act : Act) (g : GroundAction) (b : Bool) → (length a.params == length act.args) ≡ b → Has d.actions a → act.action ≡ a.name
        → (if b then unless (first_unfit d instances a.params act.args 0) (grounded a act) else Err (Arity (length a.params) (length act.args))) ≡ Ok g → Has (all_ground d instances) g
    where_long a act g true s there name h =
        let m = where_fit a act g (first_unfit d instances a.params act.args 0) refl h in
        listed a act g there name (fits_from d instances a.params act.args 0 (eqb-true (length a.params) (length act.args) s) m.0) m.1
    where_long a act g false s there name h = absurd (cc)

    where_there : (act : Act) (g : GroundAction) (o : Option ActionDef) → action_of d act.action ≡ o → ground_by d instances o act ≡ Ok g → Has (all_ground d instances) g
    where_there act g None s h = absurd (cc)
    where_there act g (Some a) s h =
        let m = has_found (λ b. same_name act.action b.name) d.actions a s in
        where_long a act g (length a.params == length act.args) refl m.0 (same_name-is act.action a.name m.1) h

    -- what is grounded stands in the list
    grounded_in : (act : Act) (g : GroundAction) → ground_act d instances act ≡ Ok g → Has (all_ground d instances) g
    grounded_in act g h = where_there act g (action_of d act.action) refl h

    -- and what stands there is grounded
    in_grounded : AreApart d.actions → (g : GroundAction) → Has (all_ground d instances) g → (act : Act) × (ground_act d instances act ≡ Ok g)
    in_grounded apart g h =
        let m = has_piece (all_of_action d instances) d.actions g h in
        let a = m.0 in
        let k = has_mapped (ground_with a) (lists a) g m.2 in
        let args = k.0 in
        let act : Act = record { action = a.name; args = args } in
        let fits = zip_back (Fits d instances) Has (choices d instances) (choice_from d instances once) a.params args (picks_from (map (choices d instances) a.params) args k.1) in
        let long : (length a.params == length args) ≡ true = eq-eqb (length a.params) (length args) (zip_length (Fits d instances) a.params args fits) in (
          act,
          ap (λ (o : Option ActionDef). ground_by d instances o act) (found_there a d.actions apart m.1)
              ∙ (ap (λ (b : Bool). if b then unless (first_unfit d instances a.params args 0) (grounded a act) else Err (Arity (length a.params) (length args))) long
              ∙ (ap (λ (o : Option GroundRefusal). unless o (grounded a act)) (fits_to d instances a.params args 0 fits) ∙ ap (λ (x : GroundAction). Ok x) k.2)),
        )

pub ground_actions_are_all : GroundActionsAreAll
ground_actions_are_all = λ d instances apart once.
    let actions = pairs_from_AllPairs (λ a b. same_name a.name b.name ≡ false) d.actions apart in
    let names = pairs_from_AllPairs (λ i j. same_name i.0 j.0 ≡ false) instances once in
    record {
      just = λ g. (
        λ c. in_grounded d instances names actions g (has_from_Contains (all_ground d instances) g c),
        λ m. Contains_from_has (all_ground d instances) g (grounded_in d instances names m.0 g m.1),
      );
      rises = sorted_from_pairs (ground_cmp d) (all_ground d instances) (all_rise d instances actions);
    }

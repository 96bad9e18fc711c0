-- Nodes: which is next, and what it leads to.
use Rattle.std.proofs.Common.{◌≡◌, ◌⊎◌, ℕ, ◌<◌, ◌≤◌, nat_le, nat_lt, nat_eq, Bool, true, false, cond, not, ◌||◌, ◌&&◌, List, [], ◌∷◌, ◌++◌, Option, Some, None, option_map, length, map, filter_map, find, inl, inr, refl, ap, sym, ◌∙◌, subst}
use Rattle.std.specs.Cmp.{first_so, second_so}
use Rattle.std.specs.List.{cons_option, list_any}
use Rattle.ps_world.specs.declared.domains.Domain.{Domain}
use Rattle.ps_world.specs.declared.known.Knowledge.{Knowledge}
use Rattle.ps_action.specs.Search.{is_there, same_known}
use Rattle.ps_action.specs.declared.acts.Act.{Act}
use Rattle.std.proofs.lemmas.Bool.{or_left, or_parts, or_right}
use Rattle.ps_action.proofs.Contained.{or_cases}
use Rattle.ps_domain.proofs.Members.{Has}
use Rattle.ps_greedy.specs.Greedy.{Spot, can_expand, done, next, next_before, unseen}
use Rattle.ps_greedy.proofs.Known.{known_itself}

-- ---- lists

module _ {X Y : Type 0} (h : X → Option Y) where
  given_from : (x : X) (xs : List X) (y : Y) (o : Option Y) → h x ≡ o → (Has (filter_map h xs) y → (z : X) × Has xs z × (h z ≡ Some y)) → Has (cons_option o (filter_map h xs)) y → (z : X) × Has (x ∷ xs) z × (h z ≡ Some y)
  given_from x xs y None e rest a = let w = rest a in (w.0, inr w.1, w.2)
  given_from x xs y (Some z) e rest (inl same) = (x, inl refl, e ∙ ap Some same)
  given_from x xs y (Some z) e rest (inr a) = let w = rest a in (w.0, inr w.1, w.2)

  pub has_given : (xs : List X) (y : Y) → Has (filter_map h xs) y → (x : X) × Has xs x × (h x ≡ Some y)
  has_given [] y a = absurd a
  has_given (x ∷ xs) y a = given_from x xs y (h x) refl (has_given xs y) a

  later_given : (o : Option Y) (ys : List Y) (y : Y) → Has ys y → Has (cons_option o ys) y
  later_given None ys y a = a
  later_given (Some z) ys y a = inr a

  gift_at : (x : X) (xs : List X) (y : Y) (o : Option Y) → h x ≡ o → h x ≡ Some y → Has (cons_option o (filter_map h xs)) y
  gift_at x xs y None e s = absurd (cc)
  gift_at x xs y (Some z) e s = let same : z ≡ y = cc in inl same

  pub has_gift : (xs : List X) (x : X) (y : Y) → Has xs x → h x ≡ Some y → Has (filter_map h xs) y
  has_gift [] x y a e = absurd a
  has_gift (z ∷ zs) x y (inl same) e = gift_at z zs y (h z) refl (ap h same ∙ e)
  has_gift (z ∷ zs) x y (inr a) e = later_given (h z) (filter_map h zs) y (has_gift zs x y a e)

pub has_either : {X : Type 0} (xs ys : List X) (x : X) → Has (xs ++ ys) x → Has xs x ⊎ Has ys x
has_either [] ys x h = inr h
has_either (z ∷ zs) ys x (inl e) = inl (inl e)
has_either (z ∷ zs) ys x (inr h) = elim (has_either zs ys x h) [ inl m ↦ inl (inr m) | inr m ↦ inr m ]

module _ {X : Type 0} (p : X → Bool) where
  none_at : (z x : X) (zs : List X) (b : Bool) → p z ≡ b → (find p zs ≡ None → Has zs x → p x ≡ false) → cond b (Some z) (find p zs) ≡ None → Has (z ∷ zs) x → p x ≡ false
  none_at z x zs true s h e a = absurd (cc)
  none_at z x zs false s h e (inl same) = ap p (sym same) ∙ s
  none_at z x zs false s h e (inr a) = h e a

  -- where none is found, none passes
  pub none_found : (xs : List X) (x : X) → find p xs ≡ None → Has xs x → p x ≡ false
  none_found [] x e a = absurd a
  none_found (z ∷ zs) x e a = none_at z x zs (p z) refl (none_found zs x) e a

  pub none_any : (xs : List X) (x : X) → list_any p xs ≡ false → Has xs x → p x ≡ false
  none_any [] x e a = absurd a
  none_any (z ∷ zs) x e (inl same) = ap p (sym same) ∙ (or_parts (p z) (list_any p zs) e).0
  none_any (z ∷ zs) x e (inr a) = none_any zs x ((or_parts (p z) (list_any p zs) e).1) a

-- ---- which is next

abbrev pub knowns : List Spot → List Knowledge
knowns ns = map (λ m. m.known) ns

-- the next of these nodes is one of them that can be expanded, and beside it nothing changes
pub record IsNext (ns : List Spot) (n : Spot) (more : List Spot) : Type 0 where
  pub among : Has ns n
  pub may : can_expand n ≡ true
  pub known : knowns more ≡ knowns ns
  pub others : (m : Spot) → Has more m → Has ns m ⊎ (done n ≡ m)

next_here : (n : Spot) (ns : List Spot) → can_expand n ≡ true → IsNext (n ∷ ns) n (done n ∷ ns)
next_here n ns e = record {
  among = inl refl;
  may = e;
  known = refl;
  others = λ m a. elim a [ inl same ↦ inr same | inr later ↦ inl (inr later) ];
}

next_there : (n m : Spot) (ns ms : List Spot) → IsNext ns m ms → IsNext (n ∷ ns) m (n ∷ ms)
next_there n m ns ms s = record {
  among = inr s.among;
  may = s.may;
  known = ap (λ ks. n.known ∷ ks) s.known;
  others = λ x a. elim a [
    | inl same ↦ inl (inl same)
    | inr later ↦ elim (s.others x later) [ inl old ↦ inl (inr old) | inr new ↦ inr new ]
  ];
}

chosen : (n : Spot) (ns : List Spot) (b : Bool) (m : Spot × List Spot) (u : Spot × List Spot) → (b ≡ true → can_expand n ≡ true) → IsNext ns m.0 m.1 → cond b (Some (n, done n ∷ ns)) (Some (m.0, n ∷ m.1)) ≡ Some u → IsNext (n ∷ ns) u.0 u.1
chosen n ns true m u may s e =
    let same : (n, done n ∷ ns) ≡ u = cc in
    let P : Spot × List Spot → Type 0 = λ w. IsNext (n ∷ ns) w.0 w.1 in
    subst P same (next_here n ns (may refl))
chosen n ns false m u may s e =
    let same : (m.0, n ∷ m.1) ≡ u = cc in
    let P : Spot × List Spot → Type 0 = λ w. IsNext (n ∷ ns) w.0 w.1 in
    subst P same (next_there n m.0 ns m.1 s)

alone : (n : Spot) (ns : List Spot) (b : Bool) (u : Spot × List Spot) → can_expand n ≡ b → cond b (Some (n, done n ∷ ns)) None ≡ Some u → IsNext (n ∷ ns) u.0 u.1
alone n ns true u s e =
    let same : (n, done n ∷ ns) ≡ u = cc in
    let P : Spot × List Spot → Type 0 = λ w. IsNext (n ∷ ns) w.0 w.1 in
    subst P same (next_here n ns s)
alone n ns false u s e = absurd (cc)

next_by : (n : Spot) (ns : List Spot) (o : Option (Spot × List Spot)) (u : Spot × List Spot) → ((m : Spot × List Spot) → o ≡ Some m → IsNext ns m.0 m.1) → next_before n ns o ≡ Some u → IsNext (n ∷ ns) u.0 u.1
next_by n ns None u h e = alone n ns (can_expand n) u refl e
next_by n ns (Some m) u h e =
    let fewer = nat_le (length n.missing) (length m.0.missing) in
    chosen n ns (can_expand n && fewer) m u (λ s. first_so (can_expand n) fewer s) (h m refl) e

pub next_is : (ns : List Spot) (u : Spot × List Spot) → next ns ≡ Some u → IsNext ns u.0 u.1
next_is [] u e = absurd (cc)
next_is (n ∷ ns) u e = next_by n ns (next ns) u (next_is ns) e

stuck_alone : (n x : Spot) (ns : List Spot) (b : Bool) → can_expand n ≡ b → cond {A = Option (Spot × List Spot)} b (Some (n, done n ∷ ns)) None ≡ None → (Has ns x → can_expand x ≡ false) → Has (n ∷ ns) x → can_expand x ≡ false
stuck_alone n x ns true s e h a = absurd (cc)
stuck_alone n x ns false s e h (inl same) = ap can_expand (sym same) ∙ s
stuck_alone n x ns false s e h (inr a) = h a

stuck_with : (n : Spot) (ns : List Spot) (m : Spot × List Spot) (b : Bool) → cond {A = Option (Spot × List Spot)} b (Some (n, done n ∷ ns)) (Some (m.0, n ∷ m.1)) ≡ None → ⊥
stuck_with n ns m true e = absurd (cc)
stuck_with n ns m false e = absurd (cc)

stuck_by : (n x : Spot) (ns : List Spot) (o : Option (Spot × List Spot)) → (o ≡ None → Has ns x → can_expand x ≡ false) → next_before n ns o ≡ None → Has (n ∷ ns) x → can_expand x ≡ false
stuck_by n x ns None h e a = stuck_alone n x ns (can_expand n) refl e (h refl) a
stuck_by n x ns (Some m) h e a = absurd (stuck_with n ns m (can_expand n && nat_le (length n.missing) (length m.0.missing)) e)

-- where none is next, none can be expanded
pub stuck : (ns : List Spot) (x : Spot) → next ns ≡ None → Has ns x → can_expand x ≡ false
stuck [] x e a = absurd a
stuck (n ∷ ns) x e a = stuck_by n x ns (next ns) (stuck ns x) e a

-- ---- nodes that weren't seen

unseen_at : (seen : List Knowledge) (n x : Spot) (ns : List Spot) (b : Bool) → ((more : List Knowledge) → Has (unseen more ns) x → Has ns x) → Has (cond b (unseen seen ns) (n ∷ unseen (n.known ∷ seen) ns)) x → Has (n ∷ ns) x
unseen_at seen n x ns true h a = inr (h seen a)
unseen_at seen n x ns false h (inl same) = inl same
unseen_at seen n x ns false h (inr a) = inr (h (n.known ∷ seen) a)

pub is_unseen : (seen : List Knowledge) (ns : List Spot) (x : Spot) → Has (unseen seen ns) x → Has ns x
is_unseen seen [] x a = absurd a
is_unseen seen (n ∷ ns) x a = unseen_at seen n x ns (is_there seen n.known) (λ more. is_unseen more ns x) a

abbrev pub Covered : List Knowledge → List Spot → Knowledge → Type 0
Covered seen new k = (is_there seen k ≡ true) ⊎ (is_there (knowns new) k ≡ true)

covered_at : (seen : List Knowledge) (n x : Spot) (ns : List Spot) (b : Bool) → is_there seen n.known ≡ b → ((more : List Knowledge) → Has ns x → Covered more (unseen more ns) x.known) → Has (n ∷ ns) x → Covered seen (cond b (unseen seen ns) (n ∷ unseen (n.known ∷ seen) ns)) x.known
covered_at seen n x ns true s h (inl same) = inl (ap (λ (m : Spot). is_there seen m.known) (sym same) ∙ s)
covered_at seen n x ns true s h (inr a) = h seen a
covered_at seen n x ns false s h (inl same) =
    let P : Spot → Type 0 = λ m. same_known m.known n.known ≡ true in
    inr (or_left (same_known x.known n.known) (is_there (knowns (unseen (n.known ∷ seen) ns)) x.known) (subst P same (known_itself n.known)))
covered_at seen n x ns false s h (inr a) =
    elim (h (n.known ∷ seen) a) [
      | inl before ↦ elim (or_cases (same_known x.known n.known) (is_there seen x.known) before) [
        | inl here ↦ inr (or_left (same_known x.known n.known) (is_there (knowns (unseen (n.known ∷ seen) ns)) x.known) here)
        | inr old ↦ inl old
      ]
      | inr later ↦ inr (or_right (same_known x.known n.known) (is_there (knowns (unseen (n.known ∷ seen) ns)) x.known) later)
    ]

-- what one of these nodes knows was seen, or is known to one that wasn't
pub covered : (seen : List Knowledge) (ns : List Spot) (x : Spot) → Has ns x → Covered seen (unseen seen ns) x.known
covered seen [] x a = absurd a
covered seen (n ∷ ns) x a = covered_at seen n x ns (is_there seen n.known) refl (λ more. covered more ns x) a

-- what is there is known to a node
pub spot_there : (ns : List Spot) (k : Knowledge) → is_there (knowns ns) k ≡ true → (n : Spot) × Has ns n × (same_known k n.known ≡ true)
spot_there [] k e = absurd (cc)
spot_there (n ∷ ns) k e =
    elim (or_cases (same_known k n.known) (is_there (knowns ns) k) e) [
      | inl here ↦ (n, inl refl, here)
      | inr later ↦ let w = spot_there ns k later in (w.0, inr w.1, w.2)
    ]

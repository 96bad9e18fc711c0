-- A session opens with the constants as its instances, each with its type.
use Rattle.std.proofs.Common.{◌≡◌, ◌⊎◌, ◌+◌, ◌≤◌, suc, Bool, true, false, cond, List, [], ◌∷◌, Option, Some, None, is_some, fold, inl, inr, refl, ap, sym, ◌∙◌, length, All, arith}
use Rattle.std.specs.List.{AllPairs, Contains}
use Rattle.std.specs.List.Sorted.{IsStrictlySortedBy}
use Rattle.std.specs.Map.{lookup, keys_of}
use Rattle.std.specs.BTreeMap.{insert_entry}
use Rattle.std.specs.Ordering.{match_ordering}
use Rattle.std.specs.declared.cmp.Ordering.{Ordering}
use Rattle.std.specs.declared.cmp.Ordering.TheVariants.{Less, Equal, Greater}
use Rattle.std.proofs.lemmas.List.Elements.{All-contains}
use Rattle.ps_world.specs.Names.{name_cmp, same_name}
use Rattle.ps_world.specs.Knowledge.{with_constant}
use Rattle.ps_world.specs.declared.names.Name.{Name}
use Rattle.ps_world.specs.declared.domains.Param.{Param}
use Rattle.ps_action.proofs.Facts.{names_total, same_name-is, same_name-refl}
use Rattle.ps_action.proofs.Keys.{sorted-insert_key, keys-insert_entry}
use Rattle.ps_action.proofs.Contained.{contains_cases, contains_first, contains_later}
use Rattle.ps_problem.proofs.Changes.{kind_after}

-- ---- the instances after some constants

put_in : (instances : List (Name × Name)) (c : Param) (cs : List Param) (n t : Name) (b : Bool) → same_name n c.name ≡ b → cond b (Some c.kind) (lookup (same_name n) instances) ≡ Some t → (lookup (same_name n) instances ≡ Some t) ⊎ ((other : Param) × Contains (c ∷ cs) other × (other.name ≡ n) × (other.kind ≡ t))
put_in instances c cs n t true s e = inr (c, contains_first c c cs refl, sym (same_name-is n c.name s), cc)
put_in instances c cs n t false s e = inl e

-- an instance is one from before, or a constant with its type
pub kind_opened : (instances : List (Name × Name)) (cs : List Param) (n t : Name) → lookup (same_name n) (fold with_constant instances cs) ≡ Some t → (lookup (same_name n) instances ≡ Some t) ⊎ ((c : Param) × Contains cs c × (c.name ≡ n) × (c.kind ≡ t))
kind_opened instances [] n t e = inl e
kind_opened instances (c ∷ cs) n t e =
    elim (kind_opened (with_constant instances c) cs n t e) [
      | inl h ↦ put_in instances c cs n t (same_name n c.name) refl (sym (kind_after instances c.name c.kind n) ∙ h)
      | inr h ↦ inr (h.0, contains_later c h.0 cs h.1, h.2, h.3)
    ]

stays_there : (n : Name) (c : Param) (instances : List (Name × Name)) (b : Bool) → is_some (lookup (same_name n) instances) ≡ true → is_some (cond b (Some c.kind) (lookup (same_name n) instances)) ≡ true
stays_there n c instances true h = refl
stays_there n c instances false h = h

kept_opened : (instances : List (Name × Name)) (cs : List Param) (n : Name) → is_some (lookup (same_name n) instances) ≡ true → is_some (lookup (same_name n) (fold with_constant instances cs)) ≡ true
kept_opened instances [] n h = h
kept_opened instances (c ∷ cs) n h =
    kept_opened (with_constant instances c) cs n (rw (kind_after instances c.name c.kind n) (stays_there n c instances (same_name n c.name) h))

there_opened : (instances : List (Name × Name)) (cs : List Param) (c : Param) → Contains cs c → is_some (lookup (same_name c.name) (fold with_constant instances cs)) ≡ true
there_opened instances [] c h = absurd (omega (arith, h.1))
there_opened instances (x ∷ cs) c h =
    elim (contains_cases x c cs h) [
      | inl e ↦ kept_opened (with_constant instances x) cs c.name (rw (kind_after instances x.name x.kind c.name, same_name-refl c.name x.name (sym (ap (λ (p : Param). p.name) e))) refl)
      | inr later ↦ there_opened (with_constant instances x) cs c later
    ]

from_some : (o : Option Name) → is_some o ≡ true → (t : Name) × (o ≡ Some t)
from_some None e = absurd (cc)
from_some (Some t) e = (t, refl)

apart_head : {X : Type 0} (R : X → X → Type 0) (x : X) (xs : List X) → AllPairs R (x ∷ xs) → All (R x) xs
apart_head R x xs h = λ j d l. h 0 (suc j) d (omega arith) (omega arith)

apart_tail : {X : Type 0} (R : X → X → Type 0) (x : X) (xs : List X) → AllPairs R (x ∷ xs) → AllPairs R xs
apart_tail R x xs h = λ i j d p q. h (suc i) (suc j) d (omega arith) (omega arith)

abbrev Apart : Param → Param → Type 0
Apart x y = same_name x.name y.name ≡ false

-- two constants of one name are the same
one_of_name : (cs : List Param) (a b : Param) → AllPairs Apart cs → Contains cs a → Contains cs b → a.name ≡ b.name → a ≡ b
one_of_name [] a b h p q e = absurd (omega (arith, p.1))
one_of_name (x ∷ xs) a b h p q e =
    let rest = apart_head Apart x xs h in
    elim (contains_cases x a xs p) [
      | inl first ↦ elim (contains_cases x b xs q) [
        | inl other ↦ sym first ∙ other
        | inr later ↦
            let no : same_name x.name b.name ≡ false = All-contains (Apart x) xs b rest later in
            let yes : same_name x.name b.name ≡ true = same_name-refl x.name b.name (ap (λ (c : Param). c.name) first ∙ e) in
            absurd (cc)
      ]
      | inr later ↦ elim (contains_cases x b xs q) [
        | inl other ↦
            let no : same_name x.name a.name ≡ false = All-contains (Apart x) xs a rest later in
            let yes : same_name x.name a.name ≡ true = same_name-refl x.name a.name (ap (λ (c : Param). c.name) other ∙ sym e) in
            absurd (cc)
        | inr other ↦ one_of_name xs a b (apart_tail Apart x xs h) later other e
      ]
    ]

-- each constant is an instance of its type
pub constant_opened : (cs : List Param) (c : Param) → AllPairs Apart cs → Contains cs c → lookup (same_name c.name) (fold with_constant [] cs) ≡ Some c.kind
constant_opened cs c apart h =
    let found = from_some (lookup (same_name c.name) (fold with_constant [] cs)) (there_opened [] cs c h) in
    elim (kind_opened [] cs c.name found.0 found.1) [
      | inl e ↦ absurd (cc)
      | inr w ↦ found.1 ∙ ap Some (sym w.3 ∙ ap (λ (p : Param). p.kind) (one_of_name cs w.0 c apart w.1 h w.2))
    ]

-- ---- how many they are, and their order

pub length-insert_entry : {K X : Type 0} (R : K → K → Ordering) (k : K) (v : X) (es : List (K × X)) → length (insert_entry R es k v) ≤ length es + 1
length-insert_entry R k v [] = omega arith
length-insert_entry R k v (e ∷ es) =
    elim (R k e.0) as (λ r. length (match_ordering r ((k, v) ∷ e ∷ es) ((e.0, v) ∷ es) (e ∷ insert_entry R es k v)) ≤ length (e ∷ es) + 1) [
      | Less ↦ omega arith
      | Equal ↦ omega arith
      | Greater ↦ omega (arith, length-insert_entry R k v es)
    ]

pub few_opened : (instances : List (Name × Name)) (cs : List Param) → length (fold with_constant instances cs) ≤ length instances + length cs
few_opened instances [] = omega arith
few_opened instances (c ∷ cs) =
    omega (arith, few_opened (with_constant instances c) cs, length-insert_entry name_cmp c.name c.kind instances)

pub sorted_opened : (instances : List (Name × Name)) (cs : List Param) → IsStrictlySortedBy name_cmp (keys_of instances) → IsStrictlySortedBy name_cmp (keys_of (fold with_constant instances cs))
sorted_opened instances [] s = s
sorted_opened instances (c ∷ cs) s =
    sorted_opened (with_constant instances c) cs (rw (keys-insert_entry names_total c.name c.kind instances) (sorted-insert_key names_total c.name _ s))

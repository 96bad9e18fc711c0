-- One more name in an index.
use Rattle.std.proofs.Common.{◌≡◌, ℕ, ◌+◌, ◌<◌, Bool, true, false, cond, List, [], ◌∷◌, length, take, get_or, Option, Some, None, is_some, position, nat_eq, refl, sym, ap, ◌∙◌, arith}
use Rattle.std.specs.Option.{option_or}
use Rattle.std.specs.BTreeMap.{is_at}
use Rattle.std.specs.Map.{lookup}
use Rattle.std.proofs.lemmas.Bool.Decides.{nat_tests}
use Rattle.std.proofs.lemmas.Grind.{common_steps}
use Rattle.std.proofs.lemmas.List.{take_more}
use Rattle.ps_world.specs.Names.{same_name, name_cmp}
use Rattle.ps_world.specs.declared.names.Name.{Name}
use Rattle.ps_domain.specs.Places.{IsIndexOf, Notes}
use Rattle.ps_domain.proofs.Lookups.{position-push}

-- names tie where they are the same
pub at_same : (n m : Name) → is_at (name_cmp n) m ≡ same_name n m
at_same n m = grind (arith, nat_tests)

-- names are the same in either order
pub same_turned : (n m : Name) → same_name n m ≡ same_name m n
same_turned n m = grind (arith, nat_tests)

-- a name is looked up by its order as by its number
lookup-at : (n : Name) (es : List (Name × ℕ)) → lookup (is_at (name_cmp n)) es ≡ lookup (same_name n) es
lookup-at n [] = refl
lookup-at n (e ∷ es) = rw (at_same n e.0, lookup-at n es) refl

none_of : (o : Option ℕ) → is_some o ≡ false → o ≡ None
none_of None h = refl
none_of (Some x) h = cc

or_none : (o : Option ℕ) → o ≡ option_or o None
or_none None = refl
or_none (Some x) = refl

put-at : (now was : Option ℕ) (place : ℕ) (b : Bool) → (b ≡ true → was ≡ None) → now ≡ cond b (Some place) was → now ≡ option_or was (cond b (Some place) None)
put-at now was place true absent h = rw (absent refl) h
put-at now was place false absent h = h ∙ or_none was

-- same names stand at the same place
lookup_same : (n m : Name) (es : List (Name × ℕ)) → same_name n m ≡ true → lookup (same_name n) es ≡ lookup (same_name m) es
lookup_same n m es h =
    let e : n.0 ≡ m.0 = grind (arith, nat_tests) in
    ap (λ (k : ℕ). lookup (λ (q : Name). nat_eq k q.0) es) e

-- a name that wasn't there is put there
pub notes_new : (old new : List (Name × ℕ)) (name : Name) (place : ℕ) → is_some (lookup (is_at (name_cmp name)) old) ≡ false
    → ((q : Name) → lookup (is_at (name_cmp q)) new ≡ cond (is_at (name_cmp name) q) (Some place) (lookup (is_at (name_cmp q)) old)) → Notes old new name place
notes_new old new name place absent put =
    λ n.
    put-at (lookup (same_name n) new) (lookup (same_name n) old) place (same_name n name)
    (λ e. lookup_same n name old e ∙ none_of (lookup (same_name name) old) (ap (λ (o : Option ℕ). is_some o) (sym (lookup-at name old)) ∙ absent))
    (sym (lookup-at n new) ∙ (put n ∙ (ap (λ (b : Bool). cond b (Some place) (lookup (is_at (name_cmp n)) old)) (at_same name n ∙ same_turned name n)
    ∙ ap (λ (o : Option ℕ). cond (same_name n name) (Some place) o) (lookup-at n old))))

-- an index of the first of a list, with the next one noted
pub indexed_more : {T : Type 0} (name_of : T → Name) (list : List T) (i : ℕ) (x : T) (name : Name) (old new : List (Name × ℕ)) → i < length list → x ≡ get_or list i x → name ≡ name_of x
    → IsIndexOf name_of (take i list) old → Notes old new name i → IsIndexOf name_of (take (i + 1) list) new
indexed_more {T} name_of list i x name old new within is named before noted =
    λ n.
    let p : T → Bool = λ y. same_name n (name_of y) in
    let front : length (take i list) ≡ i = grind (arith, common_steps) in
    noted n ∙ (ap (λ (m : Name). option_or (lookup (same_name n) old) (cond (same_name n m) (Some i) None)) (named ∙ ap name_of is) ∙ (ap (λ (o : Option ℕ). option_or o (cond (p (get_or list i x)) (Some i) None)) (before n)
    ∙ (ap (λ (k : ℕ). option_or (position p (take i list)) (cond (p (get_or list i x)) (Some k) None)) (sym front) ∙ (sym (position-push p (take i list) (get_or list i x)) ∙ ap (position p) (sym (take_more list i x within))))))

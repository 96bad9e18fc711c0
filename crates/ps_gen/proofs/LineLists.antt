-- Lists of lines that grow, and what is made of the carts in a row.
use Rattle.std.proofs.Common.{◌≡◌, ℕ, suc, ◌+◌, ◌-◌, ◌≤◌, List, [], ◌∷◌, ◌++◌, map, append_assoc, ap, sym, ◌∙◌, arith}
use Rattle.std.specs.Global.{Vec}
use Rattle.std.specs.List.{flat_map}
use Rattle.std.proofs.lemmas.List.{append-nil, map-append}
use Rattle.std.proofs.lemmas.List.Concat.{flat_map-append}
use Rattle.ps_world.proofs.Counting.{range_from_more}
use Rattle.ps_gen.specs.Texts.{carts_of, texts_of}

-- what is added, and what is added after it
pub joined : {X : Type 0} (first was now a b : List X) → was ≡ first ++ a → now ≡ was ++ b → now ≡ first ++ (a ++ b)
joined first was now a b before step = step ∙ ap (λ (l : List _). l ++ b) before ∙ append_assoc first a b

-- one more line
pub line_more : (was now : List (Vec ℕ)) (v : Vec ℕ) (line : List ℕ) → now ≡ was ++ v ∷ [] → v.items ≡ line → texts_of now ≡ texts_of was ++ line ∷ []
line_more was now v line is same =
    ap texts_of is ∙ map-append (λ (u : Vec ℕ). u.items) was (v ∷ []) ∙ ap (λ (l : List ℕ). texts_of was ++ l ∷ []) same

-- the carts up to this one are those before it, and it
carts_more : (cart : ℕ) → 1 ≤ cart → carts_of cart ≡ carts_of (cart - 1) ++ cart ∷ []
carts_more cart some =
    let more : cart ≡ suc (cart - 1) = omega arith in
    let same : 1 + (cart - 1) ≡ cart = omega arith in
    ap carts_of more ∙ range_from_more 1 (cart - 1) ∙ ap (λ (x : ℕ). carts_of (cart - 1) ++ x ∷ []) same

-- what stands first, an item of each cart before this one, and this one's
pub one_more : {X : Type 0} (f : ℕ → X) (cart last : ℕ) (first was now : List X) → 1 ≤ cart → cart ≡ last
    → was ≡ first ++ map f (carts_of (cart - 1)) → now ≡ was ++ f cart ∷ []
    → now ≡ first ++ map f (carts_of last)
one_more f cart last first was now some is before step =
    let more = ap (map f) (carts_more cart some) ∙ map-append f (carts_of (cart - 1)) (cart ∷ []) in
    joined first was now (map f (carts_of (cart - 1))) (f cart ∷ []) before step ∙ ap (λ (l : List _). first ++ l) (sym more ∙ ap (λ n. map f (carts_of n)) is)

-- and the same with several items of each
pub some_more : {X : Type 0} (f : ℕ → List X) (cart last : ℕ) (first was now : List X) → 1 ≤ cart → cart ≡ last
    → was ≡ first ++ flat_map f (carts_of (cart - 1)) → now ≡ was ++ f cart
    → now ≡ first ++ flat_map f (carts_of last)
some_more f cart last first was now some is before step =
    let more = ap (flat_map f) (carts_more cart some) ∙ flat_map-append f (carts_of (cart - 1)) (cart ∷ [])
    ∙ ap (λ (l : List _). flat_map f (carts_of (cart - 1)) ++ l) (append-nil (f cart)) in
    joined first was now (flat_map f (carts_of (cart - 1))) (f cart) before step ∙ ap (λ (l : List _). first ++ l) (sym more ∙ ap (λ n. flat_map f (carts_of n)) is)

-- Levels of a search: what so many steps lead to, and no fewer do.
use Rattle.std.specs.Prelude.{◌≡◌, ℕ, zero, suc, ◌<◌, ◌≤◌, nat_le, Bool, false, true, if◌then◌else◌, Option, Some, None, option_map, List, [], ◌∷◌, ◌++◌, drop, find, flat_map, length, take, All}
use Rattle.std.specs.List.{list_any}
use Rattle.ps_levels.specs.declared.searching.Found.{Found}
use Rattle.ps_levels.specs.declared.searching.Found.TheVariants.{Path, Nowhere, Spent}

-- What is searched: a node to begin with, the state of each node, which states are the same, where each node leads, in order, and
-- which states are looked for.
pub record Space (N S : Type 0) : Type 0 where
  pub root : N
  pub state : N → S
  pub same : S → S → Bool
  pub moves : N → List N
  pub good : S → Bool

-- states that are the same are equal
abbrev pub IsExact : {N S : Type 0} → Space N S → Type 0
IsExact p = (s t : _) → p.same s t ≡ true → s ≡ t

-- whether a state is the state of one of these nodes
abbrev pub is_met : {N S : Type 0} → Space N S → List N → S → Bool
is_met p ns s = list_any (λ n. p.same s (p.state n)) ns

-- the nodes of these whose states weren't met before, neither at the first nodes nor at an earlier one
abbrev pub fresh : {N S : Type 0} → Space N S → List N → List N → List N
fresh p old [] = []
fresh p old (n ∷ ns) = if is_met p old (p.state n) then fresh p old ns else n ∷ fresh p (old ++ n ∷ []) ns

-- the nodes that so many steps lead to and no fewer do, in order, and all nodes up to these
abbrev pub levels : {N S : Type 0} → Space N S → ℕ → List N × List N
levels p zero = (p.root ∷ [], p.root ∷ [])
levels p (suc n) =
    let old = levels p n in
    let next = fresh p old.1 (flat_map p.moves old.0) in
    (next, old.1 ++ next)

abbrev pub level : {N S : Type 0} → Space N S → ℕ → List N
level p n = (levels p n).0

abbrev pub reach : {N S : Type 0} → Space N S → ℕ → List N
reach p n = (levels p n).1

-- the first of these nodes whose state is looked for
abbrev pub first_good : {N S : Type 0} → Space N S → List N → Option N
first_good p ns = find (λ n. p.good (p.state n)) ns

-- none of them is looked for
abbrev pub NoneGood : {N S : Type 0} → Space N S → List N → Type 0
NoneGood p ns = All (λ n. p.good (p.state n) ≡ false) ns

-- ---- what is expanded

-- a search begins: the first node is kept, and none is expanded
pub record Begins {N S : Type 0} (p : Space N S) (expanded : ℕ) (ns : List N) : Type 0 where
  pub root : ns ≡ p.root ∷ []
  pub none : expanded ≡ 0

-- one of the nodes that are kept can be expanded: one is left, no more than may be kept are, and none of them is looked for
pub record CanExpand {N S : Type 0} (p : Space N S) (most expanded : ℕ) (ns : List N) : Type 0 where
  pub left : expanded < length ns
  pub room : length ns ≤ most
  pub none : NoneGood p ns

-- the nodes from one place to another are a level that can be expanded: those before them are expanded, and they are the last
pub record IsLevel {N S : Type 0} (p : Space N S) (from to most expanded : ℕ) (ns : List N) : Type 0 where
  pub done : expanded ≡ from
  pub count : length ns ≡ to
  pub order : from ≤ to
  pub room : to ≤ most
  pub none : NoneGood p ns

-- they are expanded: what they lead to is kept after them, as far as so many may be kept
pub record IsExpanded {N S : Type 0} (p : Space N S) (from to most : ℕ) (old : List N) (expanded : ℕ) (new : List N) : Type 0 where
  pub done : expanded ≡ to
  pub kept : new ≡ take most (old ++ fresh p old (flat_map p.moves (drop from old)))
  pub none : NoneGood p new

-- what is searched stays, and what is held besides
pub record Stays {N S H : Type 0} (old : Space N S) (before : H) (new : Space N S) (after : H) : Type 0 where
  pub space : new ≡ old
  pub held : after ≡ before

-- ---- the answer

-- what is answered where no node of a level is looked for
abbrev pub unfound : {N P : Type 0} → List N → List N → ℕ → ℕ → Found P → Found P
unfound [] reached budget depth next = Nowhere
unfound (n ∷ ns) reached budget depth next = if nat_le budget (length reached) then Spent depth else next

-- what is answered at a depth
abbrev pub at_depth : {N P : Type 0} → (N → P) → Option N → List N → List N → ℕ → ℕ → Found P → Found P
at_depth path (Some n) here reached budget depth next = Path (path n)
at_depth path None here reached budget depth next = unfound here reached budget depth next

-- what is answered from a depth on, with so many depths more
abbrev pub answer_from : {N S P : Type 0} → Space N S → (N → P) → ℕ → ℕ → ℕ → Found P
answer_from p path budget zero depth = at_depth path (first_good p (level p depth)) (level p depth) (reach p depth) budget depth (Spent depth)
answer_from p path budget (suc more) depth = at_depth path (first_good p (level p depth)) (level p depth) (reach p depth) budget depth (answer_from p path budget more (suc depth))

-- ---- how much is expanded

-- the answer is given at this depth
abbrev pub IsGivenAt : {N S P : Type 0} → Space N S → (N → P) → ℕ → Found P → Type 0
IsGivenAt p path depth (Path x) = option_map path (first_good p (level p depth)) ≡ Some x
IsGivenAt p path depth Nowhere = level p depth ≡ []
IsGivenAt p path depth (Spent d) = depth ≡ d

-- before a depth is answered no more nodes are expanded than stand in the levels before it, which are fewer than the budget
abbrev pub IsFrugal : {N S : Type 0} → Space N S → ℕ → ℕ → ℕ → Type 0
IsFrugal p budget zero expanded = expanded ≡ 0
IsFrugal p budget (suc depth) expanded = (expanded ≤ length (reach p depth)) × (length (reach p depth) < budget)

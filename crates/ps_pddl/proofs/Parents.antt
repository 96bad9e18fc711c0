-- The names of types, and the steps to their parents.
use Rattle.std.proofs.Common.{◌≡◌, ℕ, ◌+◌, ◌-◌, ◌<◌, suc, zero, List, [], ◌∷◌, length, drop, map, get_or, true, false, Some, refl, arith, sub-one}
use Rattle.std.proofs.lemmas.List.{drop-drop}
use Rattle.ps_world.specs.Names.{same_name, object}
use Rattle.ps_world.specs.Knowledge.{parent_of}
use Rattle.ps_world.specs.declared.names.Name.{Name}
use Rattle.ps_world.specs.declared.domains.Param.{Param}
use Rattle.ps_world.specs.declared.domains.Domain.{Domain}
use Rattle.ps_grammar.specs.Marks.{is}
use Rattle.ps_grammar.specs.declared.marks.Mark.TheVariants.{Minus}
use Rattle.ps_lists.specs.Nested.{nesteds}
use Rattle.ps_lists.specs.NestedViews.{nested}
use Rattle.ps_lists.specs.Places.{word_of}
use Rattle.ps_pddl.specs.Types.{names_of, names_after_type, leads_to}
use Rattle.ps_lists.specs.declared.trees.Tree.{Tree}
use Rattle.ps_pddl.proofs.Listings.{left, first}

-- the type after `-`, if anything stands there, is passed over
names-after : (ts : List Tree) (before : List Param) → names_after_type (nesteds (map nested ts)) before ≡ names_of (left ts 1) before
names-after [] before = refl
names-after (t ∷ ts) before = refl

-- no name is read from `-` to the type after it
pub names-minus : (ts : List Tree) (i : ℕ) (t : Tree) (before : List Param) → i < length ts → t ≡ get_or ts i t → is Minus (word_of (nested t)).mark ≡ true → names_of (left ts i) before ≡ names_of (left ts (i + 2)) before
names-minus ts i t before within here e =
    let two : i + 1 + 1 ≡ i + 2 = omega arith in
    rw (first ts i t within here, e, names-after (drop (i + 1) ts) before, drop-drop 1 (i + 1) ts, two) refl

-- what is no goal and not `object` leads on from its parent
pub leads-up : (n : ℕ) (d : Domain) (at parent end : Name) → 0 < n → same_name at end ≡ false → same_name at object ≡ false → parent_of d at ≡ Some parent → leads_to n d at end ≡ leads_to (n - 1) d parent end
leads-up zero d at parent end h e o p = absurd (omega arith)
leads-up (suc n) d at parent end h e o p = rw (e, o, p, sub-one) refl

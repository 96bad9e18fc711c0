-- A turn does what the first symbol's rule says.
use Rattle.std.proofs.Common.{◌≡◌, ◌≤◌, ◌<◌, ◌+◌, ◌++◌, List, [], ◌∷◌, drop, length, Option, None, Some, IfSome, slice_get, refl, subst, arith}
use Rattle.ps_grammar.specs.Symbols.{level, weight}
use Rattle.ps_grammar.specs.Rules.{step}
use Rattle.ps_grammar.specs.Shape.{next_wanted}
use Rattle.ps_grammar.specs.Turns.{turned}
use Rattle.ps_grammar.specs.declared.marks.Mark.{Mark}
use Rattle.ps_grammar.specs.declared.symbols.Symbol.{Symbol}
use Rattle.ps_grammar.specs.declared.turns.Turn.{Turn}
use Rattle.ps_grammar.specs.declared.turns.Turn.TheVariants as turn
use Rattle.ps_grammar.proofs.Levels.{level_more}

-- where a turn is known, so are the symbols that it leads to
turned_known : (t : Turn) (s : Symbol) → (t ≡ turn.ByRule → ⊥) → (x : List Symbol) × (turned t s ≡ Some x)
turned_known turn.Ends s known = (_, refl)
turned_known turn.GoesOn s known = (_, refl)
turned_known turn.Terms s known = (_, refl)
turned_known (turn.Names most) s known = (_, refl)
turned_known turn.ConditionHead s known = (_, refl)
turned_known turn.EffectHead s known = (_, refl)
turned_known turn.TimedCondition s known = (_, refl)
turned_known turn.TimedEffect s known = (_, refl)
turned_known turn.Atom s known = (_, refl)
turned_known turn.ConditionAt s known = (_, refl)
turned_known turn.ConditionOver s known = (_, refl)
turned_known turn.EffectAt s known = (_, refl)
turned_known turn.ByRule s known = absurd (known refl)

-- a turn opens one level at most
pub turned_few : (o : Option (List Symbol)) (s : Symbol) (st : List Symbol) → slice_get st 0 ≡ Some s → IfSome o (λ x. level x ≤ weight s + 1) → IfSome o (λ x. level (x ++ drop 1 st) ≤ level st + 1)
turned_few None s st e few = tt
turned_few (Some x) s [] e few = absurd (cc)
turned_few (Some x) s (t ∷ st) e few =
    let same : t ≡ s = cc in
    let sum : level (x ++ st) ≡ level x + level st = level_more x st in
    rw same (omega (arith, few, sum))

-- what is wanted after a turn is what the rule says
pub turned_passes : (t : Turn) (s : Symbol) (st new : List Symbol) (m : Mark) → slice_get st 0 ≡ Some s → (t ≡ turn.ByRule → ⊥) → IfSome (turned t s) (λ x. step s m ≡ Some x) → IfSome (turned t s) (λ x. new ≡ x ++ drop 1 st) → next_wanted st m ≡ Some new
turned_passes t s [] new m e known rule is = absurd (cc)
turned_passes t s (u ∷ st) new m e known rule is =
    let (x, led) = turned_known t s known in
    let same : u ≡ s = cc in
    let by_rule : step s m ≡ Some x = subst (λ (o : Option (List Symbol)). IfSome o (λ y. step s m ≡ Some y)) led rule in
    let after : new ≡ x ++ st = subst (λ (o : Option (List Symbol)). IfSome o (λ y. new ≡ y ++ st)) led is in
    rw (same, by_rule, after) refl

-- and so many levels are open then
pub turned_rises : (t : Turn) (s : Symbol) (st new : List Symbol) → slice_get st 0 ≡ Some s → (t ≡ turn.ByRule → ⊥) → IfSome (turned t s) (λ x. level x ≤ weight s + 1) → IfSome (turned t s) (λ x. new ≡ x ++ drop 1 st) → level new ≤ level st + 1
turned_rises t s st new e known few is =
    let (x, led) = turned_known t s known in
    let low : level (x ++ drop 1 st) ≤ level st + 1 = subst (λ (o : Option (List Symbol)). IfSome o (λ y. level (y ++ drop 1 st) ≤ level st + 1)) led (turned_few (turned t s) s st e few) in
    let after : new ≡ x ++ drop 1 st = subst (λ (o : Option (List Symbol)). IfSome o (λ y. new ≡ y ++ drop 1 st)) led is in
    rw after low

-- some symbol is wanted where the first one is known
pub some_wanted : (s : Symbol) (st : List Symbol) → slice_get st 0 ≡ Some s → 0 < length st
some_wanted s [] e = absurd (cc)
some_wanted s (t ∷ st) e = omega arith

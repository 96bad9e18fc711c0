-- Laws of effects.
use Rattle.std.specs.Prelude.{◌≡◌, ◌≢◌, ◌↔◌, ◌⊎◌, ℕ, ◌<◌, Some, None, option_and_then, Ok, Err, List, length, take, slice_index_or}
use Rattle.std.specs.List.{Contains}
use Rattle.std.specs.List.Sorted.{IsStrictlySortedBy}
use Rattle.std.specs.Map.{keys_of}
use Rattle.ps_world.specs.Facts.{fact_cmp}
use Rattle.ps_world.specs.ExprViews.{expr_tree}
use Rattle.ps_world.specs.Knowledge.{ground, value_in}
use Rattle.ps_world.specs.declared.numbers.Num.{Num}
use Rattle.ps_world.specs.declared.schemas.Lifted.{Lifted}
use Rattle.ps_world.specs.declared.expressions.Expr.{Expr}
use Rattle.ps_world.specs.declared.facts.Fact.{Fact}
use Rattle.ps_world.specs.declared.actions.NumOp.{NumOp}
use Rattle.ps_world.specs.declared.actions.Effect.{Effect}
use Rattle.ps_world.specs.declared.actions.Effect.TheVariants.{Add, Delete, Number}
use Rattle.ps_world.specs.declared.actions.Spread.{Spread}
use Rattle.ps_world.specs.declared.domains.Domain.{Domain}
use Rattle.ps_world.specs.declared.known.Knowledge.{Knowledge}
use Rattle.ps_action.specs.declared.refusals.EffectRefusal.{EffectRefusal}
use Rattle.ps_action.specs.declared.refusals.EffectRefusal.TheVariants.{Clash, Undefined, Range}
use Rattle.ps_action.specs.Values.{in_range}
use Rattle.ps_action.specs.Effects.{count_after, fault_of_effect, fault_of_effects, flat, effect, plainly}

-- ---- what a list stands for

-- effects that stand once, with no condition, are in every state what their list stands for
abbrev pub PlainEffectsStandForThemselves : Type 0
PlainEffectsStandForThemselves = (d : Domain) (k : Knowledge) (es : List Effect) → flat d k (plainly es) ≡ es

-- ---- what effects change

-- an effect of the list adds this fact
abbrev pub IsAdded : List Effect → Fact → Type 0
IsAdded es f = (l : Lifted) × Contains es (Add l) × (ground l ≡ f)

-- an effect of the list deletes this fact
abbrev pub IsDeleted : List Effect → Fact → Type 0
IsDeleted es f = (l : Lifted) × Contains es (Delete l) × (ground l ≡ f)

-- no effect of the list gives this function term a value
abbrev pub IsNotSet : List Effect → Fact → Type 0
IsNotSet es f = (how : NumOp) (l : Lifted) (x : Expr) → Contains es (Number how l x) → ground l ≢ f

-- A fact is there after flat effects where an effect adds it, or where it was there and no effect deletes it. The value of a term
-- that an effect sets is what the effect gives in the knowledge before, and every other value stays. The lists rise where they rose.
pub record AreMade (old : Knowledge) (es : List Effect) (new : Knowledge) : Type 0 where
  pub facts : (f : Fact) → Contains new.facts f ↔ (IsAdded es f ⊎ (Contains old.facts f × (¬ (IsDeleted es f))))
  pub values : (how : NumOp) (l : Lifted) (x : Expr) → Contains es (Number how l x) → (n : Num) × (value_in new (ground l) ≡ Some n) × (option_and_then in_range (count_after old how (ground l) (expr_tree x)) ≡ Some n)
  pub others : (f : Fact) → IsNotSet es f → value_in new f ≡ value_in old f
  pub instances : new.instances ≡ old.instances
  pub goal : new.goal ≡ old.goal
  pub facts_rise : IsStrictlySortedBy fact_cmp old.facts → IsStrictlySortedBy fact_cmp new.facts
  pub values_rise : IsStrictlySortedBy fact_cmp (keys_of old.values) → IsStrictlySortedBy fact_cmp (keys_of new.values)

-- effects without a fault change what they say, and nothing else
abbrev pub EffectsChange : Type 0
EffectsChange = (d : Domain) (old : Knowledge) (es : List Spread) (new : Knowledge) → effect d old es ≡ Ok new → AreMade old (flat d old es) new

-- ---- what is at fault

-- the refusal is of the effect at this place
abbrev pub IsOfPlace : ℕ → EffectRefusal → Type 0
IsOfPlace i (Clash at) = at ≡ i
IsOfPlace i (Undefined at) = at ≡ i
IsOfPlace i (Range at) = at ≡ i

-- it is the fault of the flat effect at its place, and no effect before that one has a fault
pub record IsFirstFault (k : Knowledge) (es : List Effect) (r : EffectRefusal) : Type 0 where
  pub at : ℕ
  pub place : IsOfPlace at r
  pub within : at < length es
  pub fault : (e : Effect) → fault_of_effect k (take at es) at (slice_index_or es at e) ≡ Some r
  pub before : (i : ℕ) (e : Effect) → i < at → fault_of_effect k (take i es) i (slice_index_or es i e) ≡ None

-- effects are refused exactly where something is at fault, and for the first fault
abbrev pub EffectsAreAtFault : Type 0
EffectsAreAtFault =
    (d : Domain) (k : Knowledge) (es : List Spread) (r : EffectRefusal)
    → ((effect d k es ≡ Err r) ↔ (fault_of_effects d k es ≡ Some r)) × (effect d k es ≡ Err r → IsFirstFault k (flat d k es) r)

-- Effects without a fault, told one by one: so that no list of them has to be made.
use Rattle.std.specs.Prelude.{◌≡◌, ℕ, suc, nat_le, nat_lt, Bool, false, ◌&&◌, if◌then◌else◌, is_none, List, [], ◌∷◌, fold}
use Rattle.std.specs.List.{list_all}
use Rattle.ps_world.specs.Knowledge.{ground}
use Rattle.ps_world.specs.declared.actions.Effect.{Effect}
use Rattle.ps_world.specs.declared.actions.Effect.TheVariants.{Add, Delete, Number}
use Rattle.ps_world.specs.declared.known.Knowledge.{Knowledge}
use Rattle.ps_action.specs.Effects.{fault_of_effect, fault_of_flat, sets}

-- how many of these pass a test
abbrev pub count_of : (Effect → Bool) → List Effect → ℕ
count_of p [] = 0
count_of p (x ∷ xs) = if p x then suc (count_of p xs) else count_of p xs

-- a count with one more, up to two
abbrev pub one_more : ℕ → Bool → ℕ
one_more n passes = if passes && nat_lt n 2 then suc n else n

-- a count with those of these that pass a test, up to two
abbrev pub counted : (Effect → Bool) → ℕ → List Effect → ℕ
counted p n es = fold (λ m e. one_more m (p e)) n es

-- whether two effects give one function term a value
abbrev pub hits : Effect → Effect → Bool
hits (Add l) e = false
hits (Delete l) e = false
hits (Number how l x) e = sets (ground l) e

-- whether an effect has no fault of its own, and is the only one of these that gives its term a value
abbrev pub is_fine : Knowledge → List Effect → Effect → Bool
is_fine k all e = is_none (fault_of_effect k [] 0 e) && nat_le (count_of (hits e) all) 1

-- flat effects have no fault just where each is fine
abbrev pub NoFaultWhereFine : Type 0
NoFaultWhereFine = (k : Knowledge) (es : List Effect) → is_none (fault_of_flat k es) ≡ list_all (is_fine k es) es

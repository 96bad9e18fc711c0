-- The steps of lines: how many they are, and that their names are of the table after them.
use Rattle.std.proofs.Common.{◌≡◌, ℕ, ◌+◌, ◌≤◌, int_lt, List, [], ◌∷◌, length, take, drop, All, ap, subst, arith}
use Rattle.std.proofs.lemmas.List.Edits.{length-insert}
use Rattle.std.proofs.lemmas.List.Elements.{All-append, All-cons, All-drop, All-nil, All-take, All-weaker}
use Rattle.std.specs.List.{position_or_len}
use Rattle.ps_world.specs.Names.{Table}
use Rattle.ps_world.specs.Tables.{IsOf}
use Rattle.ps_world.specs.declared.names.Name.{Name}
use Rattle.ps_action.specs.declared.acts.PlanStep.{PlanStep}
use Rattle.ps_text.specs.Names.{folded, interned}
use Rattle.ps_text.proofs.Pieces.{first-le}
use Rattle.ps_text.proofs.Tables.{length-interned, place_of-within}
use Rattle.ps_plan.specs.PlanText.{IsPlan, IsStepOf, Said, named_all, placed, planned, said_by, step_of, table_after}
use Rattle.ps_plan.proofs.Limits.{few_said}

-- ---- tables grow

named_grows : (t : Table) (ws : List (List ℕ)) → length t ≤ length (named_all t ws).1
named_grows t [] = omega arith
named_grows t (w ∷ ws) = omega (arith, length-interned t (folded w), named_grows (interned t (folded w)) ws)

table_after-grows : (t : Table) (s : Said) → length t ≤ length (table_after t s)
table_after-grows t s = omega (arith, length-interned t (folded s.action), named_grows (interned t (folded s.action)) s.args)

pub planned-grows : (t : Table) (steps : List PlanStep) (ss : List Said) → length t ≤ length (planned t steps ss).1
planned-grows t steps [] = omega arith
planned-grows t steps (s ∷ ss) = omega (arith, table_after-grows t s, planned-grows (table_after t s) (placed (step_of t s) steps) ss)

-- ---- names are of the table

IsOf-weaker : (m n : ℕ) → m ≤ n → (x : Name) → IsOf m x → IsOf n x
IsOf-weaker m n h x k = omega arith

IsStepOf-weaker : (m n : ℕ) → m ≤ n → (s : PlanStep) → IsStepOf m s → IsStepOf n s
IsStepOf-weaker m n h s k = (IsOf-weaker m n h s.act.action k.0, All-weaker (IsOf m) (IsOf n) (IsOf-weaker m n h) s.act.args k.1)

named_within : (t : Table) (ws : List (List ℕ)) → All (IsOf (length (named_all t ws).1)) (named_all t ws).0
named_within t [] = All-nil (IsOf (length t))
named_within t (w ∷ ws) =
    let next = interned t (folded w) in
    All-cons (IsOf (length (named_all next ws).1)) _ (named_all next ws).0
    (omega (arith, place_of-within t (folded w), named_grows next ws))
    (named_within next ws)

step_of-within : (t : Table) (s : Said) → IsStepOf (length (table_after t s)) (step_of t s)
step_of-within t s =
    let next = interned t (folded s.action) in
    (omega (arith, place_of-within t (folded s.action), named_grows next s.args), named_within next s.args)

All-placed : (P : PlanStep → Type 0) (s : PlanStep) (steps : List PlanStep) → P s → All P steps → All P (placed s steps)
All-placed P s steps h all =
    let at = position_or_len _ steps in
    All-append P (take at steps) (s ∷ drop at steps) (All-take P at steps all) (All-cons P s (drop at steps) h (All-drop P at steps all))

pub planned-within : (t : Table) (steps : List PlanStep) (ss : List Said) → All (IsStepOf (length t)) steps → All (IsStepOf (length (planned t steps ss).1)) (planned t steps ss).0
planned-within t steps [] all = all
planned-within t steps (s ∷ ss) all =
    let next = table_after t s in
    let before = All-weaker (IsStepOf (length t)) (IsStepOf (length next)) (IsStepOf-weaker (length t) (length next) (table_after-grows t s)) steps all in
    planned-within next (placed (step_of t s) steps) ss (All-placed (IsStepOf (length next)) (step_of t s) steps (step_of-within t s) before)

-- ---- as many steps as lines that say one

length-placed : (s : PlanStep) (steps : List PlanStep) → length (placed s steps) ≡ length steps + 1
length-placed s steps = length-insert steps _ s (first-le (λ other. int_lt s.time other.time) steps)

pub length-planned : (t : Table) (steps : List PlanStep) (ss : List Said) → length (planned t steps ss).0 ≡ length steps + length ss
length-planned t steps [] = omega arith
length-planned t steps (s ∷ ss) =
    omega (arith, length-planned (table_after t s) (placed (step_of t s) steps) ss, length-placed (step_of t s) steps)

-- ---- a plan

module _ (table : Table) (bytes : List ℕ) (steps : List PlanStep) (after : Table) (plan : IsPlan table bytes steps after) where
  pub IsPlan-few : length steps ≤ 256
  IsPlan-few = omega (arith, ap (λ p. length p.0) plan.steps_are, length-planned table [] (said_by bytes), few_said bytes plan.faultless)

  pub IsPlan-grows : length table ≤ length after
  IsPlan-grows = omega (arith, ap (λ p. length p.1) plan.steps_are, planned-grows table [] (said_by bytes))

  pub IsPlan-named : All (IsStepOf (length after)) steps
  IsPlan-named = subst (λ p. All (IsStepOf (length p.1)) p.0) plan.steps_are (planned-within table [] (said_by bytes) (All-nil (IsStepOf (length table))))

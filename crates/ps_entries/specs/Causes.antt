-- The cause that words tell. What they tell is printed again before it is believed, so words that are passed over do no harm.
use Rattle.std.specs.Prelude.{ℕ, ◌+◌, if◌then◌else◌, List, codes, Option, Some, None}
use Rattle.std.specs.Option.{option_or, option_and_then, option_map}
use Rattle.ps_world.specs.declared.names.Name.{Name}
use Rattle.ps_world.specs.declared.edits.EditRefusal.TheVariants as edit
use Rattle.ps_action.specs.declared.refusals.EffectRefusal.{EffectRefusal}
use Rattle.ps_action.specs.declared.refusals.EffectRefusal.TheVariants as effect
use Rattle.ps_action.specs.declared.refusals.GroundRefusal.{GroundRefusal}
use Rattle.ps_action.specs.declared.refusals.GroundRefusal.TheVariants as ground
use Rattle.ps_action.specs.declared.refusals.PlanRefusal.{PlanRefusal}
use Rattle.ps_action.specs.declared.refusals.PlanRefusal.TheVariants as plan
use Rattle.ps_action.specs.declared.refusals.PlanTextRefusal.TheVariants as plantext
use Rattle.ps_machine.specs.declared.inputs.LineCause.TheVariants as line
use Rattle.ps_machine.specs.declared.journal.Refusal.{Refusal}
use Rattle.ps_machine.specs.declared.journal.Refusal.TheVariants as refusal
use Rattle.ps_entries.specs.Words.{name_at, number_at, reads, short_at}

-- Lex N, Number N, Shape N, WrongType N
abbrev pub placed_cause : List (List ℕ) → ℕ → ℕ → Option Refusal
placed_cause ws at n =
    if reads ws at (codes "lex") then Some (refusal.Line (line.Lex n))
    else (if reads ws at (codes "number") then Some (refusal.Line (line.Number n))
    else (if reads ws at (codes "shape") then Some (refusal.Line (line.Shape n))
    else (if reads ws at (codes "wrongtype") then Some (refusal.Edit (edit.WrongType n))
    else None)))

-- Spent N, of 32 bits
abbrev pub spent_cause : List (List ℕ) → ℕ → Option Refusal
spent_cause ws at = if reads ws at (codes "spent") then option_map (λ n. refusal.Spent n) (short_at ws (at + 1)) else None

-- Arity N N
abbrev pub arity_cause : List (List ℕ) → ℕ → ℕ → ℕ → Option Refusal
arity_cause ws at want got = if reads ws at (codes "arity") then Some (refusal.Edit (edit.Arity want got)) else None

-- a cause of one word that a line's or an edit's is
abbrev pub one_word_cause : List (List ℕ) → ℕ → Option Refusal
one_word_cause ws at =
    if reads ws at (codes "command") then Some (refusal.Line line.Command)
    else (if reads ws at (codes "nest") then Some (refusal.Line line.Nest)
    else (if reads ws at (codes "notype") then Some (refusal.Edit edit.NoType)
    else (if reads ws at (codes "instancethere") then Some (refusal.Edit edit.InstanceThere)
    else (if reads ws at (codes "full") then Some (refusal.Edit edit.Full)
    else (if reads ws at (codes "constant") then Some (refusal.Edit edit.Constant)
    else (if reads ws at (codes "nopredicate") then Some (refusal.Edit edit.NoPredicate)
    else None))))))

-- any other cause of one word
abbrev pub later_word_cause : List (List ℕ) → ℕ → Option Refusal
later_word_cause ws at =
    if reads ws at (codes "nofact") then Some (refusal.Edit edit.NoFact)
    else (if reads ws at (codes "nofunction") then Some (refusal.Edit edit.NoFunction)
    else (if reads ws at (codes "novalue") then Some (refusal.Edit edit.NoValue)
    else (if reads ws at (codes "nogoal") then Some (refusal.Edit edit.NoGoal)
    else (if reads ws at (codes "noaction") then Some (refusal.Ground ground.NoAction)
    else (if reads ws at (codes "noplan") then Some refusal.NoPlan
    else (if reads ws at (codes "toomany") then Some refusal.TooMany
    else (if reads ws at (codes "norun") then Some refusal.NoRun
    else None)))))))

-- ---- causes of plans

-- Clash N, Undefined N, Range N
abbrev pub effect_cause : List (List ℕ) → ℕ → ℕ → Option EffectRefusal
effect_cause ws at n =
    if reads ws at (codes "clash") then Some (effect.Clash n)
    else (if reads ws at (codes "undefined") then Some (effect.Undefined n)
    else (if reads ws at (codes "range") then Some (effect.Range n)
    else None))

-- the same, by the word after it
abbrev pub effect_at : List (List ℕ) → ℕ → Option EffectRefusal
effect_at ws at = option_and_then (effect_cause ws at) (number_at ws (at + 1))

-- Arity N N
abbrev pub ground_arity : List (List ℕ) → ℕ → ℕ → Option GroundRefusal
ground_arity ws at want = option_map (λ got. ground.Arity want got) (number_at ws (at + 2))

-- Arity N N, WrongType N
abbrev pub ground_number : List (List ℕ) → ℕ → ℕ → Option GroundRefusal
ground_number ws at n =
    if reads ws at (codes "arity") then ground_arity ws at n
    else (if reads ws at (codes "wrongtype") then Some (ground.WrongType n)
    else None)

-- the cause for which an act can't be grounded
abbrev pub ground_at : List (List ℕ) → List Name → ℕ → Option GroundRefusal
ground_at ws ns at =
    if reads ws at (codes "noaction") then Some ground.NoAction
    else (if reads ws at (codes "noinstance") then Some (ground.NoInstance (name_at ns (at + 1)))
    else option_and_then (ground_number ws at) (number_at ws (at + 1)))

-- the cause at a step
abbrev pub step_cause : List (List ℕ) → List Name → ℕ → ℕ → Option PlanRefusal
step_cause ws ns at n =
    if reads ws at (codes "startfalse") then Some (plan.StartFalse n)
    else (if reads ws at (codes "overallfalse") then Some (plan.OverAllFalse n)
    else (if reads ws at (codes "endfalse") then Some (plan.EndFalse n)
    else (if reads ws at (codes "starteffect") then option_map (λ why. plan.StartEffect n why) (effect_at ws (at + 1))
    else (if reads ws at (codes "endeffect") then option_map (λ why. plan.EndEffect n why) (effect_at ws (at + 1))
    else option_map (λ why. plan.Ground n why) (ground_at ws ns at)))))

-- the cause of no step
abbrev pub whole_plan_cause : List (List ℕ) → ℕ → Option PlanRefusal
whole_plan_cause ws at =
    if reads ws at (codes "nogoal") then Some plan.NoGoal
    else (if reads ws at (codes "goalfalse") then Some plan.GoalFalse
    else None)

-- by the step that the word tells, if it is a number
abbrev pub plan_cause_by : List (List ℕ) → List Name → ℕ → Option ℕ → Option PlanRefusal
plan_cause_by ws ns at None = whole_plan_cause ws at
plan_cause_by ws ns at (Some n) = step_cause ws ns (at + 1) n

-- the cause of a plan
abbrev pub plan_cause_at : List (List ℕ) → List Name → ℕ → Option PlanRefusal
plan_cause_at ws ns at = plan_cause_by ws ns at (short_at ws at)

-- Line N, Long N
abbrev pub text_cause : List (List ℕ) → ℕ → ℕ → Option Refusal
text_cause ws at n =
    if reads ws at (codes "line") then Some (refusal.PlanText (plantext.Line n))
    else (if reads ws at (codes "long") then Some (refusal.PlanText (plantext.Long n))
    else None)

-- ---- all causes

-- a cause with numbers
abbrev pub number_cause : List (List ℕ) → ℕ → Option Refusal
number_cause ws at =
    if reads ws at (codes "spent") then spent_cause ws at
    else (if reads ws at (codes "arity") then option_and_then (λ want. option_and_then (arity_cause ws at want) (number_at ws (at + 2))) (number_at ws (at + 1))
    else option_and_then (placed_cause ws at) (number_at ws (at + 1)))

-- the cause that these words tell from a place on
abbrev pub cause_at : List (List ℕ) → List Name → ℕ → Option Refusal
cause_at ws ns at =
    if reads ws at (codes "noinstance") then Some (refusal.Edit (edit.NoInstance (name_at ns (at + 1))))
    else (if reads ws at (codes "plan") then option_map (λ why. refusal.Plan why) (plan_cause_at ws ns (at + 1))
    else (if reads ws at (codes "plantext") then option_and_then (text_cause ws (at + 1)) (number_at ws (at + 2))
    else option_or (one_word_cause ws at) (option_or (later_word_cause ws at) (number_cause ws at))))

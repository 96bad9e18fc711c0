-- What may be told of the answer that is due by an answer that fits.
use Rattle.std.proofs.Common.{◌≡◌, ℕ, ◌≤◌, ◌==◌, ◌&&◌, Bool, true, false, Option, Some, None, is_none, is_some, is_ok, IsSome, if◌then◌else◌, List, length, refl, ap, sym, ◌∙◌, arith}
use Rattle.std.proofs.lemmas.Bool.{eqb-true}
use Rattle.ps_world.specs.declared.conditions.Cond.{Cond}
use Rattle.ps_action.specs.Plans.{judged, judged_by}
use Rattle.ps_machine.specs.declared.journal.Refusal.{Refusal}
use Rattle.ps_machine.specs.declared.journal.Refusal.TheVariants.{NoGoal}
use Rattle.ps_world.specs.declared.domains.Domain.{Domain}
use Rattle.ps_world.specs.declared.known.Knowledge.{Knowledge}
use Rattle.ps_action.specs.Search.{answer, Fits, HasLength}
use Rattle.ps_action.specs.declared.acts.Act.{Act}
use Rattle.ps_action.specs.declared.answers.Answer.{Answer}
use Rattle.ps_action.specs.declared.answers.Answer.TheVariants.{Plan, NoPlan, Spent, TooMany}
use Rattle.ps_rules.specs.Legal.{is_as_long, is_plan}
use Rattle.ps_rules.specs.Lines.{unplanned, with_goal}
use Rattle.ps_rules.specs.Settled.{given_up}
use Rattle.ps_machine.specs.declared.journal.Outcome.{Outcome}
use Rattle.ps_legal.specs.Plans.{ending_of, HasGoal}

length-long : (acts : List Act) (n : ℕ) (a : Answer) → HasLength n a → is_as_long acts a ≡ (length acts == n)
length-long acts n (Plan least) h = ap (λ m. length acts == m) h
length-long acts n NoPlan h = absurd h
length-long acts n (Spent depth) h = absurd h
length-long acts n TooMany h = absurd h

-- as many acts as in an answer that fits are as many as in the one that is due
pub fits-long : (d : Domain) (k : Knowledge) (budget : ℕ) (acts : List Act) (a : Answer) → Fits d k budget a → is_as_long acts a ≡ is_as_long acts (answer d k budget)
fits-long d k budget acts (Plan least) f = sym (length-long acts (length least) (answer d k budget) f.1)
fits-long d k budget acts NoPlan f = ap (is_as_long acts) (sym f)
fits-long d k budget acts (Spent depth) f = ap (is_as_long acts) (sym f)
fits-long d k budget acts TooMany f = ap (is_as_long acts) (sym f)

-- and they are few
pub fits-few : (d : Domain) (k : Knowledge) (budget : ℕ) (acts : List Act) (a : Answer) → Fits d k budget a → is_as_long acts a ≡ true → length acts ≤ 256
fits-few d k budget acts (Plan least) f e =
    let few : length least ≤ 256 = f.0.few in
    let same : length acts ≡ length least = eqb-true (length acts) (length least) e in
    omega (arith, few, same)
fits-few d k budget acts NoPlan f e = absurd (cc)
fits-few d k budget acts (Spent depth) f e = absurd (cc)
fits-few d k budget acts TooMany f e = absurd (cc)

and-not : (a b : Bool) → b ≡ false → false ≡ (a && b)
and-not true b e = sym e
and-not false b e = refl

and-so : (a b : Bool) → b ≡ true → a ≡ (a && b)
and-so true b e = sym e
and-so false b e = refl

-- acts that are more or fewer are no plan; of as many it is judged
pub other-plan : (d : Domain) (k : Knowledge) (budget : ℕ) (acts : List Act) (a : Answer) → Fits d k budget a → is_as_long acts a ≡ false → false ≡ is_plan d k budget acts
other-plan d k budget acts a f e = and-not (is_ok (judged d k acts)) (is_as_long acts (answer d k budget)) (sym (fits-long d k budget acts a f) ∙ e)

pub same-plan : (d : Domain) (k : Knowledge) (budget : ℕ) (acts : List Act) (a : Answer) → Fits d k budget a → is_as_long acts a ≡ true → is_ok (judged d k acts) ≡ is_plan d k budget acts
same-plan d k budget acts a f e = and-so (is_ok (judged d k acts)) (is_as_long acts (answer d k budget)) (sym (fits-long d k budget acts a f) ∙ e)

goal-less : (d : Domain) (k : Knowledge) (acts : List Act) (goal : Option Cond) → is_none goal ≡ true → is_ok (judged_by d k goal acts) ≡ false
goal-less d k acts None e = refl
goal-less d k acts (Some goal) e = absurd (cc)

-- nothing is a plan where there is no goal
pub no-plan : (d : Domain) (k : Knowledge) (budget : ℕ) (acts : List Act) → is_none k.goal ≡ true → false ≡ is_plan d k budget acts
no-plan d k budget acts e = rw (goal-less d k acts k.goal e) refl

pub some-goal : (goal : Option Cond) → is_none goal ≡ false → IsSome goal
some-goal None e = absurd (cc)
some-goal (Some goal) e = refl

none-is : (goal : Option Cond) → is_none goal ≡ true → IsSome goal → ⊥
none-is None e h = absurd (cc)
none-is (Some goal) e h = absurd (cc)

pub with-some-goal : (k : Knowledge) (why : Option Refusal) → is_none k.goal ≡ false → why ≡ with_goal k why
with-some-goal k why e = rw e refl

pub with-no-goal : (k : Knowledge) (why : Option Refusal) → is_none k.goal ≡ true → Some NoGoal ≡ with_goal k why
with-no-goal k why e = rw e refl

length-unplanned : (n : ℕ) (a : Answer) → HasLength n a → unplanned a ≡ None
length-unplanned n (Plan least) h = refl
length-unplanned n NoPlan h = absurd h
length-unplanned n (Spent depth) h = absurd h
length-unplanned n TooMany h = absurd h

length-given_up : (n : ℕ) (a : Answer) → HasLength n a → given_up a ≡ None
length-given_up n (Plan least) h = refl
length-given_up n NoPlan h = absurd h
length-given_up n (Spent depth) h = absurd h
length-given_up n TooMany h = absurd h

-- an answer that fits is refused as the one that is due
pub fits-unplanned : (d : Domain) (k : Knowledge) (budget : ℕ) (a : Answer) → Fits d k budget a → unplanned a ≡ unplanned (answer d k budget)
fits-unplanned d k budget (Plan acts) f = sym (length-unplanned (length acts) (answer d k budget) f.1)
fits-unplanned d k budget NoPlan f = ap unplanned (sym f)
fits-unplanned d k budget (Spent depth) f = ap unplanned (sym f)
fits-unplanned d k budget TooMany f = ap unplanned (sym f)

-- and ends a run as that one
pub fits-given_up : (d : Domain) (k : Knowledge) (budget : ℕ) (a : Answer) → Fits d k budget a → given_up a ≡ given_up (answer d k budget)
fits-given_up d k budget (Plan acts) f = sym (length-given_up (length acts) (answer d k budget) f.1)
fits-given_up d k budget NoPlan f = ap given_up (sym f)
fits-given_up d k budget (Spent depth) f = ap given_up (sym f)
fits-given_up d k budget TooMany f = ap given_up (sym f)

-- ---- how a run ends

pub ending-some : (d : Domain) (budget : ℕ) (k : Knowledge) (v : Option Outcome) → is_some v ≡ true → v ≡ ending_of d k budget v
ending-some d budget k None e = absurd (cc)
ending-some d budget k (Some how) e = refl

pub ending-goal-less : (d : Domain) (budget : ℕ) (k : Knowledge) (v : Option Outcome) → is_some v ≡ false → is_none k.goal ≡ true → HasGoal v k → None ≡ ending_of d k budget v
ending-goal-less d budget k None e n h = absurd (none-is k.goal n h)
ending-goal-less d budget k (Some how) e n h = absurd (cc)

pub ending-answered : (d : Domain) (budget : ℕ) (k : Knowledge) (v : Option Outcome) (a : Answer) → is_some v ≡ false → Fits d k budget a → given_up a ≡ ending_of d k budget v
ending-answered d budget k None a e f = fits-given_up d k budget a f
ending-answered d budget k (Some how) a e f = absurd (cc)

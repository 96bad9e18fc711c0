-- What answers the lines of the terminal.
use Rattle.std.proofs.Common.{◌≡◌, ◌==◌, ℕ, suc, ◌+◌, ◌≤◌, ◌<◌, ◌&&◌, Bool, true, false, if◌then◌else◌, Option, Some, None, is_none, is_ok, IsSome, Result, Ok, Err, List, [], ◌∷◌, option_and_then, length, slice_get, refl, ap, sym, subst, arith, ◌∙◌}
use Rattle.std.proofs.lemmas.Option.{slice_get_within}
use Rattle.std.proofs.lemmas.Bool.{and_from}
use Rattle.ps_world.specs.Knowledge.{edited}
use Rattle.ps_world.specs.declared.conditions.Cond.{Cond}
use Rattle.ps_world.specs.declared.domains.Domain.{Domain}
use Rattle.ps_world.specs.declared.edits.Edit.{Edit}
use Rattle.ps_world.specs.declared.edits.EditRefusal.{EditRefusal}
use Rattle.ps_world.specs.declared.known.Knowledge.{Knowledge}
use Rattle.ps_action.specs.Grounding.{ground_act}
use Rattle.ps_action.specs.Plans.{judged}
use Rattle.ps_action.specs.Search.{Fits, answer as answered_by}
use Rattle.ps_action.specs.declared.acts.Act.{Act}
use Rattle.ps_action.specs.declared.acts.PlanStep.{PlanStep}
use Rattle.ps_action.specs.declared.answers.Answer.{Answer}
use Rattle.ps_action.specs.declared.answers.Answer.TheVariants as answer
use Rattle.ps_action.specs.declared.refusals.PlanTextRefusal.{PlanTextRefusal}
use Rattle.ps_machine.specs.declared.inputs.Command.TheVariants as command
use Rattle.ps_machine.specs.declared.inputs.Input.{Input}
use Rattle.ps_machine.specs.declared.inputs.Line.{Line}
use Rattle.ps_machine.specs.declared.inputs.Line.TheVariants.{Good, Bad}
use Rattle.ps_machine.specs.declared.inputs.Query.{Query}
use Rattle.ps_machine.specs.declared.inputs.Query.TheVariants as query
use Rattle.ps_machine.specs.declared.journal.By.TheVariants.{Terminal}
use Rattle.ps_machine.specs.declared.journal.Refusal.{Refusal}
use Rattle.ps_machine.specs.declared.journal.Refusal.TheVariants as refusal
use Rattle.ps_machine.specs.declared.journal.RunKind.TheVariants as run
use Rattle.ps_machine.specs.declared.journal.Event.{Event}
use Rattle.ps_machine.specs.declared.journal.Event.TheVariants as event
use Rattle.ps_machine.specs.declared.journal.Entry.{Entry}
use Rattle.ps_rules.specs.Runs.{has_run}
use Rattle.ps_rules.specs.Known.{know}
use Rattle.ps_rules.specs.Lines.{acts_of, answered, answers_line, due_lines, edit_refusal, ground_refusal, next_line, plan_refusal, refusal_of, refusal_of_goal, refusal_of_query, refusal_of_steps, unplanned}
use Rattle.ps_rules.specs.Same.{same_acts}
use Rattle.ps_rules.specs.Legal.{is_accepted, is_cause, is_edit, is_query, is_quit, line_edit, opens_with, row_allows}
use Rattle.ps_rules.specs.Choices.{answer_event, edit_event, edit_outcome, line_event, run_by, Says}
use Rattle.ps_rules.proofs.Choosing.{plan-so}
use Rattle.ps_rules.proofs.SameThings.{same_acts-decides, same_cause-decides, same_edit-itself, same_query-decides}
use Rattle.ps_rules.proofs.InOrder.{number-itself, some-none, accepted-act, accepted-plan, goal-so}
use Rattle.ps_state.specs.Awaiting.{MayBegin}
use Rattle.ps_state.proofs.Grounded.{good-each, one-each}
use Rattle.ps_legal.proofs.Answered.{fits-unplanned, with-some-goal}
use Rattle.ps_board.specs.declared.whole.Parts.{Parts}
use Rattle.ps_board.specs.Board.{answer_to, IsStep}
use Rattle.ps_board.specs.Parts.{BoardStands}
use Rattle.ps_board.specs.declared.turns.Step.TheVariants.{Said}
use Rattle.ps_machine.specs.declared.journal.By.{By}
use Rattle.ps_board.specs.Commands.{AnswersBy, AnswersNext, asks_plan, IsNextBy, line_of, MayAnswer}
use Rattle.ps_board.specs.declared.commands.Next.TheVariants as next

-- what is known in the domain is what the entries say
pub told-now : {A : Type 0} (f : Domain → Knowledge → A) (c : Parts) → BoardStands c → f c.state.expert c.state.problem ≡ f c.input.domain (know c.input c.entries.items)
told-now f c s = ap (λ d. f d c.state.problem) s.kept.domain ∙ ap (f c.input.domain) s.kept.known

-- ---- the number of a line

due-short : (lines : List Line) → length (due_lines lines) ≤ length lines
due-short [] = omega arith
due-short (Good (command.Edit edit) ∷ lines) = omega (arith, due-short lines)
due-short (Good (command.Ask query) ∷ lines) = omega (arith, due-short lines)
due-short (Good command.Run ∷ lines) = omega (arith, due-short lines)
due-short (Good (command.RunAction act) ∷ lines) = omega (arith, due-short lines)
due-short (Good (command.RunPlan plan) ∷ lines) = omega (arith, due-short lines)
due-short (Good command.Quit ∷ lines) = omega arith
due-short (Bad cause ∷ lines) = omega (arith, due-short lines)

some-within : (lines : List Line) (n : ℕ) (o : Option Line) → slice_get lines n ≡ o → IsSome o → n < length lines
some-within lines n None is h = absurd (cc)
some-within lines n (Some line) is h = slice_get_within lines n line is

-- where a line is left, few are answered
pub few-answered : (c : Parts) → BoardStands c → IsSome (line_of c) → answered c.entries.items < 10000
few-answered c s left =
    let within = some-within (due_lines c.input.lines) (answered c.entries.items) (line_of c) refl left in
    let short = due-short c.input.lines in
    let few = s.sound.few_lines in
    omega (arith, within, short, few)

-- ---- refusals

pub refused : (says : Says) (c : Parts) (line : Line) (why : Refusal) → line_of c ≡ Some line → refusal_of c.input c.entries.items line ≡ Some why
    → MayAnswer says c (event.Refused (Terminal (answered c.entries.items + 1)) why)
refused says c line why next given =
    let i : Input = c.input in
    let es : List Entry = c.entries.items in
    let cause : is_cause why (option_and_then (refusal_of i es) (next_line i es)) ≡ true =
    ap (λ l. is_cause why (option_and_then (refusal_of i es) l)) next ∙ ap (is_cause why) given ∙ (same_cause-decides why why).1 refl in
    record {
      answers = record {
        event = ap (option_and_then (line_event says i es)) next ∙ ap (answer_event says i es line) given;
        own = refl;
        fit = and_from (answered es + 1 == answered es + 1) (is_cause why (option_and_then (refusal_of i es) (next_line i es))) (number-itself (answered es + 1)) cause;
      };
      plan = tt;
      other = refl;
    }

-- ---- events that aren't refused

-- an event that answers a line that isn't refused
accepted-next : (says : Says) (c : Parts) (line : Line) (e : Event) → line_of c ≡ Some line → refusal_of c.input c.entries.items line ≡ None
    → answer_event says c.input c.entries.items line None ≡ Some e → answers_line e ≡ true → row_allows c.input c.entries.items e ≡ true → AnswersNext says c e
accepted-next says c line e next given made own fit = record {
  event = ap (option_and_then (line_event says c.input c.entries.items)) next ∙ ap (answer_event says c.input c.entries.items line) given ∙ made;
  own = own;
  fit = fit;
}

-- so does one that isn't the query for a plan
pub accepted : (says : Says) (c : Parts) (line : Line) (e : Event) → line_of c ≡ Some line → refusal_of c.input c.entries.items line ≡ None
    → answer_event says c.input c.entries.items line None ≡ Some e → answers_line e ≡ true → row_allows c.input c.entries.items e ≡ true → MayBegin e c.state
    → asks_plan e ≡ false → MayAnswer says c e
accepted says c line e next given made own fit may other = record { answers = accepted-next says c line e next given made own fit; plan = may; other = other }

pub quits : (says : Says) (c : Parts) → line_of c ≡ Some (Good command.Quit) → MayAnswer says c event.Quit
quits says c next = accepted says c (Good command.Quit) event.Quit next refl refl refl (ap is_quit next) tt refl

asks-next : (says : Says) (c : Parts) (q : Query) → line_of c ≡ Some (Good (command.Ask q)) → refusal_of c.input c.entries.items (Good (command.Ask q)) ≡ None
    → AnswersNext says c (event.Ask q)
asks-next says c q next given =
    let said : is_query q (line_of c) ≡ true = ap (is_query q) next ∙ (same_query-decides q q).1 refl in
    let fine : is_accepted c.input c.entries.items (line_of c) ≡ true = ap (is_accepted c.input c.entries.items) next ∙ ap is_none given in
    accepted-next says c (Good (command.Ask q)) (event.Ask q) next given refl refl (and_from (is_query q (line_of c)) (is_accepted c.input c.entries.items (line_of c)) said fine)

pub asks : (says : Says) (c : Parts) (q : Query) → asks_plan (event.Ask q) ≡ false → line_of c ≡ Some (Good (command.Ask q))
    → refusal_of c.input c.entries.items (Good (command.Ask q)) ≡ None → MayAnswer says c (event.Ask q)
asks says c q other next given = record { answers = asks-next says c q next given; plan = tt; other = other }

-- another query isn't the one for a plan
pub other-query : (q : Query) → (q ≡ query.Plan → ⊥) → asks_plan (event.Ask q) ≡ false
other-query query.Plan not = absurd (not refl)
other-query q not = refl

-- why a query is refused
pub query-cause : (c : Parts) (b : Bool) (q : Query) → BoardStands c → b ≡ has_run c.entries.items
    → refusal_of c.input c.entries.items (Good (command.Ask q)) ≡ refusal_of_query c.state.expert c.state.problem c.input.budget b q
query-cause c b q s run =
    sym (told-now (λ d k. refusal_of_query d k c.input.budget (has_run c.entries.items) q) c s)
    ∙ ap (λ x. refusal_of_query c.state.expert c.state.problem c.input.budget x q) (sym run)

-- ---- edits

edit-outcome : (says : Says) (c : Parts) (edit : Edit) → line_of c ≡ Some (Good (command.Edit edit)) → (r : Result Knowledge EditRefusal)
    → edited c.input.domain (know c.input c.entries.items) edit ≡ r
    → AnswersNext says c (edit_outcome (Terminal (answered c.entries.items + 1)) edit (edit_refusal r))
edit-outcome says c edit next (Err why) given = (refused says c (Good (command.Edit edit)) (refusal.Edit why) next (ap edit_refusal given)).answers
edit-outcome says c edit next (Ok k) given =
    let es : List Entry = c.entries.items in
    let o : Result Knowledge EditRefusal = edited c.input.domain (know c.input es) edit in
    let said : is_edit edit (line_edit (line_of c)) ≡ true = ap (λ l. is_edit edit (line_edit l)) next ∙ same_edit-itself edit in
    (accepted says c (Good (command.Edit edit)) (event.Edit (Terminal (answered es + 1)) edit) next (ap edit_refusal given) refl refl
    (and_from (answered es + 1 == answered es + 1) (is_edit edit (line_edit (line_of c)) && is_ok o) (number-itself (answered es + 1))
    (and_from (is_edit edit (line_edit (line_of c))) (is_ok o) said (ap is_ok given))) tt refl).answers

pub edits : (says : Says) (c : Parts) (edit : Edit) → line_of c ≡ Some (Good (command.Edit edit))
    → AnswersNext says c (edit_event c.input c.entries.items (Terminal (answered c.entries.items + 1)) edit)
edits says c edit next = edit-outcome says c edit next (edited c.input.domain (know c.input c.entries.items) edit) refl

-- ---- runs of one act

pub runs-act : (says : Says) (c : Parts) (act : Act) (acts : List Act) → BoardStands c → acts ≡ act ∷ [] → line_of c ≡ Some (Good (command.RunAction act))
    → ground_refusal (ground_act c.state.expert c.state.problem.instances act) ≡ None → MayAnswer says c (event.Run run.Action acts)
runs-act says c act acts s one next given =
    let i : Input = c.input in
    let es : List Entry = c.entries.items in
    let fine : is_ok (ground_act c.state.expert c.state.problem.instances act) ≡ true = accepted-act (ground_act c.state.expert c.state.problem.instances act) given in
    let now = told-now (λ d k. ground_act d k.instances act) c s in
    let fit : row_allows i es (event.Run run.Action (act ∷ [])) ≡ true =
    ap (opens_with i es run.Action (act ∷ [])) next
    ∙ and_from (same_acts (act ∷ []) (act ∷ [])) (is_ok (ground_act i.domain (know i es).instances act)) ((same_acts-decides (act ∷ []) (act ∷ [])).1 refl) (ap is_ok (sym now) ∙ fine) in
    subst (λ xs. MayAnswer says c (event.Run run.Action xs)) (sym one)
    (accepted says c (Good (command.RunAction act)) (event.Run run.Action (act ∷ [])) next (ap ground_refusal (sym now) ∙ given) refl refl fit
    (record { few = omega arith; grounded = one-each c.state.expert c.state.problem act fine }) refl)

-- why the command to run an act is refused
pub act-cause : (c : Parts) (act : Act) → BoardStands c
    → refusal_of c.input c.entries.items (Good (command.RunAction act)) ≡ ground_refusal (ground_act c.state.expert c.state.problem.instances act)
act-cause c act s = sym (told-now (λ d k. ground_refusal (ground_act d k.instances act)) c s)

-- ---- runs of the plan of a file

-- why the command to run a plan is refused
pub plan-cause : (c : Parts) (steps : Result (List PlanStep) PlanTextRefusal) → BoardStands c
    → refusal_of c.input c.entries.items (Good (command.RunPlan steps)) ≡ refusal_of_steps c.state.expert c.state.problem steps
plan-cause c steps s = sym (told-now (λ d k. refusal_of_steps d k steps) c s)

length-acts : (steps : List PlanStep) → length (acts_of steps) ≡ length steps
length-acts [] = refl
length-acts (step ∷ steps) = ap (λ (n : ℕ). suc n) (length-acts steps)

pub runs-plan : (says : Says) (c : Parts) (steps : List PlanStep) (acts : List Act) → BoardStands c → acts ≡ acts_of steps → line_of c ≡ Some (Good (command.RunPlan (Ok steps)))
    → length steps ≤ 256 → refusal_of_steps c.state.expert c.state.problem (Ok steps) ≡ None → MayAnswer says c (event.Run run.Plan acts)
runs-plan says c steps acts s all next few given =
    let i : Input = c.input in
    let es : List Entry = c.entries.items in
    let these : List Act = acts_of steps in
    let fine : is_ok (judged c.state.expert c.state.problem these) ≡ true =
    accepted-plan (judged c.state.expert c.state.problem these) (goal-so c.state.problem (plan_refusal (judged c.state.expert c.state.problem these)) given) in
    let now = told-now (λ d k. judged d k these) c s in
    let fit : row_allows i es (event.Run run.Plan these) ≡ true =
    ap (opens_with i es run.Plan these) next
    ∙ and_from (same_acts these these) (is_ok (judged i.domain (know i es) these)) ((same_acts-decides these these).1 refl) (ap is_ok (sym now) ∙ fine) in
    let many = length-acts steps in
    subst (λ xs. MayAnswer says c (event.Run run.Plan xs)) (sym all)
    (accepted says c (Good (command.RunPlan (Ok steps))) (event.Run run.Plan these) next (sym (told-now (λ d k. refusal_of_steps d k (Ok steps)) c s) ∙ given) refl refl fit
    (record { few = omega (arith, few, many); grounded = good-each c.state.expert c.state.problem these fine }) refl)

pub no-steps : (d : Domain) (k : Knowledge) (why : PlanTextRefusal) → refusal_of_steps d k (Err why) ≡ None → ⊥
no-steps d k why given = some-none (refusal.PlanText why) (goal-so k (Some (refusal.PlanText why)) given)

-- ---- runs for the goal

none-so : (goal : Option Cond) → IsSome goal → is_none goal ≡ false
none-so None h = absurd (cc)
none-so (Some goal) h = refl

-- why no plan is made is why the answer is none
goal-cause : (c : Parts) (a : Answer) → BoardStands c → IsSome c.state.problem.goal → Fits c.state.expert c.state.problem c.input.budget a
    → refusal_of c.input c.entries.items (Good command.Run) ≡ unplanned a
goal-cause c a s goal fit =
    sym (told-now (λ d k. refusal_of_goal d k c.input.budget) c s)
    ∙ sym (with-some-goal c.state.problem (unplanned (answered_by c.state.expert c.state.problem c.input.budget)) (none-so c.state.problem.goal goal))
    ∙ sym (fits-unplanned c.state.expert c.state.problem c.input.budget a fit)

pub runs-goal : (c : Parts) (acts : List Act) → BoardStands c → line_of c ≡ Some (Good command.Run) → IsSome c.state.problem.goal
    → Fits c.state.expert c.state.problem c.input.budget (answer.Plan acts) → AnswersBy c (answer.Plan acts) (event.Run run.Goal acts)
runs-goal c acts s next goal fit = λ says said.
    let i : Input = c.input in
    let es : List Entry = c.entries.items in
    let now : Fits i.domain (know i es) i.budget (answer.Plan acts) =
    subst (λ d. Fits d (know i es) i.budget (answer.Plan acts)) s.kept.domain (subst (λ k. Fits c.state.expert k i.budget (answer.Plan acts)) s.kept.known fit) in
    let good : row_allows i es (event.Run run.Goal acts) ≡ true =
    ap (opens_with i es run.Goal acts) next ∙ plan-so i.domain (know i es) i.budget acts now in
    accepted says c (Good command.Run) (event.Run run.Goal acts) next (goal-cause c (answer.Plan acts) s goal fit)
    (ap run_by (sym (said ∙ told-now (λ d k. says d k i.budget) c s))) refl good
    (record { few = fit.0.few; grounded = good-each c.state.expert c.state.problem acts fit.0.goes_well }) refl

pub refuses-goal : (c : Parts) (a : Answer) (why : Refusal) → BoardStands c → line_of c ≡ Some (Good command.Run) → IsSome c.state.problem.goal
    → Fits c.state.expert c.state.problem c.input.budget a → unplanned a ≡ Some why
    → AnswersBy c a (event.Refused (Terminal (answered c.entries.items + 1)) why)
refuses-goal c a why s next goal fit none = λ says said. refused says c (Good command.Run) why next (goal-cause c a s goal fit ∙ none)

pub goal-less : (says : Says) (c : Parts) → BoardStands c → line_of c ≡ Some (Good command.Run) → is_none c.state.problem.goal ≡ true
    → MayAnswer says c (event.Refused (Terminal (answered c.entries.items + 1)) refusal.NoGoal)
goal-less says c s next less =
    refused says c (Good command.Run) refusal.NoGoal next
    (sym (told-now (λ d k. refusal_of_goal d k c.input.budget) c s)
    ∙ ap (λ b. if b then Some refusal.NoGoal else unplanned (answered_by c.state.expert c.state.problem c.input.budget)) less)

-- ---- the query for a plan

-- why it is refused is why no plan is made for the goal
abbrev plan-query : Line
plan-query = Good (command.Ask query.Plan)

pub tells-plan : (c : Parts) (acts : List Act) → BoardStands c → line_of c ≡ Some plan-query → IsSome c.state.problem.goal
    → Fits c.state.expert c.state.problem c.input.budget (answer.Plan acts) → IsNextBy c (answer.Plan acts) (next.Plan acts)
tells-plan c acts s next goal fit = λ says said. (
  asks-next says c query.Plan next (goal-cause c (answer.Plan acts) s goal fit),
  sym (said ∙ told-now (λ d k. says d k c.input.budget) c s),
)

pub refuses-plan : (c : Parts) (a : Answer) (why : Refusal) → BoardStands c → line_of c ≡ Some plan-query → IsSome c.state.problem.goal
    → Fits c.state.expert c.state.problem c.input.budget a → unplanned a ≡ Some why
    → IsNextBy c a (next.Event (event.Refused (Terminal (answered c.entries.items + 1)) why))
refuses-plan c a why s next goal fit none = λ says said. refused says c plan-query why next (goal-cause c a s goal fit ∙ none)

pub plan-less : (says : Says) (c : Parts) → BoardStands c → line_of c ≡ Some plan-query → is_none c.state.problem.goal ≡ true
    → MayAnswer says c (event.Refused (Terminal (answered c.entries.items + 1)) refusal.NoGoal)
plan-less says c s next less =
    refused says c plan-query refusal.NoGoal next
    (sym (told-now (λ d k. refusal_of_goal d k c.input.budget) c s)
    ∙ ap (λ b. if b then Some refusal.NoGoal else unplanned (answered_by c.state.expert c.state.problem c.input.budget)) less)

-- ---- what a call says

-- an edit was said, or its refusal
pub said-edit : (says : Says) (i : Input) (es : List Entry) (whose : By) (edit : Edit) → answer_to says i es ≡ Some (edit_event i es whose edit) → IsStep says i es Said
said-edit says i es whose edit h = by-cause (edit_refusal (edited i.domain (know i es) edit)) h where
  by-cause : (why : Option Refusal) → answer_to says i es ≡ Some (edit_outcome whose edit why) → IsStep says i es Said
  by-cause None h = (event.Edit whose edit, h, refl, refl)
  by-cause (Some why) h = (event.Refused whose why, h, refl, refl)

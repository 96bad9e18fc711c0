-- Sessions whose members take turns in order are histories.
use Rattle.std.proofs.Common.{◌≡◌, ◌==◌, ℕ, zero, suc, ◌+◌, ◌%◌, Bool, true, false, ◌&&◌, not, if◌then◌else◌, nat_le, Option, Some, None, is_none, is_ok, Result, Ok, Err, List, [], ◌∷◌, ◌++◌, IsTrue, option_and_then, slice_get, fold, length, refl, ap, sym, ◌∙◌, subst, append_assoc, append-nil}
use Rattle.std.specs.Cmp.{unsigned_Decides}
use Rattle.std.specs.Option.{option_map_or}
use Rattle.std.proofs.lemmas.Bool.{true≢false, and_from, and_parts}
use Rattle.std.proofs.lemmas.List.{length-append}
use Rattle.ps_world.specs.Knowledge.{edited}
use Rattle.ps_world.specs.declared.known.Knowledge.{Knowledge}
use Rattle.ps_world.specs.declared.edits.EditRefusal.{EditRefusal}
use Rattle.ps_action.specs.Grounding.{ground_act}
use Rattle.ps_action.specs.Plans.{judged}
use Rattle.ps_action.specs.Search.{Fits, answer as answered_by}
use Rattle.ps_action.specs.declared.answers.Answer.{Answer}
use Rattle.ps_action.specs.declared.answers.Answer.TheVariants as answer
use Rattle.ps_action.specs.declared.acts.GroundAction.{GroundAction}
use Rattle.ps_action.specs.declared.refusals.GroundRefusal.{GroundRefusal}
use Rattle.ps_action.specs.declared.refusals.PlanRefusal.{PlanRefusal}
use Rattle.ps_machine.specs.declared.inputs.Command.TheVariants as command
use Rattle.ps_machine.specs.declared.inputs.Line.{Line}
use Rattle.ps_machine.specs.declared.inputs.Line.TheVariants.{Good, Bad}
use Rattle.ps_machine.specs.declared.inputs.Input.{Input}
use Rattle.ps_machine.specs.declared.journal.By.TheVariants.{Terminal}
use Rattle.ps_machine.specs.declared.journal.Refusal.{Refusal}
use Rattle.ps_machine.specs.declared.journal.Refusal.TheVariants as refusal
use Rattle.ps_machine.specs.declared.journal.RunKind.TheVariants as run
use Rattle.ps_machine.specs.declared.journal.Event.{Event}
use Rattle.ps_machine.specs.declared.journal.Event.TheVariants as event
use Rattle.ps_machine.specs.declared.journal.Entry.{Entry}
use Rattle.ps_rules.specs.Runs.{is_running}
use Rattle.ps_rules.specs.Known.{know}
use Rattle.ps_rules.specs.Lines.{acts_of, answered, answers_line, due_lines, edit_refusal, ground_refusal, next_line, plan_refusal, refusal_of, unplanned, with_goal}
use Rattle.ps_rules.specs.Same.{same_acts}
use Rattle.ps_rules.specs.Legal.{has_hand, is_accepted, is_cause, is_edit, is_legal, is_query, is_quit, line_edit, opens_with, row_allows, same_flag}
use Rattle.ps_rules.specs.History.{IsHistory}
use Rattle.ps_rules.specs.History.IsHistory.{nothing, block}
use Rattle.ps_rules.specs.Choices.{Actor, Says, actors, after_line, answer_event, ordered, run_by, turn, with_block, with_line}
use Rattle.ps_rules.specs.Laws.{IsSolver, SessionsAreOrderly}
use Rattle.ps_rules.proofs.Pushed.{read-block}
use Rattle.ps_rules.proofs.SameThings.{same_acts-decides, same_cause-decides, same_edit-itself, same_query-decides}
use Rattle.ps_rules.proofs.Choosing.{legal-between, plan-so, turn-live, turns_are_legal}

-- ---- turns

-- how many lines are answered after a block
answered-block : (i : Input) (hand : ℕ) (es : List Entry) (e : Event) → answered (with_block i hand es e) ≡ (if answers_line e then answered es + 1 else answered es)
answered-block i hand es e =
    read-block (λ n f. if answers_line f then n + 1 else n) 0 i es (record { hand = hand; what = e }) (λ a act why. refl)

-- these entries are a history in which so many lines are answered
abbrev Stands : Input → ℕ → List Entry → Type 0
Stands i n es = IsHistory i es × (answered es ≡ n)

pub unanswering : (b r : Bool) → r ≡ true → same_flag b (not r) ≡ true → b ≡ false
unanswering false r live h = refl
unanswering true true live h = absurd (cc)
unanswering true false live h = absurd (cc)

turn-stands : (says : Says) (i : Input) (n : ℕ) (es : List Entry) (actor : Option Actor) → IsSolver says → Stands i n es
    → (o : Option Event) → turn says i es actor ≡ o → Stands i n (option_map_or (with_block i 1 es) o es)
turn-stands says i n es actor solver h None made = h
turn-stands says i n es actor solver h (Some e) made =
    let legal = turns_are_legal says i es actor e solver made in
    let live = (turn-live says i es actor e made).0 in
    let own : answers_line e ≡ false =
    unanswering (answers_line e) (is_running es) live (and_parts (same_flag (answers_line e) (not (is_running es))) (row_allows i es e) legal).0 in
    let hand : IsTrue (has_hand e 1) = ap (λ b. if b then 1 == 0 else (nat_le 1 1 && nat_le 1 16)) own in
    (block es (record { hand = 1; what = e }) h.0 legal hand, answered-block i 1 es e ∙ ap (λ b. if b then answered es + 1 else answered es) own ∙ h.1)

ordered-stands : (says : Says) (i : Input) (n : ℕ) (es : List Entry) → IsSolver says → Stands i n es → (turns : ℕ) → Stands i n (ordered says i es turns)
ordered-stands says i n es solver h zero = h
ordered-stands says i n es solver h (suc turns) =
    let actor = slice_get (actors i) (turns % length (actors i)) in
    let now = ordered says i es turns in
    turn-stands says i n now actor solver (ordered-stands says i n es solver h turns) (turn says i now actor) refl

-- ---- lines

accepted-edit : (o : Result Knowledge EditRefusal) → edit_refusal o ≡ None → is_ok o ≡ true
accepted-edit (Ok k) h = refl
accepted-edit (Err r) h = absurd (cc)

pub accepted-act : (o : Result GroundAction GroundRefusal) → ground_refusal o ≡ None → is_ok o ≡ true
accepted-act (Ok g) h = refl
accepted-act (Err r) h = absurd (cc)

pub accepted-plan : (o : Result Knowledge PlanRefusal) → plan_refusal o ≡ None → is_ok o ≡ true
accepted-plan (Ok k) h = refl
accepted-plan (Err r) h = absurd (cc)

-- where nothing refuses, there is a goal, and no other cause
pub goal-so : (k : Knowledge) (why : Option Refusal) → with_goal k why ≡ None → why ≡ None
goal-so k why h =
    let cases : (b : Bool) → (if b then Some refusal.NoGoal else why) ≡ None → why ≡ None =
    λ b. elim b as (λ b. (if b then Some refusal.NoGoal else why) ≡ None → why ≡ None) [
      | true ↦ λ e. absurd (cc)
      | false ↦ λ e. e
    ] in
    cases (is_none k.goal) h

pub some-none : {A : Type 0} (x : A) → Some x ≡ None → ⊥
some-none x e = cc

pub number-itself : (n : ℕ) → (n == n) ≡ true
number-itself n = (unsigned_Decides n n).1 refl

-- a line is answered by an event that is legal and answers a line
pub record IsAnswered (says : Says) (i : Input) (es : List Entry) (line : Line) (why : Option Refusal) : Type 0 where
  pub event : Event
  pub made : answer_event says i es line why ≡ Some event
  pub legal : IsTrue (is_legal i es event)
  pub own : answers_line event ≡ true

answered-goal : (says : Says) (i : Input) (es : List Entry) → is_running es ≡ false → next_line i es ≡ Some (Good command.Run)
    → unplanned (answered_by i.domain (know i es) i.budget) ≡ None → (a : Answer) → says i.domain (know i es) i.budget ≡ a → Fits i.domain (know i es) i.budget a
    → IsAnswered says i es (Good command.Run) None
answered-goal says i es closed next due (answer.Plan acts) said h =
    let fit : row_allows i es (event.Run run.Goal acts) ≡ true = ap (opens_with i es run.Goal acts) next ∙ plan-so i.domain (know i es) i.budget acts h in record {
      event = event.Run run.Goal acts;
      made = ap run_by said;
      legal = legal-between i es (event.Run run.Goal acts) closed refl fit;
      own = refl;
    }
answered-goal says i es closed next due answer.NoPlan said h = absurd (some-none refusal.NoPlan (sym (ap unplanned h) ∙ due))
answered-goal says i es closed next due (answer.Spent depth) said h = absurd (some-none (refusal.Spent depth) (sym (ap unplanned h) ∙ due))
answered-goal says i es closed next due answer.TooMany said h = absurd (some-none refusal.TooMany (sym (ap unplanned h) ∙ due))

answered-line : (says : Says) (i : Input) (es : List Entry) (line : Line) → IsSolver says → is_running es ≡ false → next_line i es ≡ Some line
    → (why : Option Refusal) → refusal_of i es line ≡ why → IsAnswered says i es line why
answered-line says i es line solver closed next (Some why) given =
    let e = event.Refused (Terminal (answered es + 1)) why in
    let cause : is_cause why (option_and_then (refusal_of i es) (next_line i es)) ≡ true =
    ap (λ l. is_cause why (option_and_then (refusal_of i es) l)) next ∙ ap (is_cause why) given ∙ (same_cause-decides why why).1 refl in
    let fit = and_from (answered es + 1 == answered es + 1) (is_cause why (option_and_then (refusal_of i es) (next_line i es))) (number-itself (answered es + 1)) cause in
    record { event = e; made = refl; legal = legal-between i es e closed refl fit; own = refl }
answered-line says i es (Good (command.Edit edit)) solver closed next None given =
    let e = event.Edit (Terminal (answered es + 1)) edit in
    let o = edited i.domain (know i es) edit in
    let said : is_edit edit (line_edit (next_line i es)) ≡ true = ap (λ l. is_edit edit (line_edit l)) next ∙ same_edit-itself edit in
    let fit = and_from (answered es + 1 == answered es + 1) (is_edit edit (line_edit (next_line i es)) && is_ok o) (number-itself (answered es + 1))
    (and_from (is_edit edit (line_edit (next_line i es))) (is_ok o) said (accepted-edit o given)) in
    record { event = e; made = refl; legal = legal-between i es e closed refl fit; own = refl }
answered-line says i es (Good (command.Ask q)) solver closed next None given =
    let said : is_query q (next_line i es) ≡ true = ap (is_query q) next ∙ (same_query-decides q q).1 refl in
    let fine : is_accepted i es (next_line i es) ≡ true = ap (is_accepted i es) next ∙ ap is_none given in
    let fit = and_from (is_query q (next_line i es)) (is_accepted i es (next_line i es)) said fine in
    record { event = event.Ask q; made = refl; legal = legal-between i es (event.Ask q) closed refl fit; own = refl }
answered-line says i es (Good command.Run) solver closed next None given =
    answered-goal says i es closed next (goal-so (know i es) _ given) (says i.domain (know i es) i.budget) refl (solver i.domain (know i es) i.budget)
answered-line says i es (Good (command.RunAction act)) solver closed next None given =
    let e = event.Run run.Action (act ∷ []) in
    let o = ground_act i.domain (know i es).instances act in
    let fit : row_allows i es e ≡ true =
    ap (opens_with i es run.Action (act ∷ [])) next
    ∙ and_from (same_acts (act ∷ []) (act ∷ [])) (is_ok o) ((same_acts-decides (act ∷ []) (act ∷ [])).1 refl) (accepted-act o given) in
    record { event = e; made = refl; legal = legal-between i es e closed refl fit; own = refl }
answered-line says i es (Good (command.RunPlan (Ok steps))) solver closed next None given =
    let acts = acts_of steps in
    let e = event.Run run.Plan acts in
    let o = judged i.domain (know i es) acts in
    let fit : row_allows i es e ≡ true =
    ap (opens_with i es run.Plan acts) next
    ∙ and_from (same_acts acts acts) (is_ok o) ((same_acts-decides acts acts).1 refl) (accepted-plan o (goal-so (know i es) (plan_refusal o) given)) in
    record { event = e; made = refl; legal = legal-between i es e closed refl fit; own = refl }
answered-line says i es (Good (command.RunPlan (Err why))) solver closed next None given =
    absurd (some-none (refusal.PlanText why) (goal-so (know i es) (Some (refusal.PlanText why)) given))
answered-line says i es (Good command.Quit) solver closed next None given =
    record { event = event.Quit; made = refl; legal = legal-between i es event.Quit closed refl (ap is_quit next); own = refl }
answered-line says i es (Bad cause) solver closed next None given = absurd (some-none (refusal.Line cause) given)

-- a line's block, and then turns
line-stands : (says : Says) (i : Input) (n : ℕ) (es : List Entry) (line : Line) → IsSolver says → is_running es ≡ false → next_line i es ≡ Some line
    → Stands i n es → Stands i (n + 1) (with_line says i es line)
line-stands says i n es line solver closed next h =
    let a = answered-line says i es line solver closed next (refusal_of i es line) refl in
    let hand : IsTrue (has_hand a.event 0) = ap (λ b. if b then 0 == 0 else (nat_le 1 0 && nat_le 0 16)) a.own in
    let stands : Stands i (n + 1) (with_block i 0 es a.event) = (
      block es (record { hand = 0; what = a.event }) h.0 a.legal hand,
      answered-block i 0 es a.event ∙ ap (λ b. if b then answered es + 1 else answered es) a.own ∙ ap (λ m. m + 1) h.1,
    ) in
    subst (λ o. Stands i (n + 1) (option_map_or (with_block i 0 es) o es)) (sym a.made) stands

-- ---- sessions

-- the item that stands after a stretch
pub get-seam : {A : Type 0} (xs : List A) (y : A) (ys : List A) → slice_get (xs ++ y ∷ ys) (length xs) ≡ Some y
get-seam [] y ys = refl
get-seam (x ∷ xs) y ys = get-seam xs y ys

-- a history in which so many lines are answered, where no run is open
abbrev Goes : Input → ℕ → List Entry → Type 0
Goes i n es = IsHistory i es × (is_running es ≡ false → answered es ≡ n)

after-goes : (says : Says) (i : Input) (turns : ℕ) (before : List Line) (line : Line) (rest : List Line) (es : List Entry) → IsSolver says
    → due_lines i.lines ≡ before ++ line ∷ rest → Goes i (length before) es → Goes i (length before + 1) (after_line says i turns es line)
after-goes says i turns before line rest es solver due h =
    let cases : (b : Bool) → is_running es ≡ b → Goes i (length before + 1) (if b then es else ordered says i (with_line says i es line) turns) =
    λ b. elim b as (λ b. is_running es ≡ b → Goes i (length before + 1) (if b then es else ordered says i (with_line says i es line) turns)) [
      | true ↦ λ live. (h.0, λ closed. absurd (true≢false (sym live ∙ closed)))
      | false ↦ λ closed.
          let next : next_line i es ≡ Some line =
          ap (slice_get (due_lines i.lines)) (h.1 closed) ∙ ap (λ ls. slice_get ls (length before)) due ∙ get-seam before line rest in
          let now = line-stands says i (length before) es line solver closed next (h.0, h.1 closed) in
          let after = ordered-stands says i (length before + 1) (with_line says i es line) solver now turns in
          (after.0, λ ended. after.1)
    ] in
    cases (is_running es) refl

session-goes : (says : Says) (i : Input) (turns : ℕ) (before lines : List Line) (es : List Entry) → IsSolver says → due_lines i.lines ≡ before ++ lines
    → Goes i (length before) es → Goes i (length (due_lines i.lines)) (fold (after_line says i turns) es lines)
session-goes says i turns before [] es solver due h = (h.0, λ closed. h.1 closed ∙ ap length (sym (due ∙ append-nil before)))
session-goes says i turns before (line ∷ lines) es solver due h =
    let longer : length (before ++ line ∷ []) ≡ length before + 1 = length-append before (line ∷ []) in
    session-goes says i turns (before ++ line ∷ []) lines (after_line says i turns es line) solver (due ∙ sym (append_assoc before (line ∷ []) lines))
    (subst (λ n. Goes i n (after_line says i turns es line)) (sym longer) (after-goes says i turns before line lines es solver due h))

pub sessions_are_orderly : SessionsAreOrderly
sessions_are_orderly says i turns solver =
    let all = session-goes says i turns [] (due_lines i.lines) [] solver refl (nothing, λ closed. refl) in
    record { history = all.0; whole = λ closed. record { lines = all.1 closed; closed = closed } }

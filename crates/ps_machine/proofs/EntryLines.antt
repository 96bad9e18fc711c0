-- Each entry's text is one line, where the names are and where what performers tell is.
use Rattle.std.proofs.Common.{◌≡◌, ℕ, ◌&&◌, nat_eq, nat_le, not, Bool, true, false, IsTrue, List, [], ◌∷◌, ◌++◌, codes, length, refl, arith}
use Rattle.std.specs.Fmt.{decimal}
use Rattle.std.specs.List.{ends_with, list_all, starts_with}
use Rattle.std.proofs.lemmas.Bool.{and_parts}
use Rattle.std.proofs.lemmas.Bool.Decides.{nat_tests}
use Rattle.ps_world.specs.Names.{Table, name_text}
use Rattle.ps_world.specs.Lines.{AreLines, is_line}
use Rattle.ps_world.specs.Texts.{args_text, edit_text}
use Rattle.ps_world.specs.declared.names.Name.{Name}
use Rattle.ps_action.specs.declared.acts.Act.{Act}
use Rattle.ps_action.specs.declared.refusals.EffectRefusal.{EffectRefusal}
use Rattle.ps_action.specs.declared.refusals.EffectRefusal.TheVariants as effect
use Rattle.ps_action.specs.declared.refusals.GroundRefusal.{GroundRefusal}
use Rattle.ps_action.specs.declared.refusals.GroundRefusal.TheVariants as ground
use Rattle.ps_action.specs.declared.refusals.PlanRefusal.{PlanRefusal}
use Rattle.ps_action.specs.declared.refusals.PlanRefusal.TheVariants as plan
use Rattle.ps_action.specs.declared.refusals.PlanTextRefusal.{PlanTextRefusal}
use Rattle.ps_action.specs.declared.refusals.PlanTextRefusal.TheVariants as plantext
use Rattle.ps_machine.specs.Tables.{IsEventOf, is_note, is_printable}
use Rattle.ps_machine.specs.Texts.{query_text, line_cause_text, ground_text, effect_text, plan_cause_text, plan_text_cause, refusal_text, by_text, act_text, acts_text, kind_text, pass_text, fail_text, cancel_text, outcome_text, finish_text, on_request, event_text, entry_line}
use Rattle.ps_machine.specs.declared.inputs.LineCause.{LineCause}
use Rattle.ps_machine.specs.declared.inputs.LineCause.TheVariants as line
use Rattle.ps_machine.specs.declared.inputs.Query.{Query}
use Rattle.ps_machine.specs.declared.inputs.Query.TheVariants as query
use Rattle.ps_machine.specs.declared.journal.By.{By}
use Rattle.ps_machine.specs.declared.journal.By.TheVariants as by
use Rattle.ps_machine.specs.declared.journal.Refusal.{Refusal}
use Rattle.ps_machine.specs.declared.journal.Refusal.TheVariants as refusal
use Rattle.ps_machine.specs.declared.journal.RunKind.{RunKind}
use Rattle.ps_machine.specs.declared.journal.RunKind.TheVariants as kind
use Rattle.ps_machine.specs.declared.journal.PassWhy.{PassWhy}
use Rattle.ps_machine.specs.declared.journal.PassWhy.TheVariants as pass
use Rattle.ps_machine.specs.declared.journal.FailWhy.{FailWhy}
use Rattle.ps_machine.specs.declared.journal.FailWhy.TheVariants as fail
use Rattle.ps_machine.specs.declared.journal.CancelWhy.{CancelWhy}
use Rattle.ps_machine.specs.declared.journal.CancelWhy.TheVariants as cancel
use Rattle.ps_machine.specs.declared.journal.Outcome.{Outcome}
use Rattle.ps_machine.specs.declared.journal.Outcome.TheVariants as outcome
use Rattle.ps_machine.specs.declared.journal.Event.{Event}
use Rattle.ps_machine.specs.declared.journal.Event.TheVariants as event
use Rattle.ps_machine.specs.declared.journal.Entry.{Entry}
use Rattle.ps_world.proofs.OneLine.{is_line-append, is_line-name, is_line-decimal, is_line-args, is_line-edit, is_line-edit_refusal}

is_line-query : (names : Table) (q : Query) → AreLines names → is_line (query_text names q) ≡ true
is_line-query names query.ModelTypes h = refl
is_line-query names query.ModelPredicates h = refl
is_line-query names query.ModelFunctions h = refl
is_line-query names query.ModelActions h = refl
is_line-query names (query.ModelPredicate n) h = is_line-name names n h
is_line-query names (query.ModelAction n) h = is_line-name names n h
is_line-query names query.Domain h = refl
is_line-query names query.ProblemInstances h = refl
is_line-query names query.ProblemPredicates h = refl
is_line-query names query.ProblemFunctions h = refl
is_line-query names query.ProblemGoal h = refl
is_line-query names query.Plan h = refl
is_line-query names query.Tree h = refl

-- ---- causes

is_line-cause : (cause : LineCause) → is_line (line_cause_text cause) ≡ true
is_line-cause (line.Lex at) = is_line-decimal at
is_line-cause (line.Number at) = is_line-decimal at
is_line-cause line.Command = refl
is_line-cause (line.Shape at) = is_line-decimal at
is_line-cause line.Nest = refl

is_line-ground : (names : Table) (r : GroundRefusal) → AreLines names → is_line (ground_text names r) ≡ true
is_line-ground names ground.NoAction h = refl
is_line-ground names (ground.Arity want got) h = is_line-append (decimal want) (codes " " ++ decimal got) (is_line-decimal want) (is_line-decimal got)
is_line-ground names (ground.NoInstance n) h = is_line-name names n h
is_line-ground names (ground.WrongType at) h = is_line-decimal at

is_line-effect : (r : EffectRefusal) → is_line (effect_text r) ≡ true
is_line-effect (effect.Clash at) = is_line-decimal at
is_line-effect (effect.Undefined at) = is_line-decimal at
is_line-effect (effect.Range at) = is_line-decimal at

is_line-plan : (names : Table) (r : PlanRefusal) → AreLines names → is_line (plan_cause_text names r) ≡ true
is_line-plan names plan.NoGoal h = refl
is_line-plan names (plan.Ground at r) h = is_line-append (decimal at) (codes " " ++ ground_text names r) (is_line-decimal at) (is_line-ground names r h)
is_line-plan names (plan.StartFalse at) h = is_line-append (decimal at) (codes " StartFalse") (is_line-decimal at) refl
is_line-plan names (plan.StartEffect at r) h = is_line-append (decimal at) (codes " StartEffect " ++ effect_text r) (is_line-decimal at) (is_line-effect r)
is_line-plan names (plan.OverAllFalse at) h = is_line-append (decimal at) (codes " OverAllFalse") (is_line-decimal at) refl
is_line-plan names (plan.EndFalse at) h = is_line-append (decimal at) (codes " EndFalse") (is_line-decimal at) refl
is_line-plan names (plan.EndEffect at r) h = is_line-append (decimal at) (codes " EndEffect " ++ effect_text r) (is_line-decimal at) (is_line-effect r)
is_line-plan names plan.GoalFalse h = refl

is_line-plan_text : (r : PlanTextRefusal) → is_line (plan_text_cause r) ≡ true
is_line-plan_text (plantext.Line n) = is_line-decimal n
is_line-plan_text (plantext.Long n) = is_line-decimal n

is_line-refusal : (names : Table) (r : Refusal) → AreLines names → is_line (refusal_text names r) ≡ true
is_line-refusal names (refusal.Line cause) h = is_line-cause cause
is_line-refusal names (refusal.Edit r) h = is_line-edit_refusal names r h
is_line-refusal names (refusal.Ground r) h = is_line-ground names r h
is_line-refusal names (refusal.Plan r) h = is_line-plan names r h
is_line-refusal names (refusal.PlanText r) h = is_line-plan_text r
is_line-refusal names refusal.NoGoal h = refl
is_line-refusal names refusal.NoPlan h = refl
is_line-refusal names (refusal.Spent depth) h = is_line-decimal depth
is_line-refusal names refusal.TooMany h = refl
is_line-refusal names refusal.NoRun h = refl
is_line-refusal names refusal.NoPredicate h = refl
is_line-refusal names refusal.NoAction h = refl

-- ---- parts of events

is_line-by : (names : Table) (by : By) (rest : List ℕ) → AreLines names → is_line rest ≡ true → is_line (by_text names by ++ rest) ≡ true
is_line-by names (by.Terminal n) rest h r = is_line-append (decimal n) rest (is_line-decimal n) r
is_line-by names (by.Performer q p) rest h r =
    is_line-append (decimal q ++ (codes " " ++ name_text names p)) rest
    (is_line-append (decimal q) (codes " " ++ name_text names p) (is_line-decimal q) (is_line-name names p h)) r
is_line-by names (by.Observer o) rest h r = is_line-append (name_text names o) rest (is_line-name names o h) r

is_line-act : (names : Table) (act : Act) → AreLines names → is_line (act_text names act) ≡ true
is_line-act names act h =
    is_line-append (name_text names act.action) (args_text names act.args ++ codes ")") (is_line-name names act.action h)
    (is_line-append (args_text names act.args) (codes ")") (is_line-args names act.args h) refl)

is_line-acts : (names : Table) (acts : List Act) → AreLines names → is_line (acts_text names acts) ≡ true
is_line-acts names [] h = refl
is_line-acts names (act ∷ acts) h = is_line-append (act_text names act) (acts_text names acts) (is_line-act names act h) (is_line-acts names acts h)

is_line-kind : (for : RunKind) → is_line (kind_text for) ≡ true
is_line-kind kind.Goal = refl
is_line-kind kind.Plan = refl
is_line-kind kind.Action = refl

is_line-pass : (why : PassWhy) → is_line (pass_text why) ≡ true
is_line-pass pass.Other = refl
is_line-pass pass.Busy = refl
is_line-pass pass.Late = refl

is_line-fail : (why : FailWhy) → is_line (fail_text why) ≡ true
is_line-fail fail.NoPerformer = refl
is_line-fail fail.Script = refl
is_line-fail fail.AtEnd = refl
is_line-fail fail.Effect = refl

is_line-cancel : (why : CancelWhy) → is_line (cancel_text why) ≡ true
is_line-cancel cancel.OverAll = refl
is_line-cancel cancel.Stop = refl

is_line-outcome : (how : Outcome) → is_line (outcome_text how) ≡ true
is_line-outcome outcome.Success = refl
is_line-outcome outcome.Act = refl
is_line-outcome outcome.Blocked = refl
is_line-outcome outcome.NoGoal = refl
is_line-outcome outcome.Replans = refl
is_line-outcome outcome.NoPlan = refl
is_line-outcome (outcome.Spent depth) = is_line-decimal depth
is_line-outcome outcome.TooMany = refl

is_line-finish : (ok : Bool) → is_line (finish_text ok) ≡ true
is_line-finish true = refl
is_line-finish false = refl

-- what is told of a request and a performer, after a word of its own
is_line-on : (names : Table) (word : List ℕ) (r : ℕ) (p : Name) (rest : List ℕ) → AreLines names → is_line word ≡ true → is_line rest ≡ true → is_line (on_request names word r p ++ rest) ≡ true
is_line-on names word r p rest h w q =
    is_line-append (on_request names word r p) rest
    (is_line-append word (decimal r ++ (codes " " ++ name_text names p)) w
    (is_line-append (decimal r) (codes " " ++ name_text names p) (is_line-decimal r) (is_line-name names p h))) q

is_line-alone : (names : Table) (word : List ℕ) (r : ℕ) (p : Name) → AreLines names → is_line word ≡ true → is_line (on_request names word r p) ≡ true
is_line-alone names word r p h w =
    is_line-append word (decimal r ++ (codes " " ++ name_text names p)) w
    (is_line-append (decimal r) (codes " " ++ name_text names p) (is_line-decimal r) (is_line-name names p h))

is_line-printable : (text : List ℕ) → list_all is_printable text ≡ true → is_line text ≡ true
is_line-printable [] h = refl
is_line-printable (b ∷ bs) h = grind (arith, nat_tests, is_line-printable bs)

is_line-note : (text : List ℕ) → IsTrue (is_note text) → is_line text ≡ true
is_line-note text h =
    let few = nat_le 1 (length text) && nat_le (length text) 64 in
    let trimmed = not (starts_with nat_eq text (codes " ")) && not (ends_with nat_eq text (codes " ")) in
    let printed = (and_parts (few && list_all is_printable text) trimmed h).0 in
    is_line-printable text (and_parts few (list_all is_printable text) printed).1

-- ---- events

-- the note that an event has, if it has one, is of the form that members may give
abbrev pub HasNote : Event → Type 0
HasNote (event.Feedback r p percent text) = IsTrue (is_note text)
HasNote e = Unit {0}

is_line-event : (names : Table) (e : Event) → AreLines names → HasNote e → is_line (event_text names e) ≡ true
is_line-event names (event.Edit by edit) h q = is_line-by names by (codes " " ++ edit_text names edit) h (is_line-edit names edit h)
is_line-event names (event.Refused by why) h q = is_line-by names by (codes " " ++ refusal_text names why) h (is_line-refusal names why h)
is_line-event names (event.Ask asked) h q = is_line-query names asked h
is_line-event names (event.Run for acts) h q = is_line-append (kind_text for) (acts_text names acts) (is_line-kind for) (is_line-acts names acts h)
is_line-event names event.Quit h q = refl
is_line-event names (event.Start i) h q = is_line-decimal i
is_line-event names (event.Request r i) h q = is_line-append (decimal r) (codes " " ++ decimal i) (is_line-decimal r) (is_line-decimal i)
is_line-event names (event.Offer r p) h q = is_line-alone names (codes "offer ") r p h refl
is_line-event names (event.Pass r p why) h q = is_line-on names (codes "pass ") r p (codes " " ++ pass_text why) h refl (is_line-pass why)
is_line-event names (event.Confirm r p) h q = is_line-alone names (codes "confirm ") r p h refl
is_line-event names (event.Reject r p) h q = is_line-alone names (codes "reject ") r p h refl
is_line-event names (event.Begin r p) h q = is_line-alone names (codes "begin ") r p h refl
is_line-event names (event.UnitWork r p) h q = is_line-alone names (codes "unitwork ") r p h refl
is_line-event names (event.Feedback r p percent text) h q =
    is_line-on names (codes "feedback ") r p (codes " " ++ (decimal percent ++ (codes " " ++ text))) h refl
    (is_line-append (decimal percent) (codes " " ++ text) (is_line-decimal percent) (is_line-note text q))
is_line-event names (event.Finish r p ok) h q = is_line-on names (codes "finish ") r p (finish_text ok) h refl (is_line-finish ok)
is_line-event names (event.Unserved r) h q = is_line-decimal r
is_line-event names (event.End i) h q = is_line-decimal i
is_line-event names (event.Fail i why) h q = is_line-append (decimal i) (codes " " ++ fail_text why) (is_line-decimal i) (is_line-fail why)
is_line-event names (event.Cancel i why) h q = is_line-append (decimal i) (codes " " ++ cancel_text why) (is_line-decimal i) (is_line-cancel why)
is_line-event names (event.Stopped r p) h q = is_line-alone names (codes "stopped ") r p h refl
is_line-event names (event.Replan acts) h q = is_line-acts names acts h
is_line-event names (event.Over how) h q = is_line-outcome how

-- an entry's text is one line where the note in it, if there is one, is in form
pub is_line-noted : (names : Table) (e : Entry) → AreLines names → HasNote e.what → is_line (entry_line names e) ≡ true
is_line-noted names e h q = is_line-append (decimal e.hand) (codes " " ++ event_text names e.what) (is_line-decimal e.hand) (is_line-event names e.what h q)

pub noted-of : (count : ℕ) (e : Event) → IsEventOf count e → HasNote e
noted-of count (event.Feedback r p percent text) q = q.2
noted-of count e q = tt

pub is_line-entry : (names : Table) (count : ℕ) (e : Entry) → AreLines names → IsEventOf count e.what → is_line (entry_line names e) ≡ true
is_line-entry names count e h q = is_line-noted names e h (noted-of count e.what q)

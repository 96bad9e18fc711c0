-- The query for a plan: where it may come, and what it changes.
use Rattle.std.proofs.Common.{◌≡◌, ℕ, ◌&&◌, ◌==◌, Bool, true, false, not, Option, Some, None, is_none, is_some, List, refl, ap, sym, ◌∙◌, subst}
use Rattle.std.proofs.lemmas.Bool.{and_from, and_parts, true≢false}
use Rattle.ps_machine.specs.declared.inputs.Command.TheVariants as command
use Rattle.ps_machine.specs.declared.inputs.Input.{Input}
use Rattle.ps_machine.specs.declared.inputs.Line.{Line}
use Rattle.ps_machine.specs.declared.inputs.Line.TheVariants.{Good}
use Rattle.ps_machine.specs.declared.inputs.Query.{Query}
use Rattle.ps_machine.specs.declared.inputs.Query.TheVariants as query
use Rattle.ps_machine.specs.declared.journal.Event.{Event}
use Rattle.ps_machine.specs.declared.journal.Event.TheVariants as event
use Rattle.ps_machine.specs.declared.journal.Entry.{Entry}
use Rattle.ps_rules.specs.Known.{know}
use Rattle.ps_rules.specs.Legal.{has_hand, is_accepted, is_legal, is_query, same_flag}
use Rattle.ps_rules.specs.Lines.{next_line, refusal_of_goal}
use Rattle.ps_rules.specs.Runs.{is_running}
use Rattle.ps_rules.specs.Same.{same_query}
use Rattle.ps_rules.proofs.SameThings.{same_query-decides}
use Rattle.ps_state.specs.State.{Stands}
use Rattle.ps_state.specs.Awaiting.{after_edit, Awaits, MayBegin}
use Rattle.ps_state.specs.declared.state.State.{State}
use Rattle.ps_state.proofs.Awaiting.{awaits}
use Rattle.ps_replay.specs.Judge.{is_cancel_in, may_ask_plan, TellsPlan}
use Rattle.ps_rules.specs.Choices.{Says}
use Rattle.ps_action.specs.declared.acts.Act.{Act}
use Rattle.ps_action.specs.declared.answers.Answer.TheVariants.{Plan}

-- whether a query is the one for a plan
pub plan-so : (q : Query) → q ≡ query.Plan → true ≡ same_query query.Plan q
plan-so q is = sym ((same_query-decides query.Plan q).1 (sym is))

pub other-so : (q : Query) → (q ≡ query.Plan → ⊥) → false ≡ same_query query.Plan q
other-so q other = by-test (same_query query.Plan q) refl where
  by-test : (b : Bool) → same_query query.Plan q ≡ b → false ≡ b
  by-test true e = absurd (other (sym ((same_query-decides query.Plan q).0 e)))
  by-test false e = refl

-- ---- where it may come

-- a line that asks for a plan is accepted where one is made for the goal
accepted-so : (i : Input) (es : List Entry) (line : Option Line)
    → (is_query query.Plan line && is_accepted i es line) ≡ (is_query query.Plan line && is_none (refusal_of_goal i.domain (know i es) i.budget))
accepted-so i es (Some (Good (command.Ask q))) = by-test (same_query query.Plan q) refl where
  by-test : (b : Bool) → same_query query.Plan q ≡ b
      → (b && is_accepted i es (Some (Good (command.Ask q)))) ≡ (b && is_none (refusal_of_goal i.domain (know i es) i.budget))
  by-test true e = ap (λ x. is_accepted i es (Some (Good (command.Ask x)))) (sym ((same_query-decides query.Plan q).0 e))
  by-test false e = refl
accepted-so i es line = refl

flags : (hand r q g : Bool) → ((same_flag true (not r) && (q && g)) && hand) ≡ ((hand && (not r && q)) && g)
flags true true q g = refl
flags true false true true = refl
flags true false true false = refl
flags true false false g = refl
flags false true q g = refl
flags false false true true = refl
flags false false true false = refl
flags false false false g = refl

pub legal-so : (i : Input) (es : List Entry) (hand : ℕ) (e : Event) → e ≡ event.Ask query.Plan
    → (may_ask_plan i es hand && is_none (refusal_of_goal i.domain (know i es) i.budget)) ≡ (is_legal i es e && has_hand e hand)
legal-so i es hand e is =
    let g : Bool = is_none (refusal_of_goal i.domain (know i es) i.budget) in
    let line : Option Line = next_line i es in
    let asks : Bool = is_query query.Plan line in
    sym (flags (hand == 0) (is_running es) asks g)
    ∙ ap (λ b. (same_flag true (not (is_running es)) && b) && (hand == 0)) (sym (accepted-so i es line))
    ∙ ap (λ x. is_legal i es x && has_hand x hand) (sym is)

-- where a plan is made for the goal, by what is known
pub made-so : (i : Input) (es : List Entry) (p : State) → Stands i es p
    → is_none (refusal_of_goal p.expert p.problem i.budget) ≡ is_none (refusal_of_goal i.domain (know i es) i.budget)
made-so i es p s =
    ap (λ d. is_none (refusal_of_goal d p.problem i.budget)) s.domain ∙ ap (λ k. is_none (refusal_of_goal i.domain k i.budget)) s.known

pub legal-there : (i : Input) (es : List Entry) (hand : ℕ) (e : Event) (p : State) → e ≡ event.Ask query.Plan → Stands i es p → may_ask_plan i es hand ≡ true
    → is_none (refusal_of_goal p.expert p.problem i.budget) ≡ true → is_legal i es e ≡ true
legal-there i es hand e p is s may made =
    (and_parts (is_legal i es e) (has_hand e hand)
    (sym (legal-so i es hand e is)
    ∙ and_from (may_ask_plan i es hand) (is_none (refusal_of_goal i.domain (know i es) i.budget)) may (sym (made-so i es p s) ∙ made))).0

-- ---- what it changes

pub awaits-query : (i : Input) (es : List Entry) (e : Event) (p : State) → e ≡ event.Ask query.Plan → Stands i es p → Awaits i es e p
awaits-query i es e p is s =
    awaits i es e p p s (record { expert = refl; due = refl; ledger = refl; grounds = refl; arcs = refl; tree = refl })
    (ap (after_edit p.expert p.problem) (sym is))

pub begins-nothing : (e : Event) (p : State) → e ≡ event.Ask query.Plan → MayBegin e p
begins-nothing e p is = subst (λ x. MayBegin x p) (sym is) tt

-- ---- what is told

pub tells-plan : (says : Says) (i : Input) (es : List Entry) (e : Event) (p : State) (acts : List Act) → e ≡ event.Ask query.Plan → Stands i es p
    → says p.expert p.problem i.budget ≡ Plan acts → TellsPlan says i es e acts
tells-plan says i es e p acts is s told =
    subst (λ x. TellsPlan says i es x acts) (sym is)
    (ap (λ d. says d (know i es) i.budget) (sym s.domain) ∙ ap (λ k. says p.expert k i.budget) (sym s.known) ∙ told)

pub tells-other : (says : Says) (i : Input) (es : List Entry) (e : Event) (acts : List Act) → (e ≡ event.Ask query.Plan → ⊥) → TellsPlan says i es e acts
tells-other says i es (event.Ask query.Plan) acts other = absurd (other refl)
tells-other says i es e acts other = tt

pub cancel-told : (says : Says) (i : Input) (es : List Entry) (n : ℕ) (e : Event) (acts : List Act) → is_cancel_in n e ≡ true → TellsPlan says i es e acts
cancel-told says i es n (event.Ask query.Plan) acts h = absurd (true≢false (sym h))
cancel-told says i es n e acts h = tt

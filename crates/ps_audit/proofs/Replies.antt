-- What the reply to an entry tells of, once it has come.
use Rattle.std.proofs.Common.{◌≡◌, Some, List, [], ◌∷◌, ◌++◌, refl, ap, sym, ◌∙◌, subst}
use Rattle.ps_action.specs.Search.{answer}
use Rattle.ps_action.specs.declared.acts.Act.{Act}
use Rattle.ps_action.specs.declared.answers.Answer.TheVariants.{Plan}
use Rattle.ps_machine.specs.declared.inputs.Input.{Input}
use Rattle.ps_machine.specs.declared.inputs.Query.{Query}
use Rattle.ps_machine.specs.declared.inputs.Query.TheVariants as query
use Rattle.ps_machine.specs.declared.journal.Event.{Event}
use Rattle.ps_machine.specs.declared.journal.Event.TheVariants as event
use Rattle.ps_machine.specs.declared.journal.Entry.{Entry}
use Rattle.ps_rules.specs.Choices.{Says}
use Rattle.ps_rules.specs.Known.{know}
use Rattle.ps_state.specs.State.{Stands}
use Rattle.ps_state.specs.Awaiting.{KeepsStanding}
use Rattle.ps_state.specs.declared.state.State.{State}
use Rattle.ps_state.proofs.PlanTrees.{tree-is}
use Rattle.ps_replay.specs.Judge.{GoesTo, Reaches, TellsPlan}
use Rattle.ps_replay.specs.declared.judge.Judge.{Judge}
use Rattle.ps_replies.specs.Plans.{GivesLeast, RepliesTo, RepliesToQuery}
use Rattle.ps_replies.proofs.Queries.{ask, replies-before}

module _ (says : Says) (i : Input) (es : List Entry) (e : Entry) (p : State) (plan : List Act) (gives : GivesLeast says) (stands : Stands i (es ++ e ∷ []) p)
    (told : TellsPlan says i es e.what plan) (shown : e.what ≡ event.Ask query.Tree → p.tree.states ≡ p.ledger.acts.states.items) where
  reply-after : (q : Query) → e.what ≡ event.Ask q → RepliesToQuery i es q p.expert p.problem plan (Some p.tree)
  reply-after q is =
      let same : e ≡ ask e.hand q = λ t. record { hand = e.hand; what = is t } in
      let s : Stands i (es ++ ask e.hand q ∷ []) p = subst (λ x. Stands i (es ++ x ∷ []) p) same stands in
      replies-before i es e.hand q p.expert p.problem plan (Some p.tree) s.domain s.known
      (λ plans. sym (gives i.domain (know i es) i.budget) ∙ subst (λ what. TellsPlan says i es what plan) (is ∙ ap event.Ask plans) told)
      (λ trees. ap (λ t. Some t) (tree-is i (es ++ ask e.hand q ∷ []) p s p.tree s.tree (shown (is ∙ ap event.Ask trees))))

  pub replies-after : RepliesTo i es e.what p.expert p.problem plan (Some p.tree)
  replies-after = by-event e.what refl where
    by-event : (what : Event) → e.what ≡ what → RepliesTo i es what p.expert p.problem plan (Some p.tree)
    by-event (event.Ask q) is = reply-after q is
    by-event what is = tt

-- a judge whose tree is shown has reached the same
pub shown-reached : (i : Input) (es : List Entry) (old new : Judge) → Reaches i es old → KeepsStanding old.state new.state → new.forced ≡ old.forced → new.met ≡ old.met
    → Reaches i es new
shown-reached i es old new r keeps forced met =
    let moved : Reaches i es (record { state = new.state; forced = old.forced; met = old.met; plan = new.plan }) =
    record { stands = keeps i es r.stands; prefix = r.prefix; within = r.within; met = r.met } in
    subst (λ m. Reaches i es (record { state = new.state; forced = new.forced; met = m; plan = new.plan })) (sym met)
    (subst (λ f. Reaches i es (record { state = new.state; forced = f; met = old.met; plan = new.plan })) (sym forced) moved)

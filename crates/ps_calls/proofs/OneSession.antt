-- Sessions whose turns are ordered.
use Rattle.std.proofs.Common.{◌≡◌, ℕ, true, List, refl, sym, ap, ◌∙◌, subst}
use Rattle.ps_world.specs.Names.{Table}
use Rattle.ps_machine.specs.declared.inputs.Input.{Input}
use Rattle.ps_rules.specs.History.{status_of}
use Rattle.ps_rules.specs.Journal.{journal_text}
use Rattle.ps_inputs.specs.declared.works.Session.{Session}
use Rattle.ps_session.specs.Laws.{OneJournal}
use Rattle.ps_session.specs.Session.{IsSession}
use Rattle.ps_session.specs.declared.ways.Turns.{Turns}
use Rattle.ps_session.specs.declared.ways.Turns.TheVariants.{InOrder}
use Rattle.ps_calls.specs.Headline.{turns_of}
use Rattle.ps_calls.specs.Laws.{OrderedSessionsAreOne}

-- one journal has one text and one status
one-text : OneJournal → (i : Input) (names : Table) (bytes other : List ℕ) (status end : ℕ) → IsSession InOrder i names bytes status
    → IsSession InOrder i names other end → (bytes ≡ other) × (status ≡ end)
one-text law i names bytes other status end one two =
    let same : one.journal ≡ two.journal = law i one.journal two.journal one.is two.is in
    (sym one.text ∙ (ap (journal_text names i) same ∙ two.text), one.answer ∙ (ap status_of same ∙ sym two.answer))

in_order : (s : Session) → s.ordered ≡ true → turns_of s ≡ InOrder
in_order s is = rw is refl

pub sessions_are_one : OneJournal → OrderedSessionsAreOne
sessions_are_one law s t bytes other status end first second input names one two =
    let ordered = subst (λ (how : Turns). IsSession how s.input s.names bytes status) (in_order s first) one in
    let also = subst (λ (how : Turns). IsSession how t.input t.names other end) (in_order t second) two in
    let here = subst (λ (i : Input). IsSession InOrder i t.names other end) (sym input) also in
    one-text law s.input s.names bytes other status end ordered (subst (λ (n : Table). IsSession InOrder s.input n other end) (sym names) here)

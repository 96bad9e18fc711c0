-- What follows for the journals of sessions.
use Rattle.std.specs.Prelude.{◌≡◌, List}
use Rattle.ps_rules.specs.History.{IsHistory}
use Rattle.ps_good_plan_laws.specs.Beginnings.{GoInOrder}
use Rattle.ps_good_plan_laws.specs.Segments.{GoWell}
use Rattle.ps_machine.specs.declared.inputs.Input.{Input}
use Rattle.ps_machine.specs.declared.journal.Entry.{Entry}
use Rattle.ps_session.specs.Session.{IsJournal, TellSuccess}
use Rattle.ps_session.specs.declared.ways.Turns.{Turns}
use Rattle.ps_session.specs.declared.ways.Turns.TheVariants.{InOrder}

-- in every history a run that ends is told to have succeeded exactly where its goal holds then
abbrev pub HistoriesTellSuccess : Type 0
HistoriesTellSuccess = (i : Input) (es : List Entry) → IsHistory i es → TellSuccess i es

-- where members take turns in order, the journal of a session is a function of its input
abbrev pub OneJournal : Type 0
OneJournal = (i : Input) (es fs : List Entry) → IsJournal InOrder i es → IsJournal InOrder i fs → es ≡ fs

-- In the journal of a session, however the members of its runs take turns, each good plan goes well, wherever it is made and whatever follows:
-- where no edit changes what is known, it doesn't go wrong by itself, and where no act fails, it isn't left without success. Each plan's
-- starts and ends follow an order that its arcs allow.
abbrev pub SessionsGoWell : Type 0
SessionsGoWell = (how : Turns) (i : Input) (es : List Entry) → IsJournal how i es → GoWell i es × GoInOrder i es

-- The session that README shows, which the definitions compute.
use Rattle.std.specs.Prelude.{◌≡◌, ℕ, List, [], ◌∷◌, ◌++◌, codes}
use Rattle.ps_world.specs.Names.{Table, object}
use Rattle.ps_rules.specs.History.{IsHistory, IsWhole, status_of}
use Rattle.ps_rules.specs.Journal.{journal_text}
use Rattle.ps_world.specs.declared.names.Name.{Name}
use Rattle.ps_world.specs.declared.domains.Domain.{Domain}
use Rattle.ps_world.specs.declared.edits.Edit.{Edit}
use Rattle.ps_world.specs.declared.edits.Edit.TheVariants.{AddInstance, AddFact}
use Rattle.ps_world.specs.declared.edits.EditRefusal.TheVariants.{WrongType}
use Rattle.ps_machine.specs.declared.inputs.Query.TheVariants.{ProblemPredicates}
use Rattle.ps_machine.specs.declared.inputs.Command.TheVariants as command
use Rattle.ps_machine.specs.declared.inputs.Line.{Line}
use Rattle.ps_machine.specs.declared.inputs.Line.TheVariants.{Good}
use Rattle.ps_machine.specs.declared.inputs.Input.{Input}
use Rattle.ps_machine.specs.declared.journal.By.TheVariants.{Terminal}
use Rattle.ps_machine.specs.declared.journal.Refusal.TheVariants as refusal
use Rattle.ps_machine.specs.declared.journal.Event.{Event}
use Rattle.ps_machine.specs.declared.journal.Event.TheVariants as event
use Rattle.ps_machine.specs.declared.journal.Entry.{Entry}

-- its names: object, then those of the domain, then those of the script
abbrev pub sample_names : Table
sample_names =
    codes "object" ∷ codes "robot" ∷ codes "room" ∷ codes "robot_at" ∷ codes "leia" ∷ codes "hall" ∷ []

-- the name with this number
abbrev pub name : ℕ → Name
name n = record { 0 = n }

-- robots and rooms, and where a robot is
abbrev pub sample_domain : Domain
sample_domain = record {
  name = name 0;
  types = record { name = name 1; kind = object } ∷ record { name = name 2; kind = object } ∷ [];
  constants = [];
  predicates =
      record { name = name 3; params = record { name = name 4; kind = name 1 } ∷ record { name = name 5; kind = name 2 } ∷ [] } ∷ [];
  functions = [];
  actions = [];
}

-- robot_at with these two arguments
abbrev pub robot_at : ℕ → ℕ → Edit
robot_at a b = AddFact (record { head = name 3; args = name a ∷ name b ∷ [] })

-- a line that is an edit
abbrev pub edit_line : Edit → Line
edit_line edit = Good (command.Edit edit)

-- two instances, a fact, a fact with its arguments the other way round, a query
abbrev pub sample_input : Input
sample_input = record {
  domain = sample_domain;
  members = [];
  lines =
      edit_line (AddInstance (name 4) (name 1))
      ∷ edit_line (AddInstance (name 5) (name 2))
      ∷ edit_line (robot_at 4 5)
      ∷ edit_line (robot_at 5 4)
      ∷ Good (command.Ask ProblemPredicates)
      ∷ [];
  budget = 20000;
  replans = 3;
}

-- an entry of the terminal
abbrev pub by_terminal : Event → Entry
by_terminal what = record { hand = 0; what = what }

-- the entries of that session: the second fact is refused
abbrev pub sample_entries : List Entry
sample_entries =
    by_terminal (event.Edit (Terminal 1) (AddInstance (name 4) (name 1)))
    ∷ by_terminal (event.Edit (Terminal 2) (AddInstance (name 5) (name 2)))
    ∷ by_terminal (event.Edit (Terminal 3) (robot_at 4 5))
    ∷ by_terminal (event.Refused (Terminal 4) (refusal.Edit (WrongType 0)))
    ∷ by_terminal (event.Ask ProblemPredicates)
    ∷ []

-- its journal, line by line
abbrev pub sample_text : List ℕ
sample_text =
    codes "plansys-journal 2" ++ (10 ∷ codes "settings budget 20000 replans 3")
    ++ (10 ∷ codes "0 edit terminal 1 set instance leia robot")
    ++ (10 ∷ codes "0 edit terminal 2 set instance hall room")
    ++ (10 ∷ codes "0 edit terminal 3 set predicate (robot_at leia hall)")
    ++ (10 ∷ codes "0 refused terminal 4 WrongType 0")
    ++ (10 ∷ codes "0 ask get problem predicates")
    ++ (10 ∷ codes "  (robot_at leia hall)")
    ++ (10 ∷ [])

-- The sample's entries are a whole history of its input, print as that text, and end with status 1.
pub record IsSampleRight : Type 0 where
  pub history : IsHistory sample_input sample_entries
  pub whole : IsWhole sample_input sample_entries
  pub text : journal_text sample_names sample_input sample_entries ≡ sample_text
  pub status : status_of sample_entries ≡ 1

-- The run of one act, which the definitions compute: a cart is filled by what the capacity is.
use Rattle.std.specs.Prelude.{◌≡◌, ℕ, pos, true, None, List, [], ◌∷◌, ◌++◌, codes}
use Rattle.ps_world.specs.Names.{Table, object}
use Rattle.ps_world.specs.declared.names.Name.{Name}
use Rattle.ps_world.specs.declared.schemas.Term.TheVariants.{Var}
use Rattle.ps_world.specs.declared.domains.Param.{Param}
use Rattle.ps_world.specs.declared.domains.Domain.{Domain}
use Rattle.ps_world.specs.declared.actions.NumOp.TheVariants.{Increase}
use Rattle.ps_world.specs.declared.actions.Effect.TheVariants.{Number}
use Rattle.ps_world.specs.declared.expressions.Expr.TheVariants.{Num, Fun}
use Rattle.ps_world.specs.Trees.{holds}
use Rattle.ps_world.specs.declared.edits.Edit.{Edit}
use Rattle.ps_world.specs.declared.edits.Edit.TheVariants.{AddInstance, AddFact, SetValue}
use Rattle.ps_action.specs.Effects.{plainly}
use Rattle.ps_action.specs.declared.acts.Act.{Act}
use Rattle.ps_action.specs.declared.answers.Answer.TheVariants.{NoPlan}
use Rattle.ps_machine.specs.declared.inputs.Query.TheVariants.{ProblemFunctions}
use Rattle.ps_machine.specs.declared.inputs.Command.TheVariants as command
use Rattle.ps_machine.specs.declared.inputs.Line.{Line}
use Rattle.ps_machine.specs.declared.inputs.Line.TheVariants.{Good}
use Rattle.ps_machine.specs.declared.inputs.Input.{Input}
use Rattle.ps_machine.specs.declared.members.Unit.TheVariants as unit
use Rattle.ps_machine.specs.declared.members.Member.{Member}
use Rattle.ps_machine.specs.declared.members.Member.TheVariants as member
use Rattle.ps_machine.specs.declared.journal.By.TheVariants.{Terminal}
use Rattle.ps_machine.specs.declared.journal.RunKind.TheVariants as run
use Rattle.ps_machine.specs.declared.journal.Outcome.TheVariants as outcome
use Rattle.ps_machine.specs.declared.journal.Event.{Event}
use Rattle.ps_machine.specs.declared.journal.Event.TheVariants as event
use Rattle.ps_machine.specs.declared.journal.Entry.{Entry}
use Rattle.ps_rules.specs.Choices.{session_ordered}
use Rattle.ps_rules.specs.History.{IsHistory, IsWhole, status_of}
use Rattle.ps_rules.specs.Journal.{journal_text}

-- its names: object, then those of the domain, then those of the script and of the member
abbrev pub cart_names : Table
cart_names =
    codes "object"
    ∷ codes "cart"
    ∷ codes "ready"
    ∷ codes "load"
    ∷ codes "cap"
    ∷ codes "fill"
    ∷ codes "c"
    ∷ codes "c1"
    ∷ codes "filler"
    ∷ codes "depot"
    ∷ []

-- the name with this number
abbrev pub name : ℕ → Name
name n = record { 0 = n }

-- the parameter ?c - cart
abbrev pub cart : List Param
cart = record { name = name 6; kind = name 1 } ∷ []

-- the domain: filling a ready cart increases its load by the capacity
abbrev pub depot : Domain
depot = record {
  name = name 9;
  types = record { name = name 1; kind = object } ∷ [];
  constants = [];
  predicates = record { name = name 2; params = cart } ∷ [];
  functions = record { name = name 3; params = cart } ∷ record { name = name 4; params = [] } ∷ [];
  actions = record {
    name = name 5;
    params = cart;
    duration = Num (pos 1500);
    conditions = record {
      at_start = holds (record { head = name 2; terms = Var 0 ∷ [] }) ∷ [];
      over_all = [];
      at_end = [];
    };
    effects = record {
      at_start = [];
      at_end = plainly (Number Increase (record { head = name 3; terms = Var 0 ∷ [] }) (Fun (record { head = name 4; terms = [] })) ∷ []);
    };
  } ∷ [];
}

-- the cart is ready
abbrev pub cart_ready : Edit
cart_ready = AddFact (record { head = name 2; args = name 7 ∷ [] })

-- it is nearly full
abbrev pub cart_load : Edit
cart_load = SetValue (record { head = name 3; args = name 7 ∷ [] }) (pos 999999999999999)

-- the capacity is a thousandth
abbrev pub capacity : Edit
capacity = SetValue (record { head = name 4; args = [] }) (pos 1)

-- filling the cart
abbrev pub fill : Act
fill = record { action = name 5; args = name 7 ∷ [] }

-- a member that fills whatever cart
abbrev pub filler : Member
filler = member.Performer (record { name = name 8; action = name 5; pattern = None ∷ []; jobs = (unit.Finish true ∷ []) ∷ [] })

-- a line that is an edit
abbrev pub edit_line : Edit → Line
edit_line edit = Good (command.Edit edit)

-- a cart, its load and the capacity; then a run of one act; then a query
abbrev pub cart_input : Input
cart_input = record {
  domain = depot;
  members = filler ∷ [];
  lines =
      edit_line (AddInstance (name 7) (name 1))
      ∷ edit_line cart_ready
      ∷ edit_line cart_load
      ∷ edit_line capacity
      ∷ Good (command.RunAction fill)
      ∷ Good (command.Ask ProblemFunctions)
      ∷ [];
  budget = 20000;
  replans = 3;
}

-- an entry of the terminal
abbrev pub by_terminal : Event → Entry
by_terminal what = record { hand = 0; what = what }

-- an entry of the first worker
abbrev pub by_worker : Event → Entry
by_worker what = record { hand = 1; what = what }

-- the entries of that session
abbrev pub cart_entries : List Entry
cart_entries =
    by_terminal (event.Edit (Terminal 1) (AddInstance (name 7) (name 1)))
    ∷ by_terminal (event.Edit (Terminal 2) cart_ready)
    ∷ by_terminal (event.Edit (Terminal 3) cart_load)
    ∷ by_terminal (event.Edit (Terminal 4) capacity)
    ∷ by_terminal (event.Run run.Action (fill ∷ []))
    ∷ by_worker (event.Start 0)
    ∷ by_worker (event.Request 0 0)
    ∷ by_worker (event.Offer 0 (name 8))
    ∷ by_worker (event.Confirm 0 (name 8))
    ∷ by_worker (event.Begin 0 (name 8))
    ∷ by_worker (event.Finish 0 (name 8) true)
    ∷ by_worker (event.End 0)
    ∷ by_worker (event.Over outcome.Success)
    ∷ by_terminal (event.Ask ProblemFunctions)
    ∷ []

-- its journal, line by line
abbrev pub cart_text : List ℕ
cart_text =
    codes "plansys-journal 2" ++ (10 ∷ codes "settings budget 20000 replans 3")
    ++ (10 ∷ codes "0 edit terminal 1 set instance c1 cart")
    ++ (10 ∷ codes "0 edit terminal 2 set predicate (ready c1)")
    ++ (10 ∷ codes "0 edit terminal 3 set function (= (load c1) 999999999999.999)")
    ++ (10 ∷ codes "0 edit terminal 4 set function (= (cap) 0.001)")
    ++ (10 ∷ codes "0 run action (fill c1)")
    ++ (10 ∷ codes "1 start 0")
    ++ (10 ∷ codes "1 request 0 0")
    ++ (10 ∷ codes "1 offer 0 filler")
    ++ (10 ∷ codes "1 confirm 0 filler")
    ++ (10 ∷ codes "1 begin 0 filler")
    ++ (10 ∷ codes "1 finish 0 filler ok")
    ++ (10 ∷ codes "1 end 0")
    ++ (10 ∷ codes "1 over success")
    ++ (10 ∷ codes "0 ask get problem functions")
    ++ (10 ∷ codes "  (= (cap) 0.001)")
    ++ (10 ∷ codes "  (= (load c1) 1000000000000.000)")
    ++ (10 ∷ [])

-- The entries are a whole history of that input, print as that text, end with status 0, and are those of the members' turns in order.
pub record IsCartRight : Type 0 where
  pub history : IsHistory cart_input cart_entries
  pub whole : IsWhole cart_input cart_entries
  pub text : journal_text cart_names cart_input cart_entries ≡ cart_text
  pub status : status_of cart_entries ≡ 0
  pub ordered : session_ordered (λ d k budget. NoPlan) cart_input 16 ≡ cart_entries

-- Which performers a request holds.
use Rattle.std.specs.Prelude.{ℕ, ◌==◌, ◌&&◌, Bool, true, false, Option, None, List}
use Rattle.ps_world.specs.Names.{same_name}
use Rattle.ps_world.specs.declared.names.Name.{Name}
use Rattle.ps_machine.specs.declared.journal.Event.{Event}
use Rattle.ps_machine.specs.declared.journal.Event.TheVariants as event
use Rattle.ps_machine.specs.declared.journal.Entry.{Entry}
use Rattle.ps_rules.specs.Reading.{latest, only_if}

-- what an event says of whether a request holds a performer
abbrev pub says_held : ℕ → Name → Event → Option Bool
says_held r p (event.Offer s q) = only_if ((r == s) && same_name p q) true
says_held r p (event.Reject s q) = only_if ((r == s) && same_name p q) false
says_held r p (event.Finish s q ok) = only_if ((r == s) && same_name p q) false
says_held r p (event.Stopped s q) = only_if ((r == s) && same_name p q) false
says_held r p e = None

-- whether a request holds a performer: from its offer there until it is rejected, finishes or stops there
abbrev pub is_held : ℕ → Name → List Entry → Bool
is_held r p es = latest (says_held r p) false es

-- Which entries ask, and so have a reply.
use Rattle.std.specs.Prelude.{◌≡◌, Bool, true, false, List, [], ◌∷◌}
use Rattle.ps_machine.specs.declared.journal.Event.{Event}
use Rattle.ps_machine.specs.declared.journal.Event.TheVariants as event
use Rattle.ps_machine.specs.declared.journal.Entry.{Entry}

-- whether an event asks something, which is replied to
abbrev pub is_ask : Event → Bool
is_ask (event.Ask q) = true
is_ask e = false

-- of these entries none but the last asks
abbrev pub AskAtEnd : List Entry → Type 0
AskAtEnd [] = Unit {0}
AskAtEnd (e ∷ []) = Unit {0}
AskAtEnd (e ∷ f ∷ es) = (is_ask e.what ≡ false) × AskAtEnd (f ∷ es)

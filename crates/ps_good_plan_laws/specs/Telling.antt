-- That states which tell the same are equal.
use Rattle.std.specs.Prelude.{◌≡◌, ◌↔◌, List}
use Rattle.ps_machine.specs.declared.inputs.Input.{Input}
use Rattle.ps_machine.specs.declared.journal.Entry.{Entry}
use Rattle.ps_arcs.specs.Commuting.{TellTheSame}
use Rattle.ps_rules.specs.Known.{know}

-- what is known after some entries and after others tells the same exactly where it is equal, since its lists are kept in order
abbrev pub ToldIsKnown : Type 0
ToldIsKnown =
    (i : Input) (es fs : List Entry) → TellTheSame (know i es) (know i fs) ↔ (know i es ≡ know i fs)

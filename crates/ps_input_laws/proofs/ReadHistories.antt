-- The texts of histories of inputs that are read are read as their entries.
use Rattle.std.proofs.Common.{List}
use Rattle.ps_world.specs.Names.{Table}
use Rattle.ps_machine.specs.declared.inputs.Input.{Input}
use Rattle.ps_machine.specs.declared.journal.Entry.{Entry}
use Rattle.ps_rules.specs.Sound.{IsSound}
use Rattle.ps_text.specs.Names.{AreNames}
use Rattle.ps_history_laws.specs.Laws.{IsSaidHistory}
use Rattle.ps_history_laws.proofs.Printed.{printed_histories_are_one, printed_histories_are_read}
use Rattle.ps_inputs.proofs.SoundInput.{input_sound}
use Rattle.ps_input_laws.specs.Laws.{IsReadHistory, IsReadInput, ReadHistoriesAreOne, ReadHistoriesAreRead}
use Rattle.ps_input_laws.proofs.SayableInputs.{inputs_are_sayable, names_after_input}

module _ (names : Table) (i : Input) where
  -- an input that is read is within the limits of a session
  read_sound : IsReadInput names i → IsSound i
  read_sound is = input_sound is.budget is.replans is.texts i names is.read is.few_lines is.some_budget is.bounded_budget is.few_replans

  -- the table after it is one of names
  read_names : IsReadInput names i → AreNames names
  read_names is = names_after_input is.budget is.replans is.texts i names is.read

  -- what stands in its history can be said
  read_said : (es : List Entry) → IsReadHistory names i es → IsSaidHistory names i es
  read_said es h = record {
    sound = read_sound h.input;
    sayable = inputs_are_sayable h.input.budget h.input.replans h.input.texts i names h.input.read;
    history = h.history;
    held = h.held;
  }

pub read_histories_are_read : ReadHistoriesAreRead
read_histories_are_read head names table i es good known keeps h =
    printed_histories_are_read head names table i es good (read_names names i h.input) known keeps (read_said names i es h)

pub read_histories_are_one : ReadHistoriesAreOne
read_histories_are_one g h names i j es fs gg gh x y same =
    printed_histories_are_one g h names i j es fs gg gh (read_names names i x.input) (read_said names i es x) (read_said names j fs y) same

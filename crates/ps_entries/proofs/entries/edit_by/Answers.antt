use Rattle.std.proofs.Common.{◌∙◌, sym}
use Rattle.ps_entries.proofs.ReadTables.{goes_read}
use Rattle.ps_entries.proofs.SaidOnce.{finds_edit, finds_no_edit}
use Rattle.ps_entries.proofs.entries.edit_by.Goals as goal

pub returns-in-Some-clause-finds : goal.returns-in-Some-clause-finds
returns-in-Some-clause-finds c =
    finds_edit c.args.names.now c.args.words.now c.args.known.now c.args.tail.now c.args.by _ _ _ c.requires.edit c.requires.by c.in_ok-read_line.ensures.read (sym c.edit_in.ensures ∙ c.in-Some.is)

pub returns-in-Some-clause-kept : goal.returns-in-Some-clause-kept
returns-in-Some-clause-kept c = (goes_read c.args.names.now c.args.tail.now _ _ c.in_ok-read_line.ensures.read).kept

pub returns-in-None-clause-finds : goal.returns-in-None-clause-finds
returns-in-None-clause-finds c =
    finds_no_edit c.args.names.now c.args.words.now c.args.known.now c.args.tail.now _ _ c.requires.edit c.in_ok-read_line.ensures.read (sym c.edit_in.ensures ∙ c.in-None.is)

pub returns-in-None-clause-kept : goal.returns-in-None-clause-kept
returns-in-None-clause-kept c = (goes_read c.args.names.now c.args.tail.now _ _ c.in_ok-read_line.ensures.read).kept

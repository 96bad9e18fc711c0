use Rattle.std.proofs.Common.{◌∙◌, sym}
use Rattle.ps_entries.proofs.ReadTables.{goes_read}
use Rattle.ps_entries.proofs.SaidOnce.{finds_query, finds_no_query}
use Rattle.ps_entries.proofs.entries.ask_of.Goals as goal

pub returns-in-Some-clause-finds : goal.returns-in-Some-clause-finds
returns-in-Some-clause-finds c =
    finds_query c.args.names.now c.args.words.now c.args.known.now c.args.tail.now _ _ _ c.requires.no_edit c.requires.ask c.in_ok-read_line.ensures.read (sym c.query_in.ensures ∙ c.in-Some.is)

pub returns-in-Some-clause-kept : goal.returns-in-Some-clause-kept
returns-in-Some-clause-kept c = (goes_read c.args.names.now c.args.tail.now _ _ c.in_ok-read_line.ensures.read).kept

pub returns-in-None-clause-finds : goal.returns-in-None-clause-finds
returns-in-None-clause-finds c =
    finds_no_query c.args.names.now c.args.words.now c.args.known.now c.args.tail.now _ _ c.requires.no_edit c.requires.ask c.in_ok-read_line.ensures.read (sym c.query_in.ensures ∙ c.in-None.is)

pub returns-in-None-clause-kept : goal.returns-in-None-clause-kept
returns-in-None-clause-kept c = (goes_read c.args.names.now c.args.tail.now _ _ c.in_ok-read_line.ensures.read).kept

use Rattle.std.proofs.Common.{◌∙◌, true, false}
use Rattle.ps_text.proofs.Kept.{kept_along}
use Rattle.ps_entries.proofs.OneEntry.{found-none, found-so}
use Rattle.ps_entries.proofs.entries.read_in.Goals as goal

pub returns-then-branch-clause-read : goal.returns-then-branch-clause-read
returns-then-branch-clause-read c =
    found-so c.args.names.now c.args.line.now c.len-count.ensures.names _ _ _ c.deref.result.now _ _ c.in-Ok-Some.entry c.entry_of.new.names c.in_ok-is_printed-in-Ok-Some.field-0 true c.head_of.ensures c.in_ok-words.ensures (c.deref.ensures.value ∙ c.in_ok-known.ensures.names) c.in_ok-known.ensures.table c.tail_of-tail.ensures c.in-Ok-Some.ensures.finds c.in-Ok-Some.field-0-is c.in_ok-is_printed-in-Ok-Some.ensures c.if-branch.true

pub returns-then-branch-clause-kept : goal.returns-then-branch-clause-kept
returns-then-branch-clause-kept c = kept_along c.args.names.now c.names_of.new.names _ c.in_ok-known.ensures.kept c.entry_of.ensures.kept

pub returns-in-Ok-Some-clause-read : goal.returns-in-Ok-Some-clause-read
returns-in-Ok-Some-clause-read c =
    found-so c.args.names.now c.args.line.now c.len-count.ensures.names _ _ _ c.deref.result.now _ _ c.in-Ok-Some.entry c.entry_of.new.names c.in_ok-is_printed-in-Ok-Some.field-0 false c.head_of.ensures c.in_ok-words.ensures (c.deref.ensures.value ∙ c.in_ok-known.ensures.names) c.in_ok-known.ensures.table c.tail_of-tail.ensures c.in-Ok-Some.ensures.finds c.in-Ok-Some.field-0-is c.in_ok-is_printed-in-Ok-Some.ensures c.if-branch.false

pub returns-in-Ok-Some-clause-kept : goal.returns-in-Ok-Some-clause-kept
returns-in-Ok-Some-clause-kept c = kept_along c.args.names.now c.names_of.new.names _ c.in_ok-known.ensures.kept c.entry_of.ensures.kept

pub returns-in-Ok-None-clause-read : goal.returns-in-Ok-None-clause-read
returns-in-Ok-None-clause-read c =
    found-none c.args.names.now c.args.line.now c.len-count.ensures.names _ _ _ c.deref.result.now _ _ c.entry_of.new.names c.head_of.ensures c.in_ok-words.ensures (c.deref.ensures.value ∙ c.in_ok-known.ensures.names) c.in_ok-known.ensures.table c.tail_of-tail.ensures c.in-Ok-None.ensures.finds c.in-Ok-None.field-0-is

pub returns-in-Ok-None-clause-kept : goal.returns-in-Ok-None-clause-kept
returns-in-Ok-None-clause-kept c = kept_along c.args.names.now c.names_of.new.names _ c.in_ok-known.ensures.kept c.entry_of.ensures.kept

pub returns-clause-kept : goal.returns-clause-kept
returns-clause-kept c = kept_along c.args.names.now c.names_of.new.names _ c.in_ok-known.ensures.kept c.entry_of.ensures.kept

use Rattle.std.proofs.Common.{◌∙◌, ap, sym, arith}
use Rattle.ps_text.proofs.Kept.{kept_along}
use Rattle.ps_entries.specs.Words.{name_of, with_word}
use Rattle.ps_entries.proofs.WordNames.{names_more, table_more}
use Rattle.ps_entries.proofs.words.names_of.Goals as goal

pub returns-in_err-name_of-clause-kept : goal.returns-in_err-name_of-clause-kept
returns-in_err-name_of-clause-kept c = kept_along c.args.names.now c.loop-i.names _ c.loop-i.invariant.kept c.name_of.ensures.kept

pub loop-i-preserved : goal.loop-i-preserved
loop-i-preserved c =
    let ws = c.args.words.now in
    let i = c.loop-i.i in
    let place = c.word.ensures.place in
    let name = c.in_ok-name_of.ensures.name ∙ ap (name_of c.loop-i.names) (sym place) in
    let table = c.in_ok-name_of.ensures.table ∙ ap (with_word c.loop-i.names) (sym place) in
    record {
      names = c.loop-i.invariant.names ∙ names_more ws i c.loop-i.names _ c.loop-i.found.items _ c.in_ok-name_of.field-0 (omega arith) name table c.push_reserved.ensures.items;
      table = c.loop-i.invariant.table ∙ table_more ws i c.loop-i.names _ (omega arith) table;
      kept = kept_along c.args.names.now c.loop-i.names _ c.loop-i.invariant.kept c.name_of.ensures.kept;
      count = omega (arith, c.loop-i.invariant.count, c.push_reserved.ensures.len);
      room = omega (arith, c.loop-i.invariant.room, c.push_reserved.ensures.capacity);
    }

use Rattle.std.proofs.Common.{◌∙◌, sym, arith}
use Rattle.ps_entries.proofs.WordNames.{acts_end, acts_next}
use Rattle.ps_entries.proofs.acts.acts_at.Goals as goal

pub loop-i-preserved : goal.loop-i-preserved
loop-i-preserved c = record {
  acts = c.loop-i.invariant.acts
      ∙ acts_next c.loop-i.acts.items c.loop-i.since.items c.args.words.now c.args.names.now c.loop-i.i c.word.result.now c.name_at.result c.in_ok-take_word.field-0 c.take_word.new.acts.items c.take_word.new.since.items
      (omega (arith, c.len-i-end.ensures)) c.word.ensures.place c.name_at.ensures c.in_ok-take_word.ensures c.if-not-branch.false;
}

pub returns : goal.returns
returns c =
    sym
    (c.loop-i.invariant.acts
    ∙ acts_end c.loop-i.acts.items c.loop-i.since.items c.args.words.now c.args.names.now c.loop-i.i (omega (arith, c.len-i-end.ensures)))

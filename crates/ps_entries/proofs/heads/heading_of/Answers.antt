use Rattle.std.proofs.Common.{IfOk, ap, sym, ◌∙◌, subst}
use Rattle.ps_world.specs.Lines.{same_text}
use Rattle.ps_rules.specs.Heads.{bare_title, title}
use Rattle.ps_entries.specs.Journals.{BeginsWith}
use Rattle.ps_entries.proofs.HeadLines.{begins-with}
use Rattle.ps_entries.proofs.heads.heading_of.Goals as goal

pub returns-then-eq : goal.returns-then-eq
returns-then-eq c =
    let same = ap (same_text _) (sym c.as_slice.ensures) ∙ (sym c.eq.ensures ∙ c.if-eq.true) in
    subst (λ lines. IfOk c.settled.result (BeginsWith lines)) (sym (begins-with c.args.bytes.now c.args.lines.now _ title c.in-len1-up.len_at_least same)) c.settled.ensures

pub returns-then-eq-2 : goal.returns-then-eq-2
returns-then-eq-2 c =
    let same = ap (same_text _) (sym c.as_slice-else-eq.ensures) ∙ (sym c.eq-else-eq.ensures ∙ c.if-eq-2.true) in
    (tt, (_, begins-with c.args.bytes.now c.args.lines.now _ bare_title c.in-len1-up.len_at_least same))

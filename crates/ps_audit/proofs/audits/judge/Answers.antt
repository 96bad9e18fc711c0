use Rattle.std.proofs.Common.{[], IfOk, map, refl, ap, sym, ◌∙◌, subst}
use Rattle.ps_machine.specs.Texts.{entry_line}
use Rattle.ps_rules.specs.Journal.{text_after}
use Rattle.ps_replay.specs.Replay.{Replays}
use Rattle.ps_audit.specs.EntryLines.{line_numbered}
use Rattle.ps_audit.specs.Findings.{found_by}
use Rattle.ps_audit.specs.Texts.{AddsIfLegal}
use Rattle.ps_audit.proofs.Found.{judged}
use Rattle.ps_audit.proofs.audits.judge.Goals as goal

pub judge_text-requires-clause-lines : goal.judge_text-requires-clause-lines
judge_text-requires-clause-lines g c =
    c.in_ok-printed.ensures ∙ ap (map (line_numbered c.args.journal.now)) c.lines.ensures ∙ c.requires.printed ∙ sym (ap (map (entry_line c.args.names.now)) c.entries.ensures)

pub returns : goal.returns
returns g c =
    let i = c.args.input.now in
    let names = c.args.names.now in
    let text = c.args.journal.now in
    let t = c.args.read.now in
    let old = c.new-body.result.items in
    let body = c.judge_text.new.out.items in
    judged i names text t c.judge_text.result c.in_ok-verdict.verdict old body (record { finding = c.in_ok-finding.finding; body = c.judge_text.new.out })
    c.in_ok-verdict.was (subst (λ es. Replays i es c.judge_text.result) c.entries.ensures c.judge_text.ensures.verdict)
    (subst (λ es. IfOk c.judge_text.result (AddsIfLegal (text_after names i [] es) old body)) c.entries.ensures c.judge_text.ensures.text)
    c.new-body.ensures.items (c.in_ok-finding.ensures ∙ ap (found_by i text t c.in_ok-verdict.verdict) c.deref.ensures.value) refl

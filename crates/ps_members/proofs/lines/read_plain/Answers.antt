use Rattle.std.proofs.Common.{Ok, ap, ◌∙◌}
use Rattle.ps_lists.specs.Lexemes.{marks}
use Rattle.ps_script.specs.Judged.{Fits}
use Rattle.ps_script.proofs.Fronts.{found_fits}
use Rattle.ps_members.specs.Forms.{start_of}
use Rattle.ps_members.proofs.FormLines.{fit_balance}
use Rattle.ps_members.proofs.SaidLines.{fit_said, misfit_said, names_back}
use Rattle.ps_members.proofs.lines.read_plain.Goals as goal

pub judged-requires : goal.judged-requires
judged-requires c =
    let fits : Fits (start_of c.args.form) (marks c.in_ok-words.words.items) c.in_ok-misfit.misfit =
    found_fits (start_of c.args.form) _ _ _ (c.deref-2.ensures.value ∙ c.in_ok-marks.ensures ∙ ap marks c.deref.ensures.value) (λ e. c.in_ok-misfit.ensures.none (ap Ok e)) c.in_ok-misfit.ensures.fault in
    fit_balance c.args.form c.in_ok-words.words.items _ fits

pub returns-in-Ok-clause-read : goal.returns-in-Ok-clause-read
returns-in-Ok-clause-read c =
    let fits : Fits (start_of c.args.form) (marks c.in_ok-words.words.items) c.in_ok-misfit.misfit =
    found_fits (start_of c.args.form) _ _ _ (c.deref-2.ensures.value ∙ c.in_ok-marks.ensures ∙ ap marks c.deref.ensures.value) (λ e. c.in_ok-misfit.ensures.none (ap Ok e)) c.in_ok-misfit.ensures.fault in
    fit_said c.args.names.now c.lexemes_of.new.names c.args.bytes.now c.args.part.now c.args.form c.args.tokens.items c.in_ok-words.words.items _ _ c.requires.part c.requires.plain c.in_ok-words.ensures.ok c.in_ok-trees.ensures fits
    _ _ _ c.in-Ok.is c.as_slice.ensures c.in_ok-said_of-in-Ok.ensures

pub returns-clause-read : goal.returns-clause-read
returns-clause-read c =
    let fits : Fits (start_of c.args.form) (marks c.in_ok-words.words.items) c.in_ok-misfit.misfit =
    found_fits (start_of c.args.form) _ _ _ (c.deref-2.ensures.value ∙ c.in_ok-marks.ensures ∙ ap marks c.deref.ensures.value) (λ e. c.in_ok-misfit.ensures.none (ap Ok e)) c.in_ok-misfit.ensures.fault in
    misfit_said c.args.names.now c.lexemes_of.new.names c.args.bytes.now c.args.part.now c.args.form c.args.tokens.items c.in_ok-words.words.items _ _ c.requires.part c.requires.plain c.in_ok-words.ensures.ok c.in_ok-trees.ensures fits
    _ _ _ c.len-before.ensures.count c.lexemes_of.ensures.kept c.cut_back.ensures c.in-Err.is

pub returns-clause-kept : goal.returns-clause-kept
returns-clause-kept c = names_back c.args.names.now c.lexemes_of.new.names _ _ c.len-before.ensures.count c.lexemes_of.ensures.kept c.cut_back.ensures

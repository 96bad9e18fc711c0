use Rattle.std.proofs.Common.{List, subst}
use Rattle.ps_lists.specs.Lexemes.{marks}
use Rattle.ps_lists.specs.declared.lexemes.Lexeme.{Lexeme}
use Rattle.ps_script.specs.Forms.{start_of}
use Rattle.ps_script.specs.Judged.{Fits}
use Rattle.ps_script.proofs.Balance.{start_closed, start_paired}
use Rattle.ps_script.proofs.Fronts.{front_balance}
use Rattle.ps_script.proofs.LineReads.{bad_read, good_read, plain_read}
use Rattle.ps_script.proofs.reading.read_form.Goals as goal

pub judged-requires : goal.judged-requires
judged-requires c =
    let fits : Fits (start_of c.args.form) (marks c.in_ok-words.words.items) c.in_ok-misfit.misfit =
    subst (λ (ls : List Lexeme). Fits (start_of c.args.form) (marks ls) c.in_ok-misfit.misfit) c.deref-2.ensures.value c.in_ok-misfit.ensures in
    front_balance (start_of c.args.form) c.in_ok-words.words.items _ (start_paired c.args.form) (start_closed c.args.form) fits

pub returns-in_ok-command-in-Ok-clause-read : goal.returns-in_ok-command-in-Ok-clause-read
returns-in_ok-command-in-Ok-clause-read c =
    let fits : Fits (start_of c.args.form) (marks c.in_ok-words.words.items) c.in_ok-misfit.misfit =
    subst (λ (ls : List Lexeme). Fits (start_of c.args.form) (marks ls) c.in_ok-misfit.misfit) c.deref-2.ensures.value c.in_ok-misfit.ensures in
    good_read c.args.names.now c.lexemes_of.new.names c.args.bytes.now c.args.form c.args.tokens.items c.in_ok-words.words.items _ _ c.requires.plain c.requires.tokens c.requires.form c.in_ok-words.ensures.ok c.in_ok-trees.ensures fits
    _ _ _ c.in-Ok.is c.as_slice.ensures c.in_ok-command-in-Ok.ensures

pub returns-in-Err-clause-read : goal.returns-in-Err-clause-read
returns-in-Err-clause-read c =
    let fits : Fits (start_of c.args.form) (marks c.in_ok-words.words.items) c.in_ok-misfit.misfit =
    subst (λ (ls : List Lexeme). Fits (start_of c.args.form) (marks ls) c.in_ok-misfit.misfit) c.deref-2.ensures.value c.in_ok-misfit.ensures in
    bad_read c.args.names.now c.lexemes_of.new.names c.args.bytes.now c.args.form c.args.tokens.items c.in_ok-words.words.items _ _ c.requires.plain c.requires.tokens c.requires.form c.in_ok-words.ensures.ok c.in_ok-trees.ensures fits
    _ _ _ _ c.len-before.ensures.count c.lexemes_of.ensures.kept c.cut_back.ensures c.in-Err.is c.bad.ensures

pub returns-in-Some-clause-read : goal.returns-in-Some-clause-read
returns-in-Some-clause-read c =
    plain_read c.args.names.now c.lexemes_of.new.names c.args.bytes.now c.args.form c.args.tokens.items _ c.deref.result.now _ _ c.requires.plain c.requires.tokens c.requires.form c.in_ok-words.ensures.ok c.deref.ensures.value c.plain_command.ensures c.in-Some.is

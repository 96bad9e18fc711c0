use Rattle.std.proofs.Common.{subst}
use Rattle.std.proofs.lemmas.Result.{err_from_is_err_and}
use Rattle.ps_inputs.specs.Input.{GoesBy}
use Rattle.ps_inputs.specs.Reading.{read_file}
use Rattle.ps_inputs.proofs.Loaded.{journal_read}
use Rattle.ps_inputs.proofs.ReadParts.{ended_alike, out_of_memory}
use Rattle.ps_inputs.proofs.loading.read_journal.Goals as goal

pub returns-in_err-text-clause-reads : goal.returns-in_err-text-clause-reads
returns-in_err-text-clause-reads g c =
    let p = err_from_is_err_and c.from_residual.result c.from_residual.ensures.1 in
    rw (p.1, p.2) (ended_alike (read_file (g.F.Files.shown c.args.files.now).told c.args.file.now) (g.F.Files.shown c.args.files.now) (g.F.Files.shown c.read_text.new.files) c.in_err-text.field-0.0 c.in_err-text.ensures.reads)

pub returns-in_err-own-clause-reads : goal.returns-in_err-own-clause-reads
returns-in_err-own-clause-reads g c =
    let p = err_from_is_err_and c.from_residual-in_err-own.result c.from_residual-in_err-own.ensures.1 in
    let h = c.in_ok-text.ensures.reads in
    rw (p.1, p.2) (out_of_memory (read_file (g.F.Files.shown c.args.files.now).told c.args.file.now) (g.F.Files.shown c.args.files.now) (g.F.Files.shown c.read_text.new.files) h.failed h.same)

pub returns-clause-reads : goal.returns-clause-reads
returns-clause-reads g c =
    let w = c.args.words in
    let own = c.in_ok-own.own in
    let goes : GoesBy w c.in_ok-text.text.items own = subst (λ t. GoesBy w t own) c.deref.ensures.value c.in_ok-own.ensures.goes in
    journal_read w c.args.file.now (g.F.Files.shown c.args.files.now) (g.F.Files.shown c.read_text.new.files) c.in_ok-text.text own c.in_ok-text.ensures.reads goes

use Rattle.std.proofs.Common.{◌≡◌, ◌∙◌, true}
use Rattle.clap.specs.Faults.{fault_of}
use Rattle.clap.specs.Matches.{found_of}
use Rattle.clap.specs.Simple.{app_of, is_simple, matches_of}
use Rattle.clap.specs.Walk.{rows_of}
use Rattle.clap.specs.declared.error.kind.ErrorKind.TheVariants.{OutOfMemory}
use Rattle.clap.proofs.WalkLemmas.{both}
use Rattle.ps_words.specs.Words.{rows_read, word_texts}
use Rattle.ps_words.proofs.Takes.{among, no_rows, taken_rows}
use Rattle.ps_words.proofs.commands.taken.Goals as goal

pub returns-in-Ok : goal.returns-in-Ok
unfolding rows_read
returns-in-Ok c =
    let app = app_of c.args.command in
    let words = word_texts c.args.words.now in
    let simple = both (is_simple app) _ c.requires in
    taken_rows (fault_of app words) (rows_of (found_of c.in-Ok.matches)) (matches_of app words) (c.in-Ok.ensures.kinds c.requires) (c.in-Ok.ensures.matches simple.0).0

pub returns : goal.returns
unfolding rows_read
returns c =
    let app = app_of c.args.command in
    let words = word_texts c.args.words.now in
    no_rows (fault_of app words) (matches_of app words) c.in-Err.error.kind
    (among c.in-Err.error.kind OutOfMemory (fault_of app words) (c.in-Err.ensures.kinds c.requires) (λ same.
    let was : c.kind.result ≡ OutOfMemory = c.kind.ensures ∙ same in
    let told : c.eq.result ≡ true = rw was at c.eq.ensures in
    cc))

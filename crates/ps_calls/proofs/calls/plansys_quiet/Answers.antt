use Rattle.std.proofs.Common.{refl}
use Rattle.ps_calls.proofs.Ends.{ended, finished, quiet-silent, quiet-work, refused}
use Rattle.ps_calls.proofs.calls.plansys_quiet.Goals as goal

pub perform_quiet-requires : goal.perform_quiet-requires
perform_quiet-requires g c = quiet-work _ c.requires (g.F.Files.shown c.args.files.now) c.in-Ok.work c.in-Ok.ensures.loaded

pub returns-in-Ok : goal.returns-in-Ok
returns-in-Ok g c =
    let w = c.in-Ok.work in
    let quiet = quiet-work _ c.requires (g.F.Files.shown c.args.files.now) w c.in-Ok.ensures.loaded in
    ended w c.finish.result c.in-Ok.ensures
    (finished w c.perform_quiet.result c.finish.result _ _ _ _ (quiet-silent w quiet) c.perform_quiet.ensures c.finish.ensures)

pub returns-in-Err : goal.returns-in-Err
returns-in-Err g c = refused c.in-Err.why c.refuse.result c.in-Err.ensures (refl {a = g.O.Sink.shown c.args.out.now}) c.refuse.ensures

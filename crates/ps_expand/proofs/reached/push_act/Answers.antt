use Rattle.std.proofs.Common.{◌++◌, [], length, sym, ◌∙◌}
use Rattle.std.specs.List.{cons_option}
use Rattle.std.proofs.lemmas.Bool.{ltb-false}
use Rattle.std.proofs.lemmas.List.{append-nil}
use Rattle.std.proofs.lemmas.Option.{slice_get_past}
use Rattle.ps_expand.proofs.reached.push_act.Goals as goal

pub returns-in-None : goal.returns-in-None
returns-in-None c =
    let acts = c.args.acts.now in
    let path = c.args.path.now in
    let past = ltb-false c.args.place (length acts) (sym c.in-None.ensures.lookup.0) in
    sym (append-nil path) ∙ (λ j. path ++ cons_option (sym (slice_get_past acts c.args.place past) j) [])

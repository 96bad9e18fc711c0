use Rattle.std.proofs.Common.{◌++◌, [], List, option_map, length, ap, sym, ◌∙◌}
use Rattle.std.specs.Prelude.{slice_get}
use Rattle.std.specs.List.{cons_option}
use Rattle.std.proofs.lemmas.Bool.{ltb-false}
use Rattle.std.proofs.lemmas.List.{append-nil}
use Rattle.std.proofs.lemmas.Option.{slice_get_past}
use Rattle.ps_ground.specs.declared.prepared.Prepared.{Prepared}
use Rattle.ps_solve.proofs.task.Task.push_act.Goals as goal

pub returns-in-None : goal.returns-in-None
returns-in-None c =
    let ps = c.args.self.now.grounds.actions.items in
    let acts = c.args.acts.now in
    let past = ltb-false c.args.place (length c.deref.result.now) (sym c.in-None.ensures.lookup.0) in
    let none = sym (slice_get_past c.deref.result.now c.args.place past) in
    let there = none ∙ ap (λ (l : List Prepared). slice_get l c.args.place) c.deref.ensures.value in
    sym (append-nil acts) ∙ (λ j. acts ++ cons_option (option_map (λ (p : Prepared). p.act) (there j)) [])

use Rattle.std.proofs.Common.{◌∷◌, [], ap, sym, ◌∙◌, arith}
use Rattle.std.specs.List.{list_any}
use Rattle.std.proofs.lemmas.List.{take_all}
use Rattle.ps_users.specs.Users.{uses_one}
use Rattle.ps_users.proofs.Noted.{any-map, marked_as}
use Rattle.ps_users.proofs.users.mark_wide.Goals as goal

pub returns : goal.returns
returns c =
    let t = c.args.touched.now in
    marked_as _ _ c.args.flags.now c.loop-place.flags
    (λ j. ap (list_any (λ e. uses_one t j (e.0, e.1 ∷ []))) (take_all c.loop-place.place-index c.args.wide.now (omega arith)) ∙ sym (any-map (λ e. (e.0, e.1 ∷ [])) (uses_one t j) c.args.wide.now))
    c.loop-place.invariant

use Rattle.std.proofs.Common.{◌≡◌, map, ap, sym, ◌∙◌}
use Rattle.std.specs.List.{list_any}
use Rattle.std.specs.Map.Iter.{deref_pair}
use Rattle.std.proofs.lemmas.Map.Iter.{iter_end}
use Rattle.ps_users.specs.Singles.{touched_of}
use Rattle.ps_users.specs.Users.{uses_one}
use Rattle.ps_users.proofs.Noted.{any-map, marked_as}
use Rattle.ps_users.proofs.users.mark_met.Goals as goal

pub returns : goal.returns
returns c =
    let t = c.args.touched.now in
    let es = c.args.singles.now.entries in
    let seen = map deref_pair c.loop-thing.yielded in
    let all : seen ≡ es =
    (iter_end deref_pair es c.loop-thing.yielded c.into_iter-thing-iterator.result c.loop-thing.thing-iterator c.next.new.self c.next.result c.into_iter-thing-iterator.ensures.into_iter_gives.0 c.loop-thing.yielded_by c.in-None.is c.next.ensures.steps).0 in
    marked_as _ _ c.args.flags.now c.loop-thing.flags
    (λ j. ap (list_any (λ e. uses_one t j (touched_of e.0, e.1))) all ∙ sym (any-map (λ e. (touched_of e.0, e.1)) (uses_one t j) es))
    c.loop-thing.invariant

use Rattle.std.proofs.Common.{false, nat_eq, ap, sym, ◌∙◌}
use Rattle.std.specs.List.{list_any}
use Rattle.std.specs.Option.{option_copied, option_map_or}
use Rattle.ps_users.proofs.Found.{found}
use Rattle.ps_users.proofs.Noted.{marked_as, none_marked}
use Rattle.ps_users.proofs.users.mark_single.Goals as goal

pub returns-in-Some : goal.returns-in-Some
returns-in-Some c =
    let es = c.args.singles.now.entries in
    marked_as _ _ c.args.flags.now c.mark_places.new.flags
    (λ j. ap (list_any (nat_eq j)) (c.as_slice.ensures.value ∙ c.places.view_is) ∙ ap (λ o. option_map_or (list_any (nat_eq j)) o false) c.in-Some.ensures.value ∙ sym (found c.args.thing.now es j c.len.ensures.ordered))
    c.mark_places.ensures

pub returns-in_default : goal.returns-in_default
returns-in_default c =
    let es = c.args.singles.now.entries in
    none_marked c.args.flags.now _
    (λ j. found c.args.thing.now es j c.len.ensures.ordered ∙ ap (λ o. option_map_or (list_any (nat_eq j)) o false) (sym c.get.ensures.value ∙ ap option_copied c.in_default.is))

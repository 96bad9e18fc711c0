-- The rules that are ready once nothing is left out do the work of all, whatever is left out.
use Rattle.std.proofs.Common.{◌≡◌, ℕ, Bool, true, not, List, Option, None, Contains, filter, refl}
use Rattle.std.specs.Cmp.{first_so}
use Rattle.std.specs.List.{list_all, list_any}
use Rattle.std.proofs.lemmas.Bool.{and_from}
use Rattle.ps_domain.proofs.Members.{has_from_Contains, Contains_from_has, has_passed, has_passes}
use Rattle.ps_closing.specs.declared.rule.Rule.{Rule}
use Rattle.ps_closing.specs.Closing.{Grows, IsClosed, Within, has, is_out, is_ready}
use Rattle.ps_closing.proofs.Growing.{none_left, usable_more}

-- what is ready without a place is ready with it
ready_with : (at : Option ℕ) (flags : List Bool) (r : Rule) → is_ready at flags r ≡ true → is_ready None flags r ≡ true
ready_with at flags r e =
    let needs = list_all (has flags) r.needs.items in
    and_from needs (not (list_any (is_out None) r.own.items)) (first_so needs (not (list_any (is_out at) r.own.items)) e) (λ i. not (none_left r.own.items i))

-- the rules that are ready
abbrev pub ready_of : List Bool → List Rule → List Rule
ready_of flags rs = filter (is_ready None flags) rs

module _ (rs : List Rule) (start flags : List Bool) (closed : IsClosed None rs flags) (from : Within start flags) (at : Option ℕ) (new : List Bool) (shut : IsClosed at (ready_of flags rs) new) (grows : Grows at (ready_of flags rs) start new) where
  subset : (r : Rule) → Contains (ready_of flags rs) r → Contains rs r
  subset r c = Contains_from_has rs r (has_passed (is_ready None flags) rs r (has_from_Contains (ready_of flags rs) r c)).0

  inside : Within new flags
  inside = grows.least flags (λ r c ready i given other. closed r (subset r c) (ready_with at flags r ready) i given refl) from

  pub all_closed : IsClosed at rs new
  all_closed r c ready i given other =
      let able = ready_with at flags r (usable_more at new flags r inside ready) in
      shut r (Contains_from_has (ready_of flags rs) r (has_passes (is_ready None flags) rs r able (has_from_Contains rs r c))) ready i given other

  pub all_least : (set : List Bool) → IsClosed at rs set → Within start set → Within new set
  all_least set all w = grows.least set (λ r c ready i given other. all r (subset r c) ready i given other) w

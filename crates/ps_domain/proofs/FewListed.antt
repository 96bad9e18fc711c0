-- What the answer for all acts says of how many ground actions there are.
use Rattle.std.proofs.Common.{◌≡◌, ◌<◌, ◌≤◌, Bool, true, false, nat_le, if◌then◌else◌, Result, Ok, Err, List, length, refl}
use Rattle.std.proofs.lemmas.Bool.{leb-true, leb-false}
use Rattle.ps_world.specs.declared.names.Name.{Name}
use Rattle.ps_world.specs.declared.domains.Domain.{Domain}
use Rattle.ps_action.specs.Grounding.{all_ground, most_ground}
use Rattle.ps_action.specs.declared.acts.GroundAction.{GroundAction}
use Rattle.ps_domain.specs.Grounding.{listed}
use Rattle.ps_domain.specs.declared.refusals.GroundAllRefusal.{GroundAllRefusal}
use Rattle.ps_domain.specs.declared.refusals.GroundAllRefusal.TheVariants.{TooMany}

-- the list of a test that says whether it is short
abbrev where_few : Bool → List GroundAction → Result (List GroundAction) GroundAllRefusal
where_few b all = if b then Ok all else Err TooMany

is_all : (b : Bool) (all found : List GroundAction) → where_few b all ≡ Ok found → (b ≡ true) × (all ≡ found)
is_all true all found e = (refl, cc)
is_all false all found e = absurd (cc)

is_long : (b : Bool) (all : List GroundAction) (why : GroundAllRefusal) → where_few b all ≡ Err why → b ≡ false
is_long true all why e = absurd (cc)
is_long false all why e = refl

-- a list that is answered is that of all ground actions
pub listed_all : (d : Domain) (instances : List (Name × Name)) (found : List GroundAction) → listed d instances ≡ Ok found → all_ground d instances ≡ found
listed_all d instances found e = (is_all (nat_le (length (all_ground d instances)) most_ground) (all_ground d instances) found e).1

-- and it isn't too long
pub listed_few : (d : Domain) (instances : List (Name × Name)) (found : List GroundAction) → listed d instances ≡ Ok found → length (all_ground d instances) ≤ most_ground
listed_few d instances found e =
    leb-true (length (all_ground d instances)) most_ground (is_all (nat_le (length (all_ground d instances)) most_ground) (all_ground d instances) found e).0

-- a list that is refused is too long
pub listed_many : (d : Domain) (instances : List (Name × Name)) (why : GroundAllRefusal) → listed d instances ≡ Err why → most_ground < length (all_ground d instances)
listed_many d instances why e =
    leb-false (length (all_ground d instances)) most_ground (is_long (nat_le (length (all_ground d instances)) most_ground) (all_ground d instances) why e)

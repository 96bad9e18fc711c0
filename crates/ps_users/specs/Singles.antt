-- Single things and places, and the acts that use them.
use Rattle.std.specs.Prelude.{ℕ, Option, Some, None, List, [], ◌∷◌, map}
use Rattle.ps_action.specs.declared.touched.Touched.{Touched}
use Rattle.ps_action.specs.declared.touched.Touched.TheVariants.{Fact, Value, Instance, Facts, Values, Instances}
use Rattle.ps_users.specs.declared.single.Single.{Single}
use Rattle.ps_users.specs.declared.single.Single.TheVariants as one
use Rattle.ps_users.specs.Users.{Users}

-- a single thing as something that is touched
abbrev pub touched_of : Single → Touched
touched_of (one.Fact f) = Fact f
touched_of (one.Value f) = Value f
touched_of (one.Instance n) = Instance n

-- what is touched, if it is one thing and no place
abbrev pub single_of : Touched → Option Single
single_of (Fact f) = Some (one.Fact f)
single_of (Value f) = Some (one.Value f)
single_of (Instance n) = Some (one.Instance n)
single_of (Facts p) = None
single_of (Values p) = None
single_of Instances = None

-- single things with the places of the acts that use them
abbrev pub singles_of : List (Single × List ℕ) → Users
singles_of es = map (λ e. (touched_of e.0, e.1)) es

-- places with one act each
abbrev pub wide_of : List (Touched × ℕ) → Users
wide_of es = map (λ e. (e.0, e.1 ∷ [])) es

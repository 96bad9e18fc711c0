-- Names that variables stand for, the first ones first.
use Rattle.std.specs.Prelude.{List, [], ◌∷◌, ◌++◌}
use Rattle.ps_world.specs.declared.names.Name.{Name}
use Rattle.ps_world.specs.declared.bound.Names.{Names}
use Rattle.ps_world.specs.declared.bound.Names.TheVariants.{Given, More}

abbrev pub names_of : Names → List Name
names_of (Given ns) = ns.now
names_of (More outer n) = outer.now ++ n ∷ []

-- The parts of a condition by how many words and lists there are.
use Rattle.std.proofs.Common.{◌≡◌, List, [], ◌∷◌, Ok, length, map, refl, arith}
use Rattle.ps_world.specs.declared.domains.Domain.{Domain}
use Rattle.ps_world.specs.declared.domains.Param.{Param}
use Rattle.ps_world.specs.declared.actions.Conditions.{Conditions}
use Rattle.ps_lists.specs.Nested.{nesteds}
use Rattle.ps_lists.specs.NestedViews.{nested}
use Rattle.ps_lists.specs.declared.lexemes.Lexeme.{Lexeme}
use Rattle.ps_lists.specs.declared.trees.Tree.{Tree}
use Rattle.ps_pddl.specs.Conditions.{timed_form}

pub no_form : (d : Domain) (ps : List Param) (l : Lexeme) (us : List Tree) (parts : Conditions) → length us ≡ 1 → timed_form d ps l (nesteds (map nested us)) parts ≡ Ok parts
no_form d ps l [] parts h = refl
no_form d ps l (t ∷ []) parts h = refl
no_form d ps l (t ∷ u ∷ us) parts h = absurd (omega (arith, h))

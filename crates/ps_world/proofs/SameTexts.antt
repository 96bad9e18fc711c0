-- Names and texts that are the same.
use Rattle.std.proofs.Common.{◌≡◌, ℕ, true, List, refl, arith}
use Rattle.std.specs.Cmp.Lexicographic.{bytes_decides}
use Rattle.std.proofs.lemmas.Bool.Decides.{nat_tests}
use Rattle.ps_world.specs.Names.{same_name}
use Rattle.ps_world.specs.Lines.{same_text}
use Rattle.ps_world.specs.declared.names.Name.{Name}

pub name_itself : (n : Name) → same_name n n ≡ true
name_itself n = grind (arith, nat_tests)

pub same_text-itself : (bytes : List ℕ) → same_text bytes bytes ≡ true
same_text-itself bytes = (bytes_decides bytes bytes).1 refl

pub same_text-is : (a b : List ℕ) → same_text a b ≡ true → a ≡ b
same_text-is a b = (bytes_decides a b).0

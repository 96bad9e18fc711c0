-- What suits a declaration has no fault.
use Rattle.std.proofs.Common.{◌≡◌, ℕ, ◌+◌, List, [], ◌∷◌, Option, Some, None, refl, length, arith, eq-eqb}
use Rattle.std.specs.List.{AllZip}
use Rattle.ps_world.specs.Knowledge.{first_misfit, unsuited}
use Rattle.ps_world.specs.declared.names.Name.{Name}
use Rattle.ps_world.specs.declared.domains.Param.{Param}
use Rattle.ps_world.specs.declared.domains.Decl.{Decl}
use Rattle.ps_world.specs.declared.domains.Domain.{Domain}
use Rattle.ps_world.specs.declared.known.Knowledge.{Knowledge}
use Rattle.ps_world.specs.declared.edits.EditRefusal.{EditRefusal}
use Rattle.ps_problem.specs.WellKnown.{Fits, Suits}

as_many : (d : Domain) (k : Knowledge) (ps : List Param) (ns : List Name) → AllZip (Fits d k) ps ns → length ps ≡ length ns
as_many d k [] [] a = refl
as_many d k [] (n ∷ ns) a = absurd a
as_many d k (p ∷ ps) [] a = absurd a
as_many d k (p ∷ ps) (n ∷ ns) a = omega (arith, as_many d k ps ns a.1)

no_misfit : (d : Domain) (k : Knowledge) (ps : List Param) (ns : List Name) (at : ℕ) → AllZip (Fits d k) ps ns → first_misfit d k ps ns at ≡ None
no_misfit d k [] ns at a = refl
no_misfit d k (p ∷ ps) [] at a = refl
no_misfit d k (p ∷ ps) (n ∷ ns) at a = rw (a.0.1, a.0.2) (no_misfit d k ps ns (at + 1) a.1)

pub no_fault : (missing : EditRefusal) (d : Domain) (k : Knowledge) (o : Option Decl) (ns : List Name) → Suits d k o ns → unsuited missing d k o ns ≡ None
no_fault missing d k o ns s =
    let many = eq-eqb (length s.0.params) (length ns) (as_many d k s.0.params ns s.2) in
    rw (s.1, many) (no_misfit d k s.0.params ns 0 s.2)

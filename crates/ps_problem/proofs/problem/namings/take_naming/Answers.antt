use Rattle.std.proofs.Common.{◌≡◌, ◌+◌, All, if◌then◌else◌, length, sym, ◌∙◌, subst, arith}
use Rattle.std.specs.List.{Contains}
use Rattle.ps_problem.specs.Namings.{IsNaming}
use Rattle.ps_problem.proofs.Namings.{another_stays, is_found, sound_less}
use Rattle.ps_problem.proofs.problem.namings.take_naming.Goals as goal

pub returns-clause-kept : goal.returns-clause-kept
returns-clause-kept c =
    λ x n h. subst (λ l. Contains l x) (sym c.remove.ensures.keys) (another_stays c.args.namings.now.keys c.in_ok-found.found x n h)

pub returns-clause-falls : goal.returns-clause-falls
returns-clause-falls c =
    let there = c.remove.ensures.test ∙ is_found c.args.namings.now.keys c.in_ok-found.found c.in_ok-found.ensures.there in
    let fell = subst (λ b. length c.remove.new.self.keys + (if b then 1 else 0) ≡ length c.args.namings.now.keys) there c.remove.ensures.len in
    omega (arith, fell)

pub returns-clause-sound : goal.returns-clause-sound
returns-clause-sound c = λ a. subst (All IsNaming) (sym c.remove.ensures.keys) (sound_less c.args.namings.now.keys c.in_ok-found.found a)

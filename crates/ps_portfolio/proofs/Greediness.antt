-- What a greedy search finds is sound.
use Rattle.std.proofs.Common.{◌≡◌, ℕ, List, Result, Ok, Err, IfOk, sym, subst}
use Rattle.ps_world.specs.declared.domains.Domain.{Domain}
use Rattle.ps_world.specs.declared.facts.Fact.{Fact}
use Rattle.ps_world.specs.declared.known.Knowledge.{Knowledge}
use Rattle.ps_greedy.specs.Greedy.{greedy}
use Rattle.ps_greedy.specs.Laws.{IsSoundAnswer}
use Rattle.ps_greedy.specs.declared.found.Found.{Found}
use Rattle.ps_greedy.proofs.Sound.{greedy_is_sound}

pub found_sound : {E : Type 0} (d : Domain) (k : Knowledge) (budget : ℕ) (marks : List Fact) (r : Result Found E) → IfOk r (λ f. f ≡ greedy d k budget marks) → IfOk r (λ f. IsSoundAnswer d k f)
found_sound d k budget marks (Ok f) e =
    let P : Found → Type 0 = IsSoundAnswer d k in
    subst P (sym e) (greedy_is_sound d k budget marks)
found_sound d k budget marks (Err w) e = tt

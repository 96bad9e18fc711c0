-- What a call that makes an edit answers.
use Rattle.std.specs.Prelude.{◌≡◌, ◌≢◌, ◌↔◌, Bool, IsTrue, IsOk, Result, Ok, Err}
use Rattle.ps_world.specs.Knowledge.{edited}
use Rattle.ps_world.specs.declared.domains.Domain.{Domain}
use Rattle.ps_world.specs.declared.known.Knowledge.{Knowledge}
use Rattle.ps_world.specs.declared.edits.Edit.{Edit}
use Rattle.ps_world.specs.declared.edits.EditRefusal.{EditRefusal}
use Rattle.ps_world.specs.declared.failures.Failure.{Failure}
use Rattle.ps_world.specs.declared.failures.Failure.TheVariants.{Refused, OutOfMemory}

-- the new knowledge or the first refusal; memory runs out only where nothing refuses the edit
abbrev pub EditGives : Domain → Knowledge → Edit → Result Knowledge (Failure EditRefusal) → Type 0
EditGives d k e (Ok new) = edited d k e ≡ Ok new
EditGives d k e (Err (Refused r)) = edited d k e ≡ Err r
EditGives d k e (Err OutOfMemory) = IsOk (edited d k e)

-- the same of an edit in place, which tells whether anything changed, and changes nothing where it fails
abbrev pub Edits : Domain → Edit → Knowledge → Result Bool (Failure EditRefusal) → Knowledge → Type 0
Edits d e k (Ok changed) new = (edited d k e ≡ Ok new) × (IsTrue changed ↔ (new ≢ k))
Edits d e k (Err (Refused r)) new = (edited d k e ≡ Err r) × (new ≡ k)
Edits d e k (Err OutOfMemory) new = IsOk (edited d k e) × (new ≡ k)

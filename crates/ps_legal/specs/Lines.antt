-- What a call answers that makes an edit, or tells why it is refused.
use Rattle.std.specs.Prelude.{◌≡◌, Option, Some, None, Result, Ok, Err}
use Rattle.ps_world.specs.Knowledge.{edited}
use Rattle.ps_world.specs.declared.domains.Domain.{Domain}
use Rattle.ps_world.specs.declared.edits.Edit.{Edit}
use Rattle.ps_world.specs.declared.edits.EditRefusal.{EditRefusal}
use Rattle.ps_world.specs.declared.known.Knowledge.{Knowledge}

-- an edit that isn't refused is made; nothing changes where it is, or where memory runs out
abbrev pub Refuses : {E : Type 0} → Domain → Edit → Knowledge → Result (Option EditRefusal) E → Knowledge → Type 0
Refuses d edit old (Ok None) new = edited d old edit ≡ Ok new
Refuses d edit old (Ok (Some why)) new = (edited d old edit ≡ Err why) × (new ≡ old)
Refuses d edit old (Err e) new = new ≡ old

-- What work comes to that writes to a sink.
use Rattle.std.specs.Prelude.{Result, IfOk, OnErr}
use Rattle.ps_text.specs.Outside.{CountsWork, SinkView}
use Rattle.ps_text.specs.declared.sinks.SinkRefusal.{SinkRefusal}

-- Work that writes to a sink: it is done, and this is so of what it answers; or it is broken off, where a write was refused or memory ran out, and
-- that is so. The counts of the sink say which.
pub record DoesWork {A : Type 0} (Done : A → Type 0) (Cut : Type 0) (old new : SinkView) (r : Result A SinkRefusal) : Type 0 where
  pub done : IfOk r Done
  pub cut : OnErr r Cut
  pub counted : CountsWork old new r

use Rattle.std.proofs.Common.{Result, Ok, Err, OnOk}
use Rattle.ps_state.proofs.Awaiting.{others-ahead}
use Rattle.ps_state.proofs.state.State.advance.Goals as goal

on-ok : {A E : Type 0} {P Q : Type 0} (r : Result A E) → (P → Q) → OnOk r P → OnOk r Q
on-ok (Ok a) f h = f h
on-ok (Err e) f h = tt

pub returns-in_default : goal.returns-in_default
returns-in_default c = record {
  ok = on-ok c.go_on.result (λ g i es s. others-ahead i es c.args.event.now c.args.self.now c.go_on.new.self c.in_default.not-Edit s c.requires g) c.go_on.ensures.ok;
  base = on-ok c.go_on.result (λ g. g.base) c.go_on.ensures.ok;
  err = c.go_on.ensures.err;
  reserved = c.go_on.ensures.reserved;
}

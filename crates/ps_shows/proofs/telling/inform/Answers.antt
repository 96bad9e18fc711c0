use Rattle.std.proofs.Common.{◌≡◌, ℕ, List, Result, Ok, Err, IfOk, subst, ◌∙◌}
use Rattle.std.specs.Global.{Vec}
use Rattle.std.specs.declared.alloc.AllocError.{AllocError}
use Rattle.ps_text.specs.Outside.{Puts, SinkView}
use Rattle.ps_text.specs.declared.sinks.SinkRefusal.{SinkRefusal}
use Rattle.ps_text.specs.declared.sinks.SinkRefusal.TheVariants.{Failed, OutOfMemory}
use Rattle.ps_shows.specs.Telling.Informs.{told, unwritten, starved, wordless}
use Rattle.ps_shows.proofs.telling.inform.Goals as goal

-- what is put is the text that was given
of_text : (given : Result (Vec ℕ) AllocError) (v : Vec ℕ) (put text : List ℕ) (old new : SinkView) (r : Result (Unit {0}) SinkRefusal)
    → given ≡ Ok v → put ≡ v.items → IfOk given (λ v. v.items ≡ text) → Puts put old new r → Puts text old new r
of_text given v put text old new r is shown same h =
    let told : v.items ≡ text = subst (λ (g : Result (Vec ℕ) AllocError). IfOk g (λ v. v.items ≡ text)) is same in
    subst (λ t. Puts t old new r) (shown ∙ told) h

pub returns-in_default : goal.returns-in_default
returns-in_default g c text same = wordless c.give_up.result c.give_up.ensures

pub returns-in-Ok-put : goal.returns-in-Ok-put
returns-in-Ok-put g c text same =
    told (of_text c.args.text c.in-Ok.text c.as_slice.result.now text (g.E.Sink.shown c.args.err.now) (g.E.Sink.shown c.put.new.sink) (Ok tt)
    c.in-Ok.is c.as_slice.ensures.value same c.in-Ok-put.ensures)

pub returns-in-Err-Failed : goal.returns-in-Err-Failed
returns-in-Err-Failed g c text same =
    let refused = rw c.in-Err-Failed.field-0-is at c.in-Err-Failed.ensures in
    unwritten (of_text c.args.text c.in-Ok.text c.as_slice.result.now text (g.E.Sink.shown c.args.err.now) (g.E.Sink.shown c.put.new.sink) (Err Failed)
    c.in-Ok.is c.as_slice.ensures.value same refused)

pub returns : goal.returns
returns g c text same =
    let refused = rw c.in-Err-OutOfMemory.field-0-is at c.in-Err-OutOfMemory.ensures in
    starved (of_text c.args.text c.in-Ok.text c.as_slice.result.now text (g.E.Sink.shown c.args.err.now) (g.E.Sink.shown c.put.new.sink) (Err OutOfMemory)
    c.in-Ok.is c.as_slice.ensures.value same refused)

use Rattle.std.proofs.Common.{◌≡◌, ◌+◌, ◌-◌, ◌<◌, length, arith, ap, ◌∙◌}
use Rattle.std.proofs.lemmas.List.{length-set}
use Rattle.ps_text.specs.Names.{folded, interned, place_of}
use Rattle.ps_text.specs.Words.{word_at}
use Rattle.ps_text.proofs.Kept.{kept_along, kept_interned}
use Rattle.ps_plan.proofs.NamedParts.{args-more, args-table, fit_parts, is_name-at}
use Rattle.ps_plan.proofs.steps.args_of.Goals as goal

pub intern_name-requires : goal.intern_name-requires
intern_name-requires c =
    let fit = fit_parts c.args.parts.now c.requires in
    rw c.part.ensures (is_name-at c.args.parts.now (4 + c.loop-i.i) fit.names (omega arith) (omega (arith, fit.enough, c.len-count.ensures.count)))

pub loop-i-preserved : goal.loop-i-preserved
loop-i-preserved c =
    let parts = c.args.parts.now in
    let i = c.loop-i.i in
    let found = c.in_ok-found.ensures in
    let within : 4 + i < length parts - 4 = omega (arith, c.len-count.ensures.count) in
    let place : c.in_ok-found.field-0.0 ≡ place_of c.loop-i.names (folded (word_at parts (4 + i))) = found.ok ∙ ap (λ w. place_of c.loop-i.names (folded w)) c.part.ensures in
    let table : c.intern_name.new.self ≡ interned c.loop-i.names (folded (word_at parts (4 + i))) = found.table ∙ ap (λ w. interned c.loop-i.names (folded w)) c.part.ensures in
    record {
      room = length-set c.loop-i.found i c.in_ok-found.field-0 ∙ c.loop-i.invariant.room;
      names = c.loop-i.invariant.names ∙ args-more parts i c.loop-i.names c.intern_name.new.self within table c.loop-i.found c.in_ok-found.field-0 (omega (arith, c.loop-i.invariant.room, c.len-count.ensures.count, c.len-count.ensures.few)) place;
      kept = kept_along c.args.names.now c.loop-i.names c.intern_name.new.self c.loop-i.invariant.kept (rw found.table (kept_interned c.loop-i.names _));
      table = c.loop-i.invariant.table ∙ args-table parts i c.loop-i.names c.intern_name.new.self within table;
    }

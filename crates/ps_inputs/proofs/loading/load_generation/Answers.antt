use Rattle.std.proofs.Common.{[], refl, arith}
use Rattle.std.proofs.lemmas.Result.{err_from_is_err_and}
use Rattle.ps_gen.specs.Texts as generator
use Rattle.ps_inputs.specs.Input.{generated}
use Rattle.ps_inputs.specs.Reading.Reading.{gives}
use Rattle.ps_inputs.proofs.Loaded.{generation_good, generation_starved, generation_unjudged}
use Rattle.ps_inputs.proofs.SoundInput.{input_sound}
use Rattle.ps_inputs.proofs.loading.load_generation.Goals as goal

pub returns-in_err-read : goal.returns-in_err-read
returns-in_err-read c =
    let p = err_from_is_err_and c.from_residual.result c.from_residual.ensures.1 in
    rw (p.1, p.2) (generation_starved c.args.carts)

pub returns-in_err-names : goal.returns-in_err-names
returns-in_err-names c =
    let p = err_from_is_err_and c.from_residual-in_err-names.result c.from_residual-in_err-names.ensures.1 in
    rw (p.1, p.2) (generation_unjudged c.args.carts c.in_ok-read.read c.in_ok-read.ensures c.in_err-names.field-0.0 c.in_err-names.ensures)

pub invariant_of-generation : goal.invariant_of-generation
invariant_of-generation c =
    let judged = c.in_ok-names.ensures (gives [] generator.domain_text) (generated c.args.carts) c.in_ok-read.ensures in
    record { sound = input_sound 20000 3 (generated c.args.carts) c.in_ok-names.field-0.input c.in_ok-names.field-0.names judged.0 judged.1 (omega arith) (omega arith) (omega arith) }

pub returns-in_err-new : goal.returns-in_err-new
returns-in_err-new c =
    let p = err_from_is_err_and c.from_residual-in_err-new.result c.from_residual-in_err-new.ensures.1 in
    rw (p.1, p.2) (generation_starved c.args.carts)

pub returns : goal.returns
returns c = rw c.in_ok-new.ensures (generation_good c.args.carts c.in_ok-read.read c.in_ok-read.ensures c.in_ok-names.field-0 _ refl refl refl c.in_ok-names.ensures)

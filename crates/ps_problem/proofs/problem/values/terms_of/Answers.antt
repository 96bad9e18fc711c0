use Rattle.std.proofs.Common.{◌<◌, [], ◌∷◌, ◌++◌, take, ap, sym, ◌∙◌, length, arith}
use Rattle.std.specs.Map.{keys_of}
use Rattle.std.proofs.lemmas.List.{map-append, take_more}
use Rattle.ps_problem.proofs.PutFacts.{known, known_more}
use Rattle.ps_problem.proofs.problem.values.terms_of.Goals as goal

pub loop-term-preserved : goal.loop-term-preserved
loop-term-preserved c f =
    let ready = c.args.ready.now in
    let i = c.loop-term.term-index in
    let below : i < length ready = omega arith in
    let more = ap keys_of (take_more ready i c.loop-term-item.result below ∙ ap (λ v. take i ready ++ v ∷ []) (sym c.loop-term-item.is)) ∙ map-append (λ v. v.0) (take i ready) (c.loop-term-item.result ∷ []) in
    ap (known f) c.in_ok-insert.ensures.ok ∙ known_more f c.loop-term-item.result.0 c.loop-term.all (keys_of (take i ready)) (c.loop-term.invariant f) ∙ ap (known f) (sym more)

use Rattle.std.proofs.Common.{◌≡◌, ◌<◌, ◌+◌, suc, take, Some, ◌∷◌, [], ◌++◌, length, slice_get, refl, ap, sym, subst, arith, ◌∙◌}
use Rattle.std.proofs.Math.ListN.{get_or}
use Rattle.std.specs.List.{zip}
use Rattle.std.proofs.lemmas.Option.{slice_get-get_or, slice_get_read}
use Rattle.ps_shows.proofs.Placing.{zip-all, zip-next}
use Rattle.ps_shows.proofs.pictures.placed.Goals as goal

pub loop-k-preserved : goal.loop-k-preserved
loop-k-preserved c =
    let xs = c.args.lines.now in
    let ys = c.args.entries.now in
    let k = c.loop-k.k in
    let x = get_or xs k 0 in
    let y = c.in_ok-copy.field-0 in
    let less : k < length ys = omega (arith, c.loop-k-test.true) in
    let lines : k < length xs = omega (arith, less, c.requires) in
    let next : suc k ≡ k + 1 = omega (arith, less) in
    c.in_ok-push.ensures.items
    ∙ ap (λ zs. zs ++ (x, y) ∷ []) c.loop-k.invariant
    ∙ zip-next xs ys k x y (slice_get-get_or xs k 0 lines)
    (subst (λ v. slice_get ys k ≡ Some v) (sym c.in_ok-copy.ensures) (slice_get_read ys (length ys) k c.index-entries-k.result refl less c.index-entries-k.is))
    ∙ ap (λ n. take n (zip xs ys)) next

pub returns : goal.returns
returns c = c.loop-k.invariant ∙ zip-all c.args.lines.now c.args.entries.now c.loop-k.k c.requires (omega (arith, c.loop-k-test.false))

use Rattle.std.proofs.Common.{◌≡◌, ◌+◌, ◌-◌, List, length, get_or, take, drop, ap, sym, ◌∙◌, arith}
use Rattle.std.proofs.lemmas.List.{drop_all, take_rest}
use Rattle.ps_world.specs.Knowledge.{is_below}
use Rattle.ps_world.specs.declared.names.Name.{Name}
use Rattle.ps_domain.proofs.Counts.{is_named, one_more, count_at, counts_yes, counts_named, counts_unfit, length-choices}
use Rattle.ps_domain.proofs.counting.choice_count.Goals as goal
use Rattle.ps_domain.proofs.counting.choice_count.Goals.{then-is_subtype+then-not-is_named, else-is_subtype, else-is_subtype-via-then-is_subtype+else-not-is_named, else-is_subtype-via-else-is_subtype}

pub loop-at-preserved : goal.loop-at-preserved
loop-at-preserved c =
    let none : Name × Name = (record { 0 = 0 }, record { 0 = 0 }) in
    let d = c.args.expert.now in
    let want = c.args.param.now.kind in
    let xs = c.args.instances.now in
    let i = c.loop-at.at in
    let x = get_or xs i none in
    let below = is_below d x.1 want in
    let named = is_named (drop (i + 1) xs) x.0 in
    let left : named ≡ is_named (take (length xs - (i + 1)) (drop (i + 1) xs)) x.0 = ap (λ (l : List (Name × Name)). is_named l x.0) (sym (take_rest xs (i + 1))) in
    let step = count_at d want xs i none c.loop-at-test.true in
    elim c.if-is_subtype.branch [
      | then-is_subtype+then-not-is_named w ↦
          (let one : one_more d want x (drop (i + 1) xs) ≡ 1 = counts_yes below named (sym c.is_subtype.ensures ∙ w.if-is_subtype.true) (left ∙ (sym w.is_named.ensures ∙ w.if-not-is_named.true)) in
          record { few = omega arith; so_far = omega arith })
      | else-is_subtype w ↦
          elim w.else-is_subtype.branch [
            | else-is_subtype-via-then-is_subtype+else-not-is_named v ↦
                (let one : one_more d want x (drop (i + 1) xs) ≡ 0 = counts_named below named (left ∙ (sym v.is_named.ensures ∙ v.if-not-is_named.false)) in
                record { few = omega arith; so_far = omega arith })
            | else-is_subtype-via-else-is_subtype v ↦
                (let one : one_more d want x (drop (i + 1) xs) ≡ 0 = counts_unfit below named (sym c.is_subtype.ensures ∙ v.if-is_subtype.false) in
                record { few = omega arith; so_far = omega arith })
          ]
    ]

pub returns : goal.returns
returns c =
    let all = length-choices c.args.expert.now c.args.instances.now c.args.param.now in
    let none_left = rw (drop_all c.loop-at.at c.args.instances.now c.loop-at-test.false) at c.loop-at.invariant.so_far in
    omega (arith, all, none_left)

use Rattle.std.proofs.Common.{◌≡◌, ◌+◌, ◌-◌, ◌≤◌, ◌∷◌, [], arith, codes}
use Rattle.ps_gen.specs.Texts.{goal_line, texts_of, trip_lines}
use Rattle.ps_gen.proofs.LineLists.{joined, line_more, some_more}
use Rattle.ps_gen.proofs.scripts.push_trips.Goals as goal

pub loop-cart-preserved : goal.loop-cart-preserved
loop-cart-preserved c =
    let cart = c.loop-cart.cart in
    let some : 1 ≤ cart = omega arith in
    let same : cart ≡ cart + 1 - 1 = omega arith in
    let wanted = line_more c.loop-cart.lines.items c.push.new.self.items c.in_ok-line_on.field-0 (goal_line cart) c.in_ok-push.ensures.items c.in_ok-line_on.ensures in
    record {
      within = omega arith;
      lines = some_more trip_lines cart (cart + 1 - 1) (texts_of c.args.lines.now.items) (texts_of c.loop-cart.lines.items) (texts_of c.push_line.new.lines.items) some same
          c.loop-cart.invariant.lines (joined _ _ _ (goal_line cart ∷ []) (codes "run" ∷ []) wanted c.in_ok-push_line.ensures);
    }

pub returns-in_ok-push_line : goal.returns-in_ok-push_line
returns-in_ok-push_line c =
    let cart = c.loop-cart.cart in
    let some : 1 ≤ cart = omega arith in
    let last : cart ≡ c.args.carts = omega arith in
    let wanted = line_more c.loop-cart.lines.items c.push.new.self.items c.in_ok-line_on.field-0 (goal_line cart) c.in_ok-push.ensures.items c.in_ok-line_on.ensures in
    some_more trip_lines cart c.args.carts (texts_of c.args.lines.now.items) (texts_of c.loop-cart.lines.items) (texts_of c.push_line.new.lines.items) some last
    c.loop-cart.invariant.lines (joined _ _ _ (goal_line cart ∷ []) (codes "run" ∷ []) wanted c.in_ok-push_line.ensures)

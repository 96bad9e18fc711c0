use Rattle.std.proofs.Common.{◌≡◌, ◌+◌, ◌-◌, ◌≤◌, arith}
use Rattle.ps_gen.specs.Texts.{line_on, texts_of}
use Rattle.ps_gen.proofs.LineLists.{line_more, one_more}
use Rattle.ps_gen.proofs.scripts.push_on_each.Goals as goal

pub loop-cart-preserved : goal.loop-cart-preserved
loop-cart-preserved c =
    let cart = c.loop-cart.cart in
    let some : 1 ≤ cart = omega arith in
    let same : cart ≡ cart + 1 - 1 = omega arith in
    record {
      within = omega arith;
      lines = one_more (line_on c.args.before.now c.args.after.now) cart (cart + 1 - 1) (texts_of c.args.lines.now.items) (texts_of c.loop-cart.lines.items) (texts_of c.push.new.self.items) some same
          c.loop-cart.invariant.lines (line_more c.loop-cart.lines.items c.push.new.self.items c.in_ok-line_on.field-0 _ c.in_ok-push.ensures.items c.in_ok-line_on.ensures);
    }

pub returns-in_ok-push : goal.returns-in_ok-push
returns-in_ok-push c =
    let cart = c.loop-cart.cart in
    let some : 1 ≤ cart = omega arith in
    let last : cart ≡ c.args.carts = omega arith in
    one_more (line_on c.args.before.now c.args.after.now) cart c.args.carts (texts_of c.args.lines.now.items) (texts_of c.loop-cart.lines.items) (texts_of c.push.new.self.items) some last
    c.loop-cart.invariant.lines (line_more c.loop-cart.lines.items c.push.new.self.items c.in_ok-line_on.field-0 _ c.in_ok-push.ensures.items c.in_ok-line_on.ensures)

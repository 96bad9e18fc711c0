use Rattle.std.proofs.Common.{ap, arith, map, ◌∙◌}
use Rattle.ps_lists.specs.Nested.{nesteds}
use Rattle.ps_lists.specs.NestedViews.{nested}
use Rattle.ps_lists.proofs.LayerSteps.{all_nested, first_nesting, nesting_close, nesting_left, nesting_open, nesting_within, nesting_word}
use Rattle.ps_lists.proofs.trees.trees_of.Goals as goal
use Rattle.ps_lists.proofs.trees.trees_of.Goals.{in-Open+in_ok-push-in-Open, in-Close+in-Some-pop+in_ok-inside-in-Close, in_default-mark}

pub loop-word-init : goal.loop-word-init
loop-word-init c = record {
  nesting = rw (c.in_ok-trees.ensures.items, c.new-starts.ensures.items) (first_nesting c.args.words.items c.reverse.new.self.items c.reverse.ensures.items c.requires);
  room = omega (arith, c.in_ok-trees.ensures.len, c.in_ok-trees.ensures.capacity, c.len.ensures, c.reverse.ensures.len);
}

pub unreachable-requires : goal.unreachable-requires
unreachable-requires c =
    nesting_left c.args.words.items c.loop-word.words.items c.pop.new.self.items c.in-Some.word c.in-Some.ensures.items c.loop-word.trees.items c.loop-word.starts.items c.loop-word.invariant.nesting (omega (arith, c.loop-word.starts.ok, c.in_default-pop.ensures.cases.0)) c.in-Close.is

pub split_off-requires : goal.split_off-requires
split_off-requires c =
    omega (arith, c.loop-word.trees.ok, nesting_within c.args.words.items c.loop-word.words.items c.pop.new.self.items c.in-Some.word c.in-Some.ensures.items c.loop-word.trees.items c.loop-word.starts.items c.loop-word.invariant.nesting c.pop-in-Close.new.self.items c.in-Some-pop.start c.in-Some-pop.ensures.items)

pub loop-word-preserved : goal.loop-word-preserved
loop-word-preserved c =
    let ls = c.args.words.items in
    let all = c.loop-word.words.items in
    let left = c.pop.new.self.items in
    let word = c.in-Some.word in
    let trees = c.loop-word.trees.items in
    let starts = c.loop-word.starts.items in
    let here = c.loop-word.invariant.nesting in
    let room = c.loop-word.invariant.room in
    let fewer = c.in-Some.ensures.cases in
    let given = c.give_back_room.ensures.len in
    elim c.match-word.branch [
      | in-Open+in_ok-push-in-Open w ↦
          let next = nesting_open ls all left word c.in-Some.ensures.items trees starts here w.in-Open.is in
          record {
            nesting = rw (c.give_back_room.ensures.items, w.trees-is, w.starts-is, w.in_ok-push-in-Open.ensures.items, w.len-in-Open.ensures, c.loop-word.trees.ok.0) next;
            room = rw w.trees-is (omega (arith, room, fewer, given));
          }
      | in-Close+in-Some-pop+in_ok-inside-in-Close w ↦
          let below = w.pop-in-Close.new.self.items in
          let start = w.in-Some-pop.start in
          let within = nesting_within ls all left word c.in-Some.ensures.items trees starts here below start w.in-Some-pop.ensures.items in
          let inside = w.of.ensures ∙ ap (λ us. nesteds (map nested us)) w.in_ok-inside-in-Close.ensures.tail in
          let next = nesting_close ls all left word c.in-Some.ensures.items trees starts here below start w.of.result w.in-Some-pop.ensures.items inside w.in-Close.is in
          record {
            nesting = rw (c.give_back_room.ensures.items, w.trees-is, w.starts-is, w.push_reserved.ensures.items, w.in_ok-inside-in-Close.ensures.items) next;
            room = rw (w.trees-is, w.push_reserved.ensures.capacity, w.in_ok-inside-in-Close.ensures.capacity) (omega (arith, room, fewer, given, within, c.loop-word.trees.ok.0, w.push_reserved.ensures.len, w.in_ok-inside-in-Close.ensures.len));
          }
      | in_default-mark w ↦
          let next = nesting_word ls all left word c.in-Some.ensures.items trees starts here w.in_default-mark.not-Open w.in_default-mark.not-Close in
          record {
            nesting = rw (c.give_back_room.ensures.items, w.trees-is, w.starts-is, w.push_reserved-in_default-mark.ensures.items) next;
            room = rw (w.trees-is, w.push_reserved-in_default-mark.ensures.capacity) (omega (arith, room, fewer, given, w.push_reserved-in_default-mark.ensures.len));
          }
    ]

pub returns : goal.returns
returns c =
    rw (c.of-2.ensures, c.give_back_room-2.ensures.items) (all_nested c.args.words.items c.loop-word.words.items c.loop-word.trees.items c.loop-word.starts.items (omega (arith, c.loop-word.words.ok, c.in_default.ensures.cases.0)) c.loop-word.invariant.nesting)

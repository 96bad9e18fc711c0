use Rattle.std.proofs.Common.{◌<◌, ◌≤◌, subst, sym, ap, ◌∙◌}
use Rattle.ps_turn.specs.Hands.{of_hand, IsBeginning}
use Rattle.ps_turn.specs.Rule.{Known}
use Rattle.ps_turn.proofs.Places.{all_noted, all_agree}
use Rattle.ps_turn.proofs.book.TurnBook.close.Goals as goal

pub finish-requires-clause-all : goal.finish-requires-clause-all
finish-requires-clause-all g c = λ hand live within.
    all_noted hand c.gather-keeper.result.me.0.hand c.args.seats.items c.pop-last.new.self.items c.in-Some.last c.gather-keeper.result.me.0.notes c.in-Some.ensures.items c.gather-keeper.ensures.notes
    c.gather-keeper.ensures.keeper.hand_is (c.requires.1 hand live within)

pub returns-clause-agrees : goal.returns-clause-agrees
returns-clause-agrees g c =
    let last = c.in-Some.last in
    let keeper = c.gather-keeper.result.me.0 in
    let is = c.gather-keeper.ensures.keeper in
    let tells = c.finish.ensures.tells in
    let log = g.V.Grows.history c.finish.result in
    let base = c.args.self.opened in
    let known : Known base tells.0 log last.hand last.seen last.mine = record {
      live = subst (λ h. 0 < h) is.hand_is tells.1.live;
      dealt = subst (λ h. h ≤ tells.0) is.hand_is tells.1.dealt;
      opened = subst (λ l. IsBeginning base l) is.seen_is tells.1.opened;
      begins = subst (λ l. IsBeginning l log) is.seen_is tells.1.begins;
      own = sym is.mine_is ∙ (tells.1.own ∙ ap (λ h. of_hand h log) is.hand_is);
    } in
    all_agree base tells.0 log c.args.seats.items c.pop-last.new.self.items last keeper.notes c.in-Some.ensures.items c.gather-keeper.ensures.notes known tells.2

use Rattle.std.proofs.Common.{◌≡◌, Bool, true, false, refl, sym, ◌∙◌}
use Rattle.std.proofs.lemmas.Bool.{false_from_ne_true}
use Rattle.ps_action.proofs.ArcTables.{true_false}
use Rattle.ps_monitor.specs.Hits.{is_hit, is_started}
use Rattle.ps_monitor.specs.Watched.{is_false, watched}
use Rattle.ps_monitor.proofs.Hitting.{unhit-others}
use Rattle.ps_monitor.proofs.monitor.Monitor.judge_act.Goals as goal

-- what is so where an act is hit and where it isn't is so
by_hit : (b : Bool) (P : Type 0) → (b ≡ true → P) → (b ≡ false → P) → P
by_hit true P h n = h refl
by_hit false P h n = n refl

pub returns-then-not-has-clause-same : goal.returns-then-not-has-clause-same
returns-then-not-has-clause-same g c =
    let d = g.J.Judge.domain c.args.judge.now in
    let k = g.J.Judge.known c.args.judge.now in
    let over = watched c.args.self.now c.args.act in
    let other : is_started c.args.started c.args.act ≡ false = sym c.is_started.ensures ∙ c.if-is_started.false in
    let not_hit : is_hit c.args.changed.now over ≡ false = false_from_ne_true (is_hit c.args.changed.now over) (λ hit. true_false _ (c.requires.candidates c.args.act c.requires.act hit) (sym c.has.ensures ∙ c.if-not-has.true)) in
    sym (unhit-others d k (watched c.args.self.now) c.args.changed.now c.args.started c.args.act c.requires.act c.requires.held other not_hit)

pub returns-clause-same : goal.returns-clause-same
returns-clause-same g c =
    let d = g.J.Judge.domain c.args.judge.now in
    let k = g.J.Judge.known c.args.judge.now in
    let over = watched c.args.self.now c.args.act in
    let other : is_started c.args.started c.args.act ≡ false = sym c.is_started.ensures ∙ c.if-is_started.false in
    by_hit (is_hit c.args.changed.now over) (c.is_broken.result ≡ is_false d k over)
    (λ hit. c.is_broken.ensures.hit hit)
    (λ not. c.is_broken.ensures.unhit not ∙ sym (unhit-others d k (watched c.args.self.now) c.args.changed.now c.args.started c.args.act c.requires.act c.requires.held other not))

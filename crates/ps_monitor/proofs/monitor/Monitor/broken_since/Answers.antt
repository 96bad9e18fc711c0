use Rattle.std.proofs.Common.{◌≡◌, ◌||◌, ◌∷◌, [], ℕ, Bool, true, false, if◌then◌else◌, length, slice_index_or, refl, ap, ◌∙◌, arith, length-append}
use Rattle.ps_monitor.specs.Hits.{due, is_hit, is_started}
use Rattle.ps_monitor.specs.Watched.{is_false, watched}
use Rattle.ps_monitor.proofs.Lists.{below-end, few, filter-more, filter-same, filter-up, one_set, set_length}
use Rattle.ps_monitor.proofs.monitor.Monitor.broken_since.Goals as goal

one_or_none : (n : ℕ) (b : Bool) → length (if b then n ∷ [] else []) ≡ (if b then 1 else 0)
one_or_none n true = refl
one_or_none n false = refl

pub loop-act-preserved : goal.loop-act-preserved
loop-act-preserved g c =
    let d = g.J.Judge.domain c.args.judge.now in
    let k = g.J.Judge.known c.args.judge.now in
    let inv = c.loop-act.invariant in
    let n = c.loop-act.act in
    let over : ℕ → Bool = λ i. is_false d k (watched c.args.self.now i) in
    let p : ℕ → Bool = λ i. is_started c.args.started i || is_hit c.args.changed.now (watched c.args.self.now i) in
    let more = ap length (filter-more p n) ∙ length-append (due c.args.changed.now c.args.started (watched c.args.self.now) n) (if p n then n ∷ [] else []) in
    let one = one_or_none n (p n) in
    let is : c.judge_act.result ≡ over n = c.judge_act.ensures.same ∙ (λ i. is_false (inv.domain i) (inv.known i) (watched c.args.self.now n)) in
    record {
      domain = c.judge_act.ensures.domain ∙ inv.domain;
      known = c.judge_act.ensures.known ∙ inv.known;
      many = ap length c.set.ensures ∙ set_length c.loop-act.all.marks n c.judge_act.result ∙ inv.many;
      same = λ i. ap (λ l. slice_index_or l i false) c.set.ensures ∙ one_set c.loop-act.all.marks n c.judge_act.result over (omega (arith, inv.many, c.loop-act-test.true, c.count-act-end.ensures.few)) is inv.same i;
      count = omega (arith, c.judge_act.ensures.count, inv.count, more, one);
    }

pub judge_act-requires-clause-count : goal.judge_act-requires-clause-count
judge_act-requires-clause-count g c =
    let low = few (λ i. is_started c.args.started i || is_hit c.args.changed.now (watched c.args.self.now i)) c.loop-act.act in
    omega (arith, c.loop-act.invariant.count, c.requires.count, low, c.loop-act-test.true, c.count-act-end.ensures.few)

pub returns-clause-each : goal.returns-clause-each
returns-clause-each g c = λ n lt.
    let d = g.J.Judge.domain c.args.judge.now in
    let k = g.J.Judge.known c.args.judge.now in
    c.loop-act.invariant.same n
    ∙ below-end n c.loop-act.act (is_false d k (watched c.args.self.now n))
    (λ le. ap (is_false d k) (c.count-act-end.ensures.none n lt (omega (arith, le, c.loop-act-test.false))))

pub returns-clause-list : goal.returns-clause-list
returns-clause-list g c = λ n le.
    let d = g.J.Judge.domain c.args.judge.now in
    let k = g.J.Judge.known c.args.judge.now in
    filter-same (λ i. slice_index_or c.loop-act.all.marks i false) (λ i. is_false d k (watched c.args.self.now i)) 0 n
    (λ i low high. returns-clause-each g c i (omega (arith, high, le)))

pub returns-clause-count : goal.returns-clause-count
returns-clause-count g c =
    let p : ℕ → Bool = λ i. is_started c.args.started i || is_hit c.args.changed.now (watched c.args.self.now i) in
    let up = filter-up p c.loop-act.act 256 (omega (arith, c.loop-act.auto.act-end, c.count-act-end.ensures.few)) in
    omega (arith, c.loop-act.invariant.count, up)

use Rattle.std.proofs.Common.{◌≡◌, ◌<◌, ℕ, ◌||◌, ◌++◌, if◌then◌else◌, [], ◌∷◌, ap, arith, sym, subst, length, map, ◌∙◌}
use Rattle.ps_ledger.specs.Ledger.{TellsAll}
use Rattle.ps_rules.specs.History.{any_of, cancels}
use Rattle.ps_monitor.specs.Watched.{marked}
use Rattle.ps_board.proofs.Going.{any-more, cancels-more, length-more, marked-fits, one}
use Rattle.ps_board.proofs.blocks.cancel_all.Goals as goal

pub cancel_if-requires-clause-room : goal.cancel_if-requires-clause-room
cancel_if-requires-clause-room c = λ h.
    let lt : c.loop-act.act < length c.args.ledger.now.acts.states.items = omega (arith, c.loop-act-test.true, c.len-count.ensures) in
    let fits = marked-fits c.args.acts.now c.loop-act.act (length c.args.ledger.now.acts.states.items) lt (sym c.has-is_due.ensures ∙ h) in
    omega (arith, fits, c.requires.room, c.loop-act.invariant.len, c.loop-act.invariant.capacity)

pub loop-act-preserved : goal.loop-act-preserved
loop-act-preserved c =
    let k : ℕ = c.loop-act.act in
    let due : (if c.has-is_due.result then k ∷ [] else []) ≡ one c.args.acts.now k = ap (λ b. if b then k ∷ [] else []) c.has-is_due.ensures in
    let many = ap length due in
    let more = length-more c.args.acts.now k in
    record {
      count = c.cancel_if.ensures.acts ∙ c.loop-act.invariant.count;
      entries = c.cancel_if.ensures.entries
          ∙ ap (λ xs. c.loop-act.entries.items ++ map (cancels c.args.hand c.args.why) xs) due
          ∙ ap (λ xs. xs ++ map (cancels c.args.hand c.args.why) (one c.args.acts.now k)) c.loop-act.invariant.entries
          ∙ cancels-more c.args.hand c.args.why c.args.acts.now k c.args.entries.now.items;
      told = λ es t. subst (λ xs. TellsAll xs c.cancel_if.new.ledger)
          (ap (λ xs. (es ++ map (cancels c.args.hand c.args.why) (marked c.args.acts.now k)) ++ map (cancels c.args.hand c.args.why) xs) due ∙ cancels-more c.args.hand c.args.why c.args.acts.now k es)
          (c.cancel_if.ensures.told (es ++ map (cancels c.args.hand c.args.why) (marked c.args.acts.now k)) (c.loop-act.invariant.told es t));
      watching = λ gs w. c.cancel_if.ensures.watching gs (c.loop-act.invariant.watching gs w);
      members = λ i h. c.cancel_if.ensures.members i (c.loop-act.invariant.members i h);
      len = omega (arith, c.cancel_if.ensures.len, c.loop-act.invariant.len, many, more);
      capacity = omega (arith, c.cancel_if.ensures.capacity, c.loop-act.invariant.capacity);
      spare = λ n h. c.cancel_if.ensures.spare n (c.loop-act.invariant.spare n h);
      any = ap (λ b. b || c.has-is_due.result) c.loop-act.invariant.any ∙ ap (λ b. any_of (marked c.args.acts.now k) || b) c.has-is_due.ensures ∙ sym (any-more c.args.acts.now k);
    }

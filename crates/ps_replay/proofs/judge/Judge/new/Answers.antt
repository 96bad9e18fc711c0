use Rattle.std.proofs.Common.{◌≡◌, [], length, sym, subst, arith}
use Rattle.ps_rules.specs.Prefixes.{IsPrefix}
use Rattle.ps_rules.specs.Prefixes.Leads.{here}
use Rattle.ps_rules.specs.Runs.{plan}
use Rattle.ps_replay.specs.Judge.{AreInPlan}
use Rattle.ps_replay.proofs.judge.Judge.new.Goals as goal

pub returns : goal.returns
returns c =
    let none : c.new-2.result.items ≡ [] = c.new-2.ensures.items in
    record {
      stands = c.in_ok-new.ensures;
      prefix = subst (IsPrefix c.args.input.now []) (sym none) (here [] []);
      within = subst (AreInPlan (length (plan []))) (sym none) tt;
      met = omega arith;
    }

use Rattle.std.proofs.Common.{rules, ◌≡◌, ◌+◌, sym, subst, ◌∙◌, ap, length, arith}
use Rattle.std.specs.Map.{lookup}
use Rattle.std.proofs.lemmas.List.{length_push}
use Rattle.ps_world.specs.Names.{same_name}
use Rattle.ps_problem.specs.KindLists.{AreKinds}
use Rattle.ps_problem.proofs.KindLists.{one_more}
use Rattle.ps_problem.proofs.problem.instances.list_kinds.Goals as goal

pub loop-at-preserved : goal.loop-at-preserved
loop-at-preserved c =
    let es = c.args.all.now in
    let ks = c.loop-at.kinds.items in
    let is : c.kind_of.result ≡ lookup (same_name (record { 0 = c.loop-at.at })) es = search rules in
    let items = c.in_ok-push.ensures.items in
    let len = c.loop-at.invariant.len in
    let more = length_push ks c.kind_of.result in
    let longer : length c.push.new.self.items ≡ c.loop-at.at + 1 = ap length items ∙ (omega (arith, more, len)) in
    record {
      are = subst (λ l. AreKinds l es) (sym items) (one_more ks es c.kind_of.result c.loop-at.at c.loop-at.invariant.are len is);
      rise = c.loop-at.invariant.rise;
      len = longer;
    }

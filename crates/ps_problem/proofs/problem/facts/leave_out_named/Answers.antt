use Rattle.std.proofs.Common.{◌≡◌, true, not, filter, ap, sym, ◌∙◌, subst}
use Rattle.std.proofs.lemmas.List.Elements.{All-contains}
use Rattle.ps_world.specs.Knowledge.{is_among, same_fact}
use Rattle.ps_world.specs.declared.facts.Fact.{Fact}
use Rattle.ps_problem.specs.Namings.{IsNaming, AreNamed}
use Rattle.ps_action.proofs.Facts.{facts_total}
use Rattle.ps_problem.proofs.Filters.{remove_key-filter}
use Rattle.ps_problem.proofs.Namings.{one_gone, still_named, none_left}
use Rattle.ps_problem.proofs.problem.facts.leave_out_named.Goals as goal

pub loop-fact-preserved : goal.loop-fact-preserved
loop-fact-preserved c =
    let fact = c.in-Some.fact in
    let old = c.loop-fact.all.keys in
    let gone : c.remove.new.self.keys ≡ filter (λ g. not (same_fact fact g)) old =
    c.remove.ensures.keys ∙ remove_key-filter facts_total fact old c.len-count.ensures.ordered in
    let named : is_among c.args.name fact.args ≡ true =
    All-contains IsNaming c.loop-fact.namings.keys (record { name = c.args.name; fact = fact }) c.loop-fact.invariant.named.sound c.in-Some.ensures.there in
    record {
      left = ap (filter (λ (f : Fact). not (is_among c.args.name f.args))) gone ∙ one_gone c.args.name old fact named ∙ c.loop-fact.invariant.left;
      named = subst (λ l. AreNamed l c.take_naming.new.namings.keys) (sym gone) (still_named old c.loop-fact.namings.keys c.take_naming.new.namings.keys fact c.loop-fact.invariant.named c.in-Some.ensures.kept c.in-Some.ensures.sound);
    }

pub returns-clause-left : goal.returns-clause-left
returns-clause-left c =
    sym (none_left c.args.name c.loop-fact.all.keys c.loop-fact.namings.keys c.loop-fact.invariant.named c.in_default.ensures.none) ∙ c.loop-fact.invariant.left

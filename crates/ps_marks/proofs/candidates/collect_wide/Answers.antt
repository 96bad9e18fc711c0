use Rattle.std.proofs.Common.{List, fold, ap, sym, ◌∙◌, subst}
use Rattle.std.specs.BTreeSet.{insert_key}
use Rattle.ps_world.specs.Facts.{fact_cmp}
use Rattle.ps_world.specs.declared.facts.Fact.{Fact}
use Rattle.ps_marks.specs.Atoms.{facts_at}
use Rattle.ps_marks.specs.Candidates.{Collects}
use Rattle.ps_marks.proofs.Collected.{collects_first}
use Rattle.ps_marks.proofs.candidates.collect_wide.Goals as goal

pub returns : goal.returns
returns c =
    let k = c.args.problem.now in
    let made = facts_at c.args.expert.now k c.args.lifted.now in
    let old = c.args.found.now.keys in
    let w = c.in_ok-facts.ensures in
    let P : List Fact → Type 0 = λ fs. Collects k made old fs in
    subst P (sym (c.in_ok-insert_all.ensures ∙ ap (λ (fs : List Fact). fold (insert_key fact_cmp) old fs) (c.as_slice.ensures.value ∙ w.first)))
    (collects_first k made w.all old w.rise w.only w.has)

use Rattle.std.proofs.Common.{◌≡◌, List, filter, ap, sym, ◌∙◌, subst}
use Rattle.std.specs.List.{list_any}
use Rattle.std.specs.List.Sorted.{IsStrictlySortedBy}
use Rattle.std.proofs.lemmas.Result.{IfOk-weaker}
use Rattle.ps_world.specs.Facts.{fact_cmp}
use Rattle.ps_world.specs.Knowledge.{same_fact}
use Rattle.ps_world.specs.declared.facts.Fact.{Fact}
use Rattle.ps_problem.specs.Puts.{fresh_in}
use Rattle.ps_expand.specs.Differences.{HaveNewFacts, is_new}
use Rattle.ps_expand.proofs.Leading.{new_facts_are}
use Rattle.ps_expand.proofs.differences.new_facts.Goals as goal

pub returns : goal.returns
returns c =
    let old = c.args.old.now.facts in
    let new = c.args.new.now.facts in
    let fs = c.as_slice.result.now in
    let rise : IsStrictlySortedBy fact_cmp fs = subst (IsStrictlySortedBy fact_cmp) (sym c.as_slice.ensures.facts) c.as_slice.ensures.rise in
    let all : HaveNewFacts old new fs = λ f none. c.requires.all f (sym (ap (list_any (same_fact f)) c.as_slice.ensures.facts ∙ c.in_ok-among.ensures f) ∙ none) in
    let same = new_facts_are old new fs c.requires.rise.facts rise all in
    let Before : List Fact → Type 0 = λ v. v ≡ filter (is_new old new) fs in
    let After : List Fact → Type 0 = λ v. v ≡ fresh_in old new in
    IfOk-weaker c.new_among.result Before After (λ v e. e ∙ same) c.new_among.ensures

use Rattle.std.proofs.Common.{◌≡◌, ◌++◌, List, filter_map, ap, sym, ◌∙◌, subst}
use Rattle.std.specs.List.{list_any}
use Rattle.std.specs.List.Sorted.{IsStrictlySortedBy}
use Rattle.std.proofs.lemmas.Result.{IfOk-weaker}
use Rattle.ps_world.specs.Facts.{fact_cmp}
use Rattle.ps_world.specs.Knowledge.{same_fact}
use Rattle.ps_world.specs.declared.facts.Fact.{Fact}
use Rattle.ps_world.specs.declared.numbers.Num.{Num}
use Rattle.ps_expand.specs.Differences.{HaveNewValues, new_in, new_value}
use Rattle.ps_expand.proofs.Leading.{new_values_are}
use Rattle.ps_expand.proofs.differences.new_values.Goals as goal

pub returns : goal.returns
returns c =
    let old = c.args.old.now.values in
    let new = c.args.new.now.values in
    let fs = c.as_slice-2.result.now in
    let rise : IsStrictlySortedBy fact_cmp fs = subst (IsStrictlySortedBy fact_cmp) (sym c.as_slice-2.ensures.facts) c.as_slice-2.ensures.rise in
    let all : HaveNewValues old new fs = λ f none.
    c.requires.all f (sym (ap (list_any (same_fact f)) c.as_slice-2.ensures.facts ∙ c.in_ok-among.ensures f
    ∙ ap (λ (l : List Fact). list_any (same_fact f) (l ++ c.args.those.now)) (c.as_slice.ensures ∙ c.in_ok-valued.ensures)) ∙ none) in
    let same = new_values_are old new fs c.requires.rise.values rise all in
    let Before : List (Fact × Num) → Type 0 = λ v. v ≡ filter_map (new_value old new) fs in
    let After : List (Fact × Num) → Type 0 = λ v. v ≡ new_in old new in
    IfOk-weaker c.valued_among.result Before After (λ v e. e ∙ same) c.valued_among.ensures

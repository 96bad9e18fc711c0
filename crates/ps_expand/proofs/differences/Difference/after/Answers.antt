use Rattle.std.proofs.Common.{◌≡◌, ◌++◌, List, sym, ◌∙◌, subst}
use Rattle.std.specs.Map.{keys_of}
use Rattle.ps_world.specs.declared.facts.Fact.{Fact}
use Rattle.ps_world.specs.declared.numbers.Num.{Num}
use Rattle.ps_expand.specs.Differences.{HaveNewFacts, HaveNewValues, Rise}
use Rattle.ps_expand.proofs.Leading.{comes_among, given_among, goes_among, lost_among, rise_after}
use Rattle.ps_expand.proofs.differences.Difference.after.Goals as goal

pub new_facts-requires-clause-rise : goal.new_facts-requires-clause-rise
new_facts-requires-clause-rise c = subst Rise (sym c.requires.leads) (rise_after c.requires.from c.args.change.now c.requires.rise)

pub new_facts-requires-clause-all : goal.new_facts-requires-clause-all
new_facts-requires-clause-all c =
    let k = c.args.start.now in
    let here = c.args.here.now in
    let change = c.args.change.now in
    let P : List Fact → List Fact → Type 0 = λ xs ys. HaveNewFacts k.facts here.facts (xs ++ ys) in
    subst (P c.as_slice.result.now) (sym c.as_slice-2.ensures) (subst (λ xs. P xs change.adds) (sym c.as_slice.ensures) (comes_among k c.args.self.now change here c.requires))

pub new_facts-requires-2-clause-all : goal.new_facts-requires-2-clause-all
new_facts-requires-2-clause-all c =
    let k = c.args.start.now in
    let here = c.args.here.now in
    let change = c.args.change.now in
    let P : List Fact → List Fact → Type 0 = λ xs ys. HaveNewFacts here.facts k.facts (xs ++ ys) in
    subst (P c.as_slice-3.result.now) (sym c.as_slice-4.ensures) (subst (λ xs. P xs change.deletes) (sym c.as_slice-3.ensures) (goes_among k c.args.self.now change here c.requires))

pub new_values-requires-clause-rise : goal.new_values-requires-clause-rise
new_values-requires-clause-rise c = subst Rise (sym c.requires.leads) (rise_after c.requires.from c.args.change.now c.requires.rise)

pub new_values-requires-clause-all : goal.new_values-requires-clause-all
new_values-requires-clause-all c =
    let k = c.args.start.now in
    let here = c.args.here.now in
    let change = c.args.change.now in
    let named : c.deref.result.now ≡ change.gone ++ keys_of change.values =
    c.deref.ensures.value ∙ c.in_ok-touched.ensures in
    let P : List (Fact × Num) → List Fact → Type 0 = λ xs ys. HaveNewValues k.values here.values (keys_of xs ++ ys) in
    subst (P c.as_slice-5.result.now) (sym named) (subst (λ xs. P xs (change.gone ++ keys_of change.values)) (sym c.as_slice-5.ensures) (given_among k c.args.self.now change here c.requires))

pub new_values-requires-2-clause-all : goal.new_values-requires-2-clause-all
new_values-requires-2-clause-all c =
    let k = c.args.start.now in
    let here = c.args.here.now in
    let change = c.args.change.now in
    let named : c.deref-2.result.now ≡ change.gone ++ keys_of change.values =
    c.deref-2.ensures.value ∙ c.in_ok-touched.ensures in
    let P : List (Fact × Num) → List Fact → Type 0 = λ xs ys. HaveNewValues here.values k.values (keys_of xs ++ ys) in
    subst (P c.as_slice-6.result.now) (sym named) (subst (λ xs. P xs (change.gone ++ keys_of change.values)) (sym c.as_slice-6.ensures) (lost_among k c.args.self.now change here c.requires))

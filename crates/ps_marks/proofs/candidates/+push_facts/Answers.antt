use Rattle.std.proofs.Common.{◌≡◌, ◌-◌, ◌≤◌, arith, length, vec_len, drop, flat_map, map, take, List, [], ◌∷◌, ◌++◌, get_or, ap, sym, ◌∙◌, subst}
use Rattle.std.proofs.lemmas.List.{drop_all, take_at, length_push}
use Rattle.ps_world.specs.declared.facts.Fact.{Fact}
use Rattle.ps_world.specs.declared.names.Name.{Name}
use Rattle.ps_action.specs.Grounding.{picks}
use Rattle.ps_marks.specs.Candidates.{facts_from, unknown}
use Rattle.ps_marks.proofs.FirstFacts.{all_taken, enough_taken, few_taken, more_listed}
use Rattle.ps_marks.proofs.candidates.+push_facts.Goals as goal

pub loop-name-preserved : goal.loop-name-preserved
loop-name-preserved t c =
    let none : Name = record { 0 = 0 } in
    let k = c.args.problem.now in
    let head = c.args.head in
    let first = c.args.first.now.items in
    let names = c.as_slice-name-items.result.now in
    let i = c.loop-name.name-index in
    let name = get_or names i none in
    let rest = picks c.in-Some.rest.now in
    let done = c.loop-name.facts.items in
    let longer : c.push.new.self.items ≡ first ++ name ∷ [] = c.in_ok-push.ensures.items ∙ ap (λ (l : List Name). l ++ name ∷ []) c.loop-name.invariant.first in
    let more : c.push_facts.new.facts.items ≡ take 200 (done ++ unknown k (facts_from head (first ++ name ∷ []) rest)) =
    c.in_ok-push_facts.ensures.facts ∙ ap (λ (l : List Name). take 200 (done ++ unknown k (facts_from head l rest))) longer in
    let back : c.push_facts.new.first.items ≡ first ++ name ∷ [] = c.in_ok-push_facts.ensures.first ∙ longer in
    let long : length first ≡ vec_len c.push_facts.new.first - 1 = omega (arith, c.push_facts.new.first.ok, ap length back, length_push first name) in
    let P : List Fact → Type 0 = λ l. length l ≤ 200 in
    record {
      first = c.pop.ensures.rest ∙ (ap (λ (l : List Name). take (vec_len c.push_facts.new.first - 1) l) back ∙ take_at first (name ∷ []) (vec_len c.push_facts.new.first - 1) long);
      enough = subst P (sym more) (few_taken 200 (done ++ unknown k (facts_from head (first ++ name ∷ []) rest)));
      so_far = more_listed k head first 200 rest names i none done c.push_facts.new.facts.items _ c.loop-name-test.true more c.loop-name.invariant.so_far;
    }

pub returns-then-len-ge-MOST_CANDIDATES-clause-facts : goal.returns-then-len-ge-MOST_CANDIDATES-clause-facts
returns-then-len-ge-MOST_CANDIDATES-clause-facts t c =
    let facts = c.loop-name.facts.items in
    let many : 200 ≤ length facts = omega (arith, c.if-len-ge-MOST_CANDIDATES.true, c.len.ensures, c.loop-name.facts.ok) in
    enough_taken 200 facts _ _ c.loop-name.invariant.enough many c.loop-name.invariant.so_far

pub returns-clause-facts : goal.returns-clause-facts
returns-clause-facts t c =
    let facts = c.loop-name.facts.items in
    let lists = picks c.in-Some.rest.now in
    let names = c.as_slice-name-items.result.now in
    let F : Name → List (List Name) = λ n. map (λ args. n ∷ args) lists in
    let gone : drop c.loop-name.name-index names ≡ [] = drop_all c.loop-name.name-index names (omega (arith, c.loop-name-test.false)) in
    all_taken 200 facts _ c.loop-name.invariant.enough
    (ap (λ (l : List Name). take 200 (facts ++ unknown c.args.problem.now (facts_from c.args.head c.args.first.now.items (flat_map F l)))) (sym gone) ∙ c.loop-name.invariant.so_far)

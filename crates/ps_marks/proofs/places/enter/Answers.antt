use Rattle.std.proofs.Common.{◌≡◌, ℕ, List, Some, cond, length, sym, ◌∙◌, subst, arith}
use Rattle.std.specs.BTreeMap.{is_at}
use Rattle.std.specs.Map.{lookup}
use Rattle.ps_world.specs.Facts.{fact_cmp}
use Rattle.ps_world.specs.declared.facts.Fact.{Fact}
use Rattle.ps_marks.specs.Rules.{IsIndexed}
use Rattle.ps_marks.proofs.Indexed.{indexed_more, kept_fact, new_fact}
use Rattle.ps_marks.proofs.places.enter.Goals as goal

pub returns-then-contains_key-clause-facts : goal.returns-then-contains_key-clause-facts
returns-then-contains_key-clause-facts c = kept_fact c.args.facts.now.items c.args.places.now.entries c.args.fact.now c.requires (sym c.contains_key.ensures ∙ c.if-contains_key.true)

pub returns-clause-indexed : goal.returns-clause-indexed
returns-clause-indexed c =
    let f = c.args.fact.now in
    let old = c.args.places.now.entries in
    let new = c.insert.new.self.entries in
    let long : c.len.result ≡ length c.args.facts.now.items = omega (arith, c.len.ensures, c.args.facts.now.ok) in
    let P : List Fact → Type 0 = λ fs. IsIndexed fs new in
    let Q : ℕ → Type 0 = λ n. (q : Fact) → lookup (is_at (fact_cmp q)) new ≡ cond (is_at (fact_cmp f) q) (Some n) (lookup (is_at (fact_cmp q)) old) in
    subst P (sym c.in_ok-push.ensures.items) (indexed_more c.args.facts.now.items old new f c.requires (sym c.contains_key.ensures ∙ c.if-contains_key.false) (subst Q long c.in_ok-insert.ensures.updates.0))

pub returns-clause-facts : goal.returns-clause-facts
returns-clause-facts c = c.in_ok-push.ensures.items ∙ sym (new_fact c.args.facts.now.items c.args.places.now.entries c.args.fact.now c.requires (sym c.contains_key.ensures ∙ c.if-contains_key.false))

use Rattle.std.proofs.Common.{◌<◌, ◌≤◌, [], ◌∷◌, length, arith}
use Rattle.ps_world.specs.declared.facts.Fact.{Fact}
use Rattle.std.proofs.Common.{◌≡◌, refl, sym, ◌∙◌}
use Rattle.ps_marks.specs.Candidates.{unknown}
use Rattle.ps_marks.proofs.FirstFacts.{enough_taken, known_listed, new_listed}
use Rattle.ps_marks.proofs.candidates.push_fact.Goals as goal

pub returns-then-len-ge-MOST_CANDIDATES : goal.returns-then-len-ge-MOST_CANDIDATES
returns-then-len-ge-MOST_CANDIDATES c =
    let old = c.args.facts.now.items in
    let f : Fact = record { head = c.args.head; args = c.args.args.now } in
    let many : 200 ≤ length old = omega (arith, c.if-len-ge-MOST_CANDIDATES.true, c.len.ensures, c.args.facts.now.ok) in
    enough_taken 200 old (unknown c.args.problem.now (f ∷ [])) _ c.requires.enough many refl

pub returns-in_ok-push : goal.returns-in_ok-push
returns-in_ok-push c =
    let old = c.args.facts.now.items in
    let f : Fact = record { head = c.args.head; args = c.in-Some.args } in
    let g : Fact = record { head = c.args.head; args = c.args.args.now } in
    let args : c.in-Some.args ≡ c.args.args.now = c.in-Some.ensures.1 in
    let same : f ≡ g = λ i. record { head = c.args.head; args = args i } in
    let few : length old < 200 = omega (arith, c.if-len-ge-MOST_CANDIDATES.false, c.len.ensures, c.args.facts.now.ok) in
    new_listed 200 c.args.problem.now f g old c.push.new.self.items same (sym c.has.ensures.known ∙ c.if-not-has.true) few c.in_ok-push.ensures.items

pub returns-else-not-has : goal.returns-else-not-has
returns-else-not-has c =
    let old = c.args.facts.now.items in
    let f : Fact = record { head = c.args.head; args = c.in-Some.args } in
    let g : Fact = record { head = c.args.head; args = c.args.args.now } in
    let args : c.in-Some.args ≡ c.args.args.now = c.in-Some.ensures.1 in
    let same : f ≡ g = λ i. record { head = c.args.head; args = args i } in
    known_listed 200 c.args.problem.now f g old same (sym c.has.ensures.known ∙ c.if-not-has.false) c.requires.enough

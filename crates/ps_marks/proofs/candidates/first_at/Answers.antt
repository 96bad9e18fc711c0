use Rattle.std.proofs.Common.{◌≡◌, List, Some, None, length, ap, sym, ◌∙◌, subst, arith}
use Rattle.std.specs.Option.{option_copied}
use Rattle.std.proofs.lemmas.List.{length-map}
use Rattle.ps_world.specs.Knowledge.{predicate_of}
use Rattle.ps_world.specs.declared.domains.Decl.{Decl}
use Rattle.ps_world.specs.declared.facts.Fact.{Fact}
use Rattle.ps_world.specs.declared.names.Name.{Name}
use Rattle.ps_action.specs.Places.{hole_of, place_of}
use Rattle.ps_action.specs.declared.places.Place.{Place}
use Rattle.ps_marks.specs.Candidates.{IsFirst, all_choices, first_with}
use Rattle.ps_marks.proofs.AtPlaces.{choices_many, none_first, some_first}
use Rattle.ps_marks.proofs.candidates.first_at.Goals as goal

pub returns-in_default : goal.returns-in_default
returns-in_default c =
    let d = c.args.expert.now in
    let k = c.args.problem.now in
    let l = c.args.lifted.now in
    let P : List Fact → Type 0 = λ fs. IsFirst d k l fs in
    let none : predicate_of d l.head ≡ None = sym c.predicate.ensures ∙ ap option_copied c.in_default.is in
    subst P (sym c.new.ensures.items) (none_first d k l (λ decl there long. absurd (cc)))

pub returns-then-count-params : goal.returns-then-count-params
returns-then-count-params c =
    let d = c.args.expert.now in
    let k = c.args.problem.now in
    let l = c.args.lifted.now in
    let P : List Fact → Type 0 = λ fs. IsFirst d k l fs in
    let there : predicate_of d l.head ≡ Some c.in-Some.decl.now = sym c.predicate.ensures ∙ ap option_copied c.in-Some.is in
    let terms : length (place_of l).args ≡ length l.terms = length-map l.terms hole_of in
    let params : length c.as_slice-params.result.now ≡ length c.in-Some.decl.now.params = ap length c.as_slice-params.ensures in
    subst P (sym c.new-then-count-params.ensures.items) (none_first d k l (λ decl found long.
    let same : c.in-Some.decl.now ≡ decl = cc in
    c.if-count-params.true (c.len-count.ensures.count ∙ sym terms ∙ sym long ∙ sym (ap (λ (q : Decl). length q.params) same) ∙ sym params)))

pub first_with-requires : goal.first_with-requires
first_with-requires c =
    let d = c.args.expert.now in
    let k = c.args.problem.now in
    let l = c.args.lifted.now in
    let ps = c.as_slice-params.result.now in
    let hs = c.as_slice-holes.result.now in
    let holes : length hs ≡ length (place_of l).args = ap length (c.as_slice-holes.ensures ∙ ap (λ (p : Place). p.args) c.of-place.ensures) in
    let terms : length (place_of l).args ≡ length l.terms = length-map l.terms hole_of in
    let even : length ps ≡ length hs = omega (arith, holes, terms, c.len-count.ensures.count, c.if-count-params.false) in
    let many : length c.as_slice.result.now ≡ length ps = ap length (c.as_slice.ensures.value ∙ c.in_ok-choices.ensures) ∙ choices_many d k ps hs even in
    omega (arith, many, c.if-count-params.false, c.len-count.ensures.count, c.len-count.ensures.few)

pub all_choices-requires : goal.all_choices-requires
all_choices-requires c =
    let l = c.args.lifted.now in
    let holes : length c.as_slice-holes.result.now ≡ length (place_of l).args = ap length (c.as_slice-holes.ensures ∙ ap (λ (p : Place). p.args) c.of-place.ensures) in
    let terms : length (place_of l).args ≡ length l.terms = length-map l.terms hole_of in
    omega (arith, holes, terms, c.len-count.ensures.count, c.if-count-params.false)

pub returns : goal.returns
returns c =
    let d = c.args.expert.now in
    let k = c.args.problem.now in
    let l = c.args.lifted.now in
    let decl = c.in-Some.decl.now in
    let there : predicate_of d l.head ≡ Some decl = sym c.predicate.ensures ∙ ap option_copied c.in-Some.is in
    let holes : c.as_slice-holes.result.now ≡ (place_of l).args = c.as_slice-holes.ensures ∙ ap (λ (p : Place). p.args) c.of-place.ensures in
    let params : length c.as_slice-params.result.now ≡ length decl.params = ap length c.as_slice-params.ensures in
    let long : length decl.params ≡ length l.terms = omega (arith, params, c.len-count.ensures.count, c.if-count-params.false) in
    let lists = c.as_slice.ensures.value ∙ c.in_ok-choices.ensures ∙ (λ i. all_choices d k (c.as_slice-params.ensures i) (holes i)) in
    some_first d k l decl c.in_ok-facts.facts.items there long (c.in_ok-facts.ensures ∙ ap (λ (ls : List (List Name)). first_with k l.head ls) lists)

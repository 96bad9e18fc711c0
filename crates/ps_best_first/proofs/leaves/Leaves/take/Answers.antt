use Rattle.std.proofs.Common.{◌≡◌, ◌∷◌, ℕ, List, length, slice_set, refl, ap, subst, arith}
use Rattle.std.proofs.lemmas.Option.{slice_get_read}
use Rattle.ps_best_first.specs.Leaves.{IsFirst, IsHeap, shut}
use Rattle.ps_best_first.specs.declared.leaves.Leaf.{Leaf}
use Rattle.ps_best_first.proofs.Heaps.{is_within, taken_first, taken_heap}
use Rattle.ps_best_first.proofs.leaves.Leaves.take.Goals as goal

pub index_mut-requires : goal.index_mut-requires
index_mut-requires c =
    let items = c.self.inside.all.items in
    let key : ℕ × ℕ = (c.in-Some.field-0-0, c.in-Some.place) in
    let P : List (ℕ × ℕ) → Type 0 = IsHeap items in
    let heap = subst P c.in-Some.ensures.removal c.self.invariant in
    let within = is_within items key c.pop_first.new.self.keys heap c.in-Some.ensures.all_above in
    omega (arith, within)

pub invariant_of-self : goal.invariant_of-self
invariant_of-self c =
    let items = c.self.inside.all.items in
    let key : ℕ × ℕ = (c.in-Some.field-0-0, c.in-Some.place) in
    let P : List (ℕ × ℕ) → Type 0 = IsHeap items in
    let heap = subst P c.in-Some.ensures.removal c.self.invariant in
    let within = is_within items key c.pop_first.new.self.keys heap c.in-Some.ensures.all_above in
    let there = slice_get_read items (length items) c.in-Some.place c.index_mut.result.now refl within c.index_mut.ensures.value in
    taken_heap items key c.pop_first.new.self.keys heap c.in-Some.ensures.all_above c.index_mut.result.now there

pub returns-in-Some : goal.returns-in-Some
returns-in-Some c =
    let items = c.self.inside.all.items in
    let key : ℕ × ℕ = (c.in-Some.field-0-0, c.in-Some.place) in
    let P : List (ℕ × ℕ) → Type 0 = IsHeap items in
    let heap = subst P c.in-Some.ensures.removal c.self.invariant in
    let within = is_within items key c.pop_first.new.self.keys heap c.in-Some.ensures.all_above in
    let now = c.index_mut.result.now in
    let there = slice_get_read items (length items) c.in-Some.place now refl within c.index_mut.ensures.value in
    let first = taken_first items key c.pop_first.new.self.keys heap c.in-Some.ensures.all_above now there in
    let Q : List Leaf → Type 0 = λ ls. IsFirst ls c.in-Some.place now in
    (now, subst Q c.self.view_is first, ap (λ (ls : List Leaf). slice_set ls c.in-Some.place (shut now)) c.self.view_is)

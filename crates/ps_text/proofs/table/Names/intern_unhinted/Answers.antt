use Rattle.std.proofs.Common.{◌≡◌, ◌∙◌, [], ap, map, rules, subst, sym}
use Rattle.ps_text.specs.Names.{AreNames, folded, interned, place_of}
use Rattle.ps_text.proofs.Folds.{IsNameText-folded}
use Rattle.ps_text.proofs.Tables.{AreNames-interned, interned-seen, interned-view, place_of-seen, place_of-view}
use Rattle.ps_text.proofs.table.Names.intern_unhinted.Goals as goal

pub returns-in-Some-clause-ok : goal.returns-in-Some-clause-ok
returns-in-Some-clause-ok c =
    let names = subst (λ s. AreNames (map (λ v. v.items) s.set.keys)) (sym c.deref-2.ensures) c.self.invariant in
    place_of-seen (λ v. v.items) c.deref-2.result.now.set.keys c.args.text.now c.in-Some.place names (sym c.in-Some.ensures.index)
    ∙ ap (λ s. place_of (map (λ v. v.items) s.set.keys) (folded c.args.text.now)) c.deref-2.ensures
    ∙ ap (λ t. place_of t (folded c.args.text.now)) c.self.view_is

pub returns-in-Some-clause-table : goal.returns-in-Some-clause-table
returns-in-Some-clause-table c =
    let names = subst (λ s. AreNames (map (λ v. v.items) s.set.keys)) (sym c.deref-2.ensures) c.self.invariant in
    let same = interned-seen (λ v. v.items) c.deref-2.result.now.set.keys c.args.text.now c.in-Some.place names (sym c.in-Some.ensures.index) in
    subst (λ t. t ≡ interned t (folded c.args.text.now)) (ap (λ s. map (λ v. v.items) s.set.keys) c.deref-2.ensures ∙ c.self.view_is) same

pub returns-clause-ok : goal.returns-clause-ok
returns-clause-ok c =
    c.in_ok-place.ensures.index
    ∙ place_of-view (λ v. v.items) c.deref_mut.result.now.set.keys [] c.in_ok-folded.folded (folded c.args.text.now) c.in_ok-folded.ensures
    ∙ ap (λ s. place_of (map (λ v. v.items) s.set.keys) (folded c.args.text.now)) c.deref_mut.ensures.value
    ∙ ap (λ t. place_of t (folded c.args.text.now)) c.self.view_is

pub returns-clause-table : goal.returns-clause-table
returns-clause-table c =
    interned-view (λ v. v.items) c.deref_mut.result.now.set.keys c.insert_full.new.self.keys c.in_ok-folded.folded (folded c.args.text.now) c.in_ok-folded.ensures c.in_ok-place.ensures.keys
    ∙ ap (λ s. interned (map (λ v. v.items) s.set.keys) (folded c.args.text.now)) c.deref_mut.ensures.value
    ∙ ap (λ t. interned t (folded c.args.text.now)) c.self.view_is

pub invariant_of-self-2 : goal.invariant_of-self-2
invariant_of-self-2 c =
    let text = folded c.args.text.now in
    let table = interned-view (λ v. v.items) c.deref_mut.result.now.set.keys c.insert_full.new.self.keys c.in_ok-folded.folded text c.in_ok-folded.ensures c.in_ok-place.ensures.keys
    ∙ ap (λ s. interned (map (λ v. v.items) s.set.keys) text) c.deref_mut.ensures.value in
    rw table (AreNames-interned _ text c.self.invariant (IsNameText-folded c.args.text.now (search rules)))

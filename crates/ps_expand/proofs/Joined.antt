-- Effects joined to one change do what they do one after another.
use Rattle.std.proofs.Common.{◌≡◌, Bool, true, false, not, ◌&&◌, ◌||◌, List, [], ◌∷◌, ◌++◌, filter, filter_map, fold, refl, ap, sym, ◌∙◌}
use Rattle.std.specs.List.{list_any}
use Rattle.std.specs.List.Sorted.{IsStrictlySortedBy}
use Rattle.std.proofs.lemmas.List.Folds.{list_any-append}
use Rattle.std.proofs.lemmas.List.Kept.{IsStrictlySortedBy-filter}
use Rattle.ps_world.specs.Facts.{fact_cmp}
use Rattle.ps_world.specs.Knowledge.{ground, same_fact}
use Rattle.ps_world.specs.declared.numbers.Num.{Num}
use Rattle.ps_world.specs.declared.facts.Fact.{Fact}
use Rattle.ps_world.specs.declared.known.Knowledge.{Knowledge}
use Rattle.ps_world.specs.declared.schemas.Lifted.{Lifted}
use Rattle.ps_world.specs.declared.actions.Effect.{Effect}
use Rattle.ps_world.specs.declared.actions.Effect.TheVariants.{Add, Delete, Number}
use Rattle.ps_action.specs.Effects.{added_by, deletes, made, with_value}
use Rattle.ps_action.proofs.Contained.{fact_same}
use Rattle.ps_action.proofs.MadeFacts.{facts_rise, sorted-fold}
use Rattle.ps_problem.specs.Patches.{changed, facts_after, values_after}
use Rattle.ps_problem.specs.Puts.{deleted_by}
use Rattle.ps_problem.specs.declared.change.Change.{Change}
use Rattle.ps_problem.proofs.Patches.{none_out}
use Rattle.ps_problem.proofs.PutFacts.{facts_same, known, made_known}
use Rattle.ps_problem.proofs.PutValues.{filter_none}
use Rattle.ps_expand.specs.Joining.{adds, joined, left_by}
use Rattle.ps_expand.proofs.Known.{known_added, known_made}

known_deleted : (f : Fact) (es : List Effect) → known f (filter_map deleted_by es) ≡ list_any (deletes f) es
known_deleted f [] = refl
known_deleted f (Add l ∷ es) = known_deleted f es
known_deleted f (Delete l ∷ es) = ap (λ b. same_fact f (ground l) || b) (known_deleted f es)
known_deleted f (Number how l x ∷ es) = known_deleted f es

-- s: it is this fact, k: it is another one that comes, e: it goes later
stays_away : (s k e : Bool) → (s ≡ true → e ≡ true) → (k && not e) ≡ ((s || k) && not e)
stays_away true true true h = refl
stays_away true true false h = absurd (let no = h refl in cc)
stays_away true false true h = refl
stays_away true false false h = absurd (let no = h refl in cc)
stays_away false k e h = refl

stays_there : (s k e : Bool) → (s ≡ true → e ≡ false) → (s || (k && not e)) ≡ ((s || k) && not e)
stays_there true k true h = absurd (let no = h refl in cc)
stays_there true k false h = refl
stays_there false k e h = refl

module _ (f : Fact) (ends : List Effect) where
  abbrev gone : Fact → Bool
  gone g = list_any (deletes g) ends

  add_at : (l : Lifted) (es : List Effect) (d : Bool) → gone (ground l) ≡ d → known f (filter_map (left_by ends) es) ≡ (known f (filter_map added_by es) && not (gone f)) → known f (filter_map (left_by ends) (Add l ∷ es)) ≡ ((same_fact f (ground l) || known f (filter_map added_by es)) && not (gone f))
  add_at l es true is h =
      rw is (h ∙ stays_away (same_fact f (ground l)) (known f (filter_map added_by es)) (gone f) (λ s. ap gone (fact_same f (ground l) s) ∙ is))
  add_at l es false is h =
      rw is (ap (λ b. same_fact f (ground l) || b) h ∙ stays_there (same_fact f (ground l)) (known f (filter_map added_by es)) (gone f) (λ s. ap gone (fact_same f (ground l) s) ∙ is))

  -- a fact comes and stays where one adds it and none of the later ones deletes it
  known_left : (es : List Effect) → known f (filter_map (left_by ends) es) ≡ (known f (filter_map added_by es) && not (gone f))
  known_left [] = refl
  known_left (Add l ∷ es) = add_at l es (gone (ground l)) refl (known_left es)
  known_left (Delete l ∷ es) = known_left es
  known_left (Number how l x ∷ es) = known_left es

-- o: it was known, d and e: it is deleted at the start and at the end, a and b: it is added
both_ways : (o d e a b : Bool) → ((o && not (d || e)) || ((a && not e) || b)) ≡ (b || ((a || (o && not d)) && not e))
both_ways true true true true true = refl
both_ways true true true true false = refl
both_ways true true true false true = refl
both_ways true true true false false = refl
both_ways true true false true true = refl
both_ways true true false true false = refl
both_ways true true false false true = refl
both_ways true true false false false = refl
both_ways true false true true true = refl
both_ways true false true true false = refl
both_ways true false true false true = refl
both_ways true false true false false = refl
both_ways true false false true true = refl
both_ways true false false true false = refl
both_ways true false false false true = refl
both_ways true false false false false = refl
both_ways false d true true true = refl
both_ways false d true true false = refl
both_ways false d true false true = refl
both_ways false d true false false = refl
both_ways false d false true true = refl
both_ways false d false true false = refl
both_ways false d false false true = refl
both_ways false d false false false = refl

fold-join : {A B : Type 0} (f : B → A → B) (b : B) (xs ys : List A) → fold f b (xs ++ ys) ≡ fold f (fold f b xs) ys
fold-join f b [] ys = refl
fold-join f b (x ∷ xs) ys = fold-join f (f b x) xs ys

module _ (k : Knowledge) (starts : List Effect) (ready : List (Fact × Num)) (ends : List Effect) (last : List (Fact × Num)) where
  abbrev c : Change
  c = joined starts ready ends last

  abbrev during : Knowledge
  during = made k starts ready

  after_joined : (f : Fact) → IsStrictlySortedBy fact_cmp k.facts → known f (facts_after k.facts c.adds c.deletes) ≡ known f (made during ends last).facts
  after_joined f sorted =
      made_known k.facts c.adds c.deletes sorted f
      ∙ (λ i. (known f k.facts && not (gone i)) || comes i)
      ∙ both_ways (known f k.facts) (list_any (deletes f) starts) (list_any (deletes f) ends) (list_any (adds f) starts) (list_any (adds f) ends)
      ∙ ap (λ b. list_any (adds f) ends || (b && not (list_any (deletes f) ends))) (sym (known_made f k.facts starts))
      ∙ sym (known_made f during.facts ends)
    where
      gone : known f c.deletes ≡ (list_any (deletes f) starts || list_any (deletes f) ends)
      gone =
          list_any-append (same_fact f) (filter_map deleted_by starts) (filter_map deleted_by ends)
          ∙ (λ i. known_deleted f starts i || known_deleted f ends i)

      comes : known f c.adds ≡ ((list_any (adds f) starts && not (list_any (deletes f) ends)) || list_any (adds f) ends)
      comes =
          list_any-append (same_fact f) (filter_map (left_by ends) starts) (filter_map added_by ends)
          ∙ (λ i. (known_left f ends starts ∙ ap (λ b. b && not (list_any (deletes f) ends)) (known_added f starts)) i || known_added f ends i)

  -- the change of both is made by one after the other
  pub joined_made : IsStrictlySortedBy fact_cmp k.facts → changed k c ≡ made during ends last
  joined_made sorted =
      let rises : IsStrictlySortedBy fact_cmp (facts_after k.facts c.adds c.deletes) =
      sorted-fold (filter (λ f. not (known f c.deletes)) k.facts) c.adds (IsStrictlySortedBy-filter fact_cmp (λ f. not (known f c.deletes)) k.facts sorted) in
      let facts : facts_after k.facts c.adds c.deletes ≡ (made during ends last).facts =
      facts_same (facts_after k.facts c.adds c.deletes) (made during ends last).facts rises (facts_rise ends during.facts (facts_rise starts k.facts sorted)) (λ f. after_joined f sorted) in
      let values : values_after k.values c.values c.gone ≡ (made during ends last).values =
      ap (λ vs. fold with_value vs (ready ++ last)) (filter_none k.values) ∙ fold-join with_value k.values ready last in
      λ i. record { instances = none_out k.instances i; facts = facts i; values = values i; goal = k.goal }

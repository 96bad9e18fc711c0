-- What is known suits the domain after effects that suit it.
use Rattle.std.proofs.Common.{◌≡◌, ◌⊎◌, Bool, true, false, not, ◌&&◌, ◌||◌, List, Some, filter_map, inl, inr, refl, ap, sym, ◌∙◌, subst}
use Rattle.std.specs.List.{Contains}
use Rattle.std.specs.Map.{keys_of}
use Rattle.ps_world.specs.Knowledge.{value_in, predicate_of, function_of}
use Rattle.ps_world.specs.declared.numbers.Num.{Num}
use Rattle.ps_world.specs.declared.facts.Fact.{Fact}
use Rattle.ps_world.specs.declared.domains.Domain.{Domain}
use Rattle.ps_world.specs.declared.known.Knowledge.{Knowledge}
use Rattle.ps_world.specs.declared.actions.Effect.{Effect}
use Rattle.ps_action.specs.Effects.{added_by, made}
use Rattle.ps_problem.specs.Puts.{deleted_by}
use Rattle.ps_problem.specs.WellKnown.{Suits, IsWellKnown, PutSuits, PutsKeepWellKnown}
use Rattle.ps_problem.proofs.Contained.{is_known-Contains}
use Rattle.ps_problem.proofs.PutFacts.{known, made_facts, made_known}
use Rattle.ps_problem.proofs.PutValues.{key_of_known, unset, one_or_other}
use Rattle.ps_action.proofs.MadeFacts.{facts_rise}
use Rattle.ps_action.proofs.MadeValues.{values_rise}
use Rattle.ps_problem.proofs.WellKnown.{after_growth}

known_or_added : (o a d : Bool) → ((o && not d) || a) ≡ true → (o ≡ true) ⊎ (a ≡ true)
known_or_added true a d e = inl refl
known_or_added false a d e = inr e

module _ (d : Domain) (k : Knowledge) (es : List Effect) (ready : List (Fact × Num)) (s : PutSuits d k es ready) (w : IsWellKnown d k) where
  -- a known fact was known, or it is added and suits
  fact_suits : (f : Fact) → Contains (made k es ready).facts f → Contains k.facts f ⊎ Suits d k (predicate_of d f.head) f.args
  fact_suits f c =
      let both = made_known k.facts (filter_map added_by es) (filter_map deleted_by es) w.rises.facts f in
      let there = (is_known-Contains f (made k es ready).facts).1 c in
      elim (known_or_added (known f k.facts) (known f (filter_map added_by es)) (known f (filter_map deleted_by es)) (sym both ∙ ap (known f) (made_facts k.facts es) ∙ there)) [
        | inl was ↦ inl ((is_known-Contains f k.facts).0 was)
        | inr new ↦ inr (s.facts f ((is_known-Contains f (filter_map added_by es)).0 new))
      ]

  -- a value was known, or the term is given one and suits
  value_suits : (f : Fact) (x : Num) → value_in (made k es ready) f ≡ Some x → (value_in k f ≡ Some x) ⊎ Suits d k (function_of d f.head) f.args
  value_suits f x e =
      elim (one_or_other (known f (keys_of ready))) [
        | inl none ↦ inl (sym (unset f k.values ready none) ∙ e)
        | inr given ↦
            let v = key_of_known f ready given in
            inr (subst (λ g. Suits d k (function_of d g.head) g.args) (sym v.2) (s.terms v.0 v.1))
      ]

  stays_well_known : IsWellKnown d (made k es ready)
  stays_well_known =
      after_growth d k (made k es ready) w (λ n t e. e)
      (record { instances = w.rises.instances; facts = facts_rise es k.facts w.rises.facts; values = values_rise k.values ready w.rises.values })
      w.few w.types fact_suits value_suits w.goal

pub puts_keep_well_known : PutsKeepWellKnown
puts_keep_well_known d k es ready s w = stays_well_known d k es ready s w

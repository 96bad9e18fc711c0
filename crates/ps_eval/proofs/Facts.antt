-- Effects that add or delete a fact stand for themselves.
use Rattle.std.proofs.Common.{◌≡◌, ◌-◌, [], ◌∷◌, List, Bool, Result, map, arith, refl, ap, sym, ◌∙◌, subst}
use Rattle.ps_world.specs.declared.schemas.Lifted.{Lifted}
use Rattle.ps_world.specs.declared.schemas.Term.{Term}
use Rattle.ps_world.specs.declared.schemas.Term.TheVariants.{Const, Var}
use Rattle.ps_world.specs.Failures.{Gives}
use Rattle.ps_world.specs.declared.actions.Effect.{Effect}
use Rattle.ps_world.specs.declared.actions.Spread.{Spread}
use Rattle.ps_world.specs.declared.domains.Domain.{Domain}
use Rattle.ps_world.specs.declared.failures.Failure.{Failure}
use Rattle.ps_world.specs.declared.known.Knowledge.{Knowledge}
use Rattle.ps_action.specs.Effects.{effect_flat, flat}
use Rattle.ps_action.specs.Grounding.{put_lifted, put_term}
use Rattle.ps_action.specs.declared.refusals.EffectRefusal.{EffectRefusal}
use Rattle.ps_eval.specs.Flat.{MakesFlat}
use Rattle.ps_eval.specs.Making.{Makes}

no_names : (t : Term) → put_term [] t ≡ t
no_names (Var i) = let same : i - 0 ≡ i = omega arith in ap Var same
no_names (Const n) = refl

no_names_in : (ts : List Term) → map (put_term []) ts ≡ ts
no_names_in [] = refl
no_names_in (t ∷ ts) = ap (λ u. u ∷ map (put_term []) ts) (no_names t) ∙ ap (λ us. t ∷ us) (no_names_in ts)

pub unput : (l : Lifted) → put_lifted [] l ≡ l
unput l = ap (λ ts. record l { terms = ts }) (no_names_in l.terms)

-- a list is made as the effects that it stands for are
pub made-so : (d : Domain) (es : List Spread) (flats : List Effect) (old : Knowledge) (r : Result Bool (Failure EffectRefusal)) (new : Knowledge) → flat d old es ≡ flats → MakesFlat flats old r new → Makes d es old r new
made-so d es flats old r new is made = record { gives = subst (λ l. Gives (λ (changed : Bool). new) r (effect_flat old l)) (sym is) made.gives; changed = made.changed; kept = made.kept }

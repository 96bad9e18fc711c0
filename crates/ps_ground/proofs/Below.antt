-- Facts that are below others in their order, and facts that aren't there.
use Rattle.std.proofs.Common.{◌≡◌, Bool, false, not, List, [], ◌∷◌, filter, refl, ap, ◌∙◌}
use Rattle.std.specs.List.{AllByRecursion, list_any}
use Rattle.std.specs.Ordering.{ordering_reverse}
use Rattle.std.specs.declared.cmp.Ordering.TheVariants.{Less, Greater}
use Rattle.std.proofs.lemmas.Bool.{or_parts}
use Rattle.ps_world.specs.Facts.{fact_cmp}
use Rattle.ps_world.specs.declared.facts.Fact.{Fact}
use Rattle.ps_ground.specs.Orders.{facts_total}

-- a fact is below each of these
abbrev pub IsBelow : Fact → List Fact → Type 0
IsBelow f gs = AllByRecursion (λ g. fact_cmp f g ≡ Less) gs

pub above : (f g : Fact) → fact_cmp f g ≡ Less → fact_cmp g f ≡ Greater
above f g e = facts_total.antisymm g f ∙ ap ordering_reverse e

pub none_filtered : (p : Fact → Bool) (fs : List Fact) → list_any p fs ≡ false → filter (λ f. not (p f)) fs ≡ fs
none_filtered p [] e = refl
none_filtered p (f ∷ fs) e =
    let w = or_parts (p f) (list_any p fs) e in
    rw w.0 (ap (λ l. f ∷ l) (none_filtered p fs w.1))

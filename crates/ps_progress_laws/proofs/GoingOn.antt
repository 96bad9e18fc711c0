-- Where the ticker has nothing to do and the solver isn't asked, some member goes on, known by its number.
use Rattle.std.proofs.Common.{◌≡◌, ℕ, zero, suc, ◌||◌, true, Some, is_some, List, [], ◌∷◌, map, slice_get, ap, sym, inl, inr}
use Rattle.std.proofs.lemmas.Bool.{or_cases}
use Rattle.ps_machine.specs.declared.inputs.Input.{Input}
use Rattle.ps_machine.specs.declared.journal.Entry.{Entry}
use Rattle.ps_rules.specs.Members.{observers, performers}
use Rattle.ps_rules.specs.Choices.{observer_turn, performer_turn, ticked, wants_plan}
use Rattle.ps_progress_laws.specs.DeadEnd.{any_observes, any_performs}
use Rattle.ps_progress_laws.specs.Working.{ObserverGoesOn, PerformerGoesOn, SomebodyGoesOn}
use Rattle.ps_progress_laws.proofs.DeadEnd.{no_dead_end}
use Rattle.ps_progress_laws.proofs.Lists.{any_in, In}
use Rattle.ps_progress_laws.proofs.Picking.{clash}

-- what stands in a list has a number there, and so has what comes of it
numbered_in : {A B : Type 0} (f : A → B) (x : A) (xs : List A) → In x xs → (k : ℕ) × (slice_get (map f xs) k ≡ Some (f x))
numbered_in f x [] h = absurd h
numbered_in f x (y ∷ ys) (inl e) = (zero, ap (λ z. Some (f z)) (sym e))
numbered_in f x (y ∷ ys) (inr h) = let w = numbered_in f x ys h in (suc w.0, w.1)

performer_goes_on : (i : Input) (es : List Entry) → any_performs i es ≡ true → PerformerGoesOn i es
performer_goes_on i es t =
    let w = any_in (λ p. is_some (performer_turn i p.name es)) (performers i) t in
    let n = numbered_in (λ p. p.name) w.0 (performers i) w.1 in
    (n.0, (w.0).name, n.1, w.2)

observer_goes_on : (i : Input) (es : List Entry) → any_observes i es ≡ true → ObserverGoesOn i es
observer_goes_on i es t =
    let w = any_in (λ o. is_some (observer_turn i o.name es)) (observers i) t in
    let n = numbered_in (λ o. o.name) w.0 (observers i) w.1 in
    (n.0, (w.0).name, n.1, w.2)

pub somebody_goes_on : SomebodyGoesOn
somebody_goes_on i es sound h running calm unasked =
    elim (or_cases (is_some (ticked i es)) (wants_plan i es || (any_performs i es || any_observes i es)) (no_dead_end i es sound h running)) [
      | inl t ↦ clash (is_some (ticked i es)) t (ap is_some calm)
      | inr later ↦
          elim (or_cases (wants_plan i es) (any_performs i es || any_observes i es) later) [
            | inl t ↦ clash (wants_plan i es) t unasked
            | inr goes ↦
                elim (or_cases (any_performs i es) (any_observes i es) goes) [
                  | inl t ↦ inl (performer_goes_on i es t)
                  | inr t ↦ inr (observer_goes_on i es t)
                ]
          ]
    ]

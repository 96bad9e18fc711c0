-- The plan's own course, event by event, and where it is the same at a thing.
use Rattle.std.proofs.Common.{◌≡◌, ℕ, zero, suc, ◌+◌, ◌-◌, ◌*◌, ◌/◌, ◌%◌, ◌≤◌, ◌<◌, true, false, if◌then◌else◌, nat_eq, refl, ap, ◌∙◌, inl, inr, ◌⊎◌, arith}
use Rattle.std.proofs.lemmas.Bool.Decides.{nat_tests}
use Rattle.std.proofs.lemmas.Bool.{false_from_ne_true}
use Rattle.ps_order_laws.specs.Acts.{Acts, Acting, GoodPlan}
use Rattle.ps_order_laws.specs.Orders.{Stage, waiting, running, ended}

-- The plan's events of an act that come before a time are those that came by its stage. The start of act j is at the time 2 * j, and its
-- end is next.
abbrev pub Fits : ℕ → ℕ → Stage → Type 0
Fits t j waiting = t ≤ 2 * j
Fits t j running = t ≡ suc (2 * j)
Fits t j ended = suc (suc (2 * j)) ≤ t

none_between : (t u v j : ℕ) (s : Stage) → Fits t j s → Fits u j s → t ≤ v → v < u → 2 * j ≤ v → v ≤ suc (2 * j) → ⊥
none_between t u v j waiting f g a b c d = omega arith
none_between t u v j running f g a b c d = omega arith
none_between t u v j ended f g a b c d = omega arith

half_of : (v : ℕ) → (v ≡ 2 * (v / 2)) ⊎ (v ≡ suc (2 * (v / 2)))
half_of v = grind arith

pub le_or : (a b : ℕ) → (a ≤ b) ⊎ (b ≤ a)
le_or a b = grind arith

even : (i : ℕ) → nat_eq (2 * i % 2) 0 ≡ true
even i = grind (arith, nat_tests)

odd : (i : ℕ) → nat_eq (suc (2 * i) % 2) 0 ≡ false
odd i = grind (arith, nat_tests)

module _ {K X : Type 0} (same : K → K → X → Type 0) (n : ℕ) (a : Acts K X) (h : Acting same n a) (k0 : K) (plan : GoodPlan a n k0) where
  -- the plan's knowledge after so many of its events
  pub moment : ℕ → K
  moment t = if nat_eq (t % 2) 0 then plan.before (t / 2) else plan.within (t / 2)

  pub moment_before : (i : ℕ) → moment (2 * i) ≡ plan.before i
  unfolding moment
  moment_before i = let e : 2 * i / 2 ≡ i = omega arith in rw (even i) (ap plan.before e)

  pub moment_within : (i : ℕ) → moment (suc (2 * i)) ≡ plan.within i
  unfolding moment
  moment_within i = let e : suc (2 * i) / 2 ≡ i = omega arith in rw (odd i) (ap plan.within e)

  pub moment_after : (i : ℕ) → moment (suc (suc (2 * i))) ≡ plan.before (suc i)
  moment_after i = let e : suc (suc (2 * i)) ≡ 2 * suc i = omega arith in ap moment e ∙ moment_before (suc i)

  -- an event of an act leaves what the act doesn't change
  next : (j v : ℕ) (x : X) → j < n → a.changes j x ≡ false → (v ≡ 2 * j) ⊎ (v ≡ suc (2 * j)) → same (moment v) (moment (suc v)) x
  next j v x b c (inl e) =
      rw (e, moment_before j, moment_within j) ((h.begin j b).others (plan.before j) (plan.within j) (plan.begins j b) x c)
  next j v x b c (inr e) =
      rw (e, moment_within j, moment_after j) ((h.finish j b).others (plan.within j) (plan.before (suc j)) (plan.finishes j b) x c)

  -- no act changes a thing by an event of the plan between these times
  abbrev Unchanged : X → ℕ → ℕ → Type 0
  Unchanged x t u = (j v : ℕ) → j < n → t ≤ v → v < u → 2 * j ≤ v → v ≤ suc (2 * j) → a.changes j x ≡ false

  still : (x : X) (t m u : ℕ) → u ≡ m + t → u ≤ 2 * n → Unchanged x t u → same (moment t) (moment u) x
  still x t zero u e b c = let f : u ≡ t = omega arith in rw f (h.itself (moment t) x)
  still x t (suc m) u e b c =
      let v = m + t in
      let f : u ≡ suc v = omega arith in
      let j = v / 2 in
      let below : j < n = omega arith in
      let steady = c j v below (omega arith) (omega arith) (omega arith) (omega arith) in
      rw f (h.joined (moment t) (moment v) (moment (suc v)) x (still x t m v refl (omega arith) (λ i w p q r s z. c i w p q (omega arith) s z)) (next j v x below steady (half_of v)))

  -- a time in the plan before which just those events of acts that change a thing stand that came by these stages
  abbrev pub Cuts : (ℕ → Stage) → X → ℕ → Type 0
  Cuts now x t = (j : ℕ) → j < n → a.changes j x ≡ true → Fits t j (now j)

  forward : (now : ℕ → Stage) (x : X) (t u : ℕ) → t ≤ u → u ≤ 2 * n → Cuts now x t → Cuts now x u → same (moment t) (moment u) x
  forward now x t u le b f g =
      still x t (u - t) u (omega arith) b
      (λ j v below p q r s. false_from_ne_true (a.changes j x) (λ e. none_between t u v j (now j) (f j below e) (g j below e) p q r s))

  -- at all such times the plan's knowledge is the same at the thing
  pub cuts_alike : (now : ℕ → Stage) (x : X) (t u : ℕ) → t ≤ 2 * n → u ≤ 2 * n → Cuts now x t → Cuts now x u → same (moment t) (moment u) x
  cuts_alike now x t u b c f g =
      elim (le_or t u) [
        | inl le ↦ forward now x t u le c f g
        | inr le ↦ h.turned (moment u) (moment t) x (forward now x u t le b g f)
      ]

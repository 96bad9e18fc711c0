-- The acts of an action, listed one list of arguments after another, and how many they are.
use Rattle.std.proofs.Common.{◌≡◌, ℕ, ◌+◌, ◌*◌, ◌<◌, ◌≤◌, min, List, [], ◌∷◌, length, get_or, map, drop, refl, ap, sym, ◌∙◌, arith, mul_assoc}
use Rattle.std.specs.List.{flat_map}
use Rattle.std.proofs.lemmas.List.{drop_more}
use Rattle.ps_world.specs.declared.names.Name.{Name}
use Rattle.ps_world.specs.declared.actions.ActionDef.{ActionDef}
use Rattle.ps_world.specs.declared.domains.Domain.{Domain}
use Rattle.ps_action.specs.Grounding.{all_ground, all_of_action, by_name, choices, grounded, picks}
use Rattle.ps_action.specs.declared.acts.GroundAction.{GroundAction}
use Rattle.ps_domain.proofs.Counts.{length-picked, capped}
use Rattle.ps_ground.specs.Acts.{act_with, acts_with}
use Rattle.ps_ground.proofs.Lists.{map-flat_map, map-map}

-- ---- how many there are

-- the count so far, with one more of the choices
pub count_more : (lists : List (List Name)) (i : ℕ) (none : List Name) (top was : ℕ) → 50001 ≤ top → i < length lists
    → min 50001 (min (min (was * length (get_or lists i none)) top) 50001 * length (picks (drop (i + 1) lists))) ≡ min 50001 (was * length (picks (drop i lists)))
count_more lists i none top was high within =
    let n = length (get_or lists i none) in
    let later = length (picks (drop (i + 1) lists)) in
    let split : length (picks (drop i lists)) ≡ n * later =
    ap (λ (l : List (List Name)). length (picks l)) (drop_more lists i none within) ∙ length-picked (get_or lists i none) (picks (drop (i + 1) lists)) in
    capped top (was * n) later high ∙ ap (min 50001) (mul_assoc was n later ∙ ap (λ (k : ℕ). was * k) (sym split))

-- no list of arguments makes no act
pub none_listed : (a : ActionDef) (lists : List (List Name)) → 0 ≡ min 50001 (length (picks lists)) → map (act_with a) (picks lists) ≡ []
none_listed a lists e = by (picks lists) (omega (arith, e))
  where
    by : (l : List (List Name)) → length l ≡ 0 → map (act_with a) l ≡ []
    by [] h = refl
    by (x ∷ l) h = absurd (omega (arith, h))

-- ---- all acts

-- the acts of the ground actions of an action
acts_of : (d : Domain) (instances : List (Name × Name)) (a : ActionDef) (lists : List (List Name)) → map (λ (g : GroundAction). g.act) (map (λ args. grounded a (record { action = a.name; args = args })) lists) ≡ map (act_with a) lists
acts_of d instances a lists = map-map (λ (g : GroundAction). g.act) (λ args. grounded a (record { action = a.name; args = args })) lists

-- the acts of all ground actions are those of one action after another
pub acts_are : (d : Domain) (sorted instances : List (Name × Name)) → sorted ≡ by_name instances → flat_map (acts_with d sorted) d.actions ≡ map (λ (g : GroundAction). g.act) (all_ground d instances)
acts_are d sorted instances e =
    ap (λ (s : List (Name × Name)). flat_map (acts_with d s) d.actions) e
    ∙ sym (map-flat_map (λ (g : GroundAction). g.act) (all_of_action d instances) d.actions ∙ (λ i. flat_map (λ a. acts_of d instances a (picks (map (choices d instances) a.params)) i) d.actions))

-- Candidates found from one ground action after another.
use Rattle.std.proofs.Common.{◌≡◌, ℕ, ◌+◌, ◌<◌, zero, suc, Bool, cond, List, [], ◌∷◌, ◌++◌, None, get_or, length, take, refl, ap, sym, ◌∙◌, subst, arith}
use Rattle.std.proofs.lemmas.List.{take_more}
use Rattle.ps_world.specs.declared.domains.Domain.{Domain}
use Rattle.ps_world.specs.declared.facts.Fact.{Fact}
use Rattle.ps_world.specs.declared.known.Knowledge.{Knowledge}
use Rattle.ps_action.specs.declared.acts.GroundAction.{GroundAction}
use Rattle.ps_closing.specs.declared.rule.Rule.{Rule}
use Rattle.ps_marks.specs.declared.making.Made.{Made}
use Rattle.ps_marks.specs.Atoms.{can_make}
use Rattle.ps_marks.specs.Candidates.{Collects, made_in}
use Rattle.ps_closing.specs.Closing.{is_ready}
use Rattle.ps_marks.specs.Closures.{closure, is_usable}
use Rattle.ps_marks.specs.Making.{facts_made, made_by}
use Rattle.ps_marks.specs.Rules.{AreRules, IsRuleOf, Mirror}
use Rattle.ps_marks.proofs.Bridge.{ready}
use Rattle.ps_marks.proofs.Collected.{collects_more}
use Rattle.ps_marks.proofs.CouldBe.{made_in_more}
use Rattle.ps_marks.proofs.Placed.{made_more}

-- the rule at the place of a ground action is its rule
pub rule_at : (d : Domain) (k : Knowledge) (atoms : List Fact) (gs : List GroundAction) (rs : List Rule) → AreRules d k atoms gs rs → (i : ℕ) (g : GroundAction) (r : Rule) → i < length gs → IsRuleOf d k atoms (get_or gs i g) (get_or rs i r)
rule_at d k atoms [] rs a i g r l = absurd (omega (arith, l))
rule_at d k atoms (f ∷ gs) [] a i g r l = absurd a
rule_at d k atoms (f ∷ gs) (q ∷ rs) a zero g r l = a.0
rule_at d k atoms (f ∷ gs) (q ∷ rs) a (suc i) g r l = rule_at d k atoms gs rs a.1 i g r (omega (arith, l))

module _ (d : Domain) (k : Knowledge) where
  -- one more ground action, whose facts are collected where its rule is ready
  pub found_more : (atoms : List Fact) (gs : List GroundAction) (rs : List Rule) (flags : List Bool) → AreRules d k atoms gs rs → Mirror atoms flags (closure d k None) → (i : ℕ) (g : GroundAction) (r : Rule) → i < length gs → (old new : List Fact)
      → Collects k (made_in d k (take i gs)) [] old → Collects k (cond (is_ready None flags (get_or rs i r)) (can_make d k (get_or gs i g)) []) old new → Collects k (made_in d k (take (i + 1) gs)) [] new
  found_more atoms gs rs flags are mirror i g r within old new before one =
      let a = get_or gs i g in
      let more = cond (is_ready None flags (get_or rs i r)) (can_make d k a) [] in
      let same : is_ready None flags (get_or rs i r) ≡ is_usable d k None (closure d k None) a = ready d k atoms None None flags (closure d k None) a (get_or rs i r) (rule_at d k atoms gs rs are i g r within) (λ j x e. refl) mirror (λ x e. refl) in
      let P : List Fact → Type 0 = λ fs. Collects k fs [] new in
      let is : made_in d k (take (i + 1) gs) ≡ made_in d k (take i gs) ++ more =
      ap (made_in d k) (take_more gs i g within) ∙ made_in_more d k (take i gs) a ∙ ap (λ b. made_in d k (take i gs) ++ cond b (can_make d k a) []) (sym same) in
      subst P (sym is) (collects_more k (made_in d k (take i gs)) more [] old new before one)

  -- one more add
  pub collects_add : (adds : List Made) (i : ℕ) (add : Made) (first old new : List Fact) → i < length adds → Collects k (made_by d k (take i adds)) first old → Collects k (facts_made d k (get_or adds i add)) old new → Collects k (made_by d k (take (i + 1) adds)) first new
  collects_add adds i add first old new within before one =
      let P : List Fact → Type 0 = λ fs. Collects k fs first new in
      let is : made_by d k (take (i + 1) adds) ≡ made_by d k (take i adds) ++ facts_made d k (get_or adds i add) =
      ap (made_by d k) (take_more adds i add within) ∙ made_more d k (take i adds) (get_or adds i add) in
      subst P (sym is) (collects_more k (made_by d k (take i adds)) (facts_made d k (get_or adds i add)) first old new before one)

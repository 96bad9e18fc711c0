-- Users that are noted grow, also where memory runs out halfway.
use Rattle.std.proofs.Common.{◌≡◌, ◌⊎◌, inl, inr, ℕ, nat_eq, Bool, true, false, ◌&&◌, ◌||◌, List, refl, sym, ◌∙◌, arith}
use Rattle.std.specs.List.{list_any}
use Rattle.std.proofs.lemmas.Bool.Decides.{nat_tests}
use Rattle.std.proofs.lemmas.Bool.{or_left}
use Rattle.ps_action.specs.declared.touched.Touched.{Touched}
use Rattle.ps_action.specs.Arcs.{meets}
use Rattle.ps_users.specs.Users.{Enters, GrowsBy, IsSame, Users, uses}

pub grows_same : (old new : Users) (act : ℕ) → IsSame old new → GrowsBy old act new
grows_same old new act same = record { kept = λ t i e. same t i ∙ e; alone = λ t i e. inl (sym (same t i) ∙ e) }

pub grows_not : (users : Users) (act : ℕ) → GrowsBy users act users
grows_not users act = record { kept = λ t i e. e; alone = λ t i e. inl e }

alone_at : (i act : ℕ) (a b c : Bool) → nat_eq i act ≡ b → (a || (b && c)) ≡ true → (a ≡ true) ⊎ (i ≡ act)
alone_at i act true b c e h = inl refl
alone_at i act false true c e h = inr (grind (arith, nat_tests, e))
alone_at i act false false c e h = absurd (cc)

pub grows_entered : (old new : Users) (things : List Touched) (act : ℕ) → Enters old things act new → GrowsBy old act new
grows_entered old new things act h = record {
  kept = λ t i e. h t i ∙ or_left (uses old t i) _ e;
  alone = λ t i e. alone_at i act (uses old t i) (nat_eq i act) (list_any (meets t) things) refl (sym (h t i) ∙ e);
}

pub grows_on : (old mid new : Users) (act : ℕ) → GrowsBy old act mid → GrowsBy mid act new → GrowsBy old act new
grows_on old mid new act first then = record {
  kept = λ t i e. then.kept t i (first.kept t i e);
  alone = λ t i e. elim (then.alone t i e) [
    | inl before ↦ first.alone t i before
    | inr it ↦ inr it
  ];
}

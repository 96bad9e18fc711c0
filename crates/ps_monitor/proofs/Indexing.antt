-- The index of watched conditions, after one is put in or taken out.
use Rattle.std.proofs.Common.{◌≡◌, ◌≢◌, ◌<◌, ℕ, nat_eq, Bool, true, false, ◌&&◌, ◌||◌, Option, Some, List, length, slice_set, refl, ap, sym, ◌∙◌, arith}
use Rattle.std.specs.List.{list_any}
use Rattle.std.proofs.lemmas.Bool.Decides.{nat_tests}
use Rattle.std.proofs.lemmas.Grind.{common_steps}
use Rattle.ps_world.specs.Trees.{CondTree}
use Rattle.ps_action.specs.Arcs.{meets}
use Rattle.ps_action.specs.Touching.{read_by_list}
use Rattle.ps_action.specs.declared.touched.Touched.{Touched}
use Rattle.ps_users.specs.Users.{Enters, GrowsBy, Users, uses}
use Rattle.ps_monitor.specs.Indexed.{IsIndexed, is_read, watch_at}

pub indexed_same : (old new : List (Option (List CondTree))) (users : Users) → IsIndexed old users → ((i : ℕ) → watch_at new i ≡ watch_at old i) → IsIndexed new users
indexed_same old new users h same = record {
  whole = λ act t n e. h.whole act t n (ap (is_read t) (sym (same act)) ∙ e);
}

pub indexed_grown : (ws : List (Option (List CondTree))) (users new : Users) (act : ℕ) → GrowsBy users act new → IsIndexed ws users → IsIndexed ws new
indexed_grown ws users new act grown h = record {
  whole = λ i t n e. grown.kept t i (h.whole i t n e);
}

entered_at : (a b : Bool) → b ≡ true → (a || (true && b)) ≡ true
entered_at true b e = refl
entered_at false b e = e

pub indexed_set : (ws : List (Option (List CondTree))) (users new : Users) (act : ℕ) (over : List CondTree) (reads : List Touched) → act < length ws
    → reads ≡ read_by_list over → GrowsBy users act new → (act ≢ 0 → Enters users reads act new) → IsIndexed ws users → IsIndexed (slice_set ws act (Some over)) new
indexed_set ws users new act over reads below are grown entered h = record {
  whole = λ i t n e. at i t n (nat_eq i act) refl e;
}
  where
    at : (i : ℕ) (t : Touched) → i ≢ 0 → (b : Bool) → nat_eq i act ≡ b → is_read t (watch_at (slice_set ws act (Some over)) i) ≡ true → uses new t i ≡ true
    at i t n true e there =
        let same : i ≡ act = grind (arith, nat_tests, e) in
        let here : watch_at (slice_set ws act (Some over)) i ≡ Some over = grind (arith, common_steps, same, below) in
        let read : list_any (meets t) reads ≡ true = ap (list_any (meets t)) are ∙ ap (is_read t) (sym here) ∙ there in
        entered (λ none. n (same ∙ none)) t i ∙ ap (λ b. uses users t i || (b && list_any (meets t) reads)) e ∙ entered_at (uses users t i) (list_any (meets t) reads) read
    at i t n false e there =
        let away : i ≢ act = grind (arith, nat_tests, e) in
        let other : watch_at (slice_set ws act (Some over)) i ≡ watch_at ws i = grind (arith, common_steps, away) in
        grown.kept t i (h.whole i t n (ap (is_read t) (sym other) ∙ there))

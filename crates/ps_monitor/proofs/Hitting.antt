-- A condition that nothing in a list hits is as true as before a change that the list names.
use Rattle.std.proofs.Common.{◌≡◌, ◌≢◌, ◌<◌, ℕ, Bool, true, false, not, ◌||◌, if◌then◌else◌, List, [], ◌∷◌, All, Option, Some, None, refl, ap, sym, ◌∙◌}
use Rattle.std.specs.List.{list_any}
use Rattle.std.proofs.lemmas.List.Elements.{All-nil, All-cons}
use Rattle.std.proofs.lemmas.Bool.{or_right, false_from_ne_true, or_parts, or_from}
use Rattle.ps_world.specs.Trees.{CondTree, cond_trees}
use Rattle.ps_world.specs.declared.domains.Domain.{Domain}
use Rattle.ps_world.specs.declared.known.Knowledge.{Knowledge}
use Rattle.ps_action.specs.Arcs.{meet, meets}
use Rattle.ps_action.specs.Touching.{read_by_list}
use Rattle.ps_action.specs.declared.touched.Touched.{Touched}
use Rattle.ps_action.proofs.ArcTables.{true_false}
use Rattle.ps_eval.specs.Laws.{Agree}
use Rattle.ps_eval.proofs.Reading.{truth_reads_what_is_named}
use Rattle.ps_users.specs.Users.{Users, uses}
use Rattle.ps_action.proofs.Meeting.{meets_turned}
use Rattle.ps_users.proofs.Things.{all_so}
use Rattle.ps_monitor.specs.Hits.{but_for, HeldBefore, is_hit, is_started}
use Rattle.ps_monitor.specs.Indexed.{IsIndexed, is_read, watch_at}
use Rattle.ps_monitor.specs.Naming.{NamesChange, has, is_named}
use Rattle.ps_monitor.specs.Watched.{is_false}
use Rattle.ps_monitor.proofs.Naming.{unnamed_conds}

-- ---- what isn't in a list

apart : (s t : Touched) → meets s t ≡ false → meets t s ≡ false
apart s t e = false_from_ne_true (meets t s) (λ h. true_false (meets s t) (meets_turned t s h) e)

split : (t : Touched) (xs ys : List Touched) → meet xs (t ∷ ys) ≡ false → (list_any (meets t) xs ≡ false) × (meet xs ys ≡ false)
split t [] ys e = (refl, refl)
split t (x ∷ xs) ys e =
    let parts = or_parts (meets x t || list_any (meets x) ys) (meet xs (t ∷ ys)) e in
    let here = or_parts (meets x t) (list_any (meets x) ys) parts.0 in
    let rest = split t xs ys parts.1 in
    (or_from (meets t x) (list_any (meets t) xs) (apart x t here.0) rest.0, or_from (list_any (meets x) ys) (meet xs ys) here.1 rest.1)

-- no read thing is in the list
all_absent : (xs ys : List Touched) → meet xs ys ≡ false → All (λ t. has xs t ≡ false) ys
all_absent xs [] e = All-nil (λ t. has xs t ≡ false)
all_absent xs (t ∷ ys) e =
    let parts = split t xs ys e in
    All-cons (λ s. has xs s ≡ false) t ys parts.0 (all_absent xs ys parts.1)

-- ---- truth

unhit_same : (d : Domain) (changed : List Touched) (before now : Knowledge) (over : Option (List CondTree)) → NamesChange changed before now
    → is_hit changed over ≡ false → is_false d now over ≡ is_false d before over
unhit_same d changed before now None named e = refl
unhit_same d changed before now (Some cs) named e =
    let unnamed = unnamed_conds changed (cond_trees cs) (all_absent changed (read_by_list cs) e) in
    ap not (sym (truth_reads_what_is_named d before now cs (all_so (λ t. is_named changed t ≡ false) (Agree before now) named (read_by_list cs) unnamed)))

-- a watched condition that isn't hit isn't false
unhit : (d : Domain) (now : Knowledge) (watches : ℕ → Option (List CondTree)) (changed : List Touched) (act : ℕ) → act < 256 → HeldBefore d now watches changed
    → is_hit changed (watches act) ≡ false → is_false d now (watches act) ≡ false
unhit d now watches changed act low h e =
    let same = unhit_same d changed h.before now (watches act) h.named e in
    false_from_ne_true (is_false d now (watches act)) (λ broken. true_false (is_false d now (watches act)) broken (same ∙ h.held act low e broken))

-- nor is that of an act that has not just started
pub unhit-others : (d : Domain) (now : Knowledge) (watches : ℕ → Option (List CondTree)) (changed : List Touched) (started : Option ℕ) (act : ℕ) → act < 256
    → HeldBefore d now (but_for started watches) changed → is_started started act ≡ false → is_hit changed (watches act) ≡ false → is_false d now (watches act) ≡ false
unhit-others d now watches changed started act low h other e =
    let same : but_for started watches act ≡ watches act = ap (λ b. if b then None else watches act) other in
    ap (is_false d now) (sym same) ∙ unhit d now (but_for started watches) changed act low h (ap (is_hit changed) same ∙ e)

-- ---- what is found

found_at : (used rest read others : Bool) → (read ≡ true → used ≡ true) → (others ≡ true → rest ≡ true) → (read || others) ≡ true → (used || rest) ≡ true
found_at used rest true others here there e = rw (here refl) refl
found_at used rest false others here there e = or_right used rest (there e)

found_by : (users : Users) (act : ℕ) (changed reads : List Touched) → ((t : Touched) → list_any (meets t) reads ≡ true → uses users t act ≡ true)
    → meet changed reads ≡ true → list_any (λ t. uses users t act) changed ≡ true
found_by users act [] reads h e = e
found_by users act (t ∷ ts) reads h e =
    found_at (uses users t act) (list_any (λ s. uses users s act) ts) (list_any (meets t) reads) (meet ts reads) (h t) (found_by users act ts reads h) e

hit_at : (users : Users) (changed : List Touched) (act : ℕ) (over : Option (List CondTree)) → ((t : Touched) → is_read t over ≡ true → uses users t act ≡ true)
    → is_hit changed over ≡ true → list_any (λ t. uses users t act) changed ≡ true
hit_at users changed act None h e = absurd (cc)
hit_at users changed act (Some cs) h e = found_by users act changed (read_by_list cs) h e

-- each act that is hit is found, but perhaps the first
pub hit_found : (watches : List (Option (List CondTree))) (users : Users) (changed : List Touched) (act : ℕ) → IsIndexed watches users → act ≢ 0
    → is_hit changed (watch_at watches act) ≡ true → list_any (λ t. uses users t act) changed ≡ true
hit_found watches users changed act indexed n e = hit_at users changed act (watch_at watches act) (λ t. indexed.whole act t n) e

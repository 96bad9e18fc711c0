-- Which acts a block cancels.
use Rattle.std.proofs.Common.{◌≡◌, ℕ, ◌+◌, ◌<◌, ◌≤◌, ◌||◌, ◌&&◌, not, Bool, true, false, Some, None, is_some, if◌then◌else◌, List, [], ◌∷◌, ◌++◌, length, map, slice_index_or, refl, arith, ap, sym, append_assoc, length-append, ◌∙◌}
use Rattle.std.proofs.lemmas.List.{length-map}
use Rattle.ps_world.specs.Trees.{CondTree}
use Rattle.ps_world.specs.declared.domains.Domain.{Domain}
use Rattle.ps_world.specs.declared.known.Knowledge.{Knowledge}
use Rattle.ps_action.specs.Truth.{all_true}
use Rattle.ps_action.specs.declared.acts.GroundAction.{GroundAction}
use Rattle.ps_machine.specs.declared.inputs.Input.{Input}
use Rattle.ps_machine.specs.declared.journal.Event.{Event}
use Rattle.ps_machine.specs.declared.journal.Entry.{Entry}
use Rattle.ps_machine.specs.declared.journal.CancelWhy.TheVariants as cancel
use Rattle.ps_rules.specs.Runs.{is_active, plan, state}
use Rattle.ps_rules.specs.Known.{grounds, know}
use Rattle.ps_rules.specs.Settled.{may_go_on}
use Rattle.ps_rules.specs.History.{any_of, broken as broken_after, cancels, forced, is_fail, unbroken}
use Rattle.ps_monitor.specs.declared.acts.Acts.{Acts}
use Rattle.ps_monitor.specs.declared.monitor.Monitor.{Monitor}
use Rattle.ps_monitor.specs.Watched.{broken, is_false, others, watched}
use Rattle.ps_monitor.proofs.Lists.{filter-same}
use Rattle.ps_rules.specs.Choices.{with_block}
use Rattle.ps_board.specs.Parts.{over_in, watch_for}

-- a monitor watches exactly the active acts after these entries
abbrev pub Watches : Monitor → List GroundAction → List Entry → Type 0
Watches m gs es = (act : ℕ) → watched m act ≡ watch_for gs act (state act es)

pub false-for : (b : Bool) (d : Domain) (k : Knowledge) (cs : List CondTree) → is_false d k (if b then Some cs else None) ≡ (b && not (all_true d k cs))
false-for true d k cs = refl
false-for false d k cs = refl

-- what is known and the ground actions are those after these entries
pub record IsAt (i : Input) (es : List Entry) (d : Domain) (k : Knowledge) (gs : List GroundAction) : Type 0 where
  pub domain : d ≡ i.domain
  pub known : k ≡ know i es
  pub acts : gs ≡ grounds i.domain (plan es)

goes-on : (i : Input) (es : List Entry) (d : Domain) (k : Knowledge) (gs : List GroundAction) (act : ℕ) → IsAt i es d k gs → all_true d k (over_in gs act) ≡ may_go_on i es act
goes-on i es d k gs act h = ap (λ x. all_true x k (over_in gs act)) h.domain ∙ ap (λ x. all_true i.domain x (over_in gs act)) h.known ∙ ap (λ x. all_true i.domain (know i es) (over_in x act)) h.acts

-- whether an act's watched condition is false
broken-act : (i : Input) (es : List Entry) (d : Domain) (k : Knowledge) (gs : List GroundAction) (m : Monitor) (act : ℕ) → IsAt i es d k gs → Watches m gs es
    → is_false d k (watched m act) ≡ (is_active (state act es) && not (may_go_on i es act))
broken-act i es d k gs m act h w =
    ap (is_false d k) (w act) ∙ false-for (is_active (state act es)) d k (over_in gs act)
    ∙ ap (λ b. is_active (state act es) && not b) (goes-on i es d k gs act h)

pub broken-told : (i : Input) (es : List Entry) (d : Domain) (k : Knowledge) (gs : List GroundAction) (m : Monitor) → IsAt i es d k gs → Watches m gs es
    → broken d k m (length (plan es)) ≡ broken_after i es
broken-told i es d k gs m h w =
    filter-same (λ act. is_false d k (watched m act)) (λ act. is_active (state act es) && not (may_go_on i es act)) 0 (length (plan es))
    (λ act low high. broken-act i es d k gs m act h w)

sound-for : (b c : Bool) (gs : List CondTree) → (is_some (if b then Some gs else None) && not (b && not c)) ≡ (b && c)
sound-for true true gs = refl
sound-for true false gs = refl
sound-for false true gs = refl
sound-for false false gs = refl

-- the others are those that may go on
pub others-told : (i : Input) (es : List Entry) (d : Domain) (k : Knowledge) (gs : List GroundAction) (m : Monitor) (these : Acts) → IsAt i es d k gs → Watches m gs es
    → length (plan es) ≤ 256
    → ((act : ℕ) → act < 256 → slice_index_or these.marks act false ≡ is_false d k (watched m act))
    → others m these (length (plan es)) ≡ unbroken i es
others-told i es d k gs m these h w few each =
    filter-same (λ act. is_some (watched m act) && not (slice_index_or these.marks act false)) (λ act. is_active (state act es) && may_go_on i es act) 0 (length (plan es))
    (λ act low high.
    ap (λ b. is_some (watched m act) && not b) (each act (omega (arith, high, few)) ∙ broken-act i es d k gs m act h w)
    ∙ ap (λ o. is_some o && not (is_active (state act es) && not (may_go_on i es act))) (w act)
    ∙ sound-for (is_active (state act es)) (may_go_on i es act) (over_in gs act))

map-if : (b : Bool) (hand : ℕ) (xs : List ℕ) → map (cancels hand cancel.Stop) (if b then xs else []) ≡ (if b then map (cancels hand cancel.Stop) xs else [])
map-if true hand xs = refl
map-if false hand xs = refl

-- the entries of a block
pub block-told : (i : Input) (es : List Entry) (hand : ℕ) (what : Event) (broke stopped : List ℕ)
    → broke ≡ broken_after i (es ++ record { hand = hand; what = what } ∷ [])
    → stopped ≡ (if is_fail what || any_of broke then unbroken i (es ++ record { hand = hand; what = what } ∷ []) else [])
    → ((es ++ record { hand = hand; what = what } ∷ []) ++ map (cancels hand cancel.OverAll) broke) ++ map (cancels hand cancel.Stop) stopped
    ≡ es ++ record { hand = hand; what = what } ∷ forced i es (record { hand = hand; what = what })
block-told i es hand what broke stopped one two =
    let e : Entry = record { hand = hand; what = what } in
    let after : List Entry = es ++ e ∷ [] in
    let stops : map (cancels hand cancel.Stop) stopped ≡ (if is_fail what || any_of (broken_after i after) then map (cancels hand cancel.Stop) (unbroken i after) else []) =
    ap (map (cancels hand cancel.Stop)) two ∙ map-if (is_fail what || any_of broke) hand (unbroken i after)
    ∙ ap (λ b. if is_fail what || any_of b then map (cancels hand cancel.Stop) (unbroken i after) else []) one in
    append_assoc after (map (cancels hand cancel.OverAll) broke) (map (cancels hand cancel.Stop) stopped)
    ∙ ap (λ xs. after ++ (map (cancels hand cancel.OverAll) xs ++ map (cancels hand cancel.Stop) stopped)) one
    ∙ ap (λ xs. after ++ (map (cancels hand cancel.OverAll) (broken_after i after) ++ xs)) stops
    ∙ append_assoc es (e ∷ []) _

-- how many they are
pub block-long : (i : Input) (es : List Entry) (hand : ℕ) (what : Event) (broke stopped : List ℕ)
    → broke ≡ broken_after i (es ++ record { hand = hand; what = what } ∷ [])
    → stopped ≡ (if is_fail what || any_of broke then unbroken i (es ++ record { hand = hand; what = what } ∷ []) else [])
    → length (with_block i hand es what) ≡ length es + 1 + length broke + length stopped
block-long i es hand what broke stopped one two =
    let e : Entry = record { hand = hand; what = what } in
    ap length (sym (block-told i es hand what broke stopped one two))
    ∙ length-append ((es ++ e ∷ []) ++ map (cancels hand cancel.OverAll) broke) (map (cancels hand cancel.Stop) stopped)
    ∙ ap (λ n. n + length (map (cancels hand cancel.Stop) stopped)) (length-append (es ++ e ∷ []) (map (cancels hand cancel.OverAll) broke))
    ∙ ap (λ n. n + length (map (cancels hand cancel.OverAll) broke) + length (map (cancels hand cancel.Stop) stopped)) (length-append es (e ∷ []))
    ∙ ap (λ n. length es + 1 + n + length (map (cancels hand cancel.Stop) stopped)) (length-map broke (cancels hand cancel.OverAll))
    ∙ ap (λ n. length es + 1 + length broke + n) (length-map stopped (cancels hand cancel.Stop))

-- those that are broken have place in it
pub broken-fit : (i : Input) (es : List Entry) (hand : ℕ) (what : Event) (broke : List ℕ)
    → broke ≡ broken_after i (es ++ record { hand = hand; what = what } ∷ [])
    → length es + 1 + length broke ≤ length (with_block i hand es what)
broken-fit i es hand what broke one =
    let stopped : List ℕ = if is_fail what || any_of broke then unbroken i (es ++ record { hand = hand; what = what } ∷ []) else [] in
    let long = block-long i es hand what broke stopped one refl in
    omega (arith, long)

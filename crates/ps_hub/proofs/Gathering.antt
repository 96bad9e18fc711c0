-- What the tray knows once all desks are taken in and the belt is empty.
use Rattle.std.proofs.Common.{◌≡◌, ◌≢◌, ◌⊎◌, ℕ, suc, ◌<◌, ◌≤◌, true, false, List, [], ◌∷◌, ◌++◌, map, length, refl, sym, ap, ◌∙◌, subst, inl, inr, ⊎_elim, arith}
use Rattle.std.specs.List.{All, Any, AllByRecursion, IsDistinct, list_any}
use Rattle.std.proofs.lemmas.List.{append-nil, length-map}
use Rattle.std.proofs.lemmas.List.Elements.{All-nil, All-cons}
use Rattle.std.proofs.lemmas.Bool.{ne_eqb}
use Rattle.std.proofs.lemmas.Bool.Decides.{eqb_tells}
use Rattle.std.proofs.lemmas.Map.Steps.{length-le_from_distinct_below}
use lib.Dec.{eqb}
use mathlib.Core.Logic.{dite}
use native.Mathlib.Decide.{ℕ_discrete}
use Rattle.ps_hub.specs.declared.report.Report.{Report}
use Rattle.ps_hub.specs.declared.view.Note.{Note}
use Rattle.ps_hub.specs.declared.view.View.{View}
use Rattle.ps_hub.specs.Belts.{BeltView, DeskView, TrayView}
use Rattle.ps_hub.specs.Closing.{desk_note, Gathers}
use Rattle.ps_hub.specs.Reports.{of, IsNumbered}
use Rattle.ps_hub.specs.Rule.{HasNote, AreNoted}
use Rattle.ps_hub.specs.Steps.{tray, ToldTray}

-- ---- no more notes than desks were dealt

abbrev performers_of : List Note → List ℕ
performers_of notes = map (λ note. note.by) notes

others : (by : ℕ) (notes : List Note) → (HasNote by notes → ⊥) → AllByRecursion (λ y. eqb by y ≡ false) (performers_of notes)
others by [] unnoted = tt
others by (note ∷ notes) unnoted = (ne_eqb by note.by (λ same. unnoted (inl (sym same))), others by notes (λ has. unnoted (inr has)))

distinct : (made : ℕ) (all : List Report) (notes : List Note) → AreNoted made all notes → IsDistinct eqb (performers_of notes)
unfolding IsDistinct
distinct made all [] are = tt
distinct made all (note ∷ notes) are = (others note.by notes are.2, distinct made all notes are.3)

below : (made q : ℕ) (all : List Report) (notes : List Note) → AreNoted made all notes → list_any (eqb q) (performers_of notes) ≡ true → q < made
below made q all [] are found = absurd cc
below made q all (note ∷ notes) are found =
    ⊎_elim
    (λ (t : (eqb q note.by ≡ true) × (q ≡ note.by)). let d = are.0 in let e = t.1 in omega arith)
    (λ (t : (eqb q note.by ≡ false) × (q ≢ note.by)). below made q all notes are.3 (grind (arith, found, t.0)))
    (eqb_tells q note.by)

few : (made : ℕ) (all : List Report) (notes : List Note) → AreNoted made all notes → length notes ≤ made
few made all notes are =
    subst (λ n. n ≤ made) (length-map notes (λ (note : Note). note.by))
    (length-le_from_distinct_below (performers_of notes) made (distinct made all notes are) (λ q found. below made q all notes are found))

-- ---- each performer whose desk was dealt has one

is_noted : (by : ℕ) (notes : List Note) → (HasNote by notes) ⊎ (HasNote by notes → ⊥)
is_noted by [] = inr (λ has. has)
is_noted by (note ∷ notes) =
    dite (ℕ_discrete note.by by)
    (λ same. inl (inl same))
    (λ other. ⊎_elim (λ (t : HasNote by notes). inl (inr t)) (λ (t : HasNote by notes → ⊥). inr (λ has. ⊎_elim (λ (same : note.by ≡ by). other same) (λ (u : HasNote by notes). t u) has)) (is_noted by notes))

every_noted : (made by : ℕ) (all : List Report) (notes : List Note) → AreNoted made all notes → length notes ≡ made → by < made → HasNote by notes
every_noted made by all notes are many less =
    ⊎_elim
    (λ (t : HasNote by notes). t)
    (λ (t : HasNote by notes → ⊥).
    let more : AreNoted made all (record { by = by; sent = of by all } ∷ notes) = (less, refl, t, are) in
    let w = few made all (record { by = by; sent = of by all } ∷ notes) more in
    absurd (omega arith))
    (is_noted by notes)

-- ---- notes of desks

any_desk : (by : ℕ) (desks : List DeskView) → HasNote by (map desk_note desks) → Any (λ (d : DeskView). d.by ≡ by) desks
any_desk by [] has = absurd has
any_desk by (d ∷ desks) has =
    ⊎_elim
    (λ (same : d.by ≡ by). (0, d, omega arith, refl, same))
    (λ (t : HasNote by (map desk_note desks)). let a = any_desk by desks t in (suc a.0, a.1, (let l = a.2 in omega arith), a.3, a.4))
    has

all_desks : (made : ℕ) (all : List Report) (desks : List DeskView) → AreNoted made all (map desk_note desks) → All (λ (d : DeskView). of d.by all ≡ d.sent) desks
all_desks made all [] are = All-nil (λ (d : DeskView). of d.by all ≡ d.sent)
all_desks made all (d ∷ desks) are = All-cons (λ (d : DeskView). of d.by all ≡ d.sent) d desks (sym are.1) (all_desks made all desks are.3)

-- ---- closed

pub gathers : (belt : BeltView) (desks : List DeskView) (t : TrayView) (reports more : List Report) (v : View) → length desks ≡ belt.performers → reports ≡ t.got ++ more
    → v ≡ tray reports belt.performers (map desk_note desks ++ []) → ToldTray v [] → Gathers belt desks t reports
gathers belt desks t reports more v many after is told =
    let made : v.made ≡ belt.performers = ap (λ (x : View). x.made) is in
    let notes : v.notes ≡ map desk_note desks = ap (λ (x : View). x.notes) is ∙ append-nil (map desk_note desks) in
    let all : v.got ++ [] ≡ reports = append-nil v.got ∙ ap (λ (x : View). x.got) is in
    let are : AreNoted belt.performers reports (map desk_note desks) =
    subst (λ n. AreNoted belt.performers reports n) notes (subst (λ l. AreNoted belt.performers l v.notes) all (subst (λ m. AreNoted m (v.got ++ []) v.notes) made told.notes)) in record {
      begins = (more, after);
      whole = all_desks belt.performers reports desks are;
      every = λ by less. any_desk by desks (every_noted belt.performers by reports (map desk_note desks) are (length-map desks desk_note ∙ many) less);
      none_else = subst (λ l. All (λ (x : Report). x.by < belt.performers) l) all (subst (λ m. All (λ (x : Report). x.by < m) (v.got ++ [])) made told.dealt);
      numbered = subst IsNumbered all told.numbered;
    }

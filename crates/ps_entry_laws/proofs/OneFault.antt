-- A text is a journal or has one fault.
use Rattle.std.proofs.Common.{◌≡◌, ℕ, suc, List, ◌∷◌, ◌++◌, Some, None, refl, sym, ap, ◌∙◌, subst, inl, inr}
use Rattle.ps_world.specs.Lines.{lines_of}
use Rattle.ps_world.specs.Names.{Table}
use Rattle.ps_machine.specs.declared.journal.Entry.{Entry}
use Rattle.ps_rules.specs.Heads.{Head, IsHead, bare_title, head_lines, line_after, settings_line, title}
use Rattle.ps_text.specs.Names.{AreNames}
use Rattle.ps_entries.specs.Journals.{AreEntries, HasOther, IsFault, IsFirstOther, IsJournal, IsUnsettled, IsUntitled}
use Rattle.ps_entries.specs.Journals.AreEntries.{none_left, reply, entry}
use Rattle.ps_entries.specs.Journals.IsFirstOther.{here as other_here, reply as other_reply, entry as other_entry}
use Rattle.ps_entries.specs.declared.journals.JournalRefusal.{JournalRefusal}
use Rattle.ps_entries.specs.declared.journals.JournalRefusal.TheVariants as refusal
use Rattle.ps_entries.proofs.HeadLines.{heads_one, titles-apart}
use Rattle.ps_entries.proofs.OneEntry.{line-once}
use Rattle.ps_entry_laws.specs.Laws.{FaultsAreOne, JournalsHaveNoFault}
use Rattle.ps_entry_laws.proofs.OneJournal.{apart, names_line}
use Rattle.ps_entry_laws.proofs.ReadJournals.{one_list}

no_other : (n : ℕ) (table : Table) (lines : List (List ℕ)) (es : List (ℕ × Entry)) (after : Table) (at : ℕ) → AreNames table → AreEntries n table lines es after → IsFirstOther n table lines at → ⊥
no_other _ _ _ _ _ at known (none_left n names) x = elim x [ ]
no_other _ _ _ _ _ _ known (reply n table after line lines es r x) (other_here _ _ _ _ s none) = apart line r s
no_other _ _ _ _ _ _ known (reply n table after line lines es r x) (other_reply _ _ _ _ at s y) = no_other (suc n) table lines es after at known x y
no_other _ _ _ _ _ _ known (reply n table after line lines es r x) (other_entry _ _ middle _ _ f at s z y) = apart line r s
no_other _ _ _ _ _ _ known (entry n table middle after line lines e es r z x) (other_here _ _ _ _ s none) = none e middle z
no_other _ _ _ _ _ _ known (entry n table middle after line lines e es r z x) (other_reply _ _ _ _ at s y) = apart line s r
no_other _ _ _ _ _ _ known (entry n table middle after line lines e es r z x) (other_entry _ _ between _ _ f at s w y) =
    let one = line-once table line known e f middle between z w in
    let there : IsFirstOther (suc n) middle lines at = subst (λ (t : Table). IsFirstOther (suc n) t lines at) (sym one.1) y in
    no_other (suc n) middle lines es after at (names_line table line e middle known z) x there

others_one : (n : ℕ) (table : Table) (lines : List (List ℕ)) (a b : ℕ) → AreNames table → IsFirstOther n table lines a → IsFirstOther n table lines b → a ≡ b
others_one _ _ _ _ _ known (other_here n table line lines r none) (other_here _ _ _ _ _ _) = refl
others_one _ _ _ _ _ known (other_here n table line lines r none) (other_reply _ _ _ _ b s y) = apart line s r
others_one _ _ _ _ _ known (other_here n table line lines r none) (other_entry _ _ middle _ _ f b s w y) = absurd (none f middle w)
others_one _ _ _ _ _ known (other_reply n table line lines a r x) (other_here _ _ _ _ s none) = apart line r s
others_one _ _ _ _ _ known (other_reply n table line lines a r x) (other_reply _ _ _ _ b s y) = others_one (suc n) table lines a b known x y
others_one _ _ _ _ _ known (other_reply n table line lines a r x) (other_entry _ _ middle _ _ f b s w y) = apart line r s
others_one _ _ _ _ _ known (other_entry n table middle line lines e a r z x) (other_here _ _ _ _ s none) = absurd (none e middle z)
others_one _ _ _ _ _ known (other_entry n table middle line lines e a r z x) (other_reply _ _ _ _ b s y) = apart line s r
others_one _ _ _ _ _ known (other_entry n table middle line lines e a r z x) (other_entry _ _ between _ _ f b s w y) =
    let one = line-once table line known e f middle between z w in
    let there : IsFirstOther (suc n) middle lines b = subst (λ (t : Table). IsFirstOther (suc n) t lines b) (sym one.1) y in
    others_one (suc n) middle lines a b (names_line table line e middle known z) x there

-- a journal has no first line that is none
no_more : (table after : Table) (text : List ℕ) (head : Head) (es : List (ℕ × Entry)) (at : ℕ) → AreNames table → IsJournal table text head es after → HasOther table text at → ⊥
no_more table after text head es at known x f =
    let heads = heads_one f.head head f.lines x.lines f.good x.good (sym f.headed ∙ x.headed) in
    let lines : IsFirstOther (line_after f.head) table x.lines at = subst (λ (ls : List (List ℕ)). IsFirstOther (line_after f.head) table ls at) heads.1 f.first in
    no_other (line_after head) table x.lines es after at known x.entries (subst (λ h. IsFirstOther (line_after h) table x.lines at) heads.0 lines)

-- lines that begin with a head don't begin with no title, nor with a title without settings
titled : (head : Head) (all lines : List (List ℕ)) → IsHead head → all ≡ head_lines head ++ lines → IsUntitled all → ⊥
titled None all lines good e none = (none lines).0 e
titled (Some s) all lines good e none = (none (settings_line s ∷ lines)).1 e

settled : (head : Head) (all lines : List (List ℕ)) → IsHead head → all ≡ head_lines head ++ lines → IsUnsettled all → ⊥
settled None all lines good e none = titles-apart (one_list bare_title title lines none.0.0 (sym e ∙ none.0.1)).0
settled (Some s) all lines good e none = none.1 s lines good e

fault_apart : (table after : Table) (text : List ℕ) (head : Head) (es : List (ℕ × Entry)) (r : JournalRefusal) → AreNames table → IsJournal table text head es after → IsFault table text r → ⊥
fault_apart table after text head es refusal.Header known x f = titled head (lines_of text) x.lines x.good x.headed f
fault_apart table after text head es (refusal.Line n) known x (inl f) = settled head (lines_of text) x.lines x.good x.headed f.0
fault_apart table after text head es (refusal.Line n) known x (inr f) = no_more table after text head es n known x f

pub journals_have_no_fault : JournalsHaveNoFault
journals_have_no_fault table after text head es r known x = λ f. fault_apart table after text head es r known x f

-- two first lines that are none are one
others_same : (table : Table) (text : List ℕ) (a b : ℕ) → AreNames table → HasOther table text a → HasOther table text b → a ≡ b
others_same table text a b known f g =
    let heads = heads_one g.head f.head g.lines f.lines g.good f.good (sym g.headed ∙ f.headed) in
    let lines : IsFirstOther (line_after g.head) table f.lines b = subst (λ (ls : List (List ℕ)). IsFirstOther (line_after g.head) table ls b) heads.1 g.first in
    others_one (line_after f.head) table f.lines a b known f.first (subst (λ h. IsFirstOther (line_after h) table f.lines b) heads.0 lines)

-- the lines of one fault
lines_same : (table : Table) (text : List ℕ) (a b : ℕ) → AreNames table → IsFault table text (refusal.Line a) → IsFault table text (refusal.Line b) → a ≡ b
lines_same table text a b known (inl f) (inl g) = f.1 ∙ sym g.1
lines_same table text a b known (inl f) (inr g) = absurd (settled g.head (lines_of text) g.lines g.good g.headed f.0)
lines_same table text a b known (inr f) (inl g) = absurd (settled f.head (lines_of text) f.lines f.good f.headed g.0)
lines_same table text a b known (inr f) (inr g) = others_same table text a b known f g

-- a text without a title has no faulty line
untitled_line : (table : Table) (text : List ℕ) (a : ℕ) → IsUntitled (lines_of text) → IsFault table text (refusal.Line a) → ⊥
untitled_line table text a none (inl f) = (none f.0.0.0).1 f.0.0.1
untitled_line table text a none (inr f) = titled f.head (lines_of text) f.lines f.good f.headed none

pub faults_are_one : FaultsAreOne
faults_are_one table text refusal.Header refusal.Header known f g = refl
faults_are_one table text refusal.Header (refusal.Line b) known f g = absurd (untitled_line table text b f g)
faults_are_one table text (refusal.Line a) refusal.Header known f g = absurd (untitled_line table text a g f)
faults_are_one table text (refusal.Line a) (refusal.Line b) known f g = ap (λ (n : ℕ). refusal.Line n) (lines_same table text a b known f g)

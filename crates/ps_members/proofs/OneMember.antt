-- A text is one member at most, or has one first fault.
use Rattle.std.proofs.Common.{◌≡◌, ℕ, suc, List, Option, Some, Result, Ok, Err, refl, sym, ◌∙◌, ap, subst}
use Rattle.ps_world.specs.Names.{Table}
use Rattle.ps_world.specs.declared.domains.Domain.{Domain}
use Rattle.ps_world.specs.declared.edits.Edit.{Edit as Change}
use Rattle.ps_machine.specs.declared.inputs.Command.{Command}
use Rattle.ps_machine.specs.declared.inputs.Command.TheVariants as command
use Rattle.ps_machine.specs.declared.inputs.LineCause.{LineCause}
use Rattle.ps_machine.specs.declared.inputs.LineCause.TheVariants as cause
use Rattle.ps_machine.specs.declared.members.Member.{Member}
use Rattle.ps_machine.specs.declared.members.Unit.{Unit as Task}
use Rattle.ps_machine.specs.declared.members.Unit.TheVariants as unit
use Rattle.ps_text.specs.ScriptLines.{script_lines}
use Rattle.ps_text.specs.Tokens.{IsFirstFault, RefusesText}
use Rattle.ps_text.specs.declared.lexing.LexRefusal.{LexRefusal}
use Rattle.ps_text.specs.declared.lexing.LexRefusal.TheVariants as lexing
use Rattle.ps_text.specs.declared.lexing.Token.{Token}
use Rattle.ps_text.proofs.OneLexing.{tokens_are_one, faults_are_one, tokens_are_faultless}
use Rattle.ps_lists.specs.Nested.{Nesteds}
use Rattle.ps_script.specs.Judged.{place}
use Rattle.ps_script.specs.Lines.{cause_of}
use Rattle.ps_script.proofs.OneAnswer.{same_fault, same_lists, words_one}
use Rattle.ps_members.specs.Forms.{start_of}
use Rattle.ps_members.specs.Laws.{TextsAreOneMember}
use Rattle.ps_members.specs.Lines.{IsFormed, IsSaid, Says}
use Rattle.ps_members.specs.Lines.IsFormed.{misfit, meant, no_place, places, no_note, note}
use Rattle.ps_members.specs.Lines.IsSaid.{without_class, without_form, with_form}
use Rattle.ps_members.specs.Members.{AreLines, Leads}
use Rattle.ps_members.specs.Members.AreLines.{none_left, fault, good}
use Rattle.ps_members.specs.Members.Leads.{nothing, bad, said}
use Rattle.ps_members.specs.Moves.{moved}
use Rattle.ps_members.specs.Parts.{worded}
use Rattle.ps_members.specs.declared.forms.Form.{Form}
use Rattle.ps_members.specs.declared.forms.Form.TheVariants as form
use Rattle.ps_members.specs.declared.places.Place.{Place}
use Rattle.ps_members.specs.declared.places.Place.TheVariants.{Beginning}
use Rattle.ps_members.specs.declared.places.Said.{Said}
use Rattle.ps_members.specs.declared.places.Said.TheVariants.{Unit as Does}
use Rattle.ps_members.specs.declared.refusals.ScriptRefusal.{ScriptRefusal}
use Rattle.ps_members.specs.declared.refusals.ScriptRefusal.TheVariants.{Line}

-- ---- a line of a form

same_edit : (a b : Change) (c : Command) → c ≡ command.Edit a → c ≡ command.Edit b → a ≡ b
same_edit a b c x y = cc

says_one : (f : Form) (ts : Nesteds) (s t : Said) → Says f ts s → Says f ts t → s ≡ t
says_one (form.Edit f) ts s t x y =
    x.2 ∙ ap (λ e. Does (unit.Edit e)) (same_edit x.0 y.0 _ x.1 y.1) ∙ sym y.2
says_one form.Args ts s t x y = absurd x
says_one form.Feedback ts s t x y = absurd x
says_one _ ts s t x y = x ∙ sym y

abbrev shape_at : ℕ → Result Said LineCause
shape_at k = Err (cause.Shape k)

abbrev ok : Said → Result Said LineCause
ok = Ok

abbrev bad_line : LineCause → Result Said LineCause
bad_line = Err

abbrev stopped : ScriptRefusal → Result Place ScriptRefusal
stopped = Err

abbrev faulty : ScriptRefusal → Result Member ScriptRefusal
faulty = Err

same_number : (a b : ℕ) → ◌≡◌ {A = Option ℕ} (Some a) (Some b) → a ≡ b
same_number a b e = cc

same_bad : (a b : LineCause) → ◌≡◌ {A = Result Task LineCause} (Err a) (Err b) → a ≡ b
same_bad a b e = cc

same_task : (a b : Task) → ◌≡◌ {A = Result Task LineCause} (Ok a) (Ok b) → a ≡ b
same_task a b e = cc

formed_one : (table : Table) (bytes : List ℕ) (tokens : List Token) (f : Form) (r s : Result Said LineCause) (after other : Table) → IsFormed table bytes tokens f r after → IsFormed table bytes tokens f s other → (r ≡ s) × (after ≡ other)
formed_one table bytes tokens _ _ _ _ _ (misfit f ls a i p w x) (misfit _ ms o k q v y) =
    (ap shape_at (same_fault i k (words_one (start_of f) table (worded bytes) tokens ls ms a o (Err i) (Err k) w v x y).0), refl)
formed_one table bytes tokens _ _ _ _ _ (misfit f ls a i p w x) (meant _ ms o us g q v y n) =
    let none = (words_one (start_of f) table (worded bytes) tokens ls ms a o (Err i) (Ok us) w v x y).0 in
    absurd (cc)
formed_one table bytes tokens _ _ _ _ _ (misfit f ls a i p w x) (no_place k y) = absurd (cc)
formed_one table bytes tokens _ _ _ _ _ (misfit f ls a i p w x) (places y) = absurd (cc)
formed_one table bytes tokens _ _ _ _ _ (misfit f ls a i p w x) (no_note c y) = absurd (cc)
formed_one table bytes tokens _ _ _ _ _ (misfit f ls a i p w x) (note u y) = absurd (cc)
formed_one table bytes tokens _ _ _ _ _ (meant f ls a ts c q w x m) (misfit _ ms o k p v y) =
    let none = (words_one (start_of f) table (worded bytes) tokens ls ms a o (Ok ts) (Err k) w v x y).0 in
    absurd (cc)
formed_one table bytes tokens _ _ _ _ _ (meant f ls a ts c q w x m) (meant _ ms o us g k v y n) =
    let one = words_one (start_of f) table (worded bytes) tokens ls ms a o (Ok ts) (Ok us) w v x y in
    let same : c ≡ g = says_one f us c g (subst (λ (x : Nesteds). Says f x c) (same_lists ts us one.0) m) n in
    (ap (λ (x : Said). ok x) same, one.1)
formed_one table bytes tokens _ _ _ _ _ (meant f ls a ts c q w x m) (no_place k y) = absurd (cc)
formed_one table bytes tokens _ _ _ _ _ (meant f ls a ts c q w x m) (places y) = absurd (cc)
formed_one table bytes tokens _ _ _ _ _ (meant f ls a ts c q w x m) (no_note k y) = absurd (cc)
formed_one table bytes tokens _ _ _ _ _ (meant f ls a ts c q w x m) (note u y) = absurd (cc)
formed_one table bytes tokens _ _ _ _ _ (no_place k y) (misfit f ls a i p w x) = absurd (cc)
formed_one table bytes tokens _ _ _ _ _ (no_place k y) (meant f ls a ts c q w x m) = absurd (cc)
formed_one table bytes tokens _ _ _ _ _ (no_place k y) (no_place i x) =
    (ap (λ n. shape_at (place (worded bytes) tokens n)) (same_number k i (sym y ∙ x)), refl)
formed_one table bytes tokens _ _ _ _ _ (no_place k y) (places x) = absurd (cc)
formed_one table bytes tokens _ _ _ _ _ (places y) (misfit f ls a i p w x) = absurd (cc)
formed_one table bytes tokens _ _ _ _ _ (places y) (meant f ls a ts c q w x m) = absurd (cc)
formed_one table bytes tokens _ _ _ _ _ (places y) (no_place i x) = absurd (cc)
formed_one table bytes tokens _ _ _ _ _ (places y) (places x) = (refl, refl)
formed_one table bytes tokens _ _ _ _ _ (no_note c y) (misfit f ls a i p w x) = absurd (cc)
formed_one table bytes tokens _ _ _ _ _ (no_note c y) (meant f ls a ts k q w x m) = absurd (cc)
formed_one table bytes tokens _ _ _ _ _ (no_note c y) (no_note k x) = (ap bad_line (same_bad c k (sym y ∙ x)), refl)
formed_one table bytes tokens _ _ _ _ _ (no_note c y) (note u x) = absurd (cc)
formed_one table bytes tokens _ _ _ _ _ (note u y) (misfit f ls a i p w x) = absurd (cc)
formed_one table bytes tokens _ _ _ _ _ (note u y) (meant f ls a ts k q w x m) = absurd (cc)
formed_one table bytes tokens _ _ _ _ _ (note u y) (no_note c x) = absurd (cc)
formed_one table bytes tokens _ _ _ _ _ (note u y) (note v x) = (ap (λ t. ok (Does t)) (same_task u v (sym y ∙ x)), refl)

-- ---- a line

one_form : (a b : Form) → ◌≡◌ {A = Option Form} (Some a) (Some b) → a ≡ b
one_form a b e = cc

as_first : (bytes : List ℕ) (fault : LexRefusal) → RefusesText fault bytes → (at : ℕ) × IsFirstFault bytes at fault
as_first bytes (lexing.Bad at) x = (at, x)
as_first bytes (lexing.Number at) x = (at, x)

said_one : (at : Place) (table : Table) (bytes : List ℕ) (r s : Result Said LineCause) (after other : Table) → IsSaid at table bytes r after → IsSaid at table bytes s other → (r ≡ s) × (after ≡ other)
said_one at table bytes _ _ _ _ (without_class f x) (without_class g y) =
    let a = as_first (worded bytes) f x in
    let b = as_first (worded bytes) g y in
    (ap (λ c. bad_line (cause_of c)) (faults_are_one (worded bytes) a.0 b.0 f g a.1 b.1).1, refl)
said_one at table bytes _ _ _ _ (without_class f x) (without_form ts y e) =
    let a = as_first (worded bytes) f x in
    absurd (tokens_are_faultless (worded bytes) a.0 f ts a.1 y)
said_one at table bytes _ _ _ _ (without_class f x) (with_form ts g s o y e z) =
    let a = as_first (worded bytes) f x in
    absurd (tokens_are_faultless (worded bytes) a.0 f ts a.1 y)
said_one at table bytes _ _ _ _ (without_form ts y e) (without_class f x) =
    let a = as_first (worded bytes) f x in
    absurd (tokens_are_faultless (worded bytes) a.0 f ts a.1 y)
said_one at table bytes _ _ _ _ (without_form ts y e) (without_form us z h) = (refl, refl)
said_one at table bytes _ _ _ _ (without_form ts y e) (with_form us g s o z h w) = absurd (cc)
said_one at table bytes _ _ _ _ (with_form ts g s o y e z) (without_class f x) =
    let a = as_first (worded bytes) f x in
    absurd (tokens_are_faultless (worded bytes) a.0 f ts a.1 y)
said_one at table bytes _ _ _ _ (with_form ts g s o y e z) (without_form us w h) = absurd (cc)
said_one at table bytes _ _ _ _ (with_form ts f r a y e z) (with_form us g s o w h v) =
    let tokens : ts ≡ us = tokens_are_one (worded bytes) ts us y w in
    let same : f ≡ g = one_form f g (sym e ∙ h) in
    let here : IsFormed table bytes us g r a = subst (λ (x : Form). IsFormed table bytes us x r a) same (subst (λ (x : List Token). IsFormed table bytes x f r a) tokens z) in
    formed_one table bytes us g r s a o here v

-- ---- where a line leads

same_cause : (a b : LineCause) → ◌≡◌ {A = Result Said LineCause} (Err a) (Err b) → a ≡ b
same_cause a b e = cc

same_said : (a b : Said) → ◌≡◌ {A = Result Said LineCause} (Ok a) (Ok b) → a ≡ b
same_said a b e = cc

leads_one : (d : Domain) (n : ℕ) (at : Place) (table : Table) (line : List ℕ) (r s : Result Place ScriptRefusal) (after other : Table) → Leads d n at table line r after → Leads d n at table line s other → (r ≡ s) × (after ≡ other)
leads_one d n at table line _ _ _ _ (nothing e) (nothing f) = (refl, refl)
leads_one d n at table line _ _ _ _ (nothing e) (bad c o f y) = absurd (cc)
leads_one d n at table line _ _ _ _ (nothing e) (said t o f y) = absurd (cc)
leads_one d n at table line _ _ _ _ (bad c a e x) (nothing f) = absurd (cc)
leads_one d n at table line _ _ _ _ (bad c a e x) (bad k o f y) =
    let one = said_one at table line (Err c) (Err k) a o x y in
    (ap (λ k. stopped (Line n k)) (same_cause c k one.0), one.1)
leads_one d n at table line _ _ _ _ (bad c a e x) (said t o f y) =
    let one = said_one at table line (Err c) (Ok t) a o x y in
    absurd (let none = one.0 in cc)
leads_one d n at table line _ _ _ _ (said t o f y) (nothing e) = absurd (cc)
leads_one d n at table line _ _ _ _ (said t o f y) (bad c a e x) =
    let one = said_one at table line (Ok t) (Err c) o a y x in
    absurd (let none = one.0 in cc)
leads_one d n at table line _ _ _ _ (said t o f y) (said u a e x) =
    let one = said_one at table line (Ok t) (Ok u) o a y x in
    (ap (λ k. moved d n at k) (same_said t u one.0), one.1)

-- ---- all lines

same_why : (a b : ScriptRefusal) → ◌≡◌ {A = Result Place ScriptRefusal} (Err a) (Err b) → a ≡ b
same_why a b e = cc

same_place : (a b : Place) → ◌≡◌ {A = Result Place ScriptRefusal} (Ok a) (Ok b) → a ≡ b
same_place a b e = cc

lines_one : (d : Domain) (n : ℕ) (at : Place) (table : Table) (lines : List (List ℕ)) (r s : Result Member ScriptRefusal) (after other : Table) → AreLines d n at table lines r after → AreLines d n at table lines s other → (r ≡ s) × (after ≡ other)
lines_one d _ _ _ _ _ _ _ _ (none_left n at table) (none_left _ _ _) = (refl, refl)
lines_one d _ _ _ _ _ _ _ _ (fault n at table line lines w a x) (fault _ _ _ _ _ v o y) =
    let one = leads_one d n at table line (Err w) (Err v) a o x y in
    (ap faulty (same_why w v one.0), one.1)
lines_one d _ _ _ _ _ _ _ _ (fault n at table line lines w a x) (good _ _ next _ m o _ _ s y z) =
    let one = leads_one d n at table line (Err w) (Ok next) a m x y in
    absurd (let none = one.0 in cc)
lines_one d _ _ _ _ _ _ _ _ (good n at next table m a line lines r x z) (fault _ _ _ _ _ w o y) =
    let one = leads_one d n at table line (Ok next) (Err w) m o x y in
    absurd (let none = one.0 in cc)
lines_one d _ _ _ _ _ _ _ _ (good n at next table m a line lines r x z) (good _ _ other _ k o _ _ s y w) =
    let one = leads_one d n at table line (Ok next) (Ok other) m k x y in
    let place : next ≡ other = same_place next other one.0 in
    let here : AreLines d (suc n) other k lines r a = subst (λ (t : Table). AreLines d (suc n) other t lines r a) one.1 (subst (λ (p : Place). AreLines d (suc n) p m lines r a) place z) in
    lines_one d (suc n) other k lines r s a o here w

pub texts_are_one_member : TextsAreOneMember
texts_are_one_member d table bytes r s after other x y = lines_one d 1 Beginning table (script_lines bytes) r s after other x y

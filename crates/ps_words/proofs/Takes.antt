-- What a parse gives, by its faults.
use Rattle.std.proofs.Common.{◌≡◌, ◌⊎◌, inl, inr, List, [], ◌∷◌, codes, Some, None, refl, true, ◌≢◌}
use Rattle.clap.specs.Faults.{is_simple_and_free}
use Rattle.clap.specs.Kinds.{IsAmong, Kinds}
use Rattle.clap.specs.Walk.{Row}
use Rattle.clap.specs.declared.error.kind.ErrorKind.{ErrorKind}
use Rattle.clap.proofs.OnLiterals.{clap_on_literals}
use Rattle.ps_words.specs.Words.{check_app, edit_app, gen_app, journal_app, mode_app, plan_app, session_app, unless_faulty, validate_app}
use Rattle.ps_words.specs.declared.commands.Mode.{Mode}
use Rattle.ps_words.specs.declared.commands.Mode.TheVariants as mode

-- words with no fault give their rows
pub taken_rows : (ks : Kinds) (rows known : List Row) → ks ≡ [] → rows ≡ known → Some rows ≡ unless_faulty ks known
taken_rows ks rows known none same = rw (none, same) refl

-- words with a fault give nothing
pub no_rows : (ks : Kinds) (known : List Row) (k : ErrorKind) → IsAmong k ks → None ≡ unless_faulty ks known
no_rows [] known k h = absurd h
no_rows (x ∷ xs) known k h = refl

-- an error other than memory running out is one of the faults
pub among : (k other : ErrorKind) (ks : Kinds) → (k ≡ other) ⊎ IsAmong k ks → k ≢ other → IsAmong k ks
among k other ks (inl same) differs = absurd (differs same)
among k other ks (inr h) differs = h

-- the commands are of the kind whose parse is known
pub session_simple : is_simple_and_free session_app ≡ true
unfolding session_app clap_on_literals
session_simple = refl

pub check_simple : is_simple_and_free check_app ≡ true
unfolding check_app clap_on_literals
check_simple = refl

pub validate_simple : is_simple_and_free validate_app ≡ true
unfolding validate_app clap_on_literals
validate_simple = refl

pub plan_simple : is_simple_and_free plan_app ≡ true
unfolding plan_app clap_on_literals
plan_simple = refl

pub replay_simple : is_simple_and_free (journal_app (codes "replay")) ≡ true
unfolding journal_app clap_on_literals
replay_simple = refl

pub migrate_simple : is_simple_and_free (journal_app (codes "migrate")) ≡ true
unfolding journal_app clap_on_literals
migrate_simple = refl

pub edit_simple : is_simple_and_free edit_app ≡ true
unfolding edit_app clap_on_literals
edit_simple = refl

pub gen_simple : is_simple_and_free gen_app ≡ true
unfolding gen_app clap_on_literals
gen_simple = refl

pub mode_simple : (m : Mode) → is_simple_and_free (mode_app m) ≡ true
mode_simple mode.Session = session_simple
mode_simple mode.Check = check_simple
mode_simple mode.Validate = validate_simple
mode_simple mode.Plan = plan_simple
mode_simple mode.Replay = replay_simple
mode_simple mode.Migrate = migrate_simple
mode_simple mode.Edit = edit_simple
mode_simple mode.Gen = gen_simple

-- What a line is, by what it is read as.
use Rattle.std.proofs.Common.{◌≡◌, ℕ, inl, inr, List, refl}
use Rattle.ps_world.specs.Names.{Table}
use Rattle.ps_script.specs.Kinds.{IsKind}
use Rattle.ps_script.specs.Lines.{IsPlain, IsRead}
use Rattle.ps_script.specs.Lines.IsRead.{nothing, source, source_nothing, run_plan, run_nothing, without_class, without_number, without_form, without_shape, good}
use Rattle.ps_script.specs.declared.kinds.Kind.TheVariants as kind
use Rattle.ps_script.specs.declared.reading.Read.{Read}
use Rattle.ps_script.specs.declared.reading.Read.TheVariants as reads

-- what is known of a line with this answer: only a plan's line and a good line put names into the table
abbrev pub IsSaid : Table → List ℕ → Read → Table → Type 0
IsSaid table bytes reads.Nothing after = (after ≡ table) × IsKind bytes kind.Nothing
IsSaid table bytes (reads.Line line) after = IsKind bytes kind.Command
IsSaid table bytes (reads.Source file) after = (after ≡ table) × IsKind bytes (kind.Source file)
IsSaid table bytes (reads.RunPlan file) after = IsKind bytes (kind.RunPlan file)

plain_command : (bytes : List ℕ) → IsPlain bytes → IsKind bytes kind.Command
plain_command bytes plain = (plain.something, inr (plain.no_source, inl plain.no_plan))

pub said_by : (table : Table) (bytes : List ℕ) (r : Read) (after : Table) → IsRead table bytes r after → IsSaid table bytes r after
said_by table bytes r after read =
    elim read as (λ r a i. IsSaid table bytes r a) [
      | nothing e ↦ (refl, e)
      | source file some is e ↦ (refl, (some, is, e))
      | source_nothing some is e ↦ (some, inl (is, e))
      | run_plan file some other is e ↦ (some, other, is, e)
      | run_nothing some other is e ↦ (some, inr (other, inr e))
      | without_class at plain f ↦ plain_command bytes plain
      | without_number at plain f ↦ plain_command bytes plain
      | without_form tokens plain are f ↦ plain_command bytes plain
      | without_shape form tokens ls after at is words judged ↦ plain_command bytes is.plain
      | good form tokens ls after ts command is words judged means ↦ plain_command bytes is.plain
    ]

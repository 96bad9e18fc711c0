use Rattle.std.proofs.Common.{◌<◌, ◌≤◌, List, Option, false, length, ap, sym, ◌∙◌, arith}
use Rattle.std.specs.List.{list_any}
use Rattle.std.specs.Option.{option_map_or}
use Rattle.std.proofs.lemmas.Option.{slice_get_past}
use Rattle.ps_world.specs.Knowledge.{same_fact}
use Rattle.ps_world.specs.declared.facts.Fact.{Fact}
use Rattle.ps_solve.specs.Rows.{facts_of}
use Rattle.ps_solve.proofs.FlagRows.{known_flag}
use Rattle.ps_solve.proofs.rows.is_known_at.Goals as goal

pub returns-then-place-as_slice : goal.returns-then-place-as_slice
returns-then-place-as_slice c =
    let atoms = c.args.atoms.now in
    let flags = c.args.row.now.flags in
    let same = ap (λ (l : List Fact). length l) c.as_slice.ensures.facts in
    let within : c.args.place < length atoms = omega (arith, same) in
    c.get.ensures ∙ sym (known_flag atoms c.args.place flags c.as_slice.ensures.rise within)

pub returns-else-place-as_slice : goal.returns-else-place-as_slice
returns-else-place-as_slice c =
    let atoms = c.args.atoms.now in
    let facts = facts_of atoms c.args.row.now.flags in
    let same = ap (λ (l : List Fact). length l) c.as_slice.ensures.facts in
    let past : length atoms ≤ c.args.place = omega (arith, same) in
    ap (λ (o : Option Fact). option_map_or (λ f. list_any (same_fact f) facts) o false) (sym (slice_get_past atoms c.args.place past))

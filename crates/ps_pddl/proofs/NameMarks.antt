-- The marks of names.
use Rattle.std.proofs.Common.{◌≡◌, Bool, true, false, if◌then◌else◌, ℕ, List, [], ◌∷◌, refl}
use Rattle.std.specs.List.{list_all}
use Rattle.std.proofs.lemmas.Bool.{and_parts}
use Rattle.ps_world.specs.Lines.{same_text}
use Rattle.ps_world.specs.Names.{Table, name_text}
use Rattle.ps_world.specs.declared.names.Name.{Name}
use Rattle.ps_text.specs.Names.{folded}
use Rattle.ps_grammar.specs.Marks.{is_name}
use Rattle.ps_grammar.specs.declared.marks.Mark.{Mark}
use Rattle.ps_grammar.specs.declared.marks.Mark.TheVariants as mark
use Rattle.ps_lists.specs.Lexemes.{fixed_names, mark_in}
use Rattle.ps_pddl.proofs.CanonicalForms.{name_mark}

-- a mark from a table has what all marks of the table have
pub mark_in-all : (P : Mark → Bool) (table : List (List ℕ × Mark)) (other : Mark) (text : List ℕ) → P other ≡ true → list_all (λ row. P row.1) table ≡ true → P (mark_in table other text) ≡ true
mark_in-all P [] other text o h = o
mark_in-all P ((fixed, m) ∷ rows) other text o h =
    let parts = and_parts (P m) (list_all (λ row. P row.1) rows) h in
    elim (same_text text fixed) as (λ b. P (if b then m else mark_in rows other text) ≡ true) [ true ↦ parts.0 | false ↦ mark_in-all P rows other text o parts.1 ]

-- the mark of a name is one of a name
pub name_mark-is_name : (names : Table) (n : Name) → is_name (name_mark names n) ≡ true
name_mark-is_name names n = mark_in-all is_name fixed_names mark.Name (folded (name_text names n)) refl refl

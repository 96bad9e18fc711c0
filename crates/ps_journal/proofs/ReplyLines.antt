-- The lines of a text that is written line by line.
use Rattle.std.proofs.Common.{◌≡◌, ◌==◌, ℕ, true, not, List, [], ◌∷◌, ◌++◌, refl, ap, ◌∙◌}
use Rattle.std.specs.List.{flat_map}
use Rattle.std.proofs.lemmas.Bool.{and_parts, not-true}
use Rattle.ps_world.specs.Lines.{is_line, line_end, lines_of}
use Rattle.ps_world.specs.Names.{Table}
use Rattle.ps_world.specs.DomainTexts.{action_lines, domain_lines, domain_text}
use Rattle.ps_world.specs.declared.actions.ActionDef.{ActionDef}
use Rattle.ps_world.specs.declared.domains.Domain.{Domain}
use Rattle.ps_world.proofs.OneLine.{are_lines, are_lines-action, are_lines-domain}
use Rattle.ps_text.specs.Names.{AreNames}
use Rattle.ps_journal.proofs.NameLines.{AreLines-names}

-- a line with its end, before other lines
lines_of-line : (line rest : List ℕ) → is_line line ≡ true → lines_of ((line ++ line_end) ++ rest) ≡ line ∷ lines_of rest
lines_of-line [] rest h = refl
lines_of-line (b ∷ bs) rest h =
    let parts = and_parts (not (b == 10)) (is_line bs) h in
    rw (not-true (b == 10) parts.0, lines_of-line bs rest parts.1) refl

-- what is written line by line has these lines
pub lines_of-lines : (lines : List (List ℕ)) → are_lines lines ≡ true → lines_of (flat_map (λ line. line ++ line_end) lines) ≡ lines
lines_of-lines [] h = refl
lines_of-lines (line ∷ lines) h =
    let parts = and_parts (is_line line) (are_lines lines) h in
    lines_of-line line (flat_map (λ l. l ++ line_end) lines) parts.0 ∙ ap (λ more. line ∷ more) (lines_of-lines lines parts.1)

-- the lines of an action
pub lines_of-action : (names : Table) (a : ActionDef) → AreNames names → lines_of (flat_map (λ line. line ++ line_end) (action_lines names a)) ≡ action_lines names a
lines_of-action names a h = lines_of-lines (action_lines names a) (are_lines-action names a (AreLines-names names h))

-- the lines of a domain's canonical text
pub lines_of-domain : (names : Table) (d : Domain) → AreNames names → lines_of (domain_text names d) ≡ domain_lines names d
unfolding domain_text
lines_of-domain names d h = lines_of-lines (domain_lines names d) (are_lines-domain names d (AreLines-names names h))

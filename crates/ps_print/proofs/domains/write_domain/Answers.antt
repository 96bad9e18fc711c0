use Rattle.std.proofs.Common.{map, codes, ◌++◌}
use Rattle.std.specs.List.{flat_map}
use Rattle.ps_world.specs.Names.{name_text}
use Rattle.ps_world.specs.DomainTexts.{domain_text, section_lines, typed_text, decl_text, action_lines}
use Rattle.ps_print.proofs.Pieces.{all_lines}
use Rattle.ps_print.proofs.domains.write_domain.Goals as goal

pub returns : goal.returns
unfolding domain_text
returns c =
    let names = c.args.names.now in
    let d = c.args.domain.now in
    let first = codes "(define (domain " ++ (name_text names d.name ++ codes ")") in
    let types = section_lines (codes ":types") (map (typed_text names) d.types) in
    let constants = section_lines (codes ":constants") (map (typed_text names) d.constants) in
    let predicates = section_lines (codes ":predicates") (map (decl_text names) d.predicates) in
    let functions = section_lines (codes ":functions") (map (decl_text names) d.functions) in
    let actions = flat_map (action_lines names) d.actions in
    all_lines first (codes ")") types constants predicates functions actions _ _ _ _ _ _ _ _
    c.in_ok-write_first_line.ensures
    (rw c.as_slice.ensures at c.in_ok-write_typed_section.ensures)
    (rw c.as_slice-2.ensures at c.in_ok-write_typed_section-2.ensures)
    (rw c.as_slice-3.ensures at c.in_ok-write_decl_section.ensures)
    (rw c.as_slice-4.ensures at c.in_ok-write_decl_section-2.ensures)
    (rw c.as_slice-5.ensures at c.in_ok-write_actions.ensures)
    c.in_ok-extend_from_slice.ensures

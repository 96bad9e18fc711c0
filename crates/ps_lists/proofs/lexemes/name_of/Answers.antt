use Rattle.std.proofs.Common.{Some, ap, ◌∙◌}
use Rattle.ps_lists.proofs.LexemeClasses.{name_lexeme, name_table}
use Rattle.ps_lists.proofs.lexemes.name_of.Goals as goal

pub name_within-requires : goal.name_within-requires
name_within-requires c = c.requires.token.class ∙ ap Some c.requires.class

pub returns-clause-ok : goal.returns-clause-ok
returns-clause-ok c =
    name_lexeme c.args.bytes.now c.args.names.now c.args.token c.requires.token c.mark_of_name.result c.in_ok-name.name c.requires.class c.mark_of_name.ensures c.in_ok-name.ensures.ok

pub returns-clause-table : goal.returns-clause-table
returns-clause-table c = name_table c.args.bytes.now c.args.names.now c.args.token c.requires.token c.name_within.new.names c.requires.class c.in_ok-name.ensures.table

use Rattle.std.proofs.Common.{Some, ap, ◌∙◌}
use Rattle.std.proofs.lemmas.List.{take_rest}
use Rattle.ps_lists.proofs.TokenNames.{is_name-class, is_name-variable}
use Rattle.ps_lists.proofs.lexemes.name_within.Goals as goal

pub intern_name-requires : goal.intern_name-requires
intern_name-requires c = is_name-class c.args.word.now (c.requires ∙ ap Some c.in-Name.is)

pub intern_name-requires-in-Variable : goal.intern_name-requires-in-Variable
intern_name-requires-in-Variable c =
    rw (take_rest c.args.word.now 1) (is_name-variable c.args.word.now (c.requires ∙ ap Some c.in-Variable.is))

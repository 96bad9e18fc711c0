use Rattle.ps_script.proofs.TokenWords.{word_there}
use Rattle.ps_script.proofs.reading.word_of.Goals as goal

pub returns-in-Some : goal.returns-in-Some
returns-in-Some c =
    word_there c.args.bytes.now c.args.tokens.now c.args.i c.in-Some.token.now c.requires c.in-Some.ensures.lookup.3.0 c.in-Some.ensures.lookup.1

use Rattle.std.proofs.Common.{fold, ap, sym, ◌∙◌}
use Rattle.std.specs.Hash as fed
use Rattle.ps_solve.specs.Flags.{flags_key, with_word}
use Rattle.ps_solve.proofs.Packing.{words_back}
use Rattle.ps_solve.proofs.flags.FlagsHash.hash.Goals as goal

pub returns : goal.returns
returns g c =
    let words = c.as_slice.ensures ∙ sym (words_back c.self.inside.words.items c.self.inside.len c.self.invariant) in
    let key = c.key_of.ensures ∙ ap (fold with_word 0) words ∙ ap flags_key c.self.view_is in
    c.hash.ensures ∙ ap (λ n. g.H.Hasher.write c.args.state.now (fed.le_bytes 8 n)) key

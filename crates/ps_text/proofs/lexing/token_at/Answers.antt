use Rattle.std.proofs.Common.{ap, arith, refl, slice_range, sym, ◌∙◌}
use Rattle.ps_text.specs.Tokens.{class_of}
use Rattle.ps_text.proofs.Cuts.{IsFirstWord-paren, slice_range-one}
use Rattle.ps_text.proofs.TokenSteps.{class_of-found}
use Rattle.ps_text.proofs.lexing.token_at.Goals as goal

pub returns-in-Some-clause-word : goal.returns-in-Some-clause-word
returns-in-Some-clause-word c =
    record {
      later = omega arith;
      longer = omega arith;
      within = omega arith;
      gap = λ end h. refl;
      word = IsFirstWord-paren c.args.bytes.now c.args.at c.requires.within c.requires.black c.requires.no_comment (sym c.in-Some.ensures.paren);
    }

pub returns-in-Some-clause-class : goal.returns-in-Some-clause-class
returns-in-Some-clause-class c =
    ap class_of (slice_range-one c.args.bytes.now c.args.at c.requires.within) ∙ c.in-Some.ensures.class

pub returns-clause-class : goal.returns-clause-class
returns-clause-class c =
    let word = slice_range c.args.bytes.now c.args.at c.word_end-to.result in
    class_of-found c.args.at word c.in_ok-class.class (sym c.class_at.ensures ∙ c.in_ok-class.was)

use Rattle.std.proofs.Common.{slice_range}
use Rattle.ps_text.specs.declared.spans.Span.{Span}
use Rattle.ps_text.specs.Tokens.{span_of}
use Rattle.ps_text.proofs.TokenSteps.{IsFirstFault-next, IsNextWord-before, Lexed-more, RefusesText-from}
use Rattle.ps_text.proofs.lexing.tokens.Goals as goal

pub returns-in-Err-clause-refused : goal.returns-in-Err-clause-refused
returns-in-Err-clause-refused c =
    let bytes = c.args.bytes.now in
    let at = c.word_start-at.result in
    let fault = c.in-Err.ensures.refused in
    let span : Span = record { from = at; to = fault.0 } in
    let next = IsNextWord-before bytes c.loop-tokens.from at span c.word_start-at.ensures.later c.word_start-at.ensures.gap fault.1 in
    RefusesText-from bytes at (slice_range bytes at fault.0) c.in-Err.refusal fault.2
    (IsFirstFault-next bytes c.loop-tokens.tokens.items c.loop-tokens.from span c.loop-tokens.invariant next c.in-Err.refusal fault.2)

pub loop-tokens-preserved : goal.loop-tokens-preserved
loop-tokens-preserved c =
    let bytes = c.args.bytes.now in
    let token = c.in-Ok.token in
    let next = IsNextWord-before bytes c.loop-tokens.from c.word_start-at.result (span_of token) c.word_start-at.ensures.later c.word_start-at.ensures.gap c.in-Ok.ensures.word in
    Lexed-more bytes c.loop-tokens.tokens.items c.loop-tokens.from (span_of token) c.loop-tokens.invariant next token.class c.in-Ok.ensures.class _ c.in_ok-push.ensures.items

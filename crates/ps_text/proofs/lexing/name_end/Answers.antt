use Rattle.std.proofs.Common.{◌≡◌, ◌+◌, ◌-◌, ap, drop, get_or, length, sym, take, true, unwrap_or, ◌∙◌}
use Rattle.std.proofs.lemmas.List.{take_rest}
use Rattle.ps_text.specs.Names.{is_letter}
use Rattle.ps_text.proofs.NameRuns.{IsFirstWord-name, class_of-at, no_name_byte}
use Rattle.ps_text.proofs.Pieces.{unwrap_or-position}
use Rattle.ps_text.proofs.lexing.name_end.Goals as goal

pub returns-then-run_ends-clause-word : goal.returns-then-run_ends-clause-word
returns-then-run_ends-clause-word c =
    let bytes = c.args.bytes.now in
    let at = c.args.at in
    let rest = take (length bytes - (at + 1)) (drop (at + 1) bytes) in
    let letter : is_letter (get_or bytes at 0) ≡ true = sym c.is_ascii_alphabetic.ensures.value ∙ c.if-not-is_ascii_alphabetic.false in
    let first = c.unwrap_or-count.ensures ∙ ap (λ o. unwrap_or o (length rest)) c.first_other_byte.ensures ∙ unwrap_or-position no_name_byte rest in
    IsFirstWord-name bytes at c.requires letter rest c.unwrap_or-count.result (take_rest bytes (at + 1)) first (c.run_ends.ensures c.if-run_ends.true)

pub returns-then-run_ends-clause-name : goal.returns-then-run_ends-clause-name
returns-then-run_ends-clause-name c =
    let bytes = c.args.bytes.now in
    let at = c.args.at in
    let rest = take (length bytes - (at + 1)) (drop (at + 1) bytes) in
    let letter : is_letter (get_or bytes at 0) ≡ true = sym c.is_ascii_alphabetic.ensures.value ∙ c.if-not-is_ascii_alphabetic.false in
    let first = c.unwrap_or-count.ensures ∙ ap (λ o. unwrap_or o (length rest)) c.first_other_byte.ensures ∙ unwrap_or-position no_name_byte rest in
    class_of-at bytes at c.requires letter rest c.unwrap_or-count.result (take_rest bytes (at + 1)) first c.if-count-ge-LONGEST_NAME.false

use Rattle.std.proofs.Common.{◌∙◌, ◌<◌, ap, sym, subst, arith, length, drop, string_bytes}
use Rattle.std.proofs.lemmas.Result.{IfOk-weaker}
use Rattle.std.specs.Option.{IfSome}
use Rattle.ps_words.specs.Words.{IsInRange, is_well_formed, mode_of, word_texts}
use Rattle.ps_words.proofs.Choices.{chosen, formed, no_mode, no_words, not_formed, others}
use Rattle.ps_words.proofs.Ranges.{asked_in_range}
use Rattle.ps_words.proofs.asked.read_words.Goals as goal

pub returns-in_default-clause-asked : goal.returns-in_default-clause-asked
returns-in_default-clause-asked c = no_words c.args.words.now c.in_default.len_below

pub returns-in_default-mode_of-clause-asked : goal.returns-in_default-mode_of-clause-asked
returns-in_default-mode_of-clause-asked c =
    let ws = c.args.words.now in
    let first = c.first-item.result in
    let some : 0 < length ws = omega (arith, c.in-len1-up.len_at_least) in
    let none = ap mode_of (sym c.as_str.ensures.value) ∙ (sym c.mode_of.ensures ∙ c.in_default-mode_of.is) in
    no_mode (word_texts ws) (word_texts (drop 1 ws)) (mode_of (string_bytes first)) none ∙ sym (chosen ws first some c.first-item.is)

pub returns-then-not-is_well_formed-clause-asked : goal.returns-then-not-is_well_formed-clause-asked
returns-then-not-is_well_formed-clause-asked c =
    let ws = c.args.words.now in
    let first = c.first-item.result in
    let some : 0 < length ws = omega (arith, c.in-len1-up.len_at_least) in
    let named = ap mode_of (sym c.as_str.ensures.value) ∙ (sym c.mode_of.ensures ∙ c.in-Some.is) in
    let bad = ap (λ l. is_well_formed (word_texts l)) (sym (others ws)) ∙ (sym c.is_well_formed.ensures ∙ c.if-not-is_well_formed.true) in
    not_formed (word_texts ws) (word_texts (drop 1 ws)) c.in-Some.mode (mode_of (string_bytes first)) named bad ∙ sym (chosen ws first some c.first-item.is)

pub returns-clause-asked : goal.returns-clause-asked
returns-clause-asked c =
    let ws = c.args.words.now in
    let first = c.first-item.result in
    let some : 0 < length ws = omega (arith, c.in-len1-up.len_at_least) in
    let named = ap mode_of (sym c.as_str.ensures.value) ∙ (sym c.mode_of.ensures ∙ c.in-Some.is) in
    let good = ap (λ l. is_well_formed (word_texts l)) (sym (others ws)) ∙ (sym c.is_well_formed.ensures ∙ c.if-not-is_well_formed.false) in
    let asked = chosen ws first some c.first-item.is ∙ formed (word_texts ws) (word_texts (drop 1 ws)) c.in-Some.mode (mode_of (string_bytes first)) named good in
    IfOk-weaker c.asked_in.result _ _ (λ a h. h ∙ sym asked) c.asked_in.ensures

pub returns-clause-ranges : goal.returns-clause-ranges
returns-clause-ranges c =
    IfOk-weaker c.asked_in.result _ _ (λ a h. subst (λ o. IfSome o IsInRange) (sym h) (asked_in_range c.in-Some.mode (word_texts c.args.words.now))) c.asked_in.ensures

use Rattle.std.proofs.Common.{◌≡◌, ◌∙◌, List, Option, [], ap, map, option_map, sym, unwrap_or}
use Rattle.std.proofs.lemmas.Result.{IfOk-weaker}
use Rattle.std.specs.Borrow.{Bor}
use Rattle.clap.specs.Matches.{found_of}
use Rattle.clap.specs.Walk.{Text, all_of, rows_of}
use Rattle.clap.proofs.WalkLemmas.{raw_values-rows}
use Rattle.ps_words.specs.Words.{words_in}
use Rattle.ps_words.proofs.commands.words_of.Goals as goal

-- the texts behind what was found
abbrev texts_behind : Option (Bor (List (Bor Text))) → Option (List Text)
texts_behind found = option_map (λ all. map (λ v. v.now) all.now) found

pub returns-in-Some : goal.returns-in-Some
returns-in-Some c =
    let rows = rows_of (found_of c.args.matches.now) in
    let told : texts_behind c.get_strs.result ≡ all_of c.args.id.now rows = c.get_strs.ensures ∙ raw_values-rows (found_of c.args.matches.now) c.args.id.now in
    let words : map (λ v. v.now) c.in-Some.all.now ≡ words_in c.args.id.now rows = ap (λ o. unwrap_or o []) (ap texts_behind (sym c.in-Some.is) ∙ told) in
    IfOk-weaker c.from_slice.result _ _ (λ v h. ap (map (λ t. t.now)) h ∙ words) c.from_slice.ensures.items

pub returns-in-None : goal.returns-in-None
returns-in-None c =
    let rows = rows_of (found_of c.args.matches.now) in
    let told : texts_behind c.get_strs.result ≡ all_of c.args.id.now rows = c.get_strs.ensures ∙ raw_values-rows (found_of c.args.matches.now) c.args.id.now in
    ap (map (λ t. t.now)) c.new.ensures.items ∙ ap (λ o. unwrap_or o []) (ap texts_behind (sym c.in-None.is) ∙ told)

-- Words whose lists may not be closed yet: they are balanced once these are closed.
use Rattle.std.proofs.Common.{◌≡◌, ℕ, zero, suc, ◌-◌, true, List, [], ◌∷◌, ◌++◌, Option, None, Some, IfSome, replicate, take, refl, sym, ◌∙◌, ap, subst, arith}
use Rattle.std.proofs.lemmas.List.{map-append, take-map}
use Rattle.ps_grammar.specs.Shape.{Derives, IsFirstFaultFrom, IsShallowFrom}
use Rattle.ps_grammar.specs.declared.marks.Mark.{Mark}
use Rattle.ps_grammar.specs.declared.marks.Mark.TheVariants.{Open, Close}
use Rattle.ps_grammar.specs.declared.symbols.Symbol.{Symbol}
use Rattle.ps_lists.specs.Lexemes.{marks}
use Rattle.ps_lists.specs.Spelling.{is_balanced}
use Rattle.ps_lists.specs.declared.lexemes.Lexeme.{Lexeme}
use Rattle.ps_script.specs.Judged.{Fits, closed, front, open_after, shut}
use Rattle.ps_script.proofs.Balance.{are_paired, balanced, open_before}

all_shut : (n : ℕ) → is_balanced n (replicate n Close) ≡ true
all_shut zero = refl
all_shut (suc n) = all_shut n

-- what begins balanced marks is balanced with a parenthesis for each that is open
shut_balance : (depth : ℕ) (ms more : List Mark) → is_balanced depth (ms ++ more) ≡ true → is_balanced depth (ms ++ replicate (open_after depth ms) Close) ≡ true
shut_balance depth [] more h = all_shut depth
shut_balance depth (Open ∷ ms) more h = shut_balance (suc depth) ms more h
shut_balance zero (Close ∷ ms) more h = absurd (cc)
shut_balance (suc depth) (Close ∷ ms) more h =
    let one : suc depth - 1 ≡ depth = omega arith in
    rw one (shut_balance depth ms more h)
shut_balance depth (_ ∷ ms) more h = shut_balance depth ms more h

shut_marks : (n : ℕ) → marks (replicate n shut) ≡ replicate n Close
shut_marks zero = refl
shut_marks (suc n) = ap (λ ms. Close ∷ ms) (shut_marks n)

closed_marks : (ls : List Lexeme) → marks (closed ls) ≡ marks ls ++ replicate (open_after 0 (marks ls)) Close
closed_marks ls = map-append (λ l. l.mark) ls (replicate (open_after 0 (marks ls)) shut) ∙ ap (λ ms. marks ls ++ ms) (shut_marks (open_after 0 (marks ls)))

closed_balance : (ls : List Lexeme) (ms more : List Mark) → marks ls ≡ ms → is_balanced 0 (ms ++ more) ≡ true → is_balanced 0 (marks (closed ls)) ≡ true
closed_balance ls ms more e h = rw (closed_marks ls, e) (shut_balance 0 ms more h)

-- what is found of words is what is known of them
pub found_fits : (start : List Symbol) (ms same : List Mark) (found : Option ℕ) → same ≡ ms → (found ≡ None → Derives start same × IsShallowFrom start same) → IfSome found (λ at. IsFirstFaultFrom start same at) → Fits start ms found
found_fits start ms same None e fits fault =
    let all = fits refl in
    (subst (Derives start) e all.0, subst (λ (x : List Mark). IsShallowFrom start x) e all.1)
found_fits start ms same (Some i) e fits fault = subst (λ (x : List Mark). IsFirstFaultFrom start x i) e fault

-- the words before the first that doesn't fit are balanced once their lists are closed
pub front_balance : (start : List Symbol) (ls : List Lexeme) (found : Option ℕ) → are_paired start ≡ true → open_before start ≡ 0 → Fits start (marks ls) found → is_balanced 0 (marks (front found ls)) ≡ true
front_balance start ls None paired none fits = subst (λ (n : ℕ). is_balanced n (marks ls) ≡ true) none (balanced start (marks ls) fits.0 paired)
front_balance start ls (Some i) paired none fits =
    let whole = fits.before in
    closed_balance (take i ls) (take i (marks ls)) whole.0 (sym (take-map (λ l. l.mark) i ls))
    (subst (λ (n : ℕ). is_balanced n (take i (marks ls) ++ whole.0) ≡ true) none (balanced start (take i (marks ls) ++ whole.0) whole.1 paired))

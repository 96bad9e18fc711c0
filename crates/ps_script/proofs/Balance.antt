-- A line that fits its form is balanced: each parenthesis has its other one.
use Rattle.std.proofs.Common.{◌≡◌, ℕ, zero, suc, ◌+◌, ◌-◌, ◌≤◌, ◌==◌, nat_le, Bool, true, false, ◌&&◌, if◌then◌else◌, List, [], ◌∷◌, ◌++◌, Option, None, Some, refl, sym, ◌∙◌, ap, subst, arith}
use Rattle.std.specs.List.{list_all}
use Rattle.std.proofs.lemmas.Bool.{and_parts}
use Rattle.std.proofs.lemmas.Bool.Decides.{nat_tests}
use denote.Enum.Bare.{same_true}
use Rattle.ps_grammar.specs.contracts.marks.Mark.{the_type}
use Rattle.ps_grammar.specs.Marks.{is}
use Rattle.ps_grammar.specs.Rules.{where_it_is, action_rule, goal_rule, list_rule, step}
use Rattle.ps_grammar.specs.Shape.{Derives}
use Rattle.ps_grammar.specs.Shape.Derives.{nothing, by_rule}
use Rattle.ps_grammar.specs.Symbols.{level, weight}
use Rattle.ps_grammar.specs.declared.marks.Mark.{Mark}
use Rattle.ps_grammar.specs.declared.marks.Mark.TheVariants.{Open, Close}
use Rattle.ps_grammar.specs.declared.symbols.Symbol.{Symbol}
use Rattle.ps_grammar.specs.declared.symbols.Symbol.TheVariants.{The, AnyName, InAction, InGoal, InList}
use Rattle.ps_grammar.specs.declared.symbols.ActionPart.TheVariants as action
use Rattle.ps_grammar.specs.declared.symbols.ListPart.{ListPart}
use Rattle.ps_grammar.specs.declared.symbols.ListPart.TheVariants as list
use Rattle.ps_grammar.specs.declared.symbols.GoalPart.{GoalPart}
use Rattle.ps_grammar.specs.declared.symbols.GoalPart.TheVariants as goal
use Rattle.ps_lists.specs.Spelling.{is_balanced}
use Rattle.ps_lists.proofs.Balance.{each_mark, every_mark, after_mark}
use Rattle.ps_script.specs.Forms.{start_of}
use Rattle.ps_script.specs.declared.forms.Form.{Form}
use Rattle.ps_script.specs.declared.forms.Form.TheVariants.{SetInstance}

-- the symbol is an open parenthesis by itself
abbrev is_open : Symbol → Bool
is_open (The Open) = true
is_open _ = false

-- the symbol is another one of a line
abbrev is_shut : Symbol → Bool
is_shut (The Open) = false
is_shut (The m) = true
is_shut AnyName = true
is_shut (InGoal part) = true
is_shut (InAction action.Parameters) = true
is_shut (InList part) = true
is_shut _ = false

-- how many parentheses are open before these
abbrev pub open_before : List Symbol → ℕ
open_before [] = 0
open_before (s ∷ st) = if is_open s then open_before st - 1 else weight s + open_before st

-- these symbols are of a line, and each parenthesis that opens is closed by what follows
abbrev pub are_paired : List Symbol → Bool
are_paired [] = true
are_paired (s ∷ st) = (if is_open s then nat_le 1 (open_before st) else is_shut s) && are_paired st

open_is : (s : Symbol) → is_open s ≡ true → s ≡ The Open
open_is (The Open) e = refl
open_is (The _) e = absurd (cc)
open_is _ e = absurd (cc)

shut_is : (s : Symbol) → is_shut s ≡ true → is_open s ≡ false
shut_is (The Open) e = absurd (cc)
shut_is (The _) e = refl
shut_is _ e = refl

-- how many are open after a mark, where so many were before it
abbrev moves : Mark → ℕ → ℕ → Bool
moves Open before after = after == before + 1
moves Close before after = before == after + 1
moves _ before after = before == after

-- a mark leads from so many to what is wanted after it
abbrev fits : Option (List Symbol) → Mark → ℕ → Bool
fits None m before = true
fits (Some new) m before = list_all is_shut new && moves m before (level new)

-- ---- each rule

all_names : (most : ℕ) → list_all (λ m. fits (goal_rule (goal.Names most) m) m 1) every_mark ≡ true
all_names zero = refl
all_names (suc more) = refl

all_goal : (part : GoalPart) → list_all (λ m. fits (goal_rule part m) m (weight (InGoal part))) every_mark ≡ true
all_goal (goal.Names most) = all_names most
all_goal goal.Condition = refl
all_goal _ = refl

all_list : (part : ListPart) → list_all (λ m. fits (list_rule part m) m (weight (InList part))) every_mark ≡ true
all_list list.Keywords = refl
all_list _ = refl

fits_itself : (m : Mark) → is_shut (The m) ≡ true → fits (Some []) m (weight (The m)) ≡ true
fits_itself Open e = absurd (cc)
fits_itself _ e = refl

fits_the : (wanted m : Mark) (b : Bool) → is wanted m ≡ b → is_shut (The wanted) ≡ true → fits (where_it_is b []) m (weight (The wanted)) ≡ true
fits_the wanted m false e shut = refl
fits_the wanted m true e shut =
    let same : m ≡ wanted = same_true the_type tt m wanted e in
    subst (λ (x : Mark). fits (Some []) x (weight (The wanted)) ≡ true) (sym same) (fits_itself wanted shut)

fits_step : (s : Symbol) (m : Mark) → is_shut s ≡ true → fits (step s m) m (weight s) ≡ true
fits_step (The wanted) m shut = fits_the wanted m (is wanted m) refl shut
fits_step AnyName m shut = each_mark (λ m. fits (step AnyName m) m (weight AnyName)) refl m
fits_step (InGoal part) m shut = each_mark (λ m. fits (goal_rule part m) m (weight (InGoal part))) (all_goal part) m
fits_step (InAction action.Parameters) m shut = each_mark (λ m. fits (action_rule action.Parameters m) m (weight (InAction action.Parameters))) refl m
fits_step (InList part) m shut = each_mark (λ m. fits (list_rule part m) m (weight (InList part))) (all_list part) m
fits_step _ m shut = absurd (cc)

-- ---- whole lines

paired_more : (a b : List Symbol) → list_all is_shut a ≡ true → are_paired b ≡ true → are_paired (a ++ b) ≡ true
paired_more [] b p q = q
paired_more (s ∷ a) b p q =
    let parts = and_parts (is_shut s) (list_all is_shut a) p in
    rw (shut_is s parts.0, parts.0) (paired_more a b parts.1 q)

open_more : (a b : List Symbol) → list_all is_shut a ≡ true → open_before (a ++ b) ≡ level a + open_before b
open_more [] b p = omega arith
open_more (s ∷ a) b p =
    let parts = and_parts (is_shut s) (list_all is_shut a) p in
    rw (shut_is s parts.0) (omega (arith, open_more a b parts.1))

pub where_some : (b : Bool) (new : List Symbol) → where_it_is b [] ≡ Some new → (b ≡ true) × (new ≡ [])
where_some true new e = (refl, cc)
where_some false new e = absurd (cc)

-- one mark, where an open parenthesis is wanted by itself
opens : (st : List Symbol) (m : Mark) (ms : List Mark) (new : List Symbol) → step (The Open) m ≡ Some new → nat_le 1 (open_before st) ≡ true → is_balanced (open_before (new ++ st)) ms ≡ true → is_balanced (open_before st - 1) (m ∷ ms) ≡ true
opens st m ms new leads some later =
    let w = where_some (is Open m) new leads in
    let same : m ≡ Open = same_true the_type tt m Open w.0 in
    let more : 1 ≤ open_before st = grind (arith, nat_tests) in
    let one : suc (open_before st - 1) ≡ open_before st = omega (arith, more) in
    let here : is_balanced (open_before st) ms ≡ true = subst (λ (n : List Symbol). is_balanced (open_before (n ++ st)) ms ≡ true) w.1 later in
    subst (λ (x : Mark). is_balanced (open_before st - 1) (x ∷ ms) ≡ true) (sym same) (ap (λ n. is_balanced n ms) one ∙ here)

-- one mark, where another symbol is wanted
goes_on : (s : Symbol) (st : List Symbol) (m : Mark) (ms : List Mark) (new : List Symbol) → step s m ≡ Some new → is_shut s ≡ true → (list_all is_shut new ≡ true → is_balanced (open_before (new ++ st)) ms ≡ true) → is_balanced (weight s + open_before st) (m ∷ ms) ≡ true
goes_on s st m ms new leads shut later =
    let fit : fits (Some new) m (weight s) ≡ true = subst (λ (o : Option (List Symbol)). fits o m (weight s) ≡ true) leads (fits_step s m shut) in
    let parts = and_parts (list_all is_shut new) (moves m (weight s) (level new)) fit in
    after_mark m (weight s) (level new) (open_before st) ms parts.1 (subst (λ (n : ℕ). is_balanced n ms ≡ true) (open_more new st parts.0) (later parts.0))

one_mark : (s : Symbol) (st : List Symbol) (m : Mark) (ms : List Mark) (new : List Symbol) (b : Bool) → is_open s ≡ b → step s m ≡ Some new → are_paired (s ∷ st) ≡ true → (are_paired (new ++ st) ≡ true → is_balanced (open_before (new ++ st)) ms ≡ true) → is_balanced (open_before (s ∷ st)) (m ∷ ms) ≡ true
one_mark s st m ms new true e leads paired later =
    let own = and_parts (if is_open s then nat_le 1 (open_before st) else is_shut s) (are_paired st) paired in
    let some : nat_le 1 (open_before st) ≡ true = rw e at own.0 in
    let here : step (The Open) m ≡ Some new = subst (λ (x : Symbol). step x m ≡ Some new) (open_is s e) leads in
    let none : new ≡ [] = (where_some (is Open m) new here).1 in
    rw e (opens st m ms new here some (later (subst (λ (n : List Symbol). are_paired (n ++ st) ≡ true) (sym none) own.1)))
one_mark s st m ms new false e leads paired later =
    let own = and_parts (if is_open s then nat_le 1 (open_before st) else is_shut s) (are_paired st) paired in
    let shut : is_shut s ≡ true = rw e at own.0 in
    rw e (goes_on s st m ms new leads shut (λ all. later (paired_more new st all own.1)))

-- marks that are derived are balanced where the symbols are paired
pub balanced : (st : List Symbol) (ms : List Mark) → Derives st ms → are_paired st ≡ true → is_balanced (open_before st) ms ≡ true
balanced _ _ nothing paired = refl
balanced _ _ (by_rule s st m ms new leads rest) paired =
    one_mark s st m ms new (is_open s) refl leads paired (λ more. balanced (new ++ st) ms rest more)

pub start_paired : (f : Form) → are_paired (start_of f) ≡ true
start_paired SetInstance = refl
start_paired _ = refl

pub start_closed : (f : Form) → open_before (start_of f) ≡ 0
start_closed SetInstance = refl
start_closed _ = refl

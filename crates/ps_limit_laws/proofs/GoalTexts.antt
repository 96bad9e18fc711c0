-- Words that nested lists are written with, where a goal is wanted: no list in them is too deep, and a list stands wherever a condition
-- is looked for.
use Rattle.std.proofs.Common.{◌≡◌, ℕ, suc, ◌+◌, ◌<◌, ◌≤◌, Bool, true, false, ◌&&◌, ◌||◌, is_some, ◌⊎◌, inl, inr, None, List, [], ◌∷◌, ◌++◌, Some, refl, ◌∙◌, ap, subst, arith}
use Rattle.std.proofs.lemmas.Bool.{and_from, and_parts}
use Rattle.std.proofs.lemmas.List.{map-append}
use Rattle.ps_grammar.specs.Marks.{is, is_goal_name, is_term}
use Rattle.ps_grammar.specs.Rules.{most_names, step, where_it_is}
use Rattle.ps_grammar.specs.Shape.{deepest}
use Rattle.ps_grammar.specs.Symbols.{level}
use Rattle.ps_grammar.specs.declared.marks.Mark.{Mark}
use Rattle.ps_grammar.specs.declared.marks.Mark.TheVariants.{Open, Close, And, Or, Not, Imply, Exists, Forall, Minus, Number, Variable, Equal, Less, LessEqual, GreaterEqual, Greater}
use Rattle.ps_grammar.specs.declared.symbols.Symbol.{Symbol}
use Rattle.ps_grammar.specs.declared.symbols.Symbol.TheVariants.{The, AnyName, InAction, InGoal, InList}
use Rattle.ps_grammar.specs.declared.symbols.ListPart.TheVariants as list
use Rattle.ps_grammar.specs.declared.symbols.ActionPart.TheVariants as action
use Rattle.ps_grammar.specs.declared.symbols.GoalPart.TheVariants as goal
use Rattle.ps_grammar.proofs.Levels.{level_more}
use Rattle.ps_lists.specs.Lexemes.{marks}
use Rattle.ps_lists.specs.Nested.{Nested, Nesteds, group, more, rank, ranks, word}
use Rattle.ps_lists.specs.Places.{rest}
use Rattle.ps_lists.specs.Spelling.{Spells, SpellAll}
use Rattle.ps_lists.specs.Spelling.Spells.{plain, between}
use Rattle.ps_lists.specs.Spelling.SpellAll.{nothing, one_more}
use Rattle.ps_lists.specs.declared.lexemes.Lexeme.{Lexeme}
use Rattle.ps_rules.specs.Sound.{IsScriptCond}
use Rattle.ps_lists.proofs.Taking.{group_marks, marks_more}
use Rattle.ps_conditions.specs.Signs.{Forms, by_head, head_of, rel_of}
use Rattle.ps_conditions.specs.declared.signs.Head.TheVariants.{Plain}
use Rattle.ps_script.specs.Goals.{condition, first_condition}
use Rattle.ps_limit_laws.proofs.GoalMarks.{HasRoom, Runs}
use Rattle.ps_limit_laws.proofs.GoalMarks.Runs.{goes}
use Rattle.ps_limit_laws.proofs.GoalSymbols.{closes, closes_level, closes_twice, is_last, is_one, last_close, last_level, last_open, last_word, one_close, one_level, one_open, one_word}
use Rattle.ps_limit_laws.proofs.GoalTrees.{IsFine, are_after_type, are_formed, are_two_formed, are_variables, begins_formed, binds_formed, condition_fine, has_two, is_form, is_formed, is_headed}

-- ---- one mark

-- what follows a mark
pub record Next (s : Symbol) (st : List Symbol) (m : Mark) (ms : List Mark) : Type 0 where
  pub new : List Symbol
  pub leads : step s m ≡ Some new
  pub room : HasRoom (s ∷ st) m
  pub runs : Runs (new ++ st) ms

next : (s : Symbol) (st : List Symbol) (m : Mark) (ms : List Mark) → Runs (s ∷ st) (m ∷ ms) → Next s st m ms
next _ _ _ _ (goes s st m ms new leads room rest) = record { new = new; leads = leads; room = room; runs = rest }

-- a word where one word or list is wanted
after_word : (s : Symbol) (st : List Symbol) (m : Mark) (ms : List Mark) → is_one s ≡ true → (m ≡ Open → ⊥) → (m ≡ Close → ⊥) → Runs (s ∷ st) (m ∷ ms) → Runs st ms
after_word s st m ms e o c runs =
    let n = next s st m ms runs in
    subst (λ x. Runs (x ++ st) ms) (one_word s m n.new n.leads e o c) n.runs

-- a parenthesis that closes, where all up to it is wanted
after_close : (s : Symbol) (st : List Symbol) (ms : List Mark) → is_last s ≡ true → Runs (s ∷ st) (Close ∷ ms) → Runs st ms
after_close s st ms e runs =
    let n = next s st Close ms runs in
    subst (λ x. Runs (x ++ st) ms) (last_close s n.new n.leads e) n.runs

-- all up to a parenthesis is still wanted here
pub record Inside (st : List Symbol) (ms : List Mark) : Type 0 where
  pub new : List Symbol
  pub closing : closes new ≡ true
  pub runs : Runs (new ++ st) ms

word_inside : (s : Symbol) (st : List Symbol) (m : Mark) (ms : List Mark) → is_last s ≡ true → (m ≡ Open → ⊥) → (m ≡ Close → ⊥) → Runs (s ∷ st) (m ∷ ms) → Inside st ms
word_inside s st m ms e o c runs =
    let n = next s st m ms runs in
    record { new = n.new; closing = last_word s m n.new n.leads e o c; runs = n.runs }

-- a parenthesis that opens, where one word or list is wanted
pub record Opened (st : List Symbol) (ms : List Mark) : Type 0 where
  pub room : level st < deepest
  pub inside : Inside st ms

open_one : (s : Symbol) (st : List Symbol) (ms : List Mark) → is_one s ≡ true → Runs (s ∷ st) (Open ∷ ms) → Opened st ms
open_one s st ms e runs =
    let n = next s st Open ms runs in
    let room = n.room refl in
    record {
      room = omega (arith, room, one_level s e);
      inside = record { new = n.new; closing = one_open s n.new n.leads e; runs = n.runs };
    }

-- the same, where all up to a parenthesis is wanted: it is wanted again after the list
pub record OpenedInside (st : List Symbol) (ms : List Mark) : Type 0 where
  pub first : Symbol
  pub later : List Symbol
  pub is_first : is_last first ≡ true
  pub closing : closes later ≡ true
  pub room : 1 + level st < deepest
  pub runs : Runs (first ∷ (later ++ st)) ms

split_open : (new st : List Symbol) (ms : List Mark) → 1 + level st < deepest → closes_twice new ≡ true → Runs (new ++ st) ms → OpenedInside st ms
split_open [] st ms room e runs = absurd (cc)
split_open (s ∷ later) st ms room e runs =
    let parts = and_parts (is_last s) (closes later) e in
    record { first = s; later = later; is_first = parts.0; closing = parts.1; room = room; runs = runs }

open_inside : (s : Symbol) (st : List Symbol) (ms : List Mark) → is_last s ≡ true → Runs (s ∷ st) (Open ∷ ms) → OpenedInside st ms
open_inside s st ms e runs =
    let n = next s st Open ms runs in
    let room = n.room refl in
    split_open n.new st ms (omega (arith, room, last_level s e)) (last_open s n.new n.leads e) n.runs

-- ---- words of lists

-- the words of a list are within the levels, and the marks after them run on
abbrev pub Passes : ℕ → List Symbol → List Mark → Type 0
Passes n st ms = (level st + n ≤ deepest) × Runs st ms

-- the same, where all up to a parenthesis is still wanted
abbrev PassesInside : ℕ → List Symbol → List Mark → Type 0
PassesInside n st ms = (suc (level st) + n ≤ deepest) × Inside st ms

mutual
  -- a word or list, where one is wanted
  pub pass_one : (t : Nested) (ls : List Lexeme) → Spells t ls → (s : Symbol) (st : List Symbol) (ms : List Mark) → is_one s ≡ true → level st ≤ deepest → Runs (s ∷ st) (marks ls ++ ms) → Passes (rank t) st ms
  pass_one _ _ (plain l o c) s st ms e few runs = (omega (arith, few), after_word s st l.mark ms e o c runs)
  pass_one _ _ (between left right ts ls o c a) s st ms e few runs =
      let k = open_one s st (marks ls ++ Close ∷ ms) e (subst (Runs (s ∷ st)) (group_marks left right ls ms o c) runs) in
      let p = pass_all ts ls a k.inside.new st ms k.inside.closing k.room k.inside.runs in
      (omega (arith, p.0), p.1)

  -- a word or list, where all up to a parenthesis is wanted
  pass_inside : (t : Nested) (ls : List Lexeme) → Spells t ls → (s : Symbol) (st : List Symbol) (ms : List Mark) → is_last s ≡ true → level st < deepest → Runs (s ∷ st) (marks ls ++ ms) → PassesInside (rank t) st ms
  pass_inside _ _ (plain l o c) s st ms e few runs = (omega (arith, few), word_inside s st l.mark ms e o c runs)
  pass_inside _ _ (between left right ts ls o c a) s st ms e few runs =
      let k = open_inside s st (marks ls ++ Close ∷ ms) e (subst (Runs (s ∷ st)) (group_marks left right ls ms o c) runs) in
      let high = level_more k.later st in
      let one = closes_level k.later k.closing in
      let room = k.room in
      let p = pass_all ts ls a (k.first ∷ []) (k.later ++ st) ms k.is_first (omega (arith, high, one, room)) k.runs in
      (omega (arith, p.0, high, one), record { new = k.later; closing = k.closing; runs = p.1 })

  -- all up to a parenthesis, and the parenthesis
  pub pass_all : (ts : Nesteds) (ls : List Lexeme) → SpellAll ts ls → (new st : List Symbol) (ms : List Mark) → closes new ≡ true → level st < deepest → Runs (new ++ st) (marks ls ++ Close ∷ ms) → Passes (suc (ranks ts)) st ms
  pass_all _ _ nothing [] st ms e few runs = absurd (cc)
  pass_all _ _ nothing (s ∷ []) st ms e few runs = (omega (arith, few), after_close s st ms e runs)
  pass_all _ _ nothing (s ∷ t ∷ later) st ms e few runs =
      let n = next s ((t ∷ later) ++ st) Close ms runs in
      absurd (one_close s n.new n.leads (and_parts (is_one s) (closes (t ∷ later)) e).0)
  pass_all _ _ (one_more t ts ls ks a b) [] st ms e few runs = absurd (cc)
  pass_all _ _ (one_more t ts ls ks a b) (s ∷ []) st ms e few runs =
      let p = pass_inside t ls a s st (marks ks ++ Close ∷ ms) e few (subst (Runs (s ∷ st)) (marks_more ls ks (Close ∷ ms)) runs) in
      let q = pass_all ts ks b p.1.new st ms p.1.closing few p.1.runs in
      (omega (arith, p.0, q.0), q.1)
  pass_all _ _ (one_more t ts ls ks a b) (s ∷ u ∷ later) st ms e few runs =
      let parts = and_parts (is_one s) (closes (u ∷ later)) e in
      let high = level_more (u ∷ later) st in
      let one = closes_level (u ∷ later) parts.1 in
      let p = pass_one t ls a s ((u ∷ later) ++ st) (marks ks ++ Close ∷ ms) parts.0 (omega (arith, high, one, few)) (subst (Runs (s ∷ ((u ∷ later) ++ st))) (marks_more ls ks (Close ∷ ms)) runs) in
      let q = pass_all ts ks b (u ∷ later) st ms parts.1 few p.1 in
      (omega (arith, p.0, q.0, high, one), q.1)

-- ---- conditions

abbrev condition_wanted : Symbol
condition_wanted = InGoal goal.Condition

abbrev conditions_wanted : Symbol
conditions_wanted = InGoal goal.Conditions

abbrev head_wanted : Symbol
head_wanted = InGoal goal.Head

no_word : (m : Mark) (new : List Symbol) → (m ≡ Open → ⊥) → step condition_wanted m ≡ Some new → ⊥
no_word Open new o e = o refl
no_word _ new o e = cc

no_word_more : (m : Mark) (new : List Symbol) → (m ≡ Open → ⊥) → (m ≡ Close → ⊥) → step conditions_wanted m ≡ Some new → ⊥
no_word_more Open new o c e = o refl
no_word_more Close new o c e = c refl
no_word_more _ new o c e = cc

open_condition : (st : List Symbol) (ms : List Mark) → Runs (condition_wanted ∷ st) (Open ∷ ms) → Runs (head_wanted ∷ st) ms
open_condition st ms runs =
    let n = next condition_wanted st Open ms runs in
    let same : n.new ≡ head_wanted ∷ [] = let leads = n.leads in cc in
    subst (λ x. Runs (x ++ st) ms) same n.runs

open_more : (st : List Symbol) (ms : List Mark) → Runs (conditions_wanted ∷ st) (Open ∷ ms) → Runs (head_wanted ∷ (conditions_wanted ∷ st)) ms
open_more st ms runs =
    let n = next conditions_wanted st Open ms runs in
    let same : n.new ≡ head_wanted ∷ conditions_wanted ∷ [] = let leads = n.leads in cc in
    subst (λ x. Runs (x ++ st) ms) same n.runs

-- what is wanted after a head that leads to these symbols alone
after_head : (m : Mark) (wanted st : List Symbol) (ms : List Mark) → step head_wanted m ≡ Some wanted → Runs (head_wanted ∷ st) (m ∷ ms) → Runs (wanted ++ st) ms
after_head m wanted st ms leads runs =
    let n = next head_wanted st m ms runs in
    let same : n.new ≡ wanted = let there = n.leads in cc in
    subst (λ x. Runs (x ++ st) ms) same n.runs

-- ---- heads

-- what follows a word or list, where one is wanted
past_one : (t : Nested) (ls : List Lexeme) → Spells t ls → (s : Symbol) (st : List Symbol) (ms : List Mark) → is_one s ≡ true → Runs (s ∷ st) (marks ls ++ ms) → Runs st ms
past_one _ _ (plain l o c) s st ms e runs = after_word s st l.mark ms e o c runs
past_one _ _ (between left right ts ls o c a) s st ms e runs =
    let k = open_one s st (marks ls ++ Close ∷ ms) e (subst (Runs (s ∷ st)) (group_marks left right ls ms o c) runs) in
    (pass_all ts ls a k.inside.new st ms k.inside.closing k.room k.inside.runs).1

-- a word or list stands where one is wanted
no_close : (s : Symbol) (st : List Symbol) (ms : List Mark) {A : Type 0} → is_one s ≡ true → Runs (s ∷ st) (Close ∷ ms) → A
no_close s st ms e runs =
    let n = next s st Close ms runs in
    absurd (one_close s n.new n.leads e)

-- and another one after it
second_one : (t : Nested) (ts : Nesteds) (ls : List Lexeme) → SpellAll ts ls → (s : Symbol) (st : List Symbol) (ms : List Mark) → is_one s ≡ true → Runs (s ∷ st) (marks ls ++ Close ∷ ms) → has_two (more t ts) ≡ true
second_one t _ _ nothing s st ms e runs = no_close s st ms e runs
second_one t _ _ (one_more u us ls ks a b) s st ms e runs = refl

two_ones : (ts : Nesteds) (ls : List Lexeme) → SpellAll ts ls → (s u : Symbol) (st : List Symbol) (ms : List Mark) → is_one s ≡ true → is_one u ≡ true → Runs (s ∷ u ∷ st) (marks ls ++ Close ∷ ms) → has_two ts ≡ true
two_ones _ _ nothing s u st ms e f runs = no_close s (u ∷ st) ms e runs
two_ones _ _ (one_more t ts ls ks a b) s u st ms e f runs =
    second_one t ts ks b u st ms f (past_one t ls a s (u ∷ st) (marks ks ++ Close ∷ ms) e (subst (Runs (s ∷ u ∷ st)) (marks_more ls ks (Close ∷ ms)) runs))

abbrev operand_wanted : Symbol
operand_wanted = InGoal goal.FirstOperand

abbrev value_wanted : Symbol
value_wanted = InGoal goal.Value

-- one more is wanted after the first operand, where that is a word
pub record OneMore (new : List Symbol) : Type 0 where
  pub wanted : Symbol
  pub later : List Symbol
  pub is_wanted : is_one wanted ≡ true
  pub same : new ≡ wanted ∷ later

operand_name : (b : Bool) (new : List Symbol) → where_it_is b (InGoal goal.Term ∷ The Close ∷ []) ≡ Some new → OneMore new
operand_name true new e = record { wanted = InGoal goal.Term; later = The Close ∷ []; is_wanted = refl; same = cc }
operand_name false new e = absurd (cc)

operand_word : (m : Mark) (new : List Symbol) → (m ≡ Open → ⊥) → step operand_wanted m ≡ Some new → OneMore new
operand_word Open new o e = absurd (o refl)
operand_word Number new o e = record { wanted = value_wanted; later = The Close ∷ []; is_wanted = refl; same = cc }
operand_word m new o e = operand_name (is_term m) new e

two_operands : (ts : Nesteds) (ls : List Lexeme) → SpellAll ts ls → (st : List Symbol) (ms : List Mark) → Runs (operand_wanted ∷ st) (marks ls ++ Close ∷ ms) → has_two ts ≡ true
two_operands _ _ nothing st ms runs =
    let n = next operand_wanted st Close ms runs in
    let leads = n.leads in absurd (cc)
two_operands _ _ (one_more _ ts _ ks (plain l o c) b) st ms runs =
    let n = next operand_wanted st l.mark (marks ks ++ Close ∷ ms) runs in
    let one = operand_word l.mark n.new o n.leads in
    second_one (word l) ts ks b one.wanted (one.later ++ st) ms one.is_wanted (subst (λ x. Runs (x ++ st) (marks ks ++ Close ∷ ms)) one.same n.runs)
two_operands _ _ (one_more _ ts _ ks (between left right us js o c a) b) st ms runs =
    let last = Close ∷ ms in
    let all = subst (Runs (operand_wanted ∷ st)) (marks_more (left ∷ (js ++ right ∷ [])) ks last ∙ group_marks left right js (marks ks ++ last) o c) runs in
    let n = next operand_wanted st Open (marks js ++ Close ∷ (marks ks ++ last)) all in
    let same : n.new ≡ InGoal goal.ValueHead ∷ value_wanted ∷ The Close ∷ [] = let leads = n.leads in cc in
    let room = n.room refl in
    let now = subst (λ x. Runs (x ++ st) (marks js ++ Close ∷ (marks ks ++ last))) same n.runs in
    let later = pass_all us js a (InGoal goal.ValueHead ∷ []) (value_wanted ∷ The Close ∷ st) (marks ks ++ last) refl (omega (arith, room)) now in
    second_one (group us) ts ks b value_wanted (The Close ∷ st) ms refl later.1

headed_name : (b : Bool) (names new : List Symbol) (related : Bool) → where_it_is b names ≡ Some new → (b || related) ≡ true
headed_name true names new related e = refl
headed_name false names new related e = absurd (cc)

values_wanted : (st new : List Symbol) (ms : List Mark) → Some (value_wanted ∷ value_wanted ∷ The Close ∷ []) ≡ Some new → Runs (new ++ st) ms → Runs (value_wanted ∷ value_wanted ∷ The Close ∷ st) ms
values_wanted st new ms e runs =
    let same : new ≡ value_wanted ∷ value_wanted ∷ The Close ∷ [] = cc in
    subst (λ x. Runs (x ++ st) ms) same runs

operands_wanted : (st new : List Symbol) (ms : List Mark) → Some (operand_wanted ∷ []) ≡ Some new → Runs (new ++ st) ms → Runs (operand_wanted ∷ st) ms
operands_wanted st new ms e runs =
    let same : new ≡ operand_wanted ∷ [] = cc in
    subst (λ x. Runs (x ++ st) ms) same runs

-- what follows a head without a word of its own
headed : (m : Mark) (ts : Nesteds) (ls : List Lexeme) → SpellAll ts ls → (st new : List Symbol) (ms : List Mark) → head_of m ≡ Plain → step head_wanted m ≡ Some new → Runs (new ++ st) (marks ls ++ Close ∷ ms) → is_headed m ts ≡ true
headed And ts ls a st new ms x e runs = absurd (cc)
headed Or ts ls a st new ms x e runs = absurd (cc)
headed Not ts ls a st new ms x e runs = absurd (cc)
headed Imply ts ls a st new ms x e runs = absurd (cc)
headed Exists ts ls a st new ms x e runs = absurd (cc)
headed Forall ts ls a st new ms x e runs = absurd (cc)
headed Equal ts ls a st new ms x e runs = two_operands ts ls a st ms (operands_wanted st new (marks ls ++ Close ∷ ms) e runs)
headed Less ts ls a st new ms x e runs = two_ones ts ls a value_wanted value_wanted (The Close ∷ st) ms refl refl (values_wanted st new (marks ls ++ Close ∷ ms) e runs)
headed LessEqual ts ls a st new ms x e runs = two_ones ts ls a value_wanted value_wanted (The Close ∷ st) ms refl refl (values_wanted st new (marks ls ++ Close ∷ ms) e runs)
headed GreaterEqual ts ls a st new ms x e runs = two_ones ts ls a value_wanted value_wanted (The Close ∷ st) ms refl refl (values_wanted st new (marks ls ++ Close ∷ ms) e runs)
headed Greater ts ls a st new ms x e runs = two_ones ts ls a value_wanted value_wanted (The Close ∷ st) ms refl refl (values_wanted st new (marks ls ++ Close ∷ ms) e runs)
headed m ts ls a st new ms x e runs = headed_name (is_goal_name m) (InGoal (goal.Names most_names) ∷ []) new (is_some (rel_of m) && has_two ts) e

abbrev params_wanted : Symbol
params_wanted = InAction action.Parameters

no_params : (m : Mark) (new : List Symbol) → (m ≡ Open → ⊥) → step params_wanted m ≡ Some new → ⊥
no_params Open new o e = o refl
no_params _ new o e = cc

-- ---- lists of variables

abbrev variables_wanted : Symbol
variables_wanted = InList list.Variables

abbrev run_wanted : Symbol
run_wanted = InList list.VariableRun

open_params : (st : List Symbol) (ms : List Mark) → Runs (params_wanted ∷ st) (Open ∷ ms) → Runs (variables_wanted ∷ st) ms
open_params st ms runs =
    let n = next params_wanted st Open ms runs in
    let same : n.new ≡ variables_wanted ∷ [] = let leads = n.leads in cc in
    subst (λ x. Runs (x ++ st) ms) same n.runs

first_variable : (m : Mark) (new : List Symbol) → (m ≡ Close → ⊥) → step variables_wanted m ≡ Some new → (m ≡ Variable) × (new ≡ run_wanted ∷ [])
first_variable Variable new c e = (refl, cc)
first_variable Close new c e = absurd (c refl)
first_variable _ new c e = absurd (cc)

next_variable : (m : Mark) (new : List Symbol) → (m ≡ Close → ⊥) → step run_wanted m ≡ Some new → (m ≡ Variable) × (new ≡ run_wanted ∷ []) ⊎ (m ≡ Minus) × (new ≡ InList list.TypeName ∷ variables_wanted ∷ [])
next_variable Variable new c e = inl (refl, cc)
next_variable Minus new c e = inr (refl, cc)
next_variable Close new c e = absurd (c refl)
next_variable _ new c e = absurd (cc)

-- the name of a type is no variable
type_word : (m : Mark) (new : List Symbol) → step (InList list.TypeName) m ≡ Some new → is Variable m ≡ false
type_word Variable new e = absurd (cc)
type_word _ new e = refl

-- a list stands where none can
no_list : (s : Symbol) (us ts : Nesteds) (left right : Lexeme) (js ks : List Lexeme) (st : List Symbol) (ms : List Mark) {A : Type 0} → step s Open ≡ None → left.mark ≡ Open → right.mark ≡ Close → Runs (s ∷ st) (marks ((left ∷ (js ++ right ∷ [])) ++ ks) ++ ms) → A
no_list s us ts left right js ks st ms none o c runs =
    let n = next s st Open (marks js ++ Close ∷ (marks ks ++ ms)) (subst (Runs (s ∷ st)) (marks_more (left ∷ (js ++ right ∷ [])) ks ms ∙ group_marks left right js (marks ks ++ ms) o c) runs) in
    let leads = n.leads in
    absurd (cc)

mutual
  variables_formed : (ts : Nesteds) (ls : List Lexeme) → SpellAll ts ls → (st : List Symbol) (ms : List Mark) → Runs (variables_wanted ∷ st) (marks ls ++ Close ∷ ms) → are_variables ts ≡ true
  variables_formed _ _ nothing st ms runs = refl
  variables_formed _ _ (one_more _ ts _ ks (between left right us js o c a) b) st ms runs = no_list variables_wanted us ts left right js ks st (Close ∷ ms) refl o c runs
  variables_formed _ _ (one_more _ ts _ ks (plain l o c) b) st ms runs =
      let n = next variables_wanted st l.mark (marks ks ++ Close ∷ ms) runs in
      let one = first_variable l.mark n.new c n.leads in
      rw one.0 (run_formed ts ks b st ms (subst (λ x. Runs (x ++ st) (marks ks ++ Close ∷ ms)) one.1 n.runs))

  run_formed : (ts : Nesteds) (ls : List Lexeme) → SpellAll ts ls → (st : List Symbol) (ms : List Mark) → Runs (run_wanted ∷ st) (marks ls ++ Close ∷ ms) → are_variables ts ≡ true
  run_formed _ _ nothing st ms runs = refl
  run_formed _ _ (one_more _ ts _ ks (between left right us js o c a) b) st ms runs = no_list run_wanted us ts left right js ks st (Close ∷ ms) refl o c runs
  run_formed _ _ (one_more _ ts _ ks (plain l o c) b) st ms runs =
      let n = next run_wanted st l.mark (marks ks ++ Close ∷ ms) runs in
      elim (next_variable l.mark n.new c n.leads) [
        | inl one ↦ rw (one.0) (run_formed ts ks b st ms (subst (λ x. Runs (x ++ st) (marks ks ++ Close ∷ ms)) one.1 n.runs))
        | inr minus ↦ rw (minus.0) (type_formed ts ks b st ms (subst (λ x. Runs (x ++ st) (marks ks ++ Close ∷ ms)) minus.1 n.runs))
      ]

  type_formed : (ts : Nesteds) (ls : List Lexeme) → SpellAll ts ls → (st : List Symbol) (ms : List Mark) → Runs (InList list.TypeName ∷ variables_wanted ∷ st) (marks ls ++ Close ∷ ms) → are_after_type ts ≡ true
  type_formed _ _ nothing st ms runs = refl
  type_formed _ _ (one_more _ ts _ ks (between left right us js o c a) b) st ms runs = no_list (InList list.TypeName) us ts left right js ks (variables_wanted ∷ st) (Close ∷ ms) refl o c runs
  type_formed _ _ (one_more _ ts _ ks (plain l o c) b) st ms runs =
      let n = next (InList list.TypeName) (variables_wanted ∷ st) l.mark (marks ks ++ Close ∷ ms) runs in
      rw (type_word l.mark n.new n.leads) (variables_formed ts ks b st ms (after_word (InList list.TypeName) (variables_wanted ∷ st) l.mark (marks ks ++ Close ∷ ms) refl o c runs))

-- by the head
form_by : (m : Mark) (b : Forms Bool)
    → (m ≡ And → b.all ≡ true) → (m ≡ Or → b.any ≡ true) → (m ≡ Not → b.no ≡ true) → (m ≡ Imply → b.implied ≡ true)
    → (m ≡ Exists → b.for_some ≡ true) → (m ≡ Forall → b.for_all ≡ true) → (head_of m ≡ Plain → b.plain ≡ true) → by_head (head_of m) b ≡ true
form_by And b all any deny implied some each fact = all refl
form_by Or b all any deny implied some each fact = any refl
form_by Not b all any deny implied some each fact = deny refl
form_by Imply b all any deny implied some each fact = implied refl
form_by Exists b all any deny implied some each fact = some refl
form_by Forall b all any deny implied some each fact = each refl
form_by m b all any deny implied some each fact = fact refl

mutual
  pub formed_one : (t : Nested) (ls : List Lexeme) → Spells t ls → (st : List Symbol) (ms : List Mark) → Runs (condition_wanted ∷ st) (marks ls ++ ms) → is_formed t ≡ true
  formed_one _ _ (plain l o c) st ms runs =
      let n = next condition_wanted st l.mark ms runs in
      absurd (no_word l.mark n.new o n.leads)
  formed_one _ _ (between left right ts ls o c a) st ms runs =
      formed_head ts ls a st ms (open_condition st (marks ls ++ Close ∷ ms) (subst (Runs (condition_wanted ∷ st)) (group_marks left right ls ms o c) runs))

  formed_head : (ts : Nesteds) (ls : List Lexeme) → SpellAll ts ls → (st : List Symbol) (ms : List Mark) → Runs (head_wanted ∷ st) (marks ls ++ Close ∷ ms) → is_form ts ≡ true
  formed_head _ _ nothing st ms runs = refl
  formed_head _ _ (one_more _ ts _ ks (between left right us js o c a) b) st ms runs =
      let last = Close ∷ ms in
      let n = next head_wanted st Open (marks js ++ Close ∷ (marks ks ++ last)) (subst (Runs (head_wanted ∷ st)) (marks_more (left ∷ (js ++ right ∷ [])) ks last ∙ group_marks left right js (marks ks ++ last) o c) runs) in
      let leads = n.leads in absurd (cc)
  formed_head _ _ (one_more _ ts _ ks (plain l o c) b) st ms runs =
      let more = marks ks ++ Close ∷ ms in
      form_by l.mark _
      (λ e. formed_all ts ks b st ms (after_head l.mark (conditions_wanted ∷ []) st more (ap (step head_wanted) e) runs))
      (λ e. formed_all ts ks b st ms (after_head l.mark (conditions_wanted ∷ []) st more (ap (step head_wanted) e) runs))
      (λ e. formed_first ts ks b (The Close ∷ st) (Close ∷ ms) (after_head l.mark (condition_wanted ∷ The Close ∷ []) st more (ap (step head_wanted) e) runs))
      (λ e. formed_two ts ks b (The Close ∷ st) (Close ∷ ms) (after_head l.mark (condition_wanted ∷ condition_wanted ∷ The Close ∷ []) st more (ap (step head_wanted) e) runs))
      (λ e. formed_below ts ks b (The Close ∷ st) (Close ∷ ms) (after_head l.mark (params_wanted ∷ condition_wanted ∷ The Close ∷ []) st more (ap (step head_wanted) e) runs))
      (λ e. formed_below ts ks b (The Close ∷ st) (Close ∷ ms) (after_head l.mark (params_wanted ∷ condition_wanted ∷ The Close ∷ []) st more (ap (step head_wanted) e) runs))
      (λ e. let n = next head_wanted st l.mark more runs in headed l.mark ts ks b st n.new ms e n.leads n.runs)

  -- two conditions
  formed_two : (ts : Nesteds) (ls : List Lexeme) → SpellAll ts ls → (st : List Symbol) (ms : List Mark) → Runs (condition_wanted ∷ condition_wanted ∷ st) (marks ls ++ ms) → are_two_formed ts ≡ true
  formed_two _ _ nothing st ms runs = refl
  formed_two _ _ (one_more t ts ls ks a b) st ms runs =
      let now = subst (Runs (condition_wanted ∷ condition_wanted ∷ st)) (marks_more ls ks ms) runs in
      and_from _ _ (formed_one t ls a (condition_wanted ∷ st) (marks ks ++ ms) now) (formed_first ts ks b st ms (past_one t ls a condition_wanted (condition_wanted ∷ st) (marks ks ++ ms) refl now))

  -- a list of variables and a condition
  formed_below : (ts : Nesteds) (ls : List Lexeme) → SpellAll ts ls → (st : List Symbol) (ms : List Mark) → Runs (params_wanted ∷ condition_wanted ∷ st) (marks ls ++ ms) → binds_formed ts ≡ true
  formed_below _ _ nothing st ms runs = refl
  formed_below _ _ (one_more _ ts _ ks (plain l o c) b) st ms runs =
      let n = next params_wanted (condition_wanted ∷ st) l.mark (marks ks ++ ms) runs in
      absurd (no_params l.mark n.new o n.leads)
  formed_below _ _ (one_more _ ts _ ks (between left right us js o c a) b) st ms runs =
      let whole : List Lexeme = left ∷ (js ++ right ∷ []) in
      let now = subst (Runs (params_wanted ∷ condition_wanted ∷ st)) (marks_more whole ks ms) runs in
      let inside = open_params (condition_wanted ∷ st) (marks js ++ Close ∷ (marks ks ++ ms)) (subst (Runs (params_wanted ∷ condition_wanted ∷ st)) (group_marks left right js (marks ks ++ ms) o c) now) in
      and_from _ _ (variables_formed us js a (condition_wanted ∷ st) (marks ks ++ ms) inside)
      (formed_first ts ks b st ms (past_one (group us) whole (between left right us js o c a) params_wanted (condition_wanted ∷ st) (marks ks ++ ms) refl now))

  formed_first : (ts : Nesteds) (ls : List Lexeme) → SpellAll ts ls → (st : List Symbol) (ms : List Mark) → Runs (condition_wanted ∷ st) (marks ls ++ ms) → begins_formed ts ≡ true
  formed_first _ _ nothing st ms runs = refl
  formed_first _ _ (one_more t ts ls ks a b) st ms runs =
      formed_one t ls a st (marks ks ++ ms) (subst (Runs (condition_wanted ∷ st)) (marks_more ls ks ms) runs)

  formed_all : (ts : Nesteds) (ls : List Lexeme) → SpellAll ts ls → (st : List Symbol) (ms : List Mark) → Runs (conditions_wanted ∷ st) (marks ls ++ Close ∷ ms) → are_formed ts ≡ true
  formed_all _ _ nothing st ms runs = refl
  formed_all _ _ (one_more _ ts _ ks (plain l o c) b) st ms runs =
      let n = next conditions_wanted st l.mark (marks ks ++ Close ∷ ms) runs in
      absurd (no_word_more l.mark n.new o c n.leads)
  formed_all _ _ (one_more _ ts _ ks (between left right us js o c a) b) st ms runs =
      let last = Close ∷ ms in
      let all = subst (Runs (conditions_wanted ∷ st)) (marks_more (left ∷ (js ++ right ∷ [])) ks last ∙ group_marks left right js (marks ks ++ last) o c) runs in
      let n = next conditions_wanted st Open (marks js ++ Close ∷ (marks ks ++ last)) all in
      let now = open_more st (marks js ++ Close ∷ (marks ks ++ last)) all in
      let here : is_form us ≡ true = formed_head us js a (conditions_wanted ∷ st) (marks ks ++ last) now in
      let p = pass_all us js a (head_wanted ∷ []) (conditions_wanted ∷ st) (marks ks ++ last) refl (n.room refl) now in
      rw here (formed_all ts ks b st ms p.1)

-- ---- goals of lines

no_run : (s : Symbol) (st : List Symbol) (ms : List Mark) → Runs (s ∷ st) ms → ms ≡ [] → ⊥
no_run _ _ _ (goes s st m ms new leads room rest) e = cc

begin : (ls ks : List Lexeme) (st : List Symbol) → Runs st (marks (ls ++ ks)) → Runs st (marks ls ++ marks ks)
begin ls ks st runs = subst (Runs st) (map-append (λ l. l.mark) ls ks) runs

-- what follows a name
pub record AfterName (ts : Nesteds) (st : List Symbol) : Type 0 where
  pub words : List Lexeme
  pub spelt : SpellAll (rest ts) words
  pub runs : Runs st (marks words)

pub after_name : (ts : Nesteds) (ls : List Lexeme) → SpellAll ts ls → (st : List Symbol) → level st ≤ deepest → Runs (AnyName ∷ st) (marks ls) → AfterName ts st
after_name _ _ nothing st few runs = absurd (no_run AnyName st [] runs refl)
after_name _ _ (one_more t ts ls ks a b) st few runs = record {
  words = ks;
  spelt = b;
  runs = (pass_one t ls a AnyName st (marks ks) refl few (begin ls ks (AnyName ∷ st) runs)).1;
}

script_cond : (n : ℕ) (t : Nested) → IsFine [] n (condition t) → n ≤ 64 → IsScriptCond (condition t)
script_cond n t fine few = record { closed = fine.0; shallow = omega (arith, few, fine.1) }

-- the list that stands first is formed, if one does
pub formed_goal : (ts : Nesteds) (ls : List Lexeme) → SpellAll ts ls → Runs (condition_wanted ∷ []) (marks ls) → begins_formed ts ≡ true
formed_goal _ _ nothing runs = refl
formed_goal _ _ (one_more t ts ls ks a b) runs = formed_one t ls a [] (marks ks) (begin ls ks (condition_wanted ∷ []) runs)

-- the condition that stands first is one that a script may write
pub script_goal : (ts : Nesteds) (ls : List Lexeme) → SpellAll ts ls → Runs (condition_wanted ∷ []) (marks ls) → IsScriptCond (first_condition ts)
script_goal _ _ nothing runs = record { closed = tt; shallow = omega arith }
script_goal _ _ (one_more t ts ls ks a b) runs =
    let now = begin ls ks (condition_wanted ∷ []) runs in
    let formed = formed_one t ls a [] (marks ks) now in
    let p = pass_one t ls a condition_wanted [] (marks ks) refl (omega arith) now in
    script_cond (rank t) t (condition_fine [] t (omega arith) formed) (omega (arith, p.0))

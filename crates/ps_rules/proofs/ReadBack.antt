-- The entries that stand in the text of a journal.
use Rattle.std.proofs.Common.{◌≡◌, ℕ, ◌==◌, Bool, true, false, not, List, [], ◌∷◌, ◌++◌, codes, map, filter, fold, drop, get_or, All, if◌then◌else◌, Option, Some, None, refl, arith, ap, ◌∙◌, nat_eq, append_assoc}
use Rattle.std.specs.Cmp.Lexicographic.{slice_cmp}
use Rattle.std.specs.List.{list_all, starts_with}
use Rattle.std.specs.Ordering.{match_ordering, nat_cmp}
use Rattle.std.specs.declared.cmp.Ordering.{Ordering}
use Rattle.std.specs.declared.cmp.Ordering.TheVariants.{Less, Equal, Greater}
use Rattle.std.specs.BTreeSet.{insert_key}
use Rattle.std.specs.Fmt.{decimal}
use Rattle.std.specs.Option.{option_map_or}
use Rattle.std.proofs.lemmas.Bool.Decides.{nat_tests}
use Rattle.std.proofs.lemmas.List.Elements.{All-head, All-tail}
use Rattle.std.proofs.lemmas.Bool.{not-true, and_parts}
use Rattle.ps_world.specs.Names.{Table, name_text}
use Rattle.ps_world.specs.Lines.{lengthened, lines_of, is_line}
use Rattle.ps_world.specs.DomainTexts.{decl_text, action_lines}
use Rattle.ps_world.specs.Knowledge.{predicate_of, action_of}
use Rattle.ps_world.specs.Numbers.{number_text}
use Rattle.ps_world.specs.Texts.{args_text, fact_text, value_text}
use Rattle.ps_machine.specs.Texts.{event_text, entry_line}
use Rattle.ps_action.specs.Plans.{timed}
use Rattle.ps_action.specs.Search.{answer as answered_by}
use Rattle.ps_action.specs.Texts.{step_line}
use Rattle.ps_action.specs.declared.acts.PlanStep.{PlanStep}
use Rattle.ps_action.specs.declared.answers.Answer.{Answer}
use Rattle.ps_action.specs.declared.answers.Answer.TheVariants as answer
use Rattle.ps_rules.specs.Heads.{Head, Settings, bare_title, head_lines, head_text, settings_line, title}
use Rattle.ps_rules.specs.Known.{know}
use Rattle.ps_rules.specs.Journal.{in_order, instance_text, goal_line, plan_lines, answer_lines, reply_lines, reply_mark, reply_text, entry_text, text_after, tree_of, text_with, AreEntriesIn}
use Rattle.ps_world.specs.Lines.{AreLines}
use Rattle.ps_world.specs.declared.conditions.Cond.{Cond}
use Rattle.ps_world.specs.declared.domains.Decl.{Decl}
use Rattle.ps_world.specs.declared.domains.Domain.{Domain}
use Rattle.ps_world.specs.declared.actions.ActionDef.{ActionDef}
use Rattle.ps_world.specs.declared.known.Knowledge.{Knowledge}
use Rattle.ps_machine.specs.declared.inputs.Input.{Input}
use Rattle.ps_machine.specs.declared.inputs.Query.{Query}
use Rattle.ps_machine.specs.declared.inputs.Query.TheVariants as query
use Rattle.ps_machine.specs.declared.journal.Event.{Event}
use Rattle.ps_machine.specs.declared.journal.Event.TheVariants as event
use Rattle.ps_machine.specs.declared.journal.Entry.{Entry}
use Rattle.ps_world.proofs.Digits.{is_ink, is_inked, is_inked-decimal}
use Rattle.ps_world.proofs.OneLine.{are_lines, are_lines-map, is_line-append, is_line-name, is_line-fact, is_line-value, is_line-goal, is_line-number, is_line-decimal, is_line-args, is_line-decl, are_lines-action, are_lines-domain}
use Rattle.ps_world.proofs.LinesOf.{lines_of-line}
use Rattle.ps_machine.proofs.EntryLines.{HasNote, is_line-noted, noted-of}
use Rattle.ps_action.specs.Trees.{tree_text}
use Rattle.ps_rules.specs.Laws.{EntriesAreReadBack}

-- Reply lines.

are_lines-insert_key : (cmp : List ℕ → List ℕ → Ordering) (xs : List (List ℕ)) (x : List ℕ) → are_lines xs ≡ true → is_line x ≡ true → are_lines (insert_key cmp xs x) ≡ true
are_lines-insert_key cmp [] x p q = rw q refl
are_lines-insert_key cmp (y ∷ ys) x p q =
    let more = are_lines-insert_key cmp ys x in
    elim (cmp x y) as (λ o. are_lines (match_ordering o (x ∷ y ∷ ys) (y ∷ ys) (y ∷ insert_key cmp ys x)) ≡ true) [
      | Less ↦ grind (arith, nat_tests)
      | Equal ↦ p
      | Greater ↦ grind (arith, nat_tests)
    ]

are_lines-fold : (cmp : List ℕ → List ℕ → Ordering) (acc xs : List (List ℕ)) → are_lines acc ≡ true → are_lines xs ≡ true → are_lines (fold (insert_key cmp) acc xs) ≡ true
are_lines-fold cmp acc [] p q = p
are_lines-fold cmp acc (x ∷ xs) p q =
    are_lines-fold cmp (insert_key cmp acc x) xs (are_lines-insert_key cmp acc x p (grind (arith, nat_tests))) (grind (arith, nat_tests))

are_lines-in_order : (lines : List (List ℕ)) → are_lines lines ≡ true → are_lines (in_order lines) ≡ true
are_lines-in_order lines h = are_lines-fold (slice_cmp nat_cmp) [] lines refl h

are_lines-one : (line : List ℕ) → is_line line ≡ true → are_lines (line ∷ []) ≡ true
are_lines-one line h = rw h refl

is_line-goal_line : (names : Table) (goal : Option Cond) → AreLines names → is_line (goal_line names goal) ≡ true
is_line-goal_line names None h = refl
is_line-goal_line names (Some goal) h = is_line-goal names goal h

are_lines-predicate : (names : Table) (found : Option Decl) → AreLines names → are_lines (option_map_or (λ decl. decl_text names decl ∷ []) found []) ≡ true
are_lines-predicate names None h = refl
are_lines-predicate names (Some decl) h = are_lines-one (decl_text names decl) (is_line-decl names decl h)

are_lines-found_action : (names : Table) (found : Option ActionDef) → AreLines names → are_lines (option_map_or (action_lines names) found []) ≡ true
are_lines-found_action names None h = refl
are_lines-found_action names (Some action) h = are_lines-action names action h

is_line-step : (names : Table) (step : PlanStep) → AreLines names → is_line (step_line names step) ≡ true
is_line-step names step h =
    let last = codes ") [" ++ (number_text step.duration ++ codes "]") in
    is_line-append (number_text step.time) (codes ": (" ++ (name_text names step.act.action ++ (args_text names step.act.args ++ last))) (is_line-number step.time)
    (is_line-append (name_text names step.act.action) (args_text names step.act.args ++ last) (is_line-name names step.act.action h)
    (is_line-append (args_text names step.act.args) last (is_line-args names step.act.args h)
    (is_line-append (number_text step.duration) (codes "]") (is_line-number step.duration) refl)))

are_lines-plan : (names : Table) (d : Domain) (k : Knowledge) (a : Answer) → AreLines names → are_lines (plan_lines names d k a) ≡ true
are_lines-plan names d k (answer.Plan acts) h = are_lines-map (step_line names) (timed d k acts) (λ step. is_line-step names step h)
are_lines-plan names d k answer.NoPlan h = refl
are_lines-plan names d k (answer.Spent depth) h = refl
are_lines-plan names d k answer.TooMany h = refl

-- every line of a text is one line
are_lines-lengthened : (b : ℕ) (lines : List (List ℕ)) → (b == 10) ≡ false → are_lines lines ≡ true → are_lines (lengthened b lines) ≡ true
are_lines-lengthened b [] other h = rw other refl
are_lines-lengthened b (line ∷ lines) other h = rw other h

are_lines-lines_of : (text : List ℕ) → are_lines (lines_of text) ≡ true
are_lines-lines_of [] = refl
are_lines-lines_of (b ∷ bs) =
    let more = are_lines-lines_of bs in
    let cases : (x : Bool) → (b == 10) ≡ x → are_lines (if x then [] ∷ lines_of bs else lengthened b (lines_of bs)) ≡ true =
    λ x. elim x as (λ x. (b == 10) ≡ x → are_lines (if x then [] ∷ lines_of bs else lengthened b (lines_of bs)) ≡ true) [
      | true ↦ λ e. more
      | false ↦ λ e. are_lines-lengthened b (lines_of bs) e more
    ] in
    cases (b == 10) refl

are_lines-answer : (names : Table) (i : Input) (es : List Entry) (q : Query) → AreLines names → are_lines (answer_lines names i es q) ≡ true
are_lines-answer names i es query.ModelTypes h = are_lines-map (λ p. name_text names p.name) i.domain.types (λ p. is_line-name names p.name h)
are_lines-answer names i es query.ModelPredicates h = are_lines-map (decl_text names) i.domain.predicates (λ decl. is_line-decl names decl h)
are_lines-answer names i es query.ModelFunctions h = are_lines-map (decl_text names) i.domain.functions (λ decl. is_line-decl names decl h)
are_lines-answer names i es query.ModelActions h = are_lines-map (λ a. name_text names a.name) i.domain.actions (λ a. is_line-name names a.name h)
are_lines-answer names i es (query.ModelPredicate n) h = are_lines-predicate names (predicate_of i.domain n) h
are_lines-answer names i es (query.ModelAction n) h = are_lines-found_action names (action_of i.domain n) h
are_lines-answer names i es query.Domain h = are_lines-domain names i.domain h
are_lines-answer names i es query.ProblemInstances h =
    let k = know i es in
    are_lines-in_order (map (instance_text names) k.instances)
    (are_lines-map (instance_text names) k.instances (λ x. is_line-append (name_text names x.0) (codes " - " ++ name_text names x.1) (is_line-name names x.0 h) (is_line-name names x.1 h)))
are_lines-answer names i es query.ProblemPredicates h =
    let k = know i es in
    are_lines-in_order (map (fact_text names) k.facts) (are_lines-map (fact_text names) k.facts (λ f. is_line-fact names f h))
are_lines-answer names i es query.ProblemFunctions h =
    let k = know i es in
    are_lines-in_order (map (λ v. value_text names v.0 v.1) k.values) (are_lines-map (λ v. value_text names v.0 v.1) k.values (λ v. is_line-value names v.0 v.1 h))
are_lines-answer names i es query.ProblemGoal h = are_lines-one (goal_line names (know i es).goal) (is_line-goal_line names (know i es).goal h)
are_lines-answer names i es query.Plan h = are_lines-plan names i.domain (know i es) (answered_by i.domain (know i es) i.budget) h
are_lines-answer names i es query.Tree h = are_lines-lines_of (tree_text (tree_of i es))

are_lines-replies : (names : Table) (i : Input) (es : List Entry) (e : Event) → AreLines names → are_lines (reply_lines names i es e) ≡ true
are_lines-replies names i es (event.Ask q) h = are_lines-answer names i es q h
are_lines-replies names i es e h = refl

-- Lines in a text.

-- the lines that are no reply
abbrev kept : List (List ℕ) → List (List ℕ)
kept lines = filter (λ line. not (starts_with nat_eq line reply_mark)) lines

other_way : (a b : ℕ) → (a == b) ≡ false → nat_eq b a ≡ false
other_way a b h = grind (arith, nat_tests)

starts_with-inked : (ds rest : List ℕ) → is_inked ds ≡ true → starts_with nat_eq (ds ++ rest) reply_mark ≡ false
starts_with-inked [] rest h = absurd (cc)
starts_with-inked (b ∷ bs) rest h =
    let ink = and_parts (is_ink b) (list_all is_ink bs) h in
    let no_space : (b == 32) ≡ false = not-true (b == 32) ((and_parts (not (b == 10)) (not (b == 32)) ink.0).1) in
    rw (other_way b 32 no_space) refl

kept-replies : (lines : List (List ℕ)) (rest : List ℕ) → are_lines lines ≡ true → kept (lines_of (reply_text lines ++ rest)) ≡ kept (lines_of rest)
kept-replies [] rest h = refl
kept-replies (l ∷ ls) rest h =
    let parts = and_parts (is_line l) (are_lines ls) h in
    let one : reply_text (l ∷ ls) ++ rest ≡ (32 ∷ 32 ∷ l) ++ 10 ∷ (reply_text ls ++ rest) = simp append_assoc in
    ap (λ text. kept (lines_of text)) one ∙ ap kept (lines_of-line (32 ∷ 32 ∷ l) (reply_text ls ++ rest) parts.0) ∙ kept-replies ls rest parts.1

kept-entry : (names : Table) (i : Input) (es : List Entry) (e : Entry) (rest : List ℕ) → AreLines names → HasNote e.what
    → kept (lines_of (entry_text names i es e ++ rest)) ≡ entry_line names e ∷ kept (lines_of rest)
kept-entry names i es e rest h noted =
    let replies = reply_lines names i es e.what in
    let one : entry_text names i es e ++ rest ≡ entry_line names e ++ 10 ∷ (reply_text replies ++ rest) = simp append_assoc in
    rw (one, lines_of-line (entry_line names e) (reply_text replies ++ rest) (is_line-noted names e h noted), starts_with-inked (decimal e.hand) (codes " " ++ event_text names e.what) (is_inked-decimal e.hand))
    (ap (λ more. entry_line names e ∷ more) (kept-replies replies rest (are_lines-replies names i es e.what h)))

kept-text_after : (names : Table) (i : Input) (before es : List Entry) → AreLines names → All (λ e. HasNote e.what) es
    → kept (lines_of (text_after names i before es)) ≡ map (entry_line names) es
kept-text_after names i before [] h noted = refl
kept-text_after names i before (e ∷ es) h noted =
    let here = All-head (λ x. HasNote x.what) e es noted in
    let later = All-tail (λ x. HasNote x.what) e es noted in
    kept-entry names i before e (text_after names i (before ++ e ∷ []) es) h here
    ∙ ap (λ more. entry_line names e ∷ more) (kept-text_after names i (before ++ e ∷ []) es h later)

is_line-settings : (s : Settings) → is_line (settings_line s) ≡ true
is_line-settings s =
    let last = codes " replans " ++ decimal s.1 in
    is_line-append (codes "settings budget ") (decimal s.0 ++ last) refl
    (is_line-append (decimal s.0) last (is_line-decimal s.0) (is_line-append (codes " replans ") (decimal s.1) refl (is_line-decimal s.1)))

-- the lines of a head stand before those of the text after it
pub lines_of-head : (head : Head) (rest : List ℕ) → lines_of (head_text head ++ rest) ≡ head_lines head ++ lines_of rest
lines_of-head None rest = lines_of-line bare_title rest refl
lines_of-head (Some s) rest =
    ap (λ text. lines_of (title ++ 10 ∷ text)) (append_assoc (settings_line s) (10 ∷ []) rest)
    ∙ lines_of-line title (settings_line s ++ 10 ∷ rest) refl
    ∙ ap (λ lines. title ∷ lines) (lines_of-line (settings_line s) rest (is_line-settings s))

-- where all notes are in form
pub AreEntriesIn-noted : (head : Head) (names : Table) (i : Input) (es : List Entry) → AreLines names → All (λ e. HasNote e.what) es
    → AreEntriesIn head names (text_with head names i es) es
AreEntriesIn-noted None names i es h noted = ap (λ lines. kept (drop 1 lines)) (lines_of-head None (text_after names i [] es)) ∙ kept-text_after names i [] es h noted
AreEntriesIn-noted (Some s) names i es h noted =
    ap (λ lines. kept (drop 2 lines)) (lines_of-head (Some s) (text_after names i [] es)) ∙ kept-text_after names i [] es h noted

pub AreEntriesIn-journal_text : EntriesAreReadBack
AreEntriesIn-journal_text head names count i es h of =
    AreEntriesIn-noted head names i es h (λ k d below. noted-of count (get_or es k d).what (of k d below))

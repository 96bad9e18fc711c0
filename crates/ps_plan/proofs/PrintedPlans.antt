-- A printed plan is read as itself.
use Rattle.std.proofs.Common.{◌≡◌, ℕ, suc, ◌+◌, ◌/◌, ◌%◌, ◌^◌, ◌<◌, ◌≤◌, ◌==◌, Bool, true, false, not, ℤ, pos, negsuc, ◌≤ℤ◌, int_lt, Some, None, is_some, if◌then◌else◌, List, [], ◌∷◌, ◌++◌, map, filter_map, length, get_or, insert, All, refl, sym, ap, ◌∙◌, arith, append_assoc}
use Rattle.std.proofs.lemmas.Bool.{and_from, not-true, lt-ltb}
use Rattle.std.proofs.lemmas.Bool.Decides.{nat_tests}
use Rattle.std.proofs.lemmas.Fmt.{decimal_by_steps, decimal_nonempty}
use Rattle.std.proofs.lemmas.Int.{ints}
use Rattle.std.proofs.lemmas.List.{append-nil, get_or_append_left, length-map}
use Rattle.std.proofs.lemmas.List.Edits.{insert_end}
use Rattle.std.proofs.lemmas.List.Elements.{All-head, All-nil, All-push, All-tail, All-weaker}
use Rattle.std.proofs.lemmas.List.Folds.{list_all-append}
use Rattle.std.specs.Fmt.{decimal}
use Rattle.std.specs.List.{cons_option, list_all, position_or_len}
use Rattle.ps_world.specs.Lines.{is_line, lines_of}
use Rattle.ps_world.specs.Names.{Table, name_text}
use Rattle.ps_world.specs.Numbers.{IsCount, number_text}
use Rattle.ps_world.proofs.LinesOf.{lines_of-line}
use Rattle.ps_action.specs.declared.acts.PlanStep.{PlanStep}
use Rattle.ps_text.specs.Names.{AreNames}
use Rattle.ps_text.proofs.Digits.{list_all-get_or}
use Rattle.ps_text.proofs.Pieces.{first-no}
use Rattle.ps_plan.specs.Laws.{IsPrintable, PrintedPlansAreRead, RiseFrom}
use Rattle.ps_plan.specs.PlanText.{fault_from, is_skipped, line_of, parts_of, placed, plan_fault, plan_text, planned, says, step_of, step_text}
use Rattle.ps_plan.proofs.Limits.{fault-step}
use Rattle.ps_plan.proofs.PrintedLines.{is_skipped-word, line_of-printed}
use Rattle.ps_plan.proofs.PrintedNames.{names-step, said_step, step_of-printed, table_after-printed, is_word-printed, words-printed}
use Rattle.ps_plan.proofs.PrintedParts.{is_line-step, is_word-number, line_text, parts-line, printed_parts}

-- ---- the lines of the text

step_text-is : (table : Table) (step : PlanStep) (rest : List ℕ) → step_text table step ++ rest ≡ line_text table step ++ 10 ∷ rest
step_text-is table step rest = simp append_assoc

-- ---- the first byte of a number isn't `;`

abbrev is_plain : ℕ → Bool
is_plain b = not (b == 59)

plain_digit : (d : ℕ) → d < 10 → list_all is_plain ((48 + d) ∷ []) ≡ true
plain_digit d h = grind (arith, nat_tests)

plain_decimal : (n : ℕ) → n < 2 ^ 64 → list_all is_plain (decimal n) ≡ true
plain_decimal =
    decimal_by_steps (λ n ds. list_all is_plain ds ≡ true) plain_digit
    (λ n ds h all. list_all-append is_plain ds ((48 + n % 10) ∷ []) ∙ and_from (list_all is_plain ds) (list_all is_plain ((48 + n % 10) ∷ [])) all (plain_digit (n % 10) (omega arith)))

no_comment : (z : ℤ) → IsCount z → (get_or (number_text z) 0 0 == 59) ≡ false
no_comment (pos n) h =
    let digits : List ℕ = decimal (n / 1000) in
    let some = decimal_nonempty (n / 1000) (omega arith) in
    not-true _ (ap is_plain (get_or_append_left digits _ 0 0 some) ∙ list_all-get_or is_plain digits 0 0 (plain_decimal (n / 1000) (omega arith)) some)
no_comment (negsuc n) h = refl

-- ---- the steps in the order of time

not_later : (a b : ℤ) → b ≤ℤ a → int_lt a b ≡ false
not_later a b h = grind (arith, ints)

none_later : (step : PlanStep) (steps : List PlanStep) → All (λ s. s.time ≤ℤ step.time) steps → position_or_len (λ other. int_lt step.time other.time) steps ≡ length steps
none_later step [] all = refl
none_later step (s ∷ steps) all =
    first-no (λ other. int_lt step.time other.time) s steps (not_later step.time s.time (All-head (λ s. s.time ≤ℤ step.time) s steps all))
    ∙ ap suc (none_later step steps (All-tail (λ s. s.time ≤ℤ step.time) s steps all))

placed-last : (step : PlanStep) (steps : List PlanStep) → All (λ s. s.time ≤ℤ step.time) steps → placed step steps ≡ steps ++ step ∷ []
placed-last step steps all = ap (λ n. insert steps n step) (none_later step steps all) ∙ insert_end steps step

time_along : (a b c : ℤ) → a ≤ℤ b → b ≤ℤ c → a ≤ℤ c
time_along a b c h k = omega (arith, ints)

same_time : (a : ℤ) → a ≤ℤ a
same_time a = omega (arith, ints)

-- ---- the law

module _ (table : Table) (names : AreNames table) where
  abbrev Printable : PlanStep → Type 0
  Printable = IsPrintable (length table)

  module _ (step : PlanStep) (p : Printable step) where
    abbrev line : List ℕ
    line = line_text table step

    parts-printed : parts_of line ≡ printed_parts (number_text step.time) (map (name_text table) (step.act.action ∷ step.act.args)) (number_text step.duration)
    parts-printed = parts-line table step p.time.1 p.duration.1 (is_word-printed table names step.act.action p.named.0) (words-printed table names step.act.args p.named.1)

    one_line : is_line line ≡ true
    one_line = is_line-step table step p.time.1 p.duration.1 (is_word-printed table names step.act.action p.named.0) (words-printed table names step.act.args p.named.1)

    line_of-step : line_of line ≡ Some (said_step table step)
    line_of-step =
        line_of-printed line step.time (name_text table step.act.action) (map (name_text table) step.act.args) step.duration
        parts-printed (names-step table names step p.named) (omega (arith, length-map step.act.args (name_text table), p.few)) p.time p.duration

    not_skipped : is_skipped line ≡ false
    not_skipped = is_skipped-word (number_text step.time) _ (is_word-number step.time p.time.1) (no_comment step.time p.time.1)

    says-step : says line ≡ Some (said_step table step)
    says-step = ap (λ b. if b then None else line_of line) not_skipped ∙ line_of-step

  lines-printed : (steps : List PlanStep) → All Printable steps → lines_of (plan_text table steps) ≡ map (line_text table) steps
  lines-printed [] all = refl
  lines-printed (s ∷ steps) all =
      ap lines_of (step_text-is table s (plan_text table steps))
      ∙ lines_of-line (line_text table s) (plan_text table steps) (one_line s (All-head Printable s steps all))
      ∙ ap (λ l. line_text table s ∷ l) (lines-printed steps (All-tail Printable s steps all))

  said-printed : (steps : List PlanStep) → All Printable steps → filter_map says (map (line_text table) steps) ≡ map (said_step table) steps
  said-printed [] all = refl
  said-printed (s ∷ steps) all =
      ap (λ o. cons_option o (filter_map says (map (line_text table) steps))) (says-step s (All-head Printable s steps all))
      ∙ ap (λ l. said_step table s ∷ l) (said-printed steps (All-tail Printable s steps all))

  faultless-from : (n count : ℕ) (steps : List PlanStep) → All Printable steps → count + length steps ≤ 256 → fault_from n count (map (line_text table) steps) ≡ None
  faultless-from n count [] all few = refl
  faultless-from n count (s ∷ steps) all few =
      let p = All-head Printable s steps all in
      fault-step n count (line_text table s) (map (line_text table) steps) (not_skipped s p) (ap is_some (line_of-step s p)) (lt-ltb count 256 (omega arith))
      ∙ faultless-from (n + 1) (count + 1) steps (All-tail Printable s steps all) (omega arith)

  faultless-printed : (steps : List PlanStep) → All Printable steps → length steps ≤ 256 → plan_fault (plan_text table steps) ≡ None
  unfolding plan_fault
  faultless-printed steps all few = ap (fault_from 1 0) (lines-printed steps all) ∙ faultless-from 1 0 steps all (omega arith)

  planned-printed : (time : ℤ) (done steps : List PlanStep) → All (λ s. s.time ≤ℤ time) done → RiseFrom time steps → All Printable steps
      → planned table done (map (said_step table) steps) ≡ (done ++ steps, table)
  planned-printed time done [] before rise all = ap (λ l. (l, table)) (sym (append-nil done))
  planned-printed time done (s ∷ steps) before rise all =
      let p = All-head Printable s steps all in
      let more = map (said_step table) steps in
      let earlier = All-weaker (λ o. o.time ≤ℤ time) (λ o. o.time ≤ℤ s.time) (λ o h. time_along o.time time s.time h rise.0) done before in
      ap (λ t. planned t (placed (step_of table (said_step table s)) done) more) (table_after-printed table names s p.named)
      ∙ ap (λ one. planned table (placed one done) more) (step_of-printed table names s p.named)
      ∙ ap (λ l. planned table l more) (placed-last s done earlier)
      ∙ planned-printed s.time (done ++ s ∷ []) steps (All-push (λ o. o.time ≤ℤ s.time) done s earlier (same_time s.time)) rise.1 (All-tail Printable s steps all)
      ∙ ap (λ l. (l, table)) (append_assoc done (s ∷ []) steps)

pub printed_plans_are_read : PrintedPlansAreRead
printed_plans_are_read table steps names all rise few =
    record {
      faultless = faultless-printed table names steps all few;
      steps_are =
          ap (λ lines. planned table [] (filter_map says lines)) (lines-printed table names steps all)
          ∙ ap (planned table []) (said-printed table names steps all)
          ∙ planned-printed table names (pos 0) [] steps (All-nil (λ s. s.time ≤ℤ pos 0)) rise all;
    }

-- The names of a plan's text are put into a table of names.
use Rattle.std.proofs.Common.{◌≡◌, ℕ, ◌-◌, ℤ, Bool, true, false, if◌then◌else◌, Option, Some, None, IfSome, List, [], ◌∷◌, length, refl, ap, sym, ◌∙◌, arith}
use Rattle.std.specs.List.{cons_option, filter_map, list_all}
use Rattle.std.specs.Option.{option_map, option_zip}
use Rattle.std.proofs.lemmas.Bool.{and_parts}
use Rattle.ps_world.specs.Names.{Table}
use Rattle.ps_world.specs.Lines.{lines_of}
use Rattle.ps_action.specs.declared.acts.PlanStep.{PlanStep}
use Rattle.ps_text.specs.Names.{folded, interned, is_name, AreNames}
use Rattle.ps_text.specs.Words.{word_at}
use Rattle.ps_plan.specs.PlanText.{Said, amount_of, fits, is_skipped, line_of, named_all, names_from, parts_of, placed, planned, plan_fault, said_of, says, step_of, table_after, times_of}
use Rattle.ps_action.specs.declared.refusals.PlanTextRefusal.{PlanTextRefusal}
use Rattle.ps_plan.proofs.LineParts.{names_from-more}
use Rattle.ps_plan.proofs.NamedParts.{fit_parts}
use Rattle.ps_pddl.proofs.WordLexemes.{AreNames-name}
use Rattle.ps_inputs.specs.Scripts.{plan_in, unless_faulty}

-- names are put into a table of names, one after another
all_named : (t : Table) (ws : List (List ℕ)) → list_all is_name ws ≡ true → AreNames t → AreNames (named_all t ws).1
all_named t [] h n = n
all_named t (w ∷ ws) h n =
    let both = and_parts (is_name w) (list_all is_name ws) h in
    all_named (interned t (folded w)) ws both.1 (AreNames-name t w both.0 n)

-- what a line says has names alone
record IsNamed (said : Said) : Type 0 where
  action : is_name said.action ≡ true
  args : list_all is_name said.args ≡ true

-- parts that fit say names
fit_named : (parts : List (List ℕ)) → fits parts ≡ true → (o : Option (ℤ × ℤ)) → IfSome (option_map (said_of parts) o) IsNamed
fit_named parts h None = tt
fit_named parts h (Some times) =
    let fit = fit_parts parts h in
    let more = names_from-more parts 3 (omega (arith, fit.enough)) in
    let both = and_parts (is_name (word_at parts 3)) (list_all is_name (names_from parts 4)) (ap (list_all is_name) (sym more) ∙ fit.names) in
    record { action = both.0; args = both.1 }

where_fit : (parts : List (List ℕ)) (b : Bool) (o : Option (ℤ × ℤ)) → (b ≡ true → IfSome (option_map (said_of parts) o) IsNamed) → IfSome (option_map (said_of parts) (if b then o else None)) IsNamed
where_fit parts true o h = h refl
where_fit parts false o h = tt

parts_named : (parts : List (List ℕ)) → IfSome (option_map (said_of parts) (times_of parts)) IsNamed
unfolding times_of
parts_named parts =
    let times = option_zip (amount_of (word_at parts 0)) (amount_of (word_at parts (length parts - 2))) in
    where_fit parts (fits parts) times (λ h. fit_named parts h times)

line_named : (line : List ℕ) → IfSome (says line) IsNamed
line_named line = by_case (is_skipped line) where
  by_case : (b : Bool) → IfSome (if b then None else line_of line) IsNamed
  by_case true = tt
  by_case false = parts_named (parts_of line)

-- one line more is put into a table of names
one_named : (t : Table) (steps : List PlanStep) (o : Option Said) (more : List Said) → ((t' : Table) (steps' : List PlanStep) → AreNames t' → AreNames (planned t' steps' more).1) → IfSome o IsNamed → AreNames t → AreNames (planned t steps (cons_option o more)).1
one_named t steps None more rest h n = rest t steps n
one_named t steps (Some said) more rest h n =
    rest (table_after t said) (placed (step_of t said) steps) (all_named (interned t (folded said.action)) said.args h.args (AreNames-name t said.action h.action n))

all_lines_named : (t : Table) (steps : List PlanStep) (lines : List (List ℕ)) → AreNames t → AreNames (planned t steps (filter_map says lines)).1
all_lines_named t steps [] n = n
all_lines_named t steps (line ∷ lines) n = one_named t steps (says line) (filter_map says lines) (λ t' steps' m. all_lines_named t' steps' lines m) (line_named line) n

-- a plan's text leaves a table of names
pub after_plan : (t : Table) (text : List ℕ) → AreNames t → AreNames (plan_in t text).1
after_plan t text n = by_case (plan_fault text) where
  by_case : (fault : Option PlanTextRefusal) → AreNames (unless_faulty t text fault).1
  by_case (Some fault) = n
  by_case None = all_lines_named t [] (lines_of text) n

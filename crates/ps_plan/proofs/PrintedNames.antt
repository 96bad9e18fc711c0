-- The names of a printed step, read with the table that it was printed with.
use Rattle.std.proofs.Common.{◌≡◌, ℕ, true, List, [], ◌∷◌, map, length, get_or, slice_get, Some, is_none, All, refl, sym, ap, ◌∙◌}
use Rattle.std.proofs.lemmas.Bool.{and_from}
use Rattle.std.proofs.lemmas.List.Elements.{All-head, All-tail}
use Rattle.std.proofs.lemmas.List.Folds.{list_any_at}
use Rattle.std.proofs.lemmas.Option.{get_or_from_slice_get, slice_get_within}
use Rattle.std.specs.List.{list_all, list_any}
use Rattle.ps_world.specs.Lines.{same_text}
use Rattle.ps_world.specs.Names.{Table, name_text}
use Rattle.ps_world.specs.Tables.{IsOf}
use Rattle.ps_world.specs.declared.names.Name.{Name}
use Rattle.ps_world.proofs.SameTexts.{same_text-itself}
use Rattle.ps_action.specs.declared.acts.PlanStep.{PlanStep}
use Rattle.ps_text.specs.Names.{AreNames, folded, interned, is_name, place_of}
use Rattle.ps_text.proofs.Tables.{interned-there, place_of-interned}
use Rattle.ps_plan.specs.PlanText.{IsStepOf, Said, args_of, named_all, step_of, table_after}
use Rattle.ps_plan.proofs.PrintedLines.{said_with}
use Rattle.ps_plan.proofs.PrintedParts.{IsWordName, is_word-name}

abbrev name : ℕ → Name
name n = record { 0 = n }

-- what a step's printed line says
abbrev pub said_step : Table → PlanStep → Said
said_step table step = said_with step.time (name_text table step.act.action) (map (name_text table) step.act.args) step.duration

module _ (table : Table) (h : AreNames table) where
  module _ (n : Name) (within : IsOf (length table) n) where
    abbrev text : List ℕ
    text = name_text table n

    pub is_name-printed : is_name text ≡ true
    is_name-printed = ap is_none (h.texts n.0 [] within).name

    pub is_word-printed : IsWordName table n
    is_word-printed = is_word-name text (h.texts n.0 [] within).name

    lower-printed : folded text ≡ text
    lower-printed = (h.texts n.0 [] within).lower_case

    there : list_any (same_text text) table ≡ true
    there = list_any_at (same_text text) table n.0 [] within (same_text-itself text)

    interned-printed : interned table (folded text) ≡ table
    interned-printed = ap (interned table) lower-printed ∙ interned-there table text there

    place_of-printed : place_of table (folded text) ≡ n.0
    place_of-printed =
        let at = place_of table text in
        let found : slice_get table at ≡ Some text = ap (λ t. slice_get t at) (sym (interned-there table text there)) ∙ place_of-interned table text in
        ap (place_of table) lower-printed ∙ h.apart at n.0 (slice_get_within table at text found) within (get_or_from_slice_get table at text [] found)

  names-printed : (ns : List Name) → All (IsOf (length table)) ns → list_all is_name (map (name_text table) ns) ≡ true
  names-printed [] all = refl
  names-printed (n ∷ ns) all =
      and_from (is_name (name_text table n)) (list_all is_name (map (name_text table) ns))
      (is_name-printed n (All-head (IsOf (length table)) n ns all)) (names-printed ns (All-tail (IsOf (length table)) n ns all))

  pub words-printed : (ns : List Name) → All (IsOf (length table)) ns → All (IsWordName table) ns
  words-printed ns all = λ k d l. is_word-printed (get_or ns k d) (all k d l)

  named_all-printed : (ns : List Name) → All (IsOf (length table)) ns → named_all table (map (name_text table) ns) ≡ (ns, table)
  named_all-printed [] all = refl
  named_all-printed (n ∷ ns) all =
      let within = All-head (IsOf (length table)) n ns all in
      let texts = map (name_text table) ns in
      let at = place_of table (folded (name_text table n)) in
      let first : named_all table (map (name_text table) (n ∷ ns)) ≡ (name at ∷ (named_all table texts).0, (named_all table texts).1) =
      ap (λ t. (name at ∷ (named_all t texts).0, (named_all t texts).1)) (interned-printed n within) in
      first
      ∙ ap (λ p. (name at ∷ p.0, p.1)) (named_all-printed ns (All-tail (IsOf (length table)) n ns all))
      ∙ ap (λ k. (name k ∷ ns, table)) (place_of-printed n within)

  module _ (step : PlanStep) (named : IsStepOf (length table) step) where
    pub names-step : list_all is_name (map (name_text table) (step.act.action ∷ step.act.args)) ≡ true
    names-step = and_from (is_name (name_text table step.act.action)) (list_all is_name (map (name_text table) step.act.args)) (is_name-printed step.act.action named.0) (names-printed step.act.args named.1)

    args_of-printed : args_of table (said_step table step) ≡ (step.act.args, table)
    args_of-printed = ap (λ t. named_all t (said_step table step).args) (interned-printed step.act.action named.0) ∙ named_all-printed step.act.args named.1

    abbrev with_act : ℕ → List Name → PlanStep
    with_act at args = record { time = step.time; act = record { action = name at; args = args }; duration = step.duration }

    pub step_of-printed : step_of table (said_step table step) ≡ step
    step_of-printed =
        ap (λ p. with_act (place_of table (folded (said_step table step).action)) p.0) args_of-printed
        ∙ ap (λ at. with_act at step.act.args) (place_of-printed step.act.action named.0)

    pub table_after-printed : table_after table (said_step table step) ≡ table
    table_after-printed = ap (λ p. p.1) args_of-printed

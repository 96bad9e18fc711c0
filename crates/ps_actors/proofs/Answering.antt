-- How a performer answers a request: by whether it has, and why it would pass it.
use Rattle.std.proofs.Common.{◌≡◌, ℕ, ◌&&◌, not, Bool, true, false, Option, Some, None, is_none, if◌then◌else◌, List, [], ◌∷◌, refl, ap, ◌∙◌}
use Rattle.std.specs.Option.{option_map_or}
use Rattle.ps_world.specs.declared.names.Name.{Name}
use Rattle.ps_machine.specs.declared.inputs.Input.{Input}
use Rattle.ps_machine.specs.declared.members.Performer.{Performer}
use Rattle.ps_machine.specs.declared.journal.PassWhy.{PassWhy}
use Rattle.ps_machine.specs.declared.journal.PassWhy.TheVariants as pass
use Rattle.ps_machine.specs.declared.journal.Event.{Event}
use Rattle.ps_machine.specs.declared.journal.Event.TheVariants as event
use Rattle.ps_machine.specs.declared.journal.Entry.{Entry}
use Rattle.ps_rules.specs.Auctions.{has_answered, is_of_run}
use Rattle.ps_rules.specs.Legal.{is_legal, is_pass, pass_reason}
use Rattle.ps_rules.specs.Members.{performer_of}
use Rattle.ps_rules.specs.Runs.{is_running}
use Rattle.ps_actors.specs.Turns.{answer_by, answers_on, first_legal}
use Rattle.ps_actors.proofs.Fitting.{legal-fits}

-- the first of four events, by which of them may come
four : (i : Input) (es : List Entry) (a b c d : Event) (p q s t : Bool) → is_legal i es a ≡ p → is_legal i es b ≡ q → is_legal i es c ≡ s → is_legal i es d ≡ t
    → first_legal i es (a ∷ b ∷ c ∷ d ∷ []) ≡ (if p then Some a else (if q then Some b else (if s then Some c else (if t then Some d else None))))
four i es a b c d p q s t first second third fourth =
    ap (λ x. if x then Some a else first_legal i es (b ∷ c ∷ d ∷ [])) first
    ∙ ap (λ o. if p then Some a else o)
    (ap (λ x. if x then Some b else first_legal i es (c ∷ d ∷ [])) second
    ∙ ap (λ o. if q then Some b else o)
    (ap (λ x. if x then Some c else first_legal i es (d ∷ [])) third
    ∙ ap (λ o. if s then Some c else o) (ap (λ x. if x then Some d else None) fourth)))

-- which answer that is
said : (name : Name) (r : ℕ) (done : Bool) (why : Option PassWhy) (run : Bool)
    → (if not done && is_none why then Some (event.Offer r name)
    else (if run && (not done && is_pass pass.Late why) then Some (event.Pass r name pass.Late)
    else (if run && (not done && is_pass pass.Other why) then Some (event.Pass r name pass.Other)
    else (if run && (not done && is_pass pass.Busy why) then Some (event.Pass r name pass.Busy) else None))))
    ≡ (if done then None else answer_by name r why run)
said name r true why true = refl
said name r true why false = refl
said name r false None run = refl
said name r false (Some pass.Late) true = refl
said name r false (Some pass.Other) true = refl
said name r false (Some pass.Busy) true = refl
said name r false (Some why) false = refl

module _ (i : Input) (es : List Entry) (name : Name) (r : ℕ) (live : is_running es ≡ true) where
  may-offer : (o : Option Performer) → performer_of i name ≡ o
      → is_legal i es (event.Offer r name) ≡ option_map_or (λ q. not (has_answered r name es) && is_none (pass_reason q r es)) o false
  may-offer o its =
      legal-fits i es (event.Offer r name) live refl
      ∙ ap (λ o. option_map_or (λ q. not (has_answered r name es) && is_none (pass_reason q r es)) o false) its

  may-pass : (why : PassWhy) (o : Option Performer) → performer_of i name ≡ o
      → is_legal i es (event.Pass r name why)
      ≡ option_map_or (λ q. is_of_run r es && (not (has_answered r name es) && is_pass why (pass_reason q r es))) o false
  may-pass why o its =
      legal-fits i es (event.Pass r name why) live refl
      ∙ ap (λ o. option_map_or (λ q. is_of_run r es && (not (has_answered r name es) && is_pass why (pass_reason q r es))) o false) its

  -- the answer of this performer
  pub answers-by : (q : Performer) → performer_of i name ≡ Some q
      → first_legal i es (answers_on name r) ≡ (if has_answered r name es then None else answer_by name r (pass_reason q r es) (is_of_run r es))
  answers-by q its =
      four i es (event.Offer r name) (event.Pass r name pass.Late) (event.Pass r name pass.Other) (event.Pass r name pass.Busy) _ _ _ _
      (may-offer (Some q) its) (may-pass pass.Late (Some q) its) (may-pass pass.Other (Some q) its) (may-pass pass.Busy (Some q) its)
      ∙ said name r (has_answered r name es) (pass_reason q r es) (is_of_run r es)

  -- where no performer has this name there is none
  pub nobody-answers : performer_of i name ≡ None → first_legal i es (answers_on name r) ≡ None
  nobody-answers none =
      four i es (event.Offer r name) (event.Pass r name pass.Late) (event.Pass r name pass.Other) (event.Pass r name pass.Busy) false false false false
      (may-offer None none) (may-pass pass.Late None none) (may-pass pass.Other None none) (may-pass pass.Busy None none)

-- A printed event is read back.
use Rattle.std.proofs.Common.{◌≡◌, ℕ, ◌-◌, ◌^◌, Bool, true, false, List, [], ◌∷◌, ◌++◌, codes, length, map, Option, Some, refl, ap, ◌∙◌, arith}
use Rattle.std.proofs.lemmas.Bool.{and_parts}
use Rattle.std.specs.Fmt.{decimal}
use Rattle.std.specs.List.{list_all}
use Rattle.std.specs.Option.{option_and_then, option_map}
use Rattle.ps_world.specs.Names.{Table, name_text}
use Rattle.ps_world.specs.declared.names.Name.{Name}
use Rattle.ps_action.specs.declared.acts.Act.{Act}
use Rattle.ps_machine.specs.Texts.{by_text, event_text, acts_text, refusal_text}
use Rattle.ps_machine.specs.declared.journal.By.{By}
use Rattle.ps_machine.specs.declared.journal.By.TheVariants as by
use Rattle.ps_machine.specs.declared.journal.Refusal.{Refusal}
use Rattle.ps_machine.specs.declared.journal.RunKind.{RunKind}
use Rattle.ps_machine.specs.declared.journal.RunKind.TheVariants as kind
use Rattle.ps_machine.specs.declared.journal.PassWhy.{PassWhy}
use Rattle.ps_machine.specs.declared.journal.PassWhy.TheVariants as pass
use Rattle.ps_machine.specs.declared.journal.FailWhy.{FailWhy}
use Rattle.ps_machine.specs.declared.journal.FailWhy.TheVariants as fail
use Rattle.ps_machine.specs.declared.journal.CancelWhy.{CancelWhy}
use Rattle.ps_machine.specs.declared.journal.CancelWhy.TheVariants as cancel
use Rattle.ps_machine.specs.declared.journal.Outcome.{Outcome}
use Rattle.ps_machine.specs.declared.journal.Outcome.TheVariants as outcome
use Rattle.ps_machine.specs.declared.journal.Event.{Event}
use Rattle.ps_machine.specs.declared.journal.Event.TheVariants as event
use Rattle.ps_text.specs.Names.{AreNames}
use Rattle.ps_text.specs.Words.{goes_on, words}
use Rattle.ps_print.proofs.Writing.{is_run}
use Rattle.ps_entries.specs.Words.{name_of, up_to, whole_number}
use Rattle.ps_entries.specs.Forms.{is_act, is_by, is_cause, is_event, is_known, is_long, is_on_request, is_short, may_run}
use Rattle.ps_entries.specs.Events.{by_of, place_after, plain_event, refused_by}
use Rattle.ps_entries.specs.Causes.{cause_at}
use Rattle.ps_entries.proofs.KnownNames.{name_of-text}
use Rattle.ps_entries.proofs.Numbers.{up_to-is, whole_number-decimal}
use Rattle.ps_entries.proofs.HeadWords.{is_run-decimal, is_run-name, words-before, words-both, words-then, words-two}
use Rattle.ps_entries.proofs.PrintedCauses.{known-of, long-of, short-decimal, short-of, told-cause, word-long, word-short}
use Rattle.ps_entries.proofs.PrintedActs.{told-plan}

-- the words for whoever edits
abbrev pub by_words : Table → By → List (List ℕ)
by_words t (by.Terminal n) = codes "terminal" ∷ decimal n ∷ []
by_words t (by.Performer r p) = codes "performer" ∷ decimal r ∷ name_text t p ∷ []
by_words t (by.Observer p) = codes "observer" ∷ name_text t p ∷ []

-- whether all of an event's text is read word by word
abbrev pub is_plain : Event → Bool
is_plain (event.Edit who change) = false
is_plain (event.Ask q) = false
is_plain (event.Feedback r p percent note) = false
is_plain e = true

module _ (t : Table) (names : AreNames t) (hand : List ℕ) where
  -- a request and a performer
  pub record IsCalled (r : ℕ) (p : Name) : Type 0 where
    pub number : whole_number (decimal r) ≡ Some r
    pub name : name_of t (name_text t p) ≡ p
    pub run : is_run (decimal r) ≡ true
    pub inked : is_run (name_text t p) ≡ true

  pub called : (r : ℕ) (p : Name) → is_on_request (length t) r p ≡ true → IsCalled r p
  called r p h =
      let parts = and_parts (is_long r) (is_known (length t) p) h in
      let small = long-of r parts.0 in
      let lt = known-of (length t) p parts.1 in
      record {
        number = whole_number-decimal r small;
        name = name_of-text t p names lt;
        run = is_run-decimal r small;
        inked = is_run-name t p names lt;
      }

  -- ---- whose edit it is

  -- whoever edits, whatever follows
  pub by-words : (who : By) (rest : List ℕ) → is_by (length t) who ≡ true → words (by_text t who ++ 32 ∷ rest) ≡ by_words t who ++ words rest
  by-words (by.Terminal n) rest h =
      let small = short-of n h in
      ap (λ more. codes "terminal" ∷ more) (words-then (decimal n) rest (is_run-decimal n (omega (arith, small))))
  by-words (by.Performer r p) rest h =
      let c = called r p h in
      ap (λ more. codes "performer" ∷ more) (words-two (decimal r) (name_text t p) rest c.run c.inked)
  by-words (by.Observer p) rest h =
      ap (λ more. codes "observer" ∷ more) (words-then (name_text t p) rest (is_run-name t p names (known-of (length t) p h)))

  pub told-by : (first : List ℕ) (who : By) (more : List (List ℕ)) → is_by (length t) who ≡ true
      → by_of (hand ∷ first ∷ (by_words t who ++ more)) (map (name_of t) (hand ∷ first ∷ (by_words t who ++ more))) ≡ Some who
  told-by first (by.Terminal n) more h = rw (short-decimal n h) refl
  told-by first (by.Performer r p) more h =
      let c = called r p h in
      rw (c.number, c.name) refl
  told-by first (by.Observer p) more h = rw (name_of-text t p names (known-of (length t) p h)) refl

  -- the cause after whoever is refused
  cause-after : (first : List ℕ) (who : By) (more : List (List ℕ))
      → cause_at (hand ∷ first ∷ (by_words t who ++ more)) (map (name_of t) (hand ∷ first ∷ (by_words t who ++ more))) (place_after who) ≡ cause_at more (map (name_of t) more) 0
  cause-after first (by.Terminal n) more = refl
  cause-after first (by.Performer r p) more = refl
  cause-after first (by.Observer p) more = refl

  -- ---- events

  -- what words after a hand's tell, and a text of an event
  abbrev tells : List (List ℕ) → Option Event
  tells more = plain_event (hand ∷ more) (map (name_of t) (hand ∷ more))

  abbrev told : List ℕ → Option Event
  told text = tells (words text)

  told-refused : (who : By) (why : Refusal) → is_event (length t) (event.Refused who why) ≡ true → told (event_text t (event.Refused who why)) ≡ Some (event.Refused who why)
  told-refused who why h =
      let parts = and_parts (is_by (length t) who) (is_cause (length t) why) h in
      let more = words (refusal_text t why) in
      let all : List (List ℕ) = hand ∷ codes "refused" ∷ (by_words t who ++ more) in
      let here : words (event_text t (event.Refused who why)) ≡ codes "refused" ∷ (by_words t who ++ more) =
      ap (λ ws. codes "refused" ∷ ws) (by-words who (refusal_text t why) parts.0) in
      ap tells here
      ∙ ap (option_and_then (refused_by all (map (name_of t) all))) (told-by (codes "refused") who more parts.0)
      ∙ ap (option_map (λ cause. event.Refused who cause)) (cause-after (codes "refused") who more ∙ told-cause t names why parts.1)

  pub apart-acts : (acts : List Act) → goes_on (acts_text t acts) ≡ false
  apart-acts [] = refl
  apart-acts (act ∷ acts) = refl

  told-run : (for : RunKind) (acts : List Act) → list_all (is_act (length t)) acts ≡ true → told (event_text t (event.Run for acts)) ≡ Some (event.Run for acts)
  told-run kind.Goal acts h =
      let here : words (event_text t (event.Run kind.Goal acts)) ≡ codes "run" ∷ codes "goal" ∷ words (acts_text t acts) =
      ap (λ ws. codes "run" ∷ ws) (words-before (codes "goal") (acts_text t acts) refl (apart-acts acts)) in
      ap tells here ∙ ap (option_map (λ plan. event.Run kind.Goal plan)) (told-plan t names acts h)
  told-run kind.Plan acts h =
      let here : words (event_text t (event.Run kind.Plan acts)) ≡ codes "run" ∷ codes "plan" ∷ words (acts_text t acts) =
      ap (λ ws. codes "run" ∷ ws) (words-before (codes "plan") (acts_text t acts) refl (apart-acts acts)) in
      ap tells here ∙ ap (option_map (λ plan. event.Run kind.Plan plan)) (told-plan t names acts h)
  told-run kind.Action acts h =
      let here : words (event_text t (event.Run kind.Action acts)) ≡ codes "run" ∷ codes "action" ∷ words (acts_text t acts) =
      ap (λ ws. codes "run" ∷ ws) (words-before (codes "action") (acts_text t acts) refl (apart-acts acts)) in
      ap tells here ∙ ap (option_map (λ plan. event.Run kind.Action plan)) (told-plan t names acts h)

  told-replan : (acts : List Act) → is_event (length t) (event.Replan acts) ≡ true → told (event_text t (event.Replan acts)) ≡ Some (event.Replan acts)
  told-replan acts h =
      let here : words (event_text t (event.Replan acts)) ≡ codes "replan" ∷ words (acts_text t acts) =
      words-before (codes "replan") (acts_text t acts) refl (apart-acts acts) in
      ap tells here ∙ ap (option_map (λ plan. event.Replan plan)) (told-plan t names acts h)

  told-over : (how : Outcome) → is_event (length t) (event.Over how) ≡ true → told (event_text t (event.Over how)) ≡ Some (event.Over how)
  told-over outcome.Success h = refl
  told-over outcome.Act h = refl
  told-over outcome.Blocked h = refl
  told-over outcome.NoGoal h = refl
  told-over outcome.Replans h = refl
  told-over outcome.NoPlan h = refl
  told-over (outcome.Spent depth) h = rw (word-short depth h, short-decimal depth h) refl
  told-over outcome.TooMany h = refl

  told-pass : (r : ℕ) (p : Name) (why : PassWhy) → is_on_request (length t) r p ≡ true → told (event_text t (event.Pass r p why)) ≡ Some (event.Pass r p why)
  told-pass r p pass.Other h =
      let c = called r p h in
      rw (words-two (decimal r) (name_text t p) (codes "other") c.run c.inked, c.number, c.name) refl
  told-pass r p pass.Busy h =
      let c = called r p h in
      rw (words-two (decimal r) (name_text t p) (codes "busy") c.run c.inked, c.number, c.name) refl
  told-pass r p pass.Late h =
      let c = called r p h in
      rw (words-two (decimal r) (name_text t p) (codes "late") c.run c.inked, c.number, c.name) refl

  told-finish : (r : ℕ) (p : Name) (ok : Bool) → is_on_request (length t) r p ≡ true → told (event_text t (event.Finish r p ok)) ≡ Some (event.Finish r p ok)
  told-finish r p true h =
      let c = called r p h in
      rw (words-two (decimal r) (name_text t p) (codes "ok") c.run c.inked, c.number, c.name) refl
  told-finish r p false h =
      let c = called r p h in
      rw (words-two (decimal r) (name_text t p) (codes "fail") c.run c.inked, c.number, c.name) refl

  -- the place of an act, and a word
  act-word : (act : ℕ) (rest : List ℕ) → is_short act ≡ true → words (decimal act ++ 32 ∷ rest) ≡ decimal act ∷ words rest
  act-word act rest h =
      let small = short-of act h in
      words-then (decimal act) rest (is_run-decimal act (omega (arith, small)))

  act-number : (act : ℕ) → is_short act ≡ true → whole_number (decimal act) ≡ Some act
  act-number act h =
      let small = short-of act h in
      whole_number-decimal act (omega (arith, small))

  act-short : (act : ℕ) → is_short act ≡ true → up_to (2 ^ 32 - 1) (Some act) ≡ Some act
  act-short act h =
      let small = short-of act h in
      up_to-is (2 ^ 32 - 1) act (omega (arith, small))

  told-fail : (act : ℕ) (why : FailWhy) → is_short act ≡ true → told (event_text t (event.Fail act why)) ≡ Some (event.Fail act why)
  told-fail act fail.NoPerformer h = rw (act-word act (codes "noperformer") h, act-number act h, act-short act h) refl
  told-fail act fail.Script h = rw (act-word act (codes "script") h, act-number act h, act-short act h) refl
  told-fail act fail.AtEnd h = rw (act-word act (codes "atend") h, act-number act h, act-short act h) refl
  told-fail act fail.Effect h = rw (act-word act (codes "effect") h, act-number act h, act-short act h) refl

  told-cancel : (act : ℕ) (why : CancelWhy) → is_short act ≡ true → told (event_text t (event.Cancel act why)) ≡ Some (event.Cancel act why)
  told-cancel act cancel.OverAll h = rw (act-word act (codes "overall") h, act-number act h, act-short act h) refl
  told-cancel act cancel.Stop h = rw (act-word act (codes "stop") h, act-number act h, act-short act h) refl

  told-request : (r act : ℕ) → is_event (length t) (event.Request r act) ≡ true → told (event_text t (event.Request r act)) ≡ Some (event.Request r act)
  told-request r act h =
      let parts = and_parts (is_long r) (is_short act) h in
      let small = long-of r parts.0 in
      rw (words-then (decimal r) (decimal act) (is_run-decimal r small), word-short act parts.1, whole_number-decimal r small, short-decimal act parts.1) refl

  -- an event all of whose text is read word by word
  pub told-event : (e : Event) → is_plain e ≡ true → is_event (length t) e ≡ true → told (event_text t e) ≡ Some e
  told-event (event.Edit who change) p h = absurd (cc)
  told-event (event.Refused who why) p h = told-refused who why h
  told-event (event.Ask q) p h = absurd (cc)
  told-event (event.Run for acts) p h = told-run for acts (and_parts (may_run for acts) (list_all (is_act (length t)) acts) h).1
  told-event event.Quit p h = refl
  told-event (event.Start act) p h = rw (word-short act h, act-number act h, act-short act h) refl
  told-event (event.Request r act) p h = told-request r act h
  told-event (event.Offer r q) p h =
      let c = called r q h in
      rw (words-both (decimal r) (name_text t q) c.run c.inked, c.number, c.name) refl
  told-event (event.Pass r q why) p h = told-pass r q why h
  told-event (event.Confirm r q) p h =
      let c = called r q h in
      rw (words-both (decimal r) (name_text t q) c.run c.inked, c.number, c.name) refl
  told-event (event.Reject r q) p h =
      let c = called r q h in
      rw (words-both (decimal r) (name_text t q) c.run c.inked, c.number, c.name) refl
  told-event (event.Begin r q) p h =
      let c = called r q h in
      rw (words-both (decimal r) (name_text t q) c.run c.inked, c.number, c.name) refl
  told-event (event.UnitWork r q) p h =
      let c = called r q h in
      rw (words-both (decimal r) (name_text t q) c.run c.inked, c.number, c.name) refl
  told-event (event.Feedback r q percent note) p h = absurd (cc)
  told-event (event.Finish r q ok) p h = told-finish r q ok h
  told-event (event.Unserved r) p h = rw (word-long r h, whole_number-decimal r (long-of r h)) refl
  told-event (event.End act) p h = rw (word-short act h, act-number act h, act-short act h) refl
  told-event (event.Fail act why) p h = told-fail act why h
  told-event (event.Cancel act why) p h = told-cancel act why h
  told-event (event.Stopped r q) p h =
      let c = called r q h in
      rw (words-both (decimal r) (name_text t q) c.run c.inked, c.number, c.name) refl
  told-event (event.Replan acts) p h = told-replan acts h
  told-event (event.Over how) p h = told-over how h

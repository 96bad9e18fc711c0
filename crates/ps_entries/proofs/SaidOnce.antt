-- Words and what stands after them say one entry at most.
use Rattle.std.proofs.Common.{◌≡◌, ℕ, ◌-◌, ◌^◌, true, false, List, codes, Option, Some, None, Result, Ok, Err, IfOk, refl, sym, ap, ◌∙◌, subst}
use Rattle.std.specs.Option.{option_map}
use Rattle.ps_world.specs.Names.{Table}
use Rattle.ps_world.specs.declared.names.Name.{Name}
use Rattle.ps_world.specs.declared.edits.Edit.{Edit as Change}
use Rattle.ps_world.proofs.Optionals.{some_same}
use Rattle.ps_machine.specs.declared.inputs.Command.TheVariants as command
use Rattle.ps_machine.specs.declared.inputs.Line.TheVariants.{Good, Bad}
use Rattle.ps_machine.specs.declared.inputs.Query.{Query}
use Rattle.ps_machine.specs.declared.journal.By.{By}
use Rattle.ps_machine.specs.declared.journal.Event.{Event}
use Rattle.ps_machine.specs.declared.journal.Event.TheVariants as event
use Rattle.ps_machine.specs.declared.journal.Entry.{Entry}
use Rattle.ps_script.specs.Lines.{IsRead}
use Rattle.ps_script.specs.declared.reading.Read.{Read}
use Rattle.ps_script.specs.declared.reading.Read.TheVariants as read
use Rattle.ps_script.proofs.OneAnswer.{lines_are_read_as_one}
use Rattle.ps_entries.specs.Words.{number_at, reads, up_to}
use Rattle.ps_entries.specs.Events.{by_of, feedback_of, plain_event}
use Rattle.ps_entries.specs.Says.{Finds, FindsEntry, Says, SaysEntry, edit_in, query_in}
use Rattle.ps_entries.specs.Says.Says.{edit, ask, told, plain}

one_edit : (c d : Change) → read.Line (Good (command.Edit c)) ≡ read.Line (Good (command.Edit d)) → c ≡ d
one_edit c d e = cc

one_query : (c d : Query) → read.Line (Good (command.Ask c)) ≡ read.Line (Good (command.Ask d)) → c ≡ d
one_query c d e = cc

none_some : {A : Type 0} (x : A) → ◌≡◌ {A = Option A} None (Some x) → ⊥
none_some x e = absurd (cc)

same_entry : (e f : Entry) → e.hand ≡ f.hand → e.what ≡ f.what → e ≡ f
same_entry e f h w =
    let made : ℕ → Event → Entry = λ hand what. record { hand = hand; what = what } in
    ap (λ x. made x e.what) h ∙ ap (made f.hand) w

-- what holds an edit, and a query
is_edit : (r : Read) (c : Change) → edit_in r ≡ Some c → r ≡ read.Line (Good (command.Edit c))
is_edit (read.Line (Good (command.Edit d))) c e = ap (λ (x : Change). read.Line (Good (command.Edit x))) (some_same d c e)
is_edit (read.Line (Good (command.Ask q))) c e = absurd (cc)
is_edit (read.Line (Good command.Run)) c e = absurd (cc)
is_edit (read.Line (Good (command.RunAction act))) c e = absurd (cc)
is_edit (read.Line (Good (command.RunPlan plan))) c e = absurd (cc)
is_edit (read.Line (Good command.Quit)) c e = absurd (cc)
is_edit (read.Line (Bad cause)) c e = absurd (cc)
is_edit read.Nothing c e = absurd (cc)
is_edit (read.Source file) c e = absurd (cc)
is_edit (read.RunPlan file) c e = absurd (cc)

is_query : (r : Read) (q : Query) → query_in r ≡ Some q → r ≡ read.Line (Good (command.Ask q))
is_query (read.Line (Good (command.Ask p))) q e = ap (λ (x : Query). read.Line (Good (command.Ask x))) (some_same p q e)
is_query (read.Line (Good (command.Edit d))) q e = absurd (cc)
is_query (read.Line (Good command.Run)) q e = absurd (cc)
is_query (read.Line (Good (command.RunAction act))) q e = absurd (cc)
is_query (read.Line (Good (command.RunPlan plan))) q e = absurd (cc)
is_query (read.Line (Good command.Quit)) q e = absurd (cc)
is_query (read.Line (Bad cause)) q e = absurd (cc)
is_query read.Nothing q e = absurd (cc)
is_query (read.Source file) q e = absurd (cc)
is_query (read.RunPlan file) q e = absurd (cc)

module _ (t : Table) (ws : List (List ℕ)) (ns : List Name) (tail : List ℕ) where
  pub says_once : (e f : Event) (after other : Table) → Says t ws ns tail e after → Says t ws ns tail f other → (e ≡ f) × (after ≡ other)
  says_once _ _ _ _ (edit who c after r b x) (edit whom d other s k y) =
      let same = lines_are_read_as_one t tail (read.Line (Good (command.Edit c))) (read.Line (Good (command.Edit d))) after other x y in
      let first : who ≡ whom = some_same who whom (sym b ∙ k) in
      let second : c ≡ d = one_edit c d same.0 in
      (rw (first, second) refl, same.1)
  says_once _ _ _ _ (edit who c after r b x) (ask q other s k y) = absurd (cc)
  says_once _ _ _ _ (edit who c after r b x) (told f s k m y) = absurd (cc)
  says_once _ _ _ _ (edit who c after r b x) (plain f s k m y) = absurd (cc)
  says_once _ _ _ _ (ask q after r b x) (edit whom d other s k y) = absurd (cc)
  says_once _ _ _ _ (ask q after r b x) (ask p other s k y) =
      let same = lines_are_read_as_one t tail (read.Line (Good (command.Ask q))) (read.Line (Good (command.Ask p))) after other x y in
      (ap (λ (z : Query). event.Ask z) (one_query q p same.0), same.1)
  says_once _ _ _ _ (ask q after r b x) (told f s k m y) = absurd (cc)
  says_once _ _ _ _ (ask q after r b x) (plain f s k m y) = absurd (cc)
  says_once _ _ _ _ (told e r b n x) (edit whom d other s k y) = absurd (cc)
  says_once _ _ _ _ (told e r b n x) (ask q other s k y) = absurd (cc)
  says_once _ _ _ _ (told e r b n x) (told f s k m y) = (some_same e f (sym x ∙ y), refl)
  says_once _ _ _ _ (told e r b n x) (plain f s k m y) = absurd (cc)
  says_once _ _ _ _ (plain e r b n x) (edit whom d other s k y) = absurd (cc)
  says_once _ _ _ _ (plain e r b n x) (ask q other s k y) = absurd (cc)
  says_once _ _ _ _ (plain e r b n x) (told f s k m y) = absurd (cc)
  says_once _ _ _ _ (plain e r b n x) (plain f s k m y) = (some_same e f (sym x ∙ y), refl)

  pub entry_once : (e f : Entry) (after other : Table) → SaysEntry t ws ns tail e after → SaysEntry t ws ns tail f other → (e ≡ f) × (after ≡ other)
  entry_once e f after other x y =
      let what = says_once e.what f.what after other x.what y.what in
      let hand : e.hand ≡ f.hand = some_same e.hand f.hand (sym x.hand ∙ y.hand) in
      (same_entry e f hand what.0, what.1)

  -- ---- what is found

  nobody : (e : Event) (other : Table) → Says t ws ns tail e other → reads ws 1 (codes "edit") ≡ true → by_of ws ns ≡ None → ⊥
  nobody _ _ (edit who c after s b x) r none = absurd (cc)
  nobody _ _ (ask q after s b x) r none = absurd (cc)
  nobody _ _ (told e s k m y) r none = absurd (cc)
  nobody _ _ (plain e s k m y) r none = absurd (cc)

  no_edit : (e : Event) (other : Table) → Says t ws ns tail e other → (r : Read) (after : Table) → reads ws 1 (codes "edit") ≡ true → IsRead t tail r after → edit_in r ≡ None → ⊥
  no_edit _ _ (edit who c other s b y) r after e x none =
      let same = lines_are_read_as_one t tail r (read.Line (Good (command.Edit c))) after other x y in
      none_some c (sym none ∙ ap edit_in same.0)
  no_edit _ _ (ask q other s b y) r after e x none = absurd (cc)
  no_edit _ _ (told f s k m y) r after e x none = absurd (cc)
  no_edit _ _ (plain f s k m y) r after e x none = absurd (cc)

  no_query : (e : Event) (other : Table) → Says t ws ns tail e other → (r : Read) (after : Table) → reads ws 1 (codes "edit") ≡ false → reads ws 1 (codes "ask") ≡ true → IsRead t tail r after → query_in r ≡ None → ⊥
  no_query _ _ (edit who c other s b y) r after n a x none = absurd (cc)
  no_query _ _ (ask q other s b y) r after n a x none =
      let same = lines_are_read_as_one t tail r (read.Line (Good (command.Ask q))) after other x y in
      none_some q (sym none ∙ ap query_in same.0)
  no_query _ _ (told f s k m y) r after n a x none = absurd (cc)
  no_query _ _ (plain f s k m y) r after n a x none = absurd (cc)

  no_note : (e : Event) (other : Table) → Says t ws ns tail e other → reads ws 1 (codes "edit") ≡ false → reads ws 1 (codes "ask") ≡ false → reads ws 1 (codes "feedback") ≡ true → feedback_of ws ns tail ≡ None → ⊥
  no_note _ _ (edit who c other s b y) n a f none = absurd (cc)
  no_note _ _ (ask q other s b y) n a f none = absurd (cc)
  no_note _ _ (told e s k m y) n a f none = none_some e (sym none ∙ y)
  no_note _ _ (plain e s k m y) n a f none = absurd (cc)

  no_plain : (e : Event) (other : Table) → Says t ws ns tail e other → reads ws 1 (codes "edit") ≡ false → reads ws 1 (codes "ask") ≡ false → reads ws 1 (codes "feedback") ≡ false → plain_event ws ns ≡ None → ⊥
  no_plain _ _ (edit who c other s b y) n a f none = absurd (cc)
  no_plain _ _ (ask q other s b y) n a f none = absurd (cc)
  no_plain _ _ (told e s k m y) n a f none = absurd (cc)
  no_plain _ _ (plain e s k m y) n a f none = none_some e (sym none ∙ y)

  no_hand : (e : Entry) → ◌≡◌ {A = Option ℕ} None (Some e.hand) → ⊥
  no_hand e h = none_some e.hand h

  -- no event of an edit, where nobody is named
  pub finds_nobody : (after : Table) → reads ws 1 (codes "edit") ≡ true → by_of ws ns ≡ None → Finds t ws ns tail None after
  finds_nobody after r none = λ e other s. nobody e other s r none

  -- the event of an edit that is read
  pub finds_edit : (who : By) (r : Read) (after : Table) (c : Change) → reads ws 1 (codes "edit") ≡ true → by_of ws ns ≡ Some who → IsRead t tail r after → edit_in r ≡ Some c
      → Says t ws ns tail (event.Edit who c) after
  finds_edit who r after c e b x f = edit who c after e b (subst (λ (y : Read). IsRead t tail y after) (is_edit r c f) x)

  pub finds_no_edit : (r : Read) (after : Table) → reads ws 1 (codes "edit") ≡ true → IsRead t tail r after → edit_in r ≡ None → Finds t ws ns tail None after
  finds_no_edit r after e x none = λ f other s. no_edit f other s r after e x none

  -- the event of a query that is read
  pub finds_query : (r : Read) (after : Table) (q : Query) → reads ws 1 (codes "edit") ≡ false → reads ws 1 (codes "ask") ≡ true → IsRead t tail r after → query_in r ≡ Some q
      → Says t ws ns tail (event.Ask q) after
  finds_query r after q n a x f = ask q after n a (subst (λ (y : Read). IsRead t tail y after) (is_query r q f) x)

  pub finds_no_query : (r : Read) (after : Table) → reads ws 1 (codes "edit") ≡ false → reads ws 1 (codes "ask") ≡ true → IsRead t tail r after → query_in r ≡ None → Finds t ws ns tail None after
  finds_no_query r after n a x none = λ f other s. no_query f other s r after n a x none

  -- the event of a note
  pub finds_note : (o : Option Event) → reads ws 1 (codes "edit") ≡ false → reads ws 1 (codes "ask") ≡ false → reads ws 1 (codes "feedback") ≡ true → o ≡ feedback_of ws ns tail → Finds t ws ns tail o t
  finds_note (Some e) n a f is = told e n a f (sym is)
  finds_note None n a f is = λ e other s. no_note e other s n a f (sym is)

  -- any other event
  pub finds_plain : (o : Option Event) → reads ws 1 (codes "edit") ≡ false → reads ws 1 (codes "ask") ≡ false → reads ws 1 (codes "feedback") ≡ false → o ≡ plain_event ws ns → Finds t ws ns tail o t
  finds_plain (Some e) n a f is = plain e n a f (sym is)
  finds_plain None n a f is = λ e other s. no_plain e other s n a f (sym is)

  -- an entry, where its hand and its event are found
  pub finds_entry : (hand : ℕ) (o : Option Event) (after : Table) → up_to (2 ^ 8 - 1) (number_at ws 0) ≡ Some hand → Finds t ws ns tail o after → FindsEntry t ws ns tail (option_map (λ what. record { hand = hand; what = what }) o) after
  finds_entry hand (Some e) after h x = record { hand = h; what = x }
  finds_entry hand None after h x = λ e other s. x e.what other s.what

  pub finds_no_hand : (after : Table) → up_to (2 ^ 8 - 1) (number_at ws 0) ≡ None → FindsEntry t ws ns tail None after
  finds_no_hand after none = λ e other s. no_hand e (sym none ∙ s.hand)

  -- the same of answers
  pub note_found : {E : Type 0} (answer : Result (Option Event) E) → reads ws 1 (codes "edit") ≡ false → reads ws 1 (codes "ask") ≡ false → reads ws 1 (codes "feedback") ≡ true → IfOk answer (λ o. o ≡ feedback_of ws ns tail) → IfOk answer (λ o. Finds t ws ns tail o t)
  note_found (Ok o) n a f is = finds_note o n a f is
  note_found (Err error) n a f is = tt

  pub plain_found : {E : Type 0} (answer : Result (Option Event) E) → reads ws 1 (codes "edit") ≡ false → reads ws 1 (codes "ask") ≡ false → reads ws 1 (codes "feedback") ≡ false → IfOk answer (λ o. o ≡ plain_event ws ns) → IfOk answer (λ o. Finds t ws ns tail o t)
  plain_found (Ok o) n a f is = finds_plain o n a f is
  plain_found (Err error) n a f is = tt

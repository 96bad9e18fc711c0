-- The line of an entry says the entry, and no other.
use Rattle.std.proofs.Common.{◌≡◌, ℕ, ◌-◌, ◌^◌, ◌<◌, ◌≤◌, Bool, true, false, ◌&&◌, nat_le, List, [], ◌∷◌, ◌++◌, codes, length, map, take, Option, Some, None, Result, Ok, Err, IfOk, if◌then◌else◌, refl, sym, ap, ◌∙◌, subst, append_assoc, append-nil, arith}
use Rattle.std.proofs.lemmas.Bool.{and_from, and_parts}
use Rattle.std.proofs.lemmas.Bool.Decides.{nat_tests}
use Rattle.std.specs.Fmt.{decimal}
use Rattle.ps_world.specs.Lines.{same_text}
use Rattle.ps_world.specs.Names.{Table, name_text}
use Rattle.ps_world.specs.Texts.{edit_text}
use Rattle.ps_world.specs.declared.names.Name.{Name}
use Rattle.ps_world.specs.declared.edits.Edit.{Edit as Change}
use Rattle.ps_world.proofs.SameTexts.{same_text-itself, same_text-is}
use Rattle.ps_machine.specs.Tables.{is_note}
use Rattle.ps_machine.specs.Texts.{acts_text, by_text, entry_line, event_text, query_text}
use Rattle.ps_machine.specs.declared.inputs.Command.TheVariants as command
use Rattle.ps_machine.specs.declared.inputs.Line.TheVariants.{Good}
use Rattle.ps_machine.specs.declared.journal.By.{By}
use Rattle.ps_machine.specs.declared.journal.By.TheVariants as by
use Rattle.ps_machine.specs.declared.journal.Event.{Event}
use Rattle.ps_machine.specs.declared.journal.Event.TheVariants as event
use Rattle.ps_machine.specs.declared.journal.Entry.{Entry}
use Rattle.ps_text.specs.Names.{AreNames}
use Rattle.ps_text.specs.Words.{words}
use Rattle.ps_script.specs.Lines.{IsRead}
use Rattle.ps_script.specs.declared.reading.Read.TheVariants as read
use Rattle.ps_entries.specs.Words.{after_by, after_two, after_word, head_of, name_of, names_of, reads, tail_after, tail_of, up_to, whole_number, with_words}
use Rattle.ps_entries.specs.Forms.{is_by, is_byte, is_entry, is_event, is_on_request}
use Rattle.ps_entries.specs.Events.{feedback_of}
use Rattle.ps_entries.specs.Says.{FindsEntry, Says, SaysEntry}
use Rattle.ps_entries.specs.Says.Says.{edit, ask, told, plain}
use Rattle.ps_entries.specs.EntryLines.{IsEntryLine, IsLineOf, IsNoEntryLine, IsTold, event_head, head_text}
use Rattle.ps_entries.proofs.HeadWords.{after_word-then, is_run-decimal, is_run-name, take-head, words-before, words-then, words-two}
use Rattle.ps_entries.proofs.KnownNames.{names_kept, names_words}
use Rattle.ps_entries.proofs.Numbers.{up_to-is, whole_number-decimal}
use Rattle.ps_entries.proofs.PrintedCauses.{known-of, short-of}
use Rattle.ps_entries.proofs.PrintedEvents.{apart-acts, by-words, by_words, called, is_plain, told-by, told-event}
use Rattle.ps_entries.proofs.ReadTables.{Goes, goes_nowhere, goes_read}
use Rattle.ps_entries.proofs.SaidOnce.{entry_once}

-- what stands in an event's text after its head
abbrev pub tail_text : Table → Event → List ℕ
tail_text t (event.Edit who change) = edit_text t change
tail_text t (event.Ask q) = query_text t q
tail_text t (event.Feedback r p percent note) = note
tail_text t e = []

-- words of an edit and of a query begin so
abbrev Begins : List (List ℕ) → Event → Type 0
Begins ws (event.Edit who change) = reads ws 1 (codes "edit") ≡ true
Begins ws (event.Ask q) = (reads ws 1 (codes "edit") ≡ false) × (reads ws 1 (codes "ask") ≡ true)
Begins ws e = Unit {0}

-- what a tail says of an event
abbrev Heard : Table → List ℕ → Event → Table → Type 0
Heard mid tail (event.Edit who change) after = IsRead mid tail (read.Line (Good (command.Edit change))) after
Heard mid tail (event.Ask q) after = IsRead mid tail (read.Line (Good (command.Ask q))) after
Heard mid tail e after = after ≡ mid

heard-other : (mid : Table) (ws : List (List ℕ)) (tail : List ℕ) (e : Event) → reads ws 1 (codes "edit") ≡ false → reads ws 1 (codes "ask") ≡ false → Begins ws e → Heard mid tail e mid
heard-other mid ws tail (event.Edit who change) n a begins = absurd (cc)
heard-other mid ws tail (event.Ask q) n a begins = let yes = begins.1 in absurd (cc)
heard-other mid ws tail e n a begins = refl

heard : (mid : Table) (ws : List (List ℕ)) (ns : List Name) (tail : List ℕ) (e : Event) (after : Table) → Says mid ws ns tail e after → Begins ws e → Heard mid tail e after
heard mid ws ns tail _ _ (edit who change after r b x) begins = x
heard mid ws ns tail _ _ (ask q after n a x) begins = x
heard mid ws ns tail _ _ (told e n a f x) begins = heard-other mid ws tail e n a begins
heard mid ws ns tail _ _ (plain e n a f x) begins = heard-other mid ws tail e n a begins

percent-small : (n : ℕ) → nat_le n 100 ≡ true → n < 2 ^ 64
percent-small n h = grind (arith, nat_tests)

byte-of : (n : ℕ) → is_byte n ≡ true → n < 2 ^ 8
byte-of n h = grind (arith, nat_tests)

percent-of : (n : ℕ) → nat_le n 100 ≡ true → n ≤ 2 ^ 8 - 1
percent-of n h = grind (arith, nat_tests)

module _ (t : Table) (names : AreNames t) where
  -- ---- head and tail

  after-by : (who : By) (rest : List ℕ) → is_by (length t) who ≡ true → after_by (by_text t who ++ 32 ∷ rest) ≡ rest
  after-by (by.Terminal n) rest h =
      let small = short-of n h in
      ap after_word (after_word-then (codes "terminal") (decimal n ++ 32 ∷ rest) refl) ∙ after_word-then (decimal n) rest (is_run-decimal n (omega (arith, small)))
  after-by (by.Performer r p) rest h =
      let c = called t names [] r p h in
      ap (λ x. after_word (after_word x)) (after_word-then (codes "performer") ((decimal r ++ 32 ∷ name_text t p) ++ 32 ∷ rest) refl)
      ∙ ap (λ x. after_word (after_word x)) (append_assoc (decimal r) (32 ∷ name_text t p) (32 ∷ rest))
      ∙ ap after_word (after_word-then (decimal r) (name_text t p ++ 32 ∷ rest) c.run)
      ∙ after_word-then (name_text t p) rest c.inked
  after-by (by.Observer p) rest h =
      ap after_word (after_word-then (codes "observer") (name_text t p ++ 32 ∷ rest) refl) ∙ after_word-then (name_text t p) rest (is_run-name t p names (known-of (length t) p h))

  tail-note : (r : ℕ) (p : Name) (percent : ℕ) (note : List ℕ) → is_event (length t) (event.Feedback r p percent note) ≡ true → tail_after (event_text t (event.Feedback r p percent note)) ≡ note
  tail-note r p percent note h =
      let parts = and_parts (is_on_request (length t) r p) (nat_le percent 100 && is_note note) h in
      let c = called t names [] r p parts.0 in
      let small : percent < 2 ^ 64 = percent-small percent (and_parts (nat_le percent 100) (is_note note) parts.1).0 in
      ap (λ x. after_two (after_word x)) (after_word-then (codes "feedback") ((decimal r ++ 32 ∷ name_text t p) ++ 32 ∷ (decimal percent ++ 32 ∷ note)) refl)
      ∙ ap (λ x. after_two (after_word x)) (append_assoc (decimal r) (32 ∷ name_text t p) (32 ∷ (decimal percent ++ 32 ∷ note)))
      ∙ ap after_two (after_word-then (decimal r) (name_text t p ++ 32 ∷ (decimal percent ++ 32 ∷ note)) c.run)
      ∙ ap after_word (after_word-then (name_text t p) (decimal percent ++ 32 ∷ note) c.inked)
      ∙ after_word-then (decimal percent) note (is_run-decimal percent small)

  tail-event : (e : Event) → is_event (length t) e ≡ true → tail_after (event_text t e) ≡ tail_text t e
  tail-event (event.Edit who change) h =
      ap after_by (after_word-then (codes "edit") (by_text t who ++ 32 ∷ edit_text t change) refl) ∙ after-by who (edit_text t change) h
  tail-event (event.Refused who why) h = refl
  tail-event (event.Ask q) h = after_word-then (codes "ask") (query_text t q) refl
  tail-event (event.Run for acts) h = refl
  tail-event event.Quit h = refl
  tail-event (event.Start act) h = refl
  tail-event (event.Request r act) h = refl
  tail-event (event.Offer r p) h = refl
  tail-event (event.Pass r p why) h = refl
  tail-event (event.Confirm r p) h = refl
  tail-event (event.Reject r p) h = refl
  tail-event (event.Begin r p) h = refl
  tail-event (event.UnitWork r p) h = refl
  tail-event (event.Feedback r p percent note) h = tail-note r p percent note h
  tail-event (event.Finish r p ok) h = refl
  tail-event (event.Unserved r) h = refl
  tail-event (event.End act) h = refl
  tail-event (event.Fail act why) h = refl
  tail-event (event.Cancel act why) h = refl
  tail-event (event.Stopped r p) h = refl
  tail-event (event.Replan acts) h = refl
  tail-event (event.Over how) h = refl

  split-event : (e : Event) → event_text t e ≡ event_head t e ++ tail_text t e
  split-event (event.Edit who change) = ap (λ x. codes "edit " ++ x) (sym (append_assoc (by_text t who) (codes " ") (edit_text t change)))
  split-event (event.Ask q) = refl
  split-event (event.Feedback r p percent note) = simp append_assoc
  split-event (event.Refused who why) = sym (append-nil (event_text t (event.Refused who why)))
  split-event (event.Run for acts) = sym (append-nil (event_text t (event.Run for acts)))
  split-event event.Quit = refl
  split-event (event.Start act) = sym (append-nil (event_text t (event.Start act)))
  split-event (event.Request r act) = sym (append-nil (event_text t (event.Request r act)))
  split-event (event.Offer r p) = sym (append-nil (event_text t (event.Offer r p)))
  split-event (event.Pass r p why) = sym (append-nil (event_text t (event.Pass r p why)))
  split-event (event.Confirm r p) = sym (append-nil (event_text t (event.Confirm r p)))
  split-event (event.Reject r p) = sym (append-nil (event_text t (event.Reject r p)))
  split-event (event.Begin r p) = sym (append-nil (event_text t (event.Begin r p)))
  split-event (event.UnitWork r p) = sym (append-nil (event_text t (event.UnitWork r p)))
  split-event (event.Finish r p ok) = sym (append-nil (event_text t (event.Finish r p ok)))
  split-event (event.Unserved r) = sym (append-nil (event_text t (event.Unserved r)))
  split-event (event.End act) = sym (append-nil (event_text t (event.End act)))
  split-event (event.Fail act why) = sym (append-nil (event_text t (event.Fail act why)))
  split-event (event.Cancel act why) = sym (append-nil (event_text t (event.Cancel act why)))
  split-event (event.Stopped r p) = sym (append-nil (event_text t (event.Stopped r p)))
  split-event (event.Replan acts) = sym (append-nil (event_text t (event.Replan acts)))
  split-event (event.Over how) = sym (append-nil (event_text t (event.Over how)))

  -- an entry's hand is a word
  hand-run : (e : Entry) → is_entry (length t) e ≡ true → e.hand < 2 ^ 64
  hand-run e h =
      let small = byte-of e.hand (and_parts (is_byte e.hand) (is_event (length t) e.what) h).0 in
      omega (arith, small)

  pub tail-entry : (e : Entry) → is_entry (length t) e ≡ true → tail_of (entry_line t e) ≡ tail_text t e.what
  tail-entry e h =
      ap tail_after (after_word-then (decimal e.hand) (event_text t e.what) (is_run-decimal e.hand (hand-run e h)))
      ∙ tail-event e.what (and_parts (is_byte e.hand) (is_event (length t) e.what) h).1

  split-entry : (e : Entry) → entry_line t e ≡ head_text t e ++ tail_text t e.what
  split-entry e =
      ap (λ x. decimal e.hand ++ 32 ∷ x) (split-event e.what) ∙ sym (append_assoc (decimal e.hand) (32 ∷ event_head t e.what) (tail_text t e.what))

  pub head-entry : (e : Entry) → is_entry (length t) e ≡ true → head_of (entry_line t e) ≡ head_text t e
  head-entry e h =
      ap (λ n. take (length (entry_line t e) - length n) (entry_line t e)) (tail-entry e h)
      ∙ ap (λ x. take (length x - length (tail_text t e.what)) x) (split-entry e)
      ∙ take-head (head_text t e) (tail_text t e.what)

  pub words-entry : (e : Entry) → is_entry (length t) e ≡ true → words (head_text t e) ≡ decimal e.hand ∷ words (event_head t e.what)
  words-entry e h = words-then (decimal e.hand) (event_head t e.what) (is_run-decimal e.hand (hand-run e h))

  -- ---- what the words say

  -- the words after a hand's, and their names
  abbrev ws : List ℕ → List ℕ → List (List ℕ)
  ws hand text = hand ∷ words text

  pub record IsNoTold (hand : List ℕ) (text : List ℕ) : Type 0 where
    pub no_edit : reads (ws hand text) 1 (codes "edit") ≡ false
    pub no_ask : reads (ws hand text) 1 (codes "ask") ≡ false
    pub no_feedback : reads (ws hand text) 1 (codes "feedback") ≡ false

  first-word : (hand : List ℕ) (e : Event) → is_plain e ≡ true → IsNoTold hand (event_text t e)
  first-word hand (event.Edit who change) p = absurd (cc)
  first-word hand (event.Ask q) p = absurd (cc)
  first-word hand (event.Feedback r q percent note) p = absurd (cc)
  first-word hand (event.Refused who why) p = record { no_edit = refl; no_ask = refl; no_feedback = refl }
  first-word hand (event.Run for acts) p = record { no_edit = refl; no_ask = refl; no_feedback = refl }
  first-word hand event.Quit p = record { no_edit = refl; no_ask = refl; no_feedback = refl }
  first-word hand (event.Start act) p = record { no_edit = refl; no_ask = refl; no_feedback = refl }
  first-word hand (event.Request r act) p = record { no_edit = refl; no_ask = refl; no_feedback = refl }
  first-word hand (event.Offer r q) p = record { no_edit = refl; no_ask = refl; no_feedback = refl }
  first-word hand (event.Pass r q why) p = record { no_edit = refl; no_ask = refl; no_feedback = refl }
  first-word hand (event.Confirm r q) p = record { no_edit = refl; no_ask = refl; no_feedback = refl }
  first-word hand (event.Reject r q) p = record { no_edit = refl; no_ask = refl; no_feedback = refl }
  first-word hand (event.Begin r q) p = record { no_edit = refl; no_ask = refl; no_feedback = refl }
  first-word hand (event.UnitWork r q) p = record { no_edit = refl; no_ask = refl; no_feedback = refl }
  first-word hand (event.Finish r q ok) p = record { no_edit = refl; no_ask = refl; no_feedback = refl }
  first-word hand (event.Unserved r) p = record { no_edit = refl; no_ask = refl; no_feedback = refl }
  first-word hand (event.End act) p = record { no_edit = refl; no_ask = refl; no_feedback = refl }
  first-word hand (event.Fail act why) p = record { no_edit = refl; no_ask = refl; no_feedback = refl }
  first-word hand (event.Cancel act why) p = record { no_edit = refl; no_ask = refl; no_feedback = refl }
  first-word hand (event.Stopped r q) p = record { no_edit = refl; no_ask = refl; no_feedback = refl }
  first-word hand (event.Replan acts) p =
      let here : words (event_text t (event.Replan acts)) ≡ codes "replan" ∷ words (acts_text t acts) = words-before (codes "replan") (acts_text t acts) refl (apart-acts t names hand acts) in
      record {
        no_edit = ap (λ more. reads (hand ∷ more) 1 (codes "edit")) here;
        no_ask = ap (λ more. reads (hand ∷ more) 1 (codes "ask")) here;
        no_feedback = ap (λ more. reads (hand ∷ more) 1 (codes "feedback")) here;
      }
  first-word hand (event.Over how) p = record { no_edit = refl; no_ask = refl; no_feedback = refl }

  -- words and their names say this
  abbrev SaysAll : Table → List (List ℕ) → List ℕ → Event → Type 0
  SaysAll mid words tail e = Says mid words (map (name_of t) words) tail e t

  says-edit : (mid : Table) (hand : List ℕ) (who : By) (change : Change) → is_by (length t) who ≡ true → IsTold mid (event.Edit who change) t
      → SaysAll mid (ws hand (event_head t (event.Edit who change))) (edit_text t change) (event.Edit who change)
  says-edit mid hand who change h read =
      let here : ws hand (event_head t (event.Edit who change)) ≡ hand ∷ codes "edit" ∷ (by_words t who ++ []) =
      ap (λ more. hand ∷ codes "edit" ∷ more) (by-words t names hand who [] h) in
      subst (λ (x : List (List ℕ)). SaysAll mid x (edit_text t change) (event.Edit who change)) (sym here)
      (edit who change t refl (told-by t names hand (codes "edit") who [] h) read)

  says-note : (hand : List ℕ) (r : ℕ) (p : Name) (percent : ℕ) (note : List ℕ) → is_event (length t) (event.Feedback r p percent note) ≡ true
      → SaysAll t (ws hand (event_head t (event.Feedback r p percent note))) note (event.Feedback r p percent note)
  says-note hand r p percent note h =
      let parts = and_parts (is_on_request (length t) r p) (nat_le percent 100 && is_note note) h in
      let c = called t names hand r p parts.0 in
      let few = (and_parts (nat_le percent 100) (is_note note) parts.1).0 in
      let small = percent-small percent few in
      let here : ws hand (event_head t (event.Feedback r p percent note)) ≡ hand ∷ codes "feedback" ∷ decimal r ∷ name_text t p ∷ decimal percent ∷ [] =
      ap (λ more. hand ∷ codes "feedback" ∷ more) (words-two (decimal r) (name_text t p) (decimal percent ++ 32 ∷ []) c.run c.inked ∙ ap (λ more. decimal r ∷ name_text t p ∷ more) (words-then (decimal percent) [] (is_run-decimal percent small))) in
      let all : List (List ℕ) = hand ∷ codes "feedback" ∷ decimal r ∷ name_text t p ∷ decimal percent ∷ [] in
      let tells : feedback_of all (map (name_of t) all) note ≡ Some (event.Feedback r p percent note) =
      rw (c.number, whole_number-decimal percent small, up_to-is (2 ^ 8 - 1) percent (percent-of percent few), c.name) refl in
      subst (λ (x : List (List ℕ)). SaysAll t x note (event.Feedback r p percent note)) (sym here) (told (event.Feedback r p percent note) refl refl refl tells)

  says-plain : (mid : Table) (hand : List ℕ) (e : Event) → is_plain e ≡ true → is_event (length t) e ≡ true → t ≡ mid → SaysAll mid (ws hand (event_text t e)) [] e
  says-plain mid hand e p h same =
      let first = first-word hand e p in
      subst (λ (x : Table). SaysAll x (ws hand (event_text t e)) [] e) same
      (plain e first.no_edit first.no_ask first.no_feedback (told-event t names hand e p h))

  says-event : (mid : Table) (hand : List ℕ) (e : Event) → is_event (length t) e ≡ true → IsTold mid e t → SaysAll mid (ws hand (event_head t e)) (tail_text t e) e
  says-event mid hand (event.Edit who change) h x = says-edit mid hand who change h x
  says-event mid hand (event.Ask q) h x = ask q t refl refl x
  says-event mid hand (event.Feedback r p percent note) h x =
      subst (λ (y : Table). SaysAll y (ws hand (event_head t (event.Feedback r p percent note))) note (event.Feedback r p percent note)) x (says-note hand r p percent note h)
  says-event mid hand (event.Refused who why) h x = says-plain mid hand (event.Refused who why) refl h x
  says-event mid hand (event.Run for acts) h x = says-plain mid hand (event.Run for acts) refl h x
  says-event mid hand event.Quit h x = says-plain mid hand event.Quit refl h x
  says-event mid hand (event.Start act) h x = says-plain mid hand (event.Start act) refl h x
  says-event mid hand (event.Request r act) h x = says-plain mid hand (event.Request r act) refl h x
  says-event mid hand (event.Offer r p) h x = says-plain mid hand (event.Offer r p) refl h x
  says-event mid hand (event.Pass r p why) h x = says-plain mid hand (event.Pass r p why) refl h x
  says-event mid hand (event.Confirm r p) h x = says-plain mid hand (event.Confirm r p) refl h x
  says-event mid hand (event.Reject r p) h x = says-plain mid hand (event.Reject r p) refl h x
  says-event mid hand (event.Begin r p) h x = says-plain mid hand (event.Begin r p) refl h x
  says-event mid hand (event.UnitWork r p) h x = says-plain mid hand (event.UnitWork r p) refl h x
  says-event mid hand (event.Finish r p ok) h x = says-plain mid hand (event.Finish r p ok) refl h x
  says-event mid hand (event.Unserved r) h x = says-plain mid hand (event.Unserved r) refl h x
  says-event mid hand (event.End act) h x = says-plain mid hand (event.End act) refl h x
  says-event mid hand (event.Fail act why) h x = says-plain mid hand (event.Fail act why) refl h x
  says-event mid hand (event.Cancel act why) h x = says-plain mid hand (event.Cancel act why) refl h x
  says-event mid hand (event.Stopped r p) h x = says-plain mid hand (event.Stopped r p) refl h x
  says-event mid hand (event.Replan acts) h x = says-plain mid hand (event.Replan acts) refl h x
  says-event mid hand (event.Over how) h x = says-plain mid hand (event.Over how) refl h x

  says-entry : (mid : Table) (e : Entry) → is_entry (length t) e ≡ true → IsTold mid e.what t
      → SaysEntry mid (words (head_text t e)) (map (name_of t) (words (head_text t e))) (tail_text t e.what) e t
  says-entry mid e h x =
      let parts = and_parts (is_byte e.hand) (is_event (length t) e.what) h in
      let small = byte-of e.hand parts.0 in
      let hand : up_to (2 ^ 8 - 1) (whole_number (decimal e.hand)) ≡ Some e.hand =
      ap (up_to (2 ^ 8 - 1)) (whole_number-decimal e.hand (hand-run e h)) ∙ up_to-is (2 ^ 8 - 1) e.hand (omega (arith, small)) in
      subst (λ (w : List (List ℕ)). SaysEntry mid w (map (name_of t) w) (tail_text t e.what) e t) (sym (words-entry e h))
      (record { hand = hand; what = says-event mid (decimal e.hand) e.what parts.1 x })

  -- the words of an edit and of a query begin as they should
  begins-words : (hand : List ℕ) (e : Event) → Begins (ws hand (event_head t e)) e
  begins-words hand (event.Edit who change) = refl
  begins-words hand (event.Ask q) = (refl, refl)
  begins-words hand e = tt

  begins-entry : (e : Entry) → is_entry (length t) e ≡ true → Begins (words (head_text t e)) e.what
  begins-entry e h = subst (λ (w : List (List ℕ)). Begins w e.what) (sym (words-entry e h)) (begins-words (decimal e.hand) e.what)

  told-of : (mid : Table) (e : Event) → Heard mid (tail_text t e) e t → IsTold mid e t
  told-of mid (event.Edit who change) x = x
  told-of mid (event.Ask q) x = x
  told-of mid e x = x

-- ---- lines

pub goes_told : (mid : Table) (e : Event) (after : Table) → IsTold mid e after → Goes mid after
goes_told mid (event.Edit who change) after x = goes_read mid (edit_text after change) (read.Line (Good (command.Edit change))) after x
goes_told mid (event.Ask q) after x = goes_read mid (query_text after q) (read.Line (Good (command.Ask q))) after x
goes_told mid e after x = subst (Goes mid) (sym x) (goes_nowhere mid)

goes_says : (mid : Table) (ws : List (List ℕ)) (ns : List Name) (tail : List ℕ) (e : Event) (after : Table) → Says mid ws ns tail e after → Goes mid after
goes_says mid ws ns tail _ _ (edit who change after r b x) = goes_read mid tail (read.Line (Good (command.Edit change))) after x
goes_says mid ws ns tail _ _ (ask q after n a x) = goes_read mid tail (read.Line (Good (command.Ask q))) after x
goes_says mid ws ns tail _ _ (told e n a f x) = goes_nowhere mid
goes_says mid ws ns tail _ _ (plain e n a f x) = goes_nowhere mid

-- what the head of a line says with its tail
abbrev LineSays : Table → List ℕ → List ℕ → Entry → Table → Type 0
LineSays names head tail e after = SaysEntry (with_words names (words head)) (words head) (names_of names (words head)) tail e after

module _ (names : Table) (line : List ℕ) (are : AreNames names) where
  pub line-says : (e : Entry) (after : Table) → IsEntryLine names line e after → LineSays names (head_of line) (tail_of line) e after
  line-says e after x =
      let mid = with_words names (words (head_text after e)) in
      let goes = goes_told mid e.what after x.told in
      let known = goes.names (names_words names (words (head_text after e)) are) in
      let head : head_of line ≡ head_text after e = ap head_of (sym x.text) ∙ head-entry after known e x.in_form in
      let tail : tail_of line ≡ tail_text after e.what = ap tail_of (sym x.text) ∙ tail-entry after known e x.in_form in
      let ns = names_kept names after (words (head_text after e)) known goes.kept in
      subst (λ (h : List ℕ). LineSays names h (tail_of line) e after) (sym head)
      (subst (λ (l : List ℕ). LineSays names (head_text after e) l e after) (sym tail)
      (subst (λ (k : List Name). SaysEntry mid (words (head_text after e)) k (tail_text after e.what) e after) (sym ns)
      (says-entry after known mid e x.in_form x.told)))

  -- a line says one entry at most
  pub line-once : (e f : Entry) (after other : Table) → IsEntryLine names line e after → IsEntryLine names line f other → (e ≡ f) × (after ≡ other)
  line-once e f after other x y =
      let ws = words (head_of line) in
      entry_once (with_words names ws) ws (names_of names ws) (tail_of line) e f after other (line-says e after x) (line-says f other y)

  -- what is said, in form and printed so, is the line's entry
  pub said-line : (e : Entry) (after : Table) → LineSays names (head_of line) (tail_of line) e after → (is_entry (length after) e && same_text (entry_line after e) line) ≡ true → IsEntryLine names line e after
  said-line e after x printed =
      let parts = and_parts (is_entry (length after) e) (same_text (entry_line after e) line) printed in
      let text : entry_line after e ≡ line = same_text-is (entry_line after e) line parts.1 in
      let ws = words (head_of line) in
      let goes = goes_says (with_words names ws) ws (names_of names ws) (tail_of line) e.what after x.what in
      let known = goes.names (names_words names ws are) in
      let head : head_of line ≡ head_text after e = ap head_of (sym text) ∙ head-entry after known e parts.0 in
      let tail : tail_of line ≡ tail_text after e.what = ap tail_of (sym text) ∙ tail-entry after known e parts.0 in
      let mid = with_words names (words (head_text after e)) in
      let says : LineSays names (head_text after e) (tail_text after e.what) e after =
      subst (λ (l : List ℕ). LineSays names (head_text after e) l e after) tail (subst (λ (h : List ℕ). LineSays names h (tail_of line) e after) head x) in
      let hears = heard mid (words (head_text after e)) (names_of names (words (head_text after e))) (tail_text after e.what) e.what after says.what (begins-entry after known e parts.0) in
      record { text = text; in_form = parts.0; told = told-of after known mid e.what hears }

  -- where what is said isn't printed so, no entry has the line
  pub no-line : (e : Entry) (after : Table) → LineSays names (head_of line) (tail_of line) e after → (is_entry (length after) e && same_text (entry_line after e) line) ≡ false → IsNoEntryLine names line
  no-line e after x printed = λ f other y.
      let ws = words (head_of line) in
      let once = entry_once (with_words names ws) ws (names_of names ws) (tail_of line) e f after other x (line-says f other y) in
      let yes : (is_entry (length other) f && same_text (entry_line other f) line) ≡ true = and_from (is_entry (length other) f) (same_text (entry_line other f) line) y.in_form (ap (λ l. same_text l line) y.text ∙ same_text-itself line) in
      let here : (is_entry (length after) e && same_text (entry_line after e) line) ≡ true = ap (λ t. is_entry (length t) e && same_text (entry_line t e) line) once.1 ∙ ap (λ (d : Entry). is_entry (length other) d && same_text (entry_line other d) line) once.0 ∙ yes in
      absurd (cc)

  -- where nothing is said, no entry has the line
  pub not-said : ((e : Entry) (other : Table) → ¬ (LineSays names (head_of line) (tail_of line) e other)) → IsNoEntryLine names line
  not-said none = λ f other y. none f other (line-says f other y)

  -- ---- answers

  believed-line : (e : Entry) (after : Table) (b : Bool) → LineSays names (head_of line) (tail_of line) e after → (is_entry (length after) e && same_text (entry_line after e) line) ≡ b → IsLineOf names line (if b then Some e else None) after
  believed-line e after true x printed = said-line e after x printed
  believed-line e after false x printed = no-line e after x printed

  -- what is found by the words on the way, is found by the line's
  found : (head tail : List ℕ) (ws : List (List ℕ)) (ns : List Name) (mid : Table) (o : Option Entry) (after : Table) → head ≡ head_of line → ws ≡ words head → ns ≡ names_of names ws → mid ≡ with_words names ws → tail ≡ tail_of line → FindsEntry mid ws ns tail o after
      → FindsEntry (with_words names (words (head_of line))) (words (head_of line)) (names_of names (words (head_of line))) (tail_of line) o after
  found head tail ws ns mid o after h w n m l x =
      let same : ws ≡ words (head_of line) = w ∙ ap words h in
      subst (λ (u : List (List ℕ)). FindsEntry (with_words names u) u (names_of names u) (tail_of line) o after) same
      (subst (λ (t : Table). FindsEntry t ws (names_of names ws) (tail_of line) o after) m
      (subst (λ (k : List Name). FindsEntry mid ws k (tail_of line) o after) n
      (subst (λ (y : List ℕ). FindsEntry mid ws ns y o after) l x)))

  -- an entry that is found is the line's where it is in form and this is its text, and else no entry has the line
  pub found-so : (head tail : List ℕ) (ws : List (List ℕ)) (ns : List Name) (mid : Table) (o : Option Entry) (e : Entry) (after : Table) (b so : Bool) → head ≡ head_of line → ws ≡ words head → ns ≡ names_of names ws → mid ≡ with_words names ws → tail ≡ tail_of line → FindsEntry mid ws ns tail o after → o ≡ Some e
      → b ≡ (is_entry (length after) e && same_text (entry_line after e) line) → b ≡ so → IsLineOf names line (if so then Some e else None) after
  found-so head tail ws ns mid o e after b so h w n m l x is printed it =
      let says : LineSays names (head_of line) (tail_of line) e after =
      subst (λ (p : Option Entry). FindsEntry (with_words names (words (head_of line))) (words (head_of line)) (names_of names (words (head_of line))) (tail_of line) p after) is (found head tail ws ns mid o after h w n m l x) in
      believed-line e after so says (sym printed ∙ it)

  -- where none is found, no entry has the line
  pub found-none : (head tail : List ℕ) (ws : List (List ℕ)) (ns : List Name) (mid : Table) (o : Option Entry) (after : Table) → head ≡ head_of line → ws ≡ words head → ns ≡ names_of names ws → mid ≡ with_words names ws → tail ≡ tail_of line → FindsEntry mid ws ns tail o after → o ≡ None → IsNoEntryLine names line
  found-none head tail ws ns mid o after h w n m l x is =
      not-said (subst (λ (p : Option Entry). FindsEntry (with_words names (words (head_of line))) (words (head_of line)) (names_of names (words (head_of line))) (tail_of line) p after) is (found head tail ws ns mid o after h w n m l x))

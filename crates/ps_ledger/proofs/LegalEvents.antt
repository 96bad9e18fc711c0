-- Legal events speak of what is there in a ledger: members, and all of it.
use Rattle.std.proofs.Common.{◌≡◌, ℕ, suc, ◌+◌, ◌<◌, ◌≤◌, ◌==◌, ◌&&◌, ◌||◌, nat_lt, Bool, true, false, not, Option, Some, None, is_none, is_some, is_ok, option_and_then, if◌then◌else◌, List, [], ◌∷◌, find, length, map, refl, ap, sym, arith, ◌∙◌}
use Rattle.std.proofs.lemmas.Bool.{true≢false, or_right, and_parts, and_from}
use Rattle.std.proofs.Math.Bool.{or-false}
use Rattle.std.proofs.lemmas.Bool.Decides.{nat_tests}
use Rattle.std.proofs.lemmas.List.{length-map}
use Rattle.std.proofs.lemmas.Option.{none-some}
use Rattle.std.specs.Option.{option_map_or, unwrap_or}
use Rattle.ps_world.specs.Names.{same_name}
use Rattle.ps_world.specs.Knowledge.{edited}
use Rattle.ps_world.specs.declared.names.Name.{Name}
use Rattle.ps_world.specs.declared.edits.Edit.{Edit}
use Rattle.ps_world.proofs.Optionals.{some_passed}
use Rattle.ps_action.proofs.Facts.{same_name-is}
use Rattle.ps_machine.specs.declared.inputs.Input.{Input}
use Rattle.ps_machine.specs.declared.journal.By.TheVariants as by
use Rattle.ps_machine.specs.declared.journal.Event.{Event}
use Rattle.ps_machine.specs.declared.journal.Event.TheVariants as event
use Rattle.ps_machine.specs.declared.journal.Entry.{Entry}
use Rattle.ps_rules.specs.Reading.{only_if, read, with_last}
use Rattle.ps_rules.specs.Runs.{opens}
use Rattle.ps_rules.specs.Auctions.{begins, begins_by, confirmed, first_offer, has_answered, has_begun, has_offered, is_for_active, is_for_cancelled, is_offer, is_of_run, is_rejected, is_through, is_working, offers, requests, says_offer}
use Rattle.ps_rules.specs.Known.{know}
use Rattle.ps_rules.specs.Lines.{answered, answers_line, edit_refusal}
use Rattle.ps_rules.specs.Members.{is_observed, next_seen, observed, observer_of, observers, performer_of, performers, seen_by, unit_of}
use Rattle.ps_rules.specs.Legal.{is_cause, is_confirmed, is_edit, is_finish, is_pass, pass_reason, row_allows}
use Rattle.ps_rules.specs.Laws.{all_confirmed, IsOnce, speaks_of}
use Rattle.ps_rules.specs.History.{IsHistory}
use Rattle.ps_rules.specs.History.IsHistory.{nothing, block}
use Rattle.ps_rules.proofs.Kept.{confirmed_by, first_offer_wins, fits-legal, works-where}
use Rattle.ps_rules.proofs.Pushed.{read-block}
use Rattle.ps_rules.proofs.Speaking.{legal_events_speak}
use Rattle.ps_ledger.specs.declared.answers.Answers.{Answers}
use Rattle.ps_ledger.specs.declared.lines.Lines.{Lines}
use Rattle.ps_ledger.specs.declared.members.Observers.{Observers}
use Rattle.ps_ledger.specs.declared.members.Performers.{Performers}
use Rattle.ps_ledger.specs.declared.work.Work.{Work}
use Rattle.ps_ledger.specs.Acts.{speaks_of_acts}
use Rattle.ps_ledger.specs.Answers.{has_answer, speaks_of_answers, TellsRows}
use Rattle.ps_ledger.specs.Legal.{LegalEventsSpeakOfLedgers}
use Rattle.ps_ledger.specs.Lines.{speaks_of_lines, TellsLines}
use Rattle.ps_ledger.specs.Members.{at_name, has_name, may_rise, place_in, speaks_of_observers, speaks_of_performers, TellsObservers, TellsPerformers}
use Rattle.ps_ledger.specs.Work.{is_by, job_at, TellsWork}
use Rattle.ps_ledger.proofs.Speaking.{acts-there, jobs-there, run-there, some-in}

-- ---- counters

pub step-most : (b : Bool) (n m : ℕ) → (if b then n + 1 else n) + m ≤ n + suc m
step-most true n m = omega (arith)
step-most false n m = omega (arith)

pub times-most : (test : Event → Bool) (n : ℕ) (es : List Entry) → read (λ n e. if test e then n + 1 else n) n es ≤ n + length es
times-most test n [] = omega (arith)
times-most test n (e ∷ es) =
    let more = times-most test (if test e.what then n + 1 else n) es in
    let one = step-most (test e.what) n (length es) in
    omega (arith, more, one)

since-step : (a b : Bool) (n m : ℕ) → (if a then 0 else (if b then n + 1 else n)) + m ≤ n + suc m
since-step true b n m = omega (arith)
since-step false b n m = step-most b n m

since-most : (anew test : Event → Bool) (n : ℕ) (es : List Entry) → read (λ n e. if anew e then 0 else (if test e then n + 1 else n)) n es ≤ n + length es
since-most anew test n [] = omega (arith)
since-most anew test n (e ∷ es) =
    let more = since-most anew test (if anew e.what then 0 else (if test e.what then n + 1 else n)) es in
    let one = since-step (anew e.what) (test e.what) n (length es) in
    omega (arith, more, one)

-- what is at most the number of entries may rise
pub may-count : (n m : ℕ) → n ≤ 0 + m → m < 18446744073709551615 → nat_lt n 18446744073709551615 ≡ true
may-count n m h few = let lt : n < 18446744073709551615 = omega (arith, h, few) in grind (arith, nat_tests, lt)

pub may-begin : (p : Name) (es : List Entry) → length es < 18446744073709551615 → nat_lt (begins p es) 18446744073709551615 ≡ true
may-begin p es few = may-count (begins p es) (length es) (times-most (begins_by p) 0 es) few

pub may-answer : (es : List Entry) → length es < 18446744073709551615 → nat_lt (answered es) 18446744073709551615 ≡ true
may-answer es few = may-count (answered es) (length es) (times-most answers_line 0 es) few

pub may-observe : (o : Name) (es : List Entry) → length es < 18446744073709551615 → nat_lt (observed o es) 18446744073709551615 ≡ true
may-observe o es few = may-count (observed o es) (length es) (since-most opens (is_observed o) 0 es) few

-- ---- names

place-case : (b : Bool) (k n : ℕ) → (b ≡ false → nat_lt k n ≡ true) → nat_lt (if b then 0 else suc k) (suc n) ≡ true
place-case true k n more = grind (arith, nat_tests)
place-case false k n more = let lt = more refl in grind (arith, nat_tests, lt)

rest-found : {A : Type 0} (b : Bool) (y : A) (rest : Option A) → b ≡ false → is_some (if b then Some y else rest) ≡ true → is_some rest ≡ true
rest-found true y rest e h = absurd (true≢false e)
rest-found false y rest e h = h

-- the name of one that is found has a place
pub name-there : {A : Type 0} (name : A → Name) (xs : List A) (p : Name) → is_some (find (λ x. same_name p (name x)) xs) ≡ true → nat_lt (place_in (map name xs) p) (length (map name xs)) ≡ true
name-there name [] p h = absurd (true≢false (sym h))
name-there name (y ∷ ys) p h =
    place-case (same_name p (name y)) (place_in (map name ys) p) (length (map name ys))
    (λ e. name-there name ys p (rest-found (same_name p (name y)) y (find (λ x. same_name p (name x)) ys) e h))

-- ---- those who take part

-- who offered is a performer
offer-case : (i : Input) (b : Bool) (p q : Name) (old : Bool) → (old ≡ true → is_some (performer_of i p) ≡ true) → is_some (performer_of i q) ≡ true
    → (old || (b && same_name p q)) ≡ true → is_some (performer_of i p) ≡ true
offer-case i b p q true before now h = before refl
offer-case i b p q false before now h = ap (λ n. is_some (performer_of i n)) (same_name-is p q (and_parts b (same_name p q) h).1) ∙ now

pub or-left : (b : Bool) → (b || false) ≡ true → b ≡ true
or-left true h = refl
or-left false h = h

offered-step : (i : Input) (es : List Entry) (e : Event) (r : ℕ) (p : Name) → (has_offered r p es ≡ true → is_some (performer_of i p) ≡ true) → row_allows i es e ≡ true
    → (has_offered r p es || is_offer r p e) ≡ true → is_some (performer_of i p) ≡ true
offered-step i es (event.Offer s q) r p before f h =
    offer-case i (r == s) p q (has_offered r p es) before (some_passed (λ performer. not (has_answered s q es) && is_none (pass_reason performer s es)) (performer_of i q) f) h
offered-step i es e r p before f h = before (or-left (has_offered r p es) h)

pub offered-performer : (i : Input) (es : List Entry) → IsHistory i es → (r : ℕ) (p : Name) → has_offered r p es ≡ true → is_some (performer_of i p) ≡ true
offered-performer i _ nothing r p h = absurd (true≢false (sym h))
offered-performer i _ (block es e before legal hand) r p h =
    offered-step i es e.what r p (offered-performer i es before r p) (fits-legal i es e.what legal)
    (sym (read-block (λ a f. a || is_offer r p f) false i es e (λ a act why. or-false a)) ∙ h)

-- who offered first is a performer
first-case : (i : Input) (b : Bool) (p q : Name) (xs : List Name) → (first_offer xs ≡ Some p → is_some (performer_of i p) ≡ true) → is_some (performer_of i q) ≡ true
    → first_offer (with_last xs (only_if b q)) ≡ Some p → is_some (performer_of i p) ≡ true
first-case i false p q xs before now h = before h
first-case i true p q [] before now h = ap (λ o. is_some (performer_of i (unwrap_or o q))) (sym h) ∙ now
first-case i true p q (x ∷ xs) before now h = before h

first-step : (i : Input) (es : List Entry) (e : Event) (r : ℕ) (p : Name) → (first_offer (offers r es) ≡ Some p → is_some (performer_of i p) ≡ true) → row_allows i es e ≡ true
    → first_offer (with_last (offers r es) (says_offer r e)) ≡ Some p → is_some (performer_of i p) ≡ true
first-step i es (event.Offer s q) r p before f h =
    first-case i (r == s) p q (offers r es) before (some_passed (λ performer. not (has_answered s q es) && is_none (pass_reason performer s es)) (performer_of i q) f) h
first-step i es e r p before f h = before h

first-performer : (i : Input) (es : List Entry) → IsHistory i es → (r : ℕ) (p : Name) → first_offer (offers r es) ≡ Some p → is_some (performer_of i p) ≡ true
first-performer i _ nothing r p h = absurd (none-some p h)
first-performer i _ (block es e before legal hand) r p h =
    first-step i es e.what r p (first-performer i es before r p) (fits-legal i es e.what legal)
    (sym (ap first_offer (read-block (λ xs f. with_last xs (says_offer r f)) [] i es e (λ a act why. refl))) ∙ h)

once-first : (cs os : List Name) (now : Option Name) (p : Name) → IsOnce cs now os → now ≡ Some p → first_offer os ≡ Some p
once-first [] os now p h e = absurd (none-some p (sym h ∙ e))
once-first (c ∷ []) os now p h e = h.1 ∙ sym h.0 ∙ e
once-first (c ∷ d ∷ cs) os now p h e = absurd h

-- who was confirmed is a performer
pub confirmed-performer : (i : Input) (es : List Entry) → IsHistory i es → (r : ℕ) (p : Name) → is_confirmed r p es ≡ true → is_some (performer_of i p) ≡ true
confirmed-performer i es h r p c =
    first-performer i es h r p (once-first (all_confirmed r es) (offers r es) (confirmed r es) p (first_offer_wins i es h r) (confirmed_by p (confirmed r es) c))

-- ---- members

performer-there : (i : Input) (l : Performers) (p : Name) → l.names.items ≡ map (λ p. p.name) (performers i) → is_some (performer_of i p) ≡ true
    → nat_lt (place_in l.names.items p) (length l.names.items) ≡ true
performer-there i l p same h = ap (λ ms. nat_lt (place_in ms p) (length ms)) same ∙ name-there (λ p. p.name) (performers i) p h

engaged-there : (i : Input) (es : List Entry) (l : Performers) (p : Name) → TellsPerformers es l → l.names.items ≡ map (λ p. p.name) (performers i) → is_some (performer_of i p) ≡ true
    → has_name l.names.items l.engaged.items p ≡ true
engaged-there i es l p t same h = ap (nat_lt (place_in l.names.items p)) t.many ∙ performer-there i l p same h

-- a legal event names performers that are there
pub performers-there : (i : Input) (es : List Entry) (e : Event) (l : Performers) → IsHistory i es → length es < 18446744073709551615 → TellsPerformers es l
    → l.names.items ≡ map (λ p. p.name) (performers i) → ((s : ℕ) (q : Name) → is_working s q es ≡ true → is_confirmed s q es ≡ true) → row_allows i es e ≡ true → speaks_of_performers l e ≡ true
performers-there i es (event.Offer s q) l h few t same works f =
    engaged-there i es l q t same (some_passed (λ performer. not (has_answered s q es) && is_none (pass_reason performer s es)) (performer_of i q) f)
performers-there i es (event.Reject s q) l h few t same works f =
    engaged-there i es l q t same (offered-performer i es h s q (and_parts (has_offered s q es) (not (is_rejected s q es) && (not (is_confirmed s q es) && (is_some (confirmed s es) || is_for_cancelled s es))) f).0)
performers-there i es (event.Begin s q) l h few t same works f =
    and_from (has_name l.names.items l.begun.items q) (nat_lt (at_name l.names.items l.begun.items q 0) 18446744073709551615)
    (ap (nat_lt (place_in l.names.items q)) t.as_many ∙ performer-there i l q same (confirmed-performer i es h s q (and_parts (is_confirmed s q es) (not (has_begun s q es) && is_for_active s es) f).0))
    (ap (λ n. nat_lt n 18446744073709551615) (sym (t.counts q)) ∙ may-begin q es few)
performers-there i es (event.Finish s q ok) l h few t same works f =
    engaged-there i es l q t same (confirmed-performer i es h s q
    (works s q (works-where (is_finish ok) refl (is_working s q es) (is_for_active s es) (option_and_then (λ performer. unit_of performer s q es) (performer_of i q)) f)))
performers-there i es (event.Stopped s q) l h few t same works f =
    engaged-there i es l q t same (confirmed-performer i es h s q (and_parts (is_confirmed s q es) (not (is_through s q es) && is_for_cancelled s es) f).0)
performers-there i es e l h few t same works f = refl

-- an observer whose next edit passes a test is there
observer-there : (i : Input) (es : List Entry) (l : Observers) (o : Name) → length es < 18446744073709551615 → TellsObservers es l
    → l.names.items ≡ map (λ o. o.name) (observers i) → (test : Option Edit → Bool) → test None ≡ false → test (next_seen i o es) ≡ true → may_rise l.names.items l.seen.items o ≡ true
observer-there i es l o few t same test none h =
    let one = some-in test (λ observer. seen_by i observer es) none (observer_of i o) h in
    and_from (has_name l.names.items l.seen.items o) (nat_lt (at_name l.names.items l.seen.items o 0) 18446744073709551615)
    (ap (nat_lt (place_in l.names.items o)) t.many ∙ ap (λ ms. nat_lt (place_in ms o) (length ms)) same ∙ name-there (λ o. o.name) (observers i) o (ap is_some one.1))
    (ap (λ n. nat_lt n 18446744073709551615) (sym (t.counts o)) ∙ may-observe o es few)

-- a legal event names observers that are there
pub observers-there : (i : Input) (es : List Entry) (e : Event) (l : Observers) → length es < 18446744073709551615 → TellsObservers es l
    → l.names.items ≡ map (λ o. o.name) (observers i) → row_allows i es e ≡ true → speaks_of_observers l e ≡ true
observers-there i es (event.Edit (by.Observer o) edit) l few t same f =
    observer-there i es l o few t same (is_edit edit) refl (and_parts (is_edit edit (next_seen i o es)) (is_ok (edited i.domain (know i es) edit)) f).0
observers-there i es (event.Refused (by.Observer o) why) l few t same f =
    observer-there i es l o few t same (λ u. is_cause why (option_and_then (λ edit. edit_refusal (edited i.domain (know i es) edit)) u)) refl f
observers-there i es e l few t same f = refl

-- ---- answers and lines

below : (k n : ℕ) → n ≤ 64 → nat_lt k n ≡ true → nat_lt k 64 ≡ true
below k n le h = grind (arith, nat_tests, le, h)

answer-there : (i : Input) (es : List Entry) (l : Answers) (names : List Name) (s : ℕ) (q : Name) → length (performers i) ≤ 64 → TellsRows es l → names ≡ map (λ p. p.name) (performers i)
    → nat_lt s (requests es) ≡ true → is_some (performer_of i q) ≡ true → has_answer names l.rows.items s q ≡ true
answer-there i es l names s q few t same there h =
    let at : nat_lt (place_in names q) (length names) ≡ true = ap (λ ms. nat_lt (place_in ms q) (length ms)) same ∙ name-there (λ p. p.name) (performers i) q h in
    let many : length names ≡ length (performers i) = ap length same ∙ length-map (performers i) (λ p. p.name) in
    and_from (nat_lt s (length l.rows.items)) (nat_lt (place_in names q) (length names) && nat_lt (place_in names q) 64) (sym (ap (nat_lt s) t.count) ∙ there)
    (and_from (nat_lt (place_in names q) (length names)) (nat_lt (place_in names q) 64) at (below (place_in names q) (length names) (omega (arith, many, few)) at))

-- a legal event speaks of answers of performers that are there
pub answers-there : (i : Input) (es : List Entry) (e : Event) (l : Answers) (names : List Name) → length (performers i) ≤ 64 → IsHistory i es → TellsRows es l
    → names ≡ map (λ p. p.name) (performers i) → speaks_of (requests es) e ≡ true → row_allows i es e ≡ true → speaks_of_answers names l.rows.items e ≡ true
answers-there i es (event.Offer s q) l names few h t same sp f =
    answer-there i es l names s q few t same sp (some_passed (λ performer. not (has_answered s q es) && is_none (pass_reason performer s es)) (performer_of i q) f)
answers-there i es (event.Pass s q why) l names few h t same sp f =
    answer-there i es l names s q few t same sp (some_passed (λ performer. is_of_run s es && (not (has_answered s q es) && is_pass why (pass_reason performer s es))) (performer_of i q) f)
answers-there i es (event.Reject s q) l names few h t same sp f =
    answer-there i es l names s q few t same sp (offered-performer i es h s q (and_parts (has_offered s q es) (not (is_rejected s q es) && (not (is_confirmed s q es) && (is_some (confirmed s es) || is_for_cancelled s es))) f).0)
answers-there i es e l names few h t same sp f = refl

pub lines-there : (es : List Entry) (e : Event) (l : Lines) → length es < 18446744073709551615 → TellsLines es l → speaks_of_lines l e ≡ true
lines-there es e l few t =
    or_right (not (answers_line e)) (nat_lt l.answered 18446744073709551615) (ap (λ n. nat_lt n 18446744073709551615) (sym t.count) ∙ may-answer es few)

-- ---- the ledger

-- who works on a request was confirmed there
working-confirmed : (es : List Entry) (l : Work) → TellsWork es l → (s : ℕ) (q : Name) → is_working s q es ≡ true → is_confirmed s q es ≡ true
working-confirmed es l w s q h =
    ap (λ o. option_map_or (same_name q) o false) (w.confirms s) ∙ (and_parts (is_by (job_at l.jobs.items s).by q) (job_at l.jobs.items s).works (sym (w.works s q) ∙ h)).0

pub legal_events_speak_of_ledgers : LegalEventsSpeakOfLedgers
legal_events_speak_of_ledgers i es e l sound h few m t legal =
    let f = fits-legal i es e legal in
    let sp = legal_events_speak i es e h legal in
    let states = acts-there i es e l.acts t.acts f in
    record {
      run = run-there i es e l.run (omega (arith, sound.few_replans)) t.run f;
      states = states;
      asked = ap (λ n. speaks_of_acts n e) (t.acts.as_many ∙ sym t.acts.many) ∙ states;
      requests = ap (λ n. speaks_of n e) (sym t.requests.count) ∙ sp;
      work = jobs-there i es e l.work sound t.jobs t.work t.units sp f;
      performers = performers-there i es e l.performers h few t.performers m.performers (working-confirmed es l.work t.work) f;
      observers = observers-there i es e l.observers few t.observers m.observers f;
      answers = answers-there i es e l.answers l.performers.names.items sound.few_performers h t.rows m.performers sp f;
      lines = lines-there es e l.lines few t.lines;
    }

-- What answering a line does, and the run that it opens.
use Rattle.std.proofs.Common.{◌≡◌, ℕ, ◌+◌, ◌≤◌, Bool, true, false, not, if◌then◌else◌, Option, Some, None, is_none, IfSome, IsTrue, Ok, Err, List, [], ◌∷◌, ◌++◌, refl, ap, sym, ◌∙◌, subst, arith, append_assoc}
use Rattle.std.specs.Option.{option_map_or, unwrap_or}
use Rattle.std.proofs.lemmas.Bool.{true≢false, and_from}
use Rattle.std.proofs.lemmas.Grind.{fold-append}
use Rattle.std.proofs.lemmas.List.Elements.{All-append}
use Rattle.ps_action.specs.declared.answers.Answer.{Answer}
use Rattle.ps_action.specs.declared.answers.Answer.TheVariants as answer
use Rattle.ps_machine.specs.declared.inputs.Command.TheVariants as command
use Rattle.ps_machine.specs.declared.inputs.Line.{Line}
use Rattle.ps_machine.specs.declared.inputs.Line.TheVariants.{Good, Bad}
use Rattle.ps_machine.specs.declared.inputs.Input.{Input}
use Rattle.ps_machine.specs.declared.inputs.Query.{Query}
use Rattle.ps_machine.specs.declared.journal.Refusal.{Refusal}
use Rattle.ps_machine.specs.declared.journal.Event.{Event}
use Rattle.ps_machine.specs.declared.journal.Event.TheVariants as event
use Rattle.ps_machine.specs.declared.journal.Entry.{Entry}
use Rattle.ps_rules.specs.Choices.{after_line, answer_event, line_event, ordered, run_by, Says, with_block, with_line}
use Rattle.ps_rules.specs.History.{forced, IsHistory}
use Rattle.ps_rules.specs.Known.{know}
use Rattle.ps_rules.specs.Legal.{is_accepted, is_legal, is_query, row_allows}
use Rattle.ps_rules.specs.Lines.{answered, answers_line, next_line, refusal_of}
use Rattle.ps_rules.specs.Reading.{read}
use Rattle.ps_rules.specs.Runs.{is_running, opens, says_open}
use Rattle.ps_rules.proofs.Between.{lines_force_nothing}
use Rattle.ps_rules.proofs.Pushed.{read-block}
use Rattle.ps_rules.proofs.SameThings.{same_query-decides}
use Rattle.ps_good_plan_laws.specs.Segments.{NoneIs}
use Rattle.ps_pool.specs.Courses.{GrowsInRun}
use Rattle.ps_pool.specs.Ordered.{EndsAs}
use Rattle.ps_pool.specs.Workers.{EndedBy}
use Rattle.ps_pool.proofs.Ending.{closed-turns}
use Rattle.ps_pool.proofs.Forcing.{each-forced}
use Rattle.ps_session.specs.Answers.{AskAtEnd, is_ask}
use Rattle.ps_session.specs.Lines.{EachAfter, HasHands, IsAnswered, IsRunBy}
use Rattle.ps_session.specs.Session.{hands_of}
use Rattle.ps_session.specs.declared.ways.Turns.{Turns}
use Rattle.ps_session.specs.declared.ways.Turns.TheVariants.{InOrder, Workers}
use Rattle.ps_session.proofs.Each.{each-join}
use Rattle.ps_session.proofs.Hands.{block-below, ordered-below}

-- ---- the block of an event

running-block : (i : Input) (hand : ℕ) (es : List Entry) (e : Event) → is_running (with_block i hand es e) ≡ unwrap_or (says_open e) (is_running es)
running-block i hand es e = read-block (λ a f. unwrap_or (says_open f) a) false i es (record { hand = hand; what = e }) (λ a act why. refl)

-- an event that opens no run leaves none open, where none was
stays-closed : (e : Event) (live : Bool) → opens e ≡ false → live ≡ false → unwrap_or (says_open e) live ≡ false
stays-closed (event.Run for acts) live h closed = absurd (true≢false h)
stays-closed (event.Over how) live h closed = refl
stays-closed e live h closed = closed

now-open : (e : Event) (live : Bool) → opens e ≡ true → unwrap_or (says_open e) live ≡ true
now-open (event.Run for acts) live h = refl
now-open e live h = absurd (true≢false (sym h))

pub said-closed : (i : Input) (es : List Entry) (e : Event) → opens e ≡ false → is_running es ≡ false → is_running (with_block i 0 es e) ≡ false
said-closed i es e h closed = running-block i 0 es e ∙ stays-closed e (is_running es) h closed

pub run-opened : (i : Input) (es : List Entry) (e : Event) → opens e ≡ true → is_running (with_block i 0 es e) ≡ true
run-opened i es e h = running-block i 0 es e ∙ now-open e (is_running es) h

-- ---- how many lines are answered

answered-block : (i : Input) (es : List Entry) (e : Event) → answers_line e ≡ true → answered (with_block i 0 es e) ≡ answered es + 1
answered-block i es e own =
    read-block (λ n f. if answers_line f then n + 1 else n) 0 i es (record { hand = 0; what = e }) (λ n act why. refl)
    ∙ ap (λ b. if b then answered es + 1 else answered es) own

counted-none : (n : ℕ) (es : List Entry) → NoneIs answers_line es → read (λ n f. if answers_line f then n + 1 else n) n es ≡ n
counted-none n [] h = refl
counted-none n (e ∷ es) h = ap (λ b. read (λ n f. if answers_line f then n + 1 else n) (if b then n + 1 else n) es) h.0 ∙ counted-none n es h.1

answered-more : (es since : List Entry) → NoneIs answers_line since → answered (es ++ since) ≡ answered es
answered-more es since h = fold-append (λ n f. if answers_line f.what then n + 1 else n) 0 es since ∙ counted-none (answered es) since h

-- what answers a line is an event that answers one
own-run : (a : Answer) → IfSome (run_by a) (λ e. answers_line e ≡ true)
own-run (answer.Plan acts) = refl
own-run answer.NoPlan = tt
own-run (answer.Spent depth) = tt
own-run answer.TooMany = tt

own-event : (says : Says) (i : Input) (es : List Entry) (line : Line) (why : Option Refusal) → IfSome (answer_event says i es line why) (λ e. answers_line e ≡ true)
own-event says i es line (Some why) = refl
own-event says i es (Good (command.Edit edit)) None = refl
own-event says i es (Good (command.Ask q)) None = refl
own-event says i es (Good command.Run) None = own-run (says i.domain (know i es) i.budget)
own-event says i es (Good (command.RunAction act)) None = refl
own-event says i es (Good (command.RunPlan (Ok steps))) None = refl
own-event says i es (Good (command.RunPlan (Err why))) None = tt
own-event says i es (Good command.Quit) None = refl
own-event says i es (Bad cause) None = tt

-- ---- which entries ask

none-append : (test : Event → Bool) (es fs : List Entry) → NoneIs test es → NoneIs test fs → NoneIs test (es ++ fs)
none-append test [] fs h g = g
none-append test (e ∷ es) fs h g = (h.0, none-append test es fs h.1 g)

pub forced-answers-none : (i : Input) (es : List Entry) (e : Entry) → NoneIs answers_line (forced i es e)
forced-answers-none i es e = each-forced (λ c. answers_line c.what ≡ false) e.hand (λ why act. refl) i (es ++ e ∷ []) e.what

-- an event that answers no line asks nothing
asks-answers : (e : Event) → answers_line e ≡ false → is_ask e ≡ false
asks-answers (event.Ask q) h = absurd (true≢false h)
asks-answers e h = refl

none-asks : (es : List Entry) → NoneIs answers_line es → NoneIs is_ask es
none-asks [] h = tt
none-asks (e ∷ es) h = (asks-answers e.what h.0, none-asks es h.1)

forced-asks-nothing : (i : Input) (es : List Entry) (e : Entry) → NoneIs is_ask (forced i es e)
forced-asks-nothing i es e = none-asks (forced i es e) (forced-answers-none i es e)

ask-at-end : (es : List Entry) → NoneIs is_ask es → AskAtEnd es
ask-at-end [] h = tt
ask-at-end (e ∷ []) h = tt
ask-at-end (e ∷ f ∷ es) h = (h.0, ask-at-end (f ∷ es) h.1)

-- ---- which plan a run for the goal has

-- a run that a solver's answer opens has the plan that is the answer
answer-run : (says : Says) (i : Input) (es : List Entry) (a : Answer) → says i.domain (know i es) i.budget ≡ a → IfSome (run_by a) (IsRunBy says i es)
answer-run says i es (answer.Plan plan) is = is
answer-run says i es answer.NoPlan is = tt
answer-run says i es (answer.Spent depth) is = tt
answer-run says i es answer.TooMany is = tt

line-run : (says : Says) (i : Input) (es : List Entry) (line : Line) (why : Option Refusal) → IfSome (answer_event says i es line why) (IsRunBy says i es)
line-run says i es line (Some why) = tt
line-run says i es (Good (command.Edit edit)) None = tt
line-run says i es (Good (command.Ask q)) None = tt
line-run says i es (Good command.Run) None = answer-run says i es (says i.domain (know i es) i.budget) refl
line-run says i es (Good (command.RunAction act)) None = tt
line-run says i es (Good (command.RunPlan (Ok steps))) None = tt
line-run says i es (Good (command.RunPlan (Err why))) None = tt
line-run says i es (Good command.Quit) None = tt
line-run says i es (Bad cause) None = tt

-- what answers no line opens no run
quiet-run : (says : Says) (i : Input) (es : List Entry) (e : Event) → answers_line e ≡ false → IsRunBy says i es e
quiet-run says i es (event.Run for plan) h = absurd (true≢false h)
quiet-run says i es e h = tt

quiet-runs : (says : Says) (i : Input) (before es : List Entry) → NoneIs answers_line es → EachAfter (IsRunBy says i) before es
quiet-runs says i before [] h = tt
quiet-runs says i before (e ∷ es) h = (quiet-run says i before e.what h.0, quiet-runs says i (before ++ e ∷ []) es h.1)

-- ---- runs

-- A run that is open after the first entries has ended after these.
pub record HasEnded (how : Turns) (says : Says) (i : Input) (mid new : List Entry) : Type 0 where
  pub over : is_running new ≡ false
  pub grown : GrowsInRun mid new
  pub hands : HasHands how mid → HasHands how new
  pub ordered : how ≡ InOrder → EndsAs says i mid new

-- turns in order ended it
pub ended-in-order : (says : Says) (i : Input) (mid new : List Entry) → EndsAs says i mid new → GrowsInRun mid new → HasEnded InOrder says i mid new
ended-in-order says i mid new ends grown = record {
  over = ends.over;
  grown = grown;
  hands = λ h. subst (HasHands InOrder) (sym ends.all) (ordered-below 1 (omega arith) says i mid ends.turns h);
  ordered = λ inOrder. ends;
}

-- workers ended it
pub ended-by-workers : (workers : ℕ) (says : Says) (i : Input) (mid new : List Entry) → EndedBy workers i mid new → HasEnded (Workers workers) says i mid new
ended-by-workers workers says i mid new e =
    let more = e.worked.by_hands in record {
      over = e.closed;
      grown = e.worked.in_run;
      hands = λ h. subst (HasHands (Workers workers)) (sym more.1) (All-append (λ f. f.hand ≤ workers) mid more.0 h (λ k d lt. (more.2 k d lt).1));
      ordered = λ inOrder. absurd (cc);
    }

-- ---- queries

not-asked : (q : Query) (a : Answer) → run_by a ≡ Some (event.Ask q) → ⊥
not-asked q (answer.Plan acts) h = absurd (cc)
not-asked q answer.NoPlan h = absurd (cc)
not-asked q (answer.Spent depth) h = absurd (cc)
not-asked q answer.TooMany h = absurd (cc)

abbrev asked-query : Option Event → Query → Query
asked-query (Some (event.Ask q)) other = q
asked-query o other = other

-- what fits where a line's event asks
fits-ask : (says : Says) (i : Input) (es : List Entry) (q : Query) (line : Line) (why : Option Refusal) → refusal_of i es line ≡ why → next_line i es ≡ Some line
    → answer_event says i es line why ≡ Some (event.Ask q) → row_allows i es (event.Ask q) ≡ true
fits-ask says i es q line (Some why) given next made = absurd (cc)
fits-ask says i es q (Good (command.Edit edit)) None given next made = absurd (cc)
fits-ask says i es q (Good (command.Ask said)) None given next made =
    and_from (is_query q (next_line i es)) (is_accepted i es (next_line i es))
    (ap (is_query q) next ∙ (same_query-decides q said).1 (sym (ap (λ o. asked-query o q) made)))
    (ap (is_accepted i es) next ∙ ap is_none given)
fits-ask says i es q (Good command.Run) None given next made = absurd (not-asked q (says i.domain (know i es) i.budget) made)
fits-ask says i es q (Good (command.RunAction act)) None given next made = absurd (cc)
fits-ask says i es q (Good (command.RunPlan (Ok steps))) None given next made = absurd (cc)
fits-ask says i es q (Good (command.RunPlan (Err why))) None given next made = absurd (cc)
fits-ask says i es q (Good command.Quit) None given next made = absurd (cc)
fits-ask says i es q (Bad cause) None given next made = absurd (cc)

module _ (says : Says) (i : Input) (es : List Entry) (line : Line) (h : IsHistory i es) (closed : is_running es ≡ false) (next : next_line i es ≡ Some line) where
  legal-ask : (q : Query) → line_event says i es line ≡ Some (event.Ask q) → IsTrue (is_legal i es (event.Ask q))
  legal-ask q made = and_from (not (is_running es)) (row_allows i es (event.Ask q)) (ap not closed) (fits-ask says i es q line (refusal_of i es line) refl next made)

  -- of the entries that answer a line none but the last asks
  block-asks : (e : Event) (b : Bool) → is_ask e ≡ b → line_event says i es line ≡ Some e
      → AskAtEnd (record { hand = 0; what = e } ∷ forced i es (record { hand = 0; what = e }))
  block-asks e false none made =
      let entry : Entry = record { hand = 0; what = e } in
      ask-at-end (entry ∷ forced i es entry) (none, forced-asks-nothing i es entry)
  block-asks (event.Ask q) true asks made =
      let entry : Entry = record { hand = 0; what = event.Ask q } in
      subst (λ fs. AskAtEnd (entry ∷ fs)) (sym (lines_force_nothing i es entry h (legal-ask q made) refl)) tt
  block-asks e true asks made = absurd (true≢false (sym asks))

  own : (e : Event) → line_event says i es line ≡ Some e → answers_line e ≡ true
  own e made = subst (λ o. IfSome o (λ e. answers_line e ≡ true)) made (own-event says i es line (refusal_of i es line))

  -- of the entries that answer a line only the first may open a run
  block-runs : (e : Event) → line_event says i es line ≡ Some e
      → EachAfter (IsRunBy says i) es (record { hand = 0; what = e } ∷ forced i es (record { hand = 0; what = e }))
  block-runs e made =
      let entry : Entry = record { hand = 0; what = e } in (
        subst (λ o. IfSome o (IsRunBy says i es)) made (line-run says i es line (refusal_of i es line)),
        quiet-runs says i (es ++ entry ∷ []) (forced i es entry) (forced-answers-none i es entry),
      )

  after-is : (e : Event) (n : ℕ) → line_event says i es line ≡ Some e → after_line says i n es line ≡ ordered says i (with_block i 0 es e) n
  after-is e n made =
      ap (λ b. if b then es else ordered says i (with_line says i es line) n) closed
      ∙ ap (λ o. ordered says i (option_map_or (with_block i 0 es) o es) n) made

  -- a line is answered that opens no run
  pub said-answered : (how : Turns) (e : Event) → line_event says i es line ≡ Some e → opens e ≡ false → IsAnswered how says i es (with_block i 0 es e)
  said-answered how e made shut = record {
    line = line;
    next = next;
    counted = answered-block i es e (own e made);
    since = record { hand = 0; what = e } ∷ forced i es (record { hand = 0; what = e });
    grown = refl;
    asks = block-asks e (is_ask e) refl made;
    runs = block-runs e made;
    hands = block-below (hands_of how) i 0 es e (omega arith);
    ordered = λ inOrder. record {
      turns = 0;
      all = λ n l. sym (closed-turns says i (with_block i 0 es e) 0 n (omega arith) (said-closed i es e shut closed)) ∙ sym (after-is e n made);
    };
  }

  opens-asks : (e : Event) → opens e ≡ true → is_ask e ≡ false
  opens-asks (event.Run for acts) h = refl
  opens-asks e h = absurd (true≢false (sym h))

  -- a line is answered that opens a run, and the run has ended
  pub run-answered : (how : Turns) (e : Event) (new : List Entry) → line_event says i es line ≡ Some e → opens e ≡ true
      → HasEnded how says i (with_block i 0 es e) new → IsAnswered how says i es new
  run-answered how e new made opened ended =
      let mid : List Entry = with_block i 0 es e in
      let entry : Entry = record { hand = 0; what = e } in
      let grows = ended.grown in
      let first : List Entry = entry ∷ forced i es entry in record {
        line = line;
        next = next;
        hands = λ h. ended.hands (block-below (hands_of how) i 0 es e (omega arith) h);
        ordered = λ inOrder.
            let ends : EndsAs says i mid new = ended.ordered inOrder in record {
              turns = ends.turns;
              all = λ n l.
                  ends.all ∙ sym (closed-turns says i mid ends.turns n l (ap is_running (sym ends.all) ∙ ends.over)) ∙ sym (after-is e n made);
            };
        counted = ap answered grows.all ∙ answered-more mid grows.since grows.no_line ∙ answered-block i es e (own e made);
        since = first ++ grows.since;
        grown = grows.all ∙ append_assoc es first grows.since;
        runs = each-join (IsRunBy says i) es first grows.since (block-runs e made) (quiet-runs says i mid grows.since grows.no_line);
        asks = ask-at-end (first ++ grows.since)
            (none-append is_ask first grows.since (opens-asks e opened, forced-asks-nothing i es entry) (none-asks grows.since grows.no_line));
      }

-- ---- which line is left

-- where it isn't that no line is left, one is
pub a-line : {A : Type 0} (o : Option A) → false ≡ is_none o → (x : A) × (o ≡ Some x)
a-line None h = absurd (true≢false (sym h))
a-line (Some x) h = (x, refl)

pub no-line : {A : Type 0} (o : Option A) → true ≡ is_none o → o ≡ None
no-line None h = refl
no-line (Some x) h = absurd (true≢false h)
